-- The bucket of an app: the one that its cohort names, or otherwise a hash of the request's id.
use Rattle.std.specs.Prelude.{ℕ, ◌+◌, ◌/◌, ◌%◌, List, [], ◌∷◌, ◌++◌}
use Rattle.std.specs.Prelude.{length, drop, codes, nat_eq, Bool, ◌&&◌, ◌==◌}
use Rattle.std.specs.Prelude.{Option, None, option_and_then, unwrap_or, if◌then◌else◌}
use Rattle.std.specs.List.{starts_with}
use Rattle.std.specs.Str.{byte}
use Rattle.attrs.specs.declared.facts.AppFacts.{AppFacts}
use Rattle.attrs.specs.declared.facts.RequestFacts.{RequestFacts}
use Rattle.attrs.specs.Hash.{fnv1a}
use Rattle.attrs.specs.Version.{decimal_number}

abbrev pub last_digit : ℕ → ℕ
last_digit n = byte "0" + n % 10

-- a bucket as four ASCII digits
abbrev pub four_digits : ℕ → List ℕ
four_digits n =
    last_digit (n / 1000) ∷ last_digit (n / 100) ∷ last_digit (n / 10) ∷ last_digit n ∷ []

-- the cohort in the reply to an app in a bucket
abbrev pub cohort_of_bucket : ℕ → List ℕ
cohort_of_bucket bucket = codes "b:" ++ four_digits bucket

-- `b:` and four more bytes
abbrev pub is_bucket_cohort : List ℕ → Bool
is_bucket_cohort cohort = starts_with nat_eq cohort (codes "b:") && length cohort == 6

-- a cohort of `b:` and exactly four ASCII digits names a bucket
abbrev pub cohort_bucket : List ℕ → Option ℕ
cohort_bucket cohort =
    if is_bucket_cohort cohort then decimal_number (drop 2 cohort) else None

abbrev pub named_bucket : AppFacts → Option ℕ
named_bucket app = option_and_then cohort_bucket app.cohort

abbrev pub text_or : List ℕ → List ℕ → List ℕ
text_or [] other = other
text_or (first ∷ rest) other = first ∷ rest

-- the request's id, or its session's if that is empty or absent, or the empty text
abbrev pub requester_id : RequestFacts → List ℕ
requester_id request = text_or (unwrap_or request.requestid []) (unwrap_or request.sessionid [])

abbrev pub hashed_bucket : RequestFacts → ℕ
hashed_bucket request = fnv1a (requester_id request) % 10000

abbrev pub app_bucket : AppFacts → RequestFacts → ℕ
app_bucket app request = unwrap_or (named_bucket app) (hashed_bucket request)
