-- A moment as RFC 3339 writes it (section 5.6): `2026-11-24T12:19:16.042Z`.
use Rattle.std.specs.Prelude.{ℕ, ◌+◌, ◌/◌, ◌%◌, List, [], ◌∷◌, ◌++◌, codes}
use Rattle.std.specs.Str.{byte}
use Rattle.access_log.specs.declared.utc.Utc.{Utc}

-- the last digit of a number, in ASCII, and its last two
abbrev pub digit : ℕ → ℕ
digit n = byte "0" + n % 10

abbrev pub two_digits : ℕ → List ℕ
two_digits n = digit (n / 10) ∷ digit n ∷ []

abbrev pub date_text : Utc → List ℕ
date_text t =
    two_digits (t.year / 100) ++ two_digits t.year ++ codes "-" ++ two_digits t.month
    ++ codes "-" ++ two_digits t.day

abbrev pub clock_text : Utc → List ℕ
clock_text t =
    two_digits t.hour ++ codes ":" ++ two_digits t.minute ++ codes ":" ++ two_digits t.second
    ++ codes "." ++ (digit (t.millis / 100) ∷ two_digits t.millis)

abbrev pub utc_text : Utc → List ℕ
utc_text t = date_text t ++ codes "T" ++ clock_text t ++ codes "Z"
