-- The length of a body, as the values of Content-Length give it (RFC 9110, section 8.6).
use Rattle.std.specs.Prelude.{ℕ, ◌+◌, ◌-◌, ◌*◌, List, [], ◌∷◌, length, Option, Some, None}
use Rattle.std.specs.Prelude.{Result, Ok, Err, Bool, ◌&&◌, ◌==◌, nat_lt, nat_le, if◌then◌else◌}
use Rattle.std.specs.Char.{is_ascii_digit}
use Rattle.std.specs.List.{list_all}
use Rattle.std.specs.Str.{bytes_eq, byte}
use Rattle.http_front.specs.declared.post_fault.PostFault.{PostFault}
use Rattle.http_front.specs.declared.post_fault.PostFault.TheVariants as fault

-- one or more digits
abbrev pub is_decimal : List ℕ → Bool
is_decimal text = nat_lt 0 (length text) && list_all is_ascii_digit text

-- the digits from the first nonzero digit on: two texts of digits are one number if these are equal
abbrev pub significant : List ℕ → List ℕ
significant [] = []
significant (c ∷ cs) = if c == byte "0" then significant cs else c ∷ cs

-- a text of digits that is the number with these significant digits
abbrev pub writes : List ℕ → List ℕ → Bool
writes digits text = is_decimal text && bytes_eq (significant text) digits

-- the number whose decimal digits are those of n, followed by these
abbrev pub number_after : ℕ → List ℕ → ℕ
number_after n [] = n
number_after n (c ∷ cs) = number_after (n * 10 + (c - byte "0")) cs

-- the most bytes that a body may have
abbrev pub body_limit : ℕ
body_limit = 1048576

-- the number, or the fault if there is none
abbrev pub ok_or : PostFault → Option ℕ → Result ℕ PostFault
ok_or e None = Err e
ok_or e (Some n) = Ok n

abbrev pub within_limit : ℕ → Option ℕ
within_limit n = if nat_le n body_limit then Some n else None

-- the number with these digits, if a body may be that long
abbrev pub number_within : List ℕ → Option ℕ
number_within digits = within_limit (number_after 0 digits)

abbrev pub first_of : List (List ℕ) → Option (List ℕ)
first_of [] = None
first_of (v ∷ vs) = Some v

-- the values may repeat one number, but not give two; a value that is a list of numbers gives none
abbrev pub content_length : List (List ℕ) → Result ℕ PostFault
content_length [] = Err fault.Length
content_length (v ∷ vs) =
    if list_all (writes (significant v)) (v ∷ vs)
    then ok_or fault.TooLarge (number_within (significant v)) else Err fault.Head
