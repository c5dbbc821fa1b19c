-- The types of members: a text, an integer of a range, a truth value.
use Rattle.std.specs.Prelude.{ℕ, ℤ, pos, List, Option, Some, None, option_and_then}
use Rattle.std.specs.Prelude.{Bool, ◌&&◌, nat_le, if◌then◌else◌, Result, Ok, Err}
use Rattle.toml.specs.Data.{Data, Members, get_member, as_str, as_integer}

-- the value of a member that must be present
abbrev pub required : {X : Type 0} → (Data → Option X) → List ℕ → Members → Option X
required form key table = option_and_then form (get_member key table)

abbrev pub within : ℕ → ℕ → ℤ → Option ℕ
within from to (pos n) = if nat_le from n && nat_le n to then Some n else None
within from to _ = None

-- an integer from `from` to `to`
abbrev pub number : ℕ → ℕ → Data → Option ℕ
number from to value = option_and_then (within from to) (as_integer value)

abbrev pub passed : (List ℕ → Bool) → List ℕ → Option (List ℕ)
passed test text = if test text then Some text else None

-- a text that passes the test
abbrev pub text_that : (List ℕ → Bool) → Data → Option (List ℕ)
text_that test value = option_and_then (passed test) (as_str value)

-- continues with the value; without one, the result is this fault
abbrev pub needs : {X Y E : Type 0} → Option X → E → (X → Result Y E) → Result Y E
needs None fault next = Err fault
needs (Some x) fault next = next x

-- continues with the value; a schema error becomes that of the outer table
abbrev pub fits :
    {X Y E F : Type 0} → Result X E → (E → F) → (X → Result Y F) → Result Y F
fits (Err schema_error) fault next = Err (fault schema_error)
fits (Ok x) fault next = next x
