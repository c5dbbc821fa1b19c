-- A test continues by whether it holds on the counters.
use Rattle.std.proofs.Common.{◌≡◌, ℕ, List, refl}
use Rattle.std.specs.Prelude.{Option, Some, None, if◌then◌else◌}
use Rattle.attrs.specs.Attributes.{Attributes}
use Rattle.cells.specs.Arrays.{AppShape}
use Rattle.rule_lang.specs.Meaning.{Behaviour, add_one_then, cell_used, test_holds, test_then}
use Rattle.rule_lang.specs.declared.test.Test.{Test}
use Rattle.why_choice.specs.Ending.{ending_on, holds_on, left_at, value_at}

-- it continues by the cell's value, on the counters after adding 1
goes_by_value : (counters : List ℕ) (cell : Option ℕ) (next : ℕ → Behaviour)
    → ending_on counters (add_one_then cell next)
    ≡ ending_on (left_at counters cell) (next (value_at counters cell))
goes_by_value counters None next = refl
goes_by_value counters (Some cell) next = refl

pub test_sound : (a : Attributes) (s : AppShape) (counters : List ℕ) (t : Test)
    (met unmet : Behaviour) → ending_on counters (test_then a s t met unmet)
    ≡ ending_on (left_at counters (cell_used s t))
    (if holds_on a s counters t then met else unmet)
test_sound a s counters t met unmet =
    goes_by_value counters (cell_used s t)
    (λ reply. if test_holds a s reply t then met else unmet)
