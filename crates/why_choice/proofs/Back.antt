-- Undone takes leave the counters unchanged.
use Rattle.std.proofs.Common.{◌≡◌, ℕ, List, [], ◌∷◌, ◌++◌, refl, ap}
use Rattle.std.specs.Prelude.{slice_set}
use Rattle.why_choice.specs.Parts.{CellTake, given_back}

pub back_by_parts : (ts us : List CellTake) (counters : List ℕ)
    → given_back (ts ++ us) counters ≡ given_back ts (given_back us counters)
back_by_parts [] us counters = refl
back_by_parts (t ∷ ts) us counters =
    ap (λ cs. slice_set cs t.cell t.value) (back_by_parts ts us counters)

-- the last take is undone first
pub last_goes_first : (before : List CellTake) (one : CellTake) (all : List CellTake)
    (counters : List ℕ) → all ≡ before ++ one ∷ []
    → given_back before (slice_set counters one.cell one.value) ≡ given_back all counters
last_goes_first before one all counters is =
    rw is (rw (back_by_parts before (one ∷ []) counters) refl)
