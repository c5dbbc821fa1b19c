-- What two writes in a row appended.
use Rattle.std.proofs.Common.{ℕ, ◌+◌, ◌-◌, length, List, take, drop, Option, sym, subst}
use Rattle.std.proofs.lemmas.List.{take_rest}
use Rattle.std.proofs.Math.Seq.{take-add}
use Rattle.std.proofs.KnownBytes.{Appends-trans}
use Rattle.std.specs.Io.KnownBytes.{Appends}

-- n more bytes of a text, after w of it
pub grow : (a b c : Option (List ℕ)) (xs : List ℕ) (w n : ℕ)
    → Appends a b (take w xs) → Appends b c (take n (take (length xs - w) (drop w xs)))
    → Appends a c (take (w + n) xs)
grow a b c xs w n h k =
    let P : List ℕ → Type 0 = λ z. Appends a c z in
    let Q : List ℕ → Type 0 = λ z. Appends b c (take n z) in
    let rest = subst Q (take_rest xs w) k in
    subst P (sym (take-add w n xs)) (Appends-trans a b c (take w xs) (take n (drop w xs)) h rest)
