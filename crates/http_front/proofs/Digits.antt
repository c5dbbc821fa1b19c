-- Further digits never make a number smaller.
use Rattle.std.proofs.Common.{◌≡◌, ◌≤◌, ◌<◌, ℕ, ◌+◌, ◌-◌, ◌*◌, suc, length, get_or}
use Rattle.std.proofs.Common.{List, [], ◌∷◌, drop, None, ap, ◌∙◌, sym, arith}
use Rattle.std.proofs.lemmas.Bool.Decides.{nat_tests}
use Rattle.std.proofs.Math.Seq.{drop-cons}
use Rattle.http_front.specs.Length.{number_after, number_within, within_limit, body_limit}

grows : (n : ℕ) (ds : List ℕ) → n ≤ number_after n ds
grows n [] = omega arith
grows n (d ∷ ds) = omega (arith, grows (n * 10 + (d - 48)) ds)

over : (n : ℕ) → body_limit < n → within_limit n ≡ None
over n h = grind (arith, nat_tests)

-- a number that is too large stays too large, whatever digits follow
pub too_large : (n i : ℕ) (ds : List ℕ) → i < length ds
    → number_after n (drop i ds) ≡ number_after 0 ds
    → body_limit < n * 10 + (get_or ds i 0 - 48) → number_within ds ≡ None
too_large n i ds h e m =
    let next = n * 10 + (get_or ds i 0 - 48) in
    let split : drop i ds ≡ get_or ds i 0 ∷ drop (suc i) ds = drop-cons ds i 0 h in
    let all : number_after next (drop (suc i) ds) ≡ number_after 0 ds =
    sym (ap (number_after n) split) ∙ e in
    over (number_after 0 ds) (omega (arith, all, grows next (drop (suc i) ds)))
