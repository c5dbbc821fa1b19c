-- Rows after those that were read.
use Rattle.std.proofs.Common.{◌≡◌, List, [], ◌∷◌, ◌++◌, Result, Ok, Err, refl, ap, sym}
use Rattle.std.proofs.Common.{append_assoc}
use Rattle.manifest.specs.Rows.{with_first}

abbrev pub behind : {X E : Type 0} → List X → Result (List X) E → Result (List X) E
behind done (Err e) = Err e
behind done (Ok rest) = Ok (done ++ rest)

pub behind-first : {X E : Type 0} (done : List X) (x : X) (rest : Result (List X) E)
    → behind done (with_first (Ok x) rest) ≡ behind (done ++ x ∷ []) rest
behind-first done x (Err e) = refl
behind-first done x (Ok xs) = ap (λ ys. Ok ys) (sym (append_assoc done (x ∷ []) xs))
