-- What a file keeps after it was replaced.
use Rattle.std.proofs.Common.{◌≡◌, ℕ, List, Option, Some, None, Result, Ok, Err, refl, sym, subst}
use Rattle.std.proofs.Common.{inl, inr}
use Rattle.std.specs.Prelude.{◌⊎◌, IfSome, OnErr, OnOk}
use Rattle.counters_file.specs.declared.counters_fault.CountersFault.{CountersFault}
use Rattle.counters_file.specs.Kept.{IsWhole, Keeps}
use Rattle.counters_file.specs.Text.{Contents, contents_in, kept}

pub kept_by : (r : Result (Unit {0}) CountersFault) (old new : Option (Option (List ℕ)))
    (k : Contents) (bytes : List ℕ) → OnOk r (IfSome old (λ _. new ≡ Some (Some bytes)))
    → contents_in bytes ≡ Ok (kept k) → OnOk r (IfSome old (λ _. IfSome new (Keeps k)))
kept_by (Ok done) None new k bytes replaced back = tt
kept_by (Ok done) (Some held) new k bytes replaced back =
    subst (λ (n : Option (Option (List ℕ))). IfSome n (Keeps k)) (sym replaced) back
kept_by (Err fault) old new k bytes replaced back = tt

-- a file that is as it was is whole
pub still_whole : (file : Option (Option (List ℕ))) (k : Contents) → IsWhole k file file
still_whole None k = tt
still_whole (Some held) k = inl refl

pub whole_by : (r : Result (Unit {0}) CountersFault) (old new : Option (Option (List ℕ)))
    (k : Contents) (bytes : List ℕ)
    → OnErr r (IfSome old (λ held. (new ≡ Some held) ⊎ (new ≡ Some (Some bytes))))
    → contents_in bytes ≡ Ok (kept k) → OnErr r (IsWhole k old new)
whole_by (Ok done) old new k bytes whole back = tt
whole_by (Err fault) None new k bytes whole back = tt
whole_by (Err fault) (Some held) new k bytes (inl same) back = inl same
whole_by (Err fault) (Some held) new k bytes (inr replaced) back =
    inr (subst (λ (n : Option (Option (List ℕ))). IfSome n (Keeps k)) (sym replaced) back)
