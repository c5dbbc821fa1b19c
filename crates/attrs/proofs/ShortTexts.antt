-- A text as it is kept is short, and is kept again unchanged.
use Rattle.std.proofs.Common.{◌≡◌, ℕ, ◌≤◌, List, [], ◌∷◌, length, map, Bool, true, false}
use Rattle.std.proofs.Common.{Option, Some, None, nat_le, if◌then◌else◌, refl, arith}
use Rattle.std.proofs.lemmas.Grind.{common_steps}
use Rattle.std.proofs.lemmas.List.Elements.{All-nil, All-cons}
use Rattle.attrs.specs.Attributes.{kept_text, AreShort}

is_short : (t : Option (List ℕ)) → length (kept_text t) ≤ 1024
is_short (Some text) = grind (arith, common_steps)
is_short None = omega arith

pub all_are_short : (ts : List (Option (List ℕ))) → AreShort (map kept_text ts)
all_are_short [] = All-nil (λ x. length x ≤ 1024)
all_are_short (t ∷ ts) =
    All-cons (λ x. length x ≤ 1024) (kept_text t) (map kept_text ts) (is_short t)
    (all_are_short ts)

again_if : (b : Bool) (text kept : List ℕ) → nat_le (length text) 1024 ≡ b
    → kept ≡ (if b then text else []) → kept_text (Some kept) ≡ kept
again_if true text kept within is = grind (arith, common_steps)
again_if false text kept within is = grind (arith, common_steps)

pub kept_again : (t : Option (List ℕ)) → kept_text (Some (kept_text t)) ≡ kept_text t
kept_again (Some text) = again_if (nat_le (length text) 1024) text _ refl refl
kept_again None = refl
