-- A cover and a thread that have what one store has.
use Rattle.std.proofs.Common.{◌≡◌, ◌∙◌, Option, Some, None, refl, sym, ap}
use Rattle.std.specs.Option.{is_some}
use Rattle.std.specs.Prelude.{IfSome, option_map}

mapped : {A T : Type 0} (f : A → T) (x : Option A) → is_some (option_map f x) ≡ is_some x
mapped f (Some a) = refl
mapped f None = refl

-- if two options are mapped to the same, both have a value, or neither has
pub both_or_neither : {A B T : Type 0} (f : A → T) (g : B → T) (x : Option A) (y : Option B)
    → option_map f x ≡ option_map g y → is_some x ≡ is_some y
both_or_neither {A} {B} {T} f g x y same =
    sym (mapped f x) ∙ ap (λ (o : Option T). is_some o) same ∙ mapped g y

-- what is in the one is in the other
pub has_same : {A B T : Type 0} (f : A → T) (g : B → T) (x : Option A) (y : Option B)
    → option_map f x ≡ option_map g y → IfSome y (λ b. option_map f x ≡ Some (g b))
has_same f g x (Some b) same = same
has_same f g x None same = tt
