-- Writing the parts one by one writes the whole.
use Rattle.std.proofs.Common.{◌≡◌, ◌∙◌, refl, sym, ap, ℕ, List, [], ◌∷◌, ◌++◌, append_assoc}
use Rattle.std.proofs.Common.{append-nil, arith, length, map, take, drop, get_or, ◌-◌, ◌≤◌}
use Rattle.std.proofs.Common.{Bool, false, ◌==◌}
use Rattle.std.proofs.Math.Seq.{take-length}
use Rattle.std.proofs.lemmas.Str.{chars-nil}
use Rattle.std.specs.List.{flat_map}
use Rattle.std.specs.Str.{chars}
use Rattle.std.specs.Prelude.{codes}
use Rattle.report.specs.Exposition.{first, label, labels_text, rest}

-- after one more part, and at the end
pub one_further : (o part rest new whole : List ℕ) → new ≡ o ++ part → o ++ (part ++ rest) ≡ whole
    → new ++ rest ≡ whole
one_further o part rest new whole grown is =
    ap (λ (t : List ℕ). t ++ rest) grown ∙ append_assoc o part rest ∙ is

pub and_then : (o n m a b : List ℕ) → n ≡ o ++ a → m ≡ n ++ b → m ≡ o ++ (a ++ b)
and_then o n m a b first last = last ∙ ap (λ (t : List ℕ). t ++ b) first ∙ append_assoc o a b

pub at_end : (o whole : List ℕ) → o ++ [] ≡ whole → o ≡ whole
at_end o whole is = sym (append-nil o) ∙ is

nothing : (text : List ℕ) → length text ≡ 0 → text ≡ []
nothing [] none = refl
nothing (b ∷ text) none = absurd (omega (arith, none))

pub characters_done : (f : ℕ → List ℕ) (rest o whole : List ℕ) → length rest ≡ 0
    → o ++ flat_map f (chars rest) ≡ whole → o ≡ whole
characters_done f rest o whole none is =
    let no_chars : chars rest ≡ [] = ap chars (nothing rest none) ∙ chars-nil in
    at_end o whole (ap (λ (l : List ℕ). o ++ flat_map f l) (sym no_chars) ∙ is)

pub not_zero : (n : ℕ) (b : Bool) → b ≡ (n == 0) → b ≡ false → n ≡ 0 → ⊥
not_zero n b is fails none = grind arith

-- the last label, and one before others
module _ {X : Type 0} (f : X → List ℕ) (d : X) (name whole : List ℕ) where
  abbrev pub others : List X → List X
  others left = take (length left - 1) (drop 1 left)

  label_texts : (left : List X) → 1 ≤ length left
      → labels_text (map f left) name
      ≡ labels_text (f (get_or left 0 d) ∷ map f (others left)) name
  label_texts [] some = absurd (omega (arith, some))
  label_texts (x ∷ left) some =
      let rest_is : others (x ∷ left) ≡ left =
      ap (λ (n : ℕ). take n left) (omega arith) ∙ take-length left in
      ap (λ (xs : List X). labels_text (f x ∷ map f xs) name) (sym rest_is)

  pub last_label : (left : List X) (o new : List ℕ) → 1 ≤ length left
      → length (others left) ≡ 0 → new ≡ o ++ label (f (get_or left 0 d)) name
      → o ++ labels_text (map f left) name ≡ whole → new ≡ whole
  last_label left o new some last grown is =
      grown
      ∙ ap (λ (xs : List X). o ++ labels_text (f (get_or left 0 d) ∷ map f xs) name)
      (sym (none_of (others left) last))
      ∙ ap (λ (t : List ℕ). o ++ t) (sym (label_texts left some)) ∙ is
    where
      none_of : (xs : List X) → length xs ≡ 0 → xs ≡ []
      none_of [] none = refl
      none_of (x ∷ xs) none = absurd (omega (arith, none))

  pub one_label : (left : List X) (o mid new part later : List ℕ) → 1 ≤ length left
      → (length (others left) ≡ 0 → ⊥) → part ≡ first name → later ≡ rest name
      → mid ≡ o ++ label (f (get_or left 0 d)) part → new ≡ mid ++ codes ","
      → o ++ labels_text (map f left) name ≡ whole
      → new ++ labels_text (map f (others left)) later ≡ whole
  one_label left o mid new part later some more part_is later_is labelled comma is =
      let one = f (get_or left 0 d) in
      ap (λ (t : List ℕ). new ++ labels_text (map f (others left)) t) later_is
      ∙ one_further o (label one (first name) ++ codes ",")
      (labels_text (map f (others left)) (rest name)) new whole
      (and_then o mid new (label one (first name)) (codes ",")
      (labelled ∙ ap (λ (t : List ℕ). o ++ label one t) part_is) comma)
      (ap (λ (t : List ℕ). o ++ t) (sym (label_texts left some
      ∙ before_others (others left) more)) ∙ is)
    where
      before_others : (xs : List X) → (length xs ≡ 0 → ⊥)
          → labels_text (f (get_or left 0 d) ∷ map f xs) name
          ≡ (label (f (get_or left 0 d)) (first name) ++ codes ",")
          ++ labels_text (map f xs) (rest name)
      before_others [] none = absurd (none refl)
      before_others (x ∷ xs) some = refl
