-- The part of two conditions is the reading of their tree.
use Rattle.std.proofs.Common.{◌≡◌, ◌∙◌, ℕ, List, ◌++◌, refl, sym, ap, subst}
use Rattle.std.specs.Prelude.{codes, Bool, true, not, if◌then◌else◌, Result, Ok, Err, IfOk}
use Rattle.attrs.specs.Attributes.{Attributes}
use Rattle.cells.specs.Arrays.{AppShape}
use Rattle.rule_lang.specs.Trees.{Tree, Both, Either}
use Rattle.why_choice.specs.Parts.{PartReport, IsPartOf, followed, given_back}
use Rattle.why_choice.specs.Reading.{Reading, read_after, read_tree}
use Rattle.why_choice.proofs.Back.{back_by_parts}
use Rattle.why_choice.proofs.Conditions.{if_not}

followed_is : (r q : Reading) (old mid new : List ℕ) (first second : PartReport)
    → IsPartOf r old first mid → IsPartOf q mid second new
    → IsPartOf (read_after r q) old (followed first second) new
followed_is r q old mid new first second a b = record {
  text =
      ap (λ (x : List ℕ). x ++ codes "; " ++ second.text) a.text
      ∙ ap (λ (x : List ℕ). r.text ++ codes "; " ++ x) b.text;
  holds = b.holds;
  left = b.left;
  back =
      back_by_parts first.taken second.taken new ∙ ap (given_back first.taken) b.back ∙ a.back;
}

pub followed_made : {E : Type 0} (counts : Bool) (r q : Reading) (old mid new : List ℕ)
    (first second : PartReport) (made : Result PartReport E) → counts ≡ true
    → IfOk made (λ p. p ≡ followed first second)
    → IsPartOf r old first mid → IsPartOf q mid second new
    → IfOk made (λ p. IsPartOf (if counts then read_after r q else r) old p new)
followed_made counts r q old mid new first second (Err e) is made_is a b = tt
followed_made counts r q old mid new first second (Ok p) is made_is a b =
    rw is (rw made_is (followed_is r q old mid new first second a b))

module _ (a : Attributes) (s : AppShape) where
  both_is : (r : Reading) (holds : Bool) (between : List ℕ) (c : Tree) → holds ≡ r.holds
      → between ≡ r.counters
      → (if holds then read_after r (read_tree a s between c) else r)
      ≡ (if r.holds then read_after r (read_tree a s r.counters c) else r)
  both_is r holds between c h l = rw h (rw l refl)

  either_is : (r : Reading) (holds : Bool) (between : List ℕ) (c : Tree) → holds ≡ r.holds
      → between ≡ r.counters
      → (if not holds then read_after r (read_tree a s between c) else r)
      ≡ (if r.holds then r else read_after r (read_tree a s r.counters c))
  either_is r holds between c h l =
      rw h (rw l (sym (if_not r.holds r (read_after r (read_tree a s r.counters c)))))

  module _ {E : Type 0} (b c : Tree) (first : PartReport) (holds : Bool)
      (same : holds ≡ first.holds) (made : Result PartReport E) (old between new : List ℕ)
      (is : IsPartOf (read_tree a s old b) old first between) where
    abbrev r : Reading
    r = read_tree a s old b

    pub both_made : IfOk made (λ p. IsPartOf
        (if holds then read_after r (read_tree a s between c) else r) old p new)
        → IfOk made (λ p. IsPartOf (read_tree a s old (Both b c)) old p new)
    both_made =
        subst (λ (q : Reading). IfOk made (λ p. IsPartOf q old p new))
        (both_is r holds between c (same ∙ is.holds) is.left)

    pub either_made : IfOk made (λ p. IsPartOf
        (if not holds then read_after r (read_tree a s between c) else r) old p new)
        → IfOk made (λ p. IsPartOf (read_tree a s old (Either b c)) old p new)
    either_made =
        subst (λ (q : Reading). IfOk made (λ p. IsPartOf q old p new))
        (either_is r holds between c (same ∙ is.holds) is.left)
