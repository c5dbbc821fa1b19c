-- A typed program has a valid graph: its edges lead forward, and each place is reached from the one
-- before it.
use Rattle.std.proofs.Common.{◌≡◌, List, [], ◌∷◌, ◌++◌, drop, Option, Some, None}
use Rattle.std.proofs.Common.{Bool, true, false, refl, sym, ap, subst, ◌∙◌, inl, inr}
use Rattle.std.specs.Prelude.{IsSome, slice_get, ◌⊎◌}
use Rattle.std.specs.List.{AllByRecursion}
use Rattle.std.proofs.lemmas.List.Elements.{All-nil, All-cons}
use Rattle.bpf_insn.specs.declared.insn.Insn.{Insn}
use Rattle.bpf_insn.specs.declared.insn.Insn.TheVariants.{Wide}
use Rattle.bpf_insn.specs.declared.insn.Width.{Width}
use Rattle.bpf_insn.specs.declared.insn.Width.TheVariants.{One, Two}
use Rattle.bpf_insn.specs.Spelling.{width_of, IsEncodable}
use Rattle.bpf_insn.specs.Program.{Program, at, layout, slots}
use Rattle.flow_check.specs.Edges.{goes_on}
use Rattle.flow_check.specs.Flow.{IsLayout}
use Rattle.cells.specs.Arrays.{AppShape}
use Rattle.bpf_verify.specs.Table.{SlotFacts}
use Rattle.rule_compile.specs.Writing.{CanEncode}
use Rattle.rule_compile.proofs.Typed.{GoesOn, HasHalf, halves, IsTyped, at_drop}

-- ---- the instructions

-- it is empty, or begins with an instruction
abbrev pub StartsWell : Program → Type 0
StartsWell q = (q ≡ []) ⊎ IsSome (at q 0)

pub starts_after : (shape : AppShape) (q : Program) (ds : List SlotFacts) (d : SlotFacts)
    (i : Insn) (b : Bool)
    → GoesOn shape b q ds d i → width_of i ≡ One → StartsWell q
starts_after shape q ds d i true h one =
    inr (subst (λ (w : Width). IsSome (at q (halves w))) one (h 0).0)
starts_after shape q ds d i false h one = inl h

pub starts_later : (shape : AppShape) (q : Program) (ds : List SlotFacts) (d : SlotFacts)
    (i : Insn) (b : Bool)
    → GoesOn shape b q ds d i → width_of i ≡ Two → slice_get q 0 ≡ Some None
    → StartsWell (drop 1 q)
starts_later shape q ds d i true h two half =
    inr (subst (λ (o : Option Insn). IsSome o) (sym (at_drop q 1 0))
    (subst (λ (w : Width). IsSome (at q (halves w))) two (h 0).0))
starts_later shape q ds d i false h two half = let none : None ≡ Some None =
    ap (λ (r : Program). slice_get r 0) (sym h) ∙ half in absurd cc

one_slot : (i : Insn) → width_of i ≡ One → slots i ≡ Some i ∷ []
one_slot (Wide dst value) one = absurd cc
one_slot i one = refl

two_slots : (i : Insn) → width_of i ≡ Two → slots i ≡ Some i ∷ None ∷ []
two_slots (Wide dst value) two = refl
two_slots i two = absurd cc

split_half : (q : Program) → slice_get q 0 ≡ Some None → q ≡ None ∷ drop 1 q
split_half [] h = absurd cc
split_half (None ∷ q) h = refl
split_half (Some i ∷ q) h = absurd cc

layout_one : (i : Insn) (q : Program) → IsEncodable i → width_of i ≡ One → IsLayout q
    → IsLayout (Some i ∷ q)
layout_one i q fits one r = (
  i ∷ r.0,
  ap (λ (s : Program). Some i ∷ s) r.1
      ∙ ap (λ (s : Program). s ++ layout r.0)
      (sym (one_slot i one)),
  All-cons IsEncodable i r.0 fits r.2,
)

layout_two : (i : Insn) (q : Program) → IsEncodable i → width_of i ≡ Two → slice_get q 0 ≡ Some None
    → IsLayout (drop 1 q) → IsLayout (Some i ∷ q)
layout_two i q fits two half r = (
  i ∷ r.0,
  ap (λ (s : Program). Some i ∷ s) (split_half q half)
      ∙ ap (λ (s : Program). Some i ∷ None ∷ s) r.1
      ∙ ap (λ (s : Program). s ++ layout r.0)
      (sym (two_slots i two)),
  All-cons IsEncodable i r.0 fits r.2,
)

-- the layout of the rest, or of the code after a second half
pub record IsLaid (q : Program) : Type 0 where
  pub whole : StartsWell q → IsLayout q
  pub behind : slice_get q 0 ≡ Some None → StartsWell (drop 1 q) → IsLayout (drop 1 q)

laid_step : (shape : AppShape) (i : Insn) (q : Program) (ds : List SlotFacts) (d : SlotFacts)
    (w : Width)
    → width_of i ≡ w → IsEncodable i → HasHalf w q → GoesOn shape (goes_on i) q ds d i → IsLaid q
    → IsLayout (Some i ∷ q)
laid_step shape i q ds d One is fits half next h =
    layout_one i q fits is (h.whole (starts_after shape q ds d i (goes_on i) next is))
laid_step shape i q ds d Two is fits half next h =
    layout_two i q fits is half (h.behind half
    (starts_later shape q ds d i (goes_on i) next is half))

pub starts_none : (q : Program) → StartsWell (None ∷ q) → ⊥
starts_none q (inl is) = absurd cc
starts_none q (inr is) = absurd cc

pub laid : (shape : AppShape) (p : Program) (ds : List SlotFacts) → IsTyped shape p ds
    → AllByRecursion CanEncode p → IsLaid p
laid shape [] ds h fits = record {
  whole = λ s. ([], refl, All-nil IsEncodable);
  behind = λ half s. absurd cc;
}
laid shape (None ∷ q) [] h fits = absurd h
laid shape (Some i ∷ q) [] h fits = absurd h
laid shape (None ∷ q) (d ∷ ds) h fits =
    record {
      whole = λ s. absurd (starts_none q s);
      behind = λ half s. (laid shape q ds h fits.1).whole s;
    }
laid shape (Some i ∷ q) (d ∷ ds) h fits = record {
  whole = λ s. laid_step shape i q ds d (width_of i) refl fits.0 h.0.half h.0.next
      (laid shape q ds h.1 fits.1);
  behind = λ half s. absurd cc;
}
