-- Each line that states an instruction is read as this instruction, and no other line is.
use Rattle.std.proofs.Common.{◌≡◌, ℕ, ◌+◌, ℤ, pos, ◌-ℤ◌, FitsSigned, w16, w32, ◌∷◌}
use Rattle.std.proofs.Common.{Option, Some, None, option_map, Ok}
use Rattle.std.proofs.Common.{Bool, true, false, ◌&&◌, not, if◌then◌else◌, refl, sym, ap, ◌∙◌}
use Rattle.std.specs.Prelude.{ok_or}
use Rattle.bpf_insn.specs.declared.reg.Reg.{Reg}
use Rattle.bpf_insn.specs.declared.insn.Insn.{Insn}
use Rattle.bpf_insn.specs.declared.operand.Distance.TheVariants.{Short, Long}
use Rattle.bpf_insn.specs.Spelling.{IsEncodable}
use Rattle.bpf_text.specs.declared.argument.Argument.{Argument}
use Rattle.bpf_text.specs.declared.argument.Argument.TheVariants as argument
use Rattle.bpf_text.specs.declared.text_fault.AsmFaultKind.TheVariants as fault
use Rattle.bpf_text.specs.declared.item.Item.{Item}
use Rattle.bpf_text.specs.declared.item.Item.TheVariants as item
use Rattle.bpf_text.specs.declared.operand.Given.{Given}
use Rattle.bpf_text.specs.declared.operand.Given.TheVariants as given
use Rattle.bpf_text.specs.declared.signature.OperandKind.{OperandKind}
use Rattle.bpf_text.specs.declared.signature.OperandKind.TheVariants as kind
use Rattle.bpf_text.specs.declared.token.Figure.{Figure}
use Rattle.bpf_text.specs.Arguments.{mnemonic_of, arguments_of}
use Rattle.bpf_text.specs.Assembly.{SlotOf, slots_to, in_field, short_distance}
use Rattle.bpf_text.specs.Assembly.{long_distance, argument_at, argument_if, arguments_at}
use Rattle.bpf_text.specs.declared.mnemonic.Mnemonic.{Mnemonic}
use Rattle.bpf_text.specs.declared.three.UpToThree.{UpToThree}
use Rattle.bpf_text.specs.declared.token.AsmToken.TheVariants.{Word}
use Rattle.bpf_text.specs.Items.{Items, Tokens, items_of}
use Rattle.bpf_text.specs.Lines.{body_of}
use Rattle.bpf_text.specs.Listing.{register_text}
use Rattle.bpf_text.specs.Operands.{has_plus, has_sign, if_of_kind, register_given}
use Rattle.bpf_text.specs.Operands.{memory_given, item_as, item_if, all_given, items_as}
use Rattle.bpf_text.specs.Ranges.{imm_of, wide_of, short_of, long_of}
use Rattle.bpf_text.specs.Results.{OrAsmFault, ◌>>?◌, map_ok, in_turn}
use Rattle.bpf_text.specs.Signatures.{kinds_of, is_of, is_of_if}
use Rattle.bpf_text.specs.States.{IsDistanceTo, IsArgument, IsArgumentIf}
use Rattle.bpf_text.specs.States.{States, IsReadAs, ReadsAsStated}
use Rattle.bpf_text.specs.Tokens.{Name}
use Rattle.bpf_text.specs.Vocabulary.{Vocabulary, IsExact}
use Rattle.bpf_text.specs.Words.{word_of}
use Rattle.bpf_text.proofs.Lexing.{and_both}
use Rattle.bpf_text.proofs.States.{stated_only}
use Rattle.bpf_text.proofs.Statements.{of_kinds}
use Rattle.bpf_text.proofs.Distances.{DistanceFits, distances_fit, fits_15}
use Rattle.bpf_text.proofs.Distances.{fits_31, imm_plain, signed, wide_plain}

no_truth : ◌≡◌ {A = Bool} false true → ⊥
no_truth h = cc

-- ---- one operand

abbrev IsRead : Vocabulary → SlotOf → ℕ → OperandKind → Item Name → Argument → Type 0
IsRead v slot_of s k i a =
    (g : Given Name) × (item_as v k i ≡ Ok g) × (argument_at slot_of s g ≡ Ok a)

to_distance : (z k : ℤ) (t : Bool) (a : Argument) → t ≡ true → (if t then Some a else None) ≡ Some a
to_distance z k true a h = refl
to_distance z k false a h = absurd (no_truth h)

leads_ok : (slot_of : SlotOf) (s : ℕ) (w : Name) (z : ℤ) → IsDistanceTo slot_of s w z
    → slots_to slot_of s w ≡ Ok z
leads_ok slot_of s w z h =
    ap (λ (o : Option ℕ). ok_or o fault.Label >>? λ t. Ok (pos t -ℤ pos (s + 1))) h.1
    ∙ ap Ok (sym h.2)

module _ (v : Vocabulary) (exact : IsExact v) (slot_of : SlotOf) (s : ℕ) where
  name_read : (k : OperandKind) (w : Name) (r : Reg) → is_of k (argument.Register r) ≡ true
      → w ≡ register_text r → IsRead v slot_of s k (item.Name w) (argument.Register r)
  name_read kind.Register w r h e =
      (given.Argument (argument.Register r), ap register_given ((exact.registers w r).1 e), refl)
  name_read kind.Source w r h e =
      (given.Argument (argument.Register r), ap register_given ((exact.registers w r).1 e), refl)
  name_read k w r h e = absurd (no_truth h)

  short_way : (k : OperandKind) (w : Name) (z : ℤ)
      → is_of k (argument.Distance (Short z)) ≡ true → FitsSigned w16 z → IsDistanceTo slot_of s w z
      → IsRead v slot_of s k (item.Name w) (argument.Distance (Short z))
  short_way kind.ShortWay w z h f l = (
    given.ShortTo w,
    refl,
    ap (λ r. r >>? λ y. ok_or (short_distance y) fault.Range) (leads_ok slot_of s w z l)
        ∙ ap (λ o. ok_or o fault.Range)
        (to_distance z z (in_field 15 z) (argument.Distance (Short z)) (fits_15 z f)),
  )
  short_way k w z h f l = absurd (no_truth h)

  long_way : (k : OperandKind) (w : Name) (z : ℤ)
      → is_of k (argument.Distance (Long z)) ≡ true → FitsSigned w32 z → IsDistanceTo slot_of s w z
      → IsRead v slot_of s k (item.Name w) (argument.Distance (Long z))
  long_way kind.LongWay w z h f l = (
    given.LongTo w,
    refl,
    ap (λ r. r >>? λ y. ok_or (long_distance y) fault.Range) (leads_ok slot_of s w z l)
        ∙ ap (λ o. ok_or o fault.Range)
        (to_distance z z (in_field 31 z) (argument.Distance (Long z)) (fits_31 z f)),
  )
  long_way k w z h f l = absurd (no_truth h)

  read_if : (t : Bool) (o : Option Argument) (a : Argument) → t ≡ true → o ≡ Some a
      → if_of_kind t o ≡ Ok (given.Argument a)
  read_if t o a h e = ap (λ (u : Bool). if_of_kind u o) h ∙ ap (if_of_kind true) e

  imm_read : (k : OperandKind) (f : Figure) (z : ℤ) → is_of k (argument.Imm z) ≡ true
      → imm_of f ≡ Some z
      → IsRead v slot_of s k (item.Number f) (argument.Imm z)
  imm_read kind.Source f z h e = (
    given.Argument (argument.Imm z),
    read_if (not (has_plus f.sign)) (option_map argument.Imm (imm_of f)) (argument.Imm z)
        (ap (λ (u : Bool). not u) (imm_plain f.sign f.magnitude z e))
        (ap (λ (o : Option ℤ). option_map argument.Imm o) e),
    refl,
  )
  imm_read kind.Imm f z h e = (
    given.Argument (argument.Imm z),
    read_if (not (has_plus f.sign)) (option_map argument.Imm (imm_of f)) (argument.Imm z)
        (ap (λ (u : Bool). not u) (imm_plain f.sign f.magnitude z e))
        (ap (λ (o : Option ℤ). option_map argument.Imm o) e),
    refl,
  )
  imm_read k f z h e = absurd (no_truth h)

  number_read : (k : OperandKind) (f : Figure) (n : ℕ) → is_of k (argument.Number n) ≡ true
      → wide_of f ≡ Some n → IsRead v slot_of s k (item.Number f) (argument.Number n)
  number_read kind.Number f n h e = (
    given.Argument (argument.Number n),
    read_if (not (has_plus f.sign)) (option_map argument.Number (wide_of f)) (argument.Number n)
        (ap (λ (u : Bool). not u) (wide_plain f.sign f.magnitude n e))
        (ap (λ (o : Option ℕ). option_map argument.Number o) e),
    refl,
  )
  number_read k f n h e = absurd (no_truth h)

  short_read : (k : OperandKind) (f : Figure) (z : ℤ) → is_of k (argument.Distance (Short z)) ≡ true
      → short_of f ≡ Some z → IsRead v slot_of s k (item.Number f) (argument.Distance (Short z))
  short_read kind.ShortWay f z h e = (
    given.Argument (argument.Distance (Short z)),
    read_if (has_sign f.sign) (option_map (λ y. argument.Distance (Short y)) (short_of f))
        (argument.Distance (Short z)) (signed 15 f.sign f.magnitude z e)
        (ap (λ (o : Option ℤ). option_map (λ y. argument.Distance (Short y)) o) e),
    refl,
  )
  short_read k f z h e = absurd (no_truth h)

  long_read : (k : OperandKind) (f : Figure) (z : ℤ) → is_of k (argument.Distance (Long z)) ≡ true
      → long_of f ≡ Some z → IsRead v slot_of s k (item.Number f) (argument.Distance (Long z))
  long_read kind.LongWay f z h e = (
    given.Argument (argument.Distance (Long z)),
    read_if (has_sign f.sign) (option_map (λ y. argument.Distance (Long y)) (long_of f))
        (argument.Distance (Long z)) (signed 31 f.sign f.magnitude z e)
        (ap (λ (o : Option ℤ). option_map (λ y. argument.Distance (Long y)) o) e),
    refl,
  )
  long_read k f z h e = absurd (no_truth h)

  place_read : (k : OperandKind) (w : Name) (f : Figure) (r : Reg) (z : ℤ)
      → is_of k (argument.Memory r z) ≡ true → w ≡ register_text r → short_of f ≡ Some z
      → IsRead v slot_of s k (item.Memory w f) (argument.Memory r z)
  place_read kind.Memory w f r z h d e = (
    given.Argument (argument.Memory r z),
    ap (λ (o : Option Reg). memory_given o f) ((exact.registers w r).1 d)
        ∙ read_if (has_sign f.sign) (option_map (argument.Memory r) (short_of f))
        (argument.Memory r z) (signed 15 f.sign f.magnitude z e)
        (ap (λ (o : Option ℤ). option_map (argument.Memory r) o) e),
    refl,
  )
  place_read k w f r z h d e = absurd (no_truth h)

  item_read : (k : OperandKind) (i : Item Name) (a : Argument) → is_of k a ≡ true
      → DistanceFits (Some a)
      → IsArgument slot_of s i a → IsRead v slot_of s k i a
  item_read k (item.Name w) (argument.Register r) h f e = name_read k w r h e
  item_read k (item.Name w) (argument.Distance (Short z)) h f e = short_way k w z h f e
  item_read k (item.Name w) (argument.Distance (Long z)) h f e = long_way k w z h f e
  item_read k (item.Number n) (argument.Imm z) h f e = imm_read k n z h e
  item_read k (item.Number n) (argument.Number m) h f e = number_read k n m h e
  item_read k (item.Number n) (argument.Distance (Short z)) h f e = short_read k n z h e
  item_read k (item.Number n) (argument.Distance (Long z)) h f e = long_read k n z h e
  item_read k (item.Memory w n) (argument.Memory r z) h f e = place_read k w n r z h e.0 e.1
  item_read k i a h f e = absurd e

  place_if : (k : Option OperandKind) (i : Option (Item Name)) (a : Option Argument)
      → is_of_if k a ≡ true → DistanceFits a → IsArgumentIf slot_of s i a
      → (g : Option (Given Name)) × (item_if v k i ≡ Ok g) × (argument_if slot_of s g ≡ Ok a)
  place_if None None None h f e = (None, refl, refl)
  place_if (Some k) (Some i) (Some a) h f e =
      let p = item_read k i a h f e in
      (Some p.0, ap (map_ok Some) p.1, ap (map_ok Some) p.2)
  place_if None (Some i) (Some a) h f e = absurd (no_truth h)
  place_if (Some k) None None h f e = absurd (no_truth h)
  place_if k i a h f e = absurd e

-- ---- the line

body_read : (v : Vocabulary) (w : Name) (ts : Tokens) (m : Mnemonic) (items : Items)
    (g : UpToThree (Given Name)) → v.mnemonic_named w ≡ Some m → items_of ts ≡ Some items
    → items_as v (kinds_of m) items ≡ Ok g
    → body_of v (Word w ∷ ts) ≡ Ok (Some (record { mnemonic = m; arguments = g }))
body_read v w ts m items g named some is = simp (named, some, is) refl

stated_all : (v : Vocabulary) → IsExact v → (slot_of : SlotOf) (s : ℕ) (tokens : Tokens) (i : Insn)
    → IsEncodable i → States slot_of s tokens i → IsReadAs v slot_of s tokens i
stated_all v exact slot_of s tokens i fits h =
    let m = mnemonic_of i in
    let a = arguments_of i in
    let k = kinds_of m in
    let one = and_both (is_of_if k.first a.first)
    (is_of_if k.second a.second && is_of_if k.third a.third) (of_kinds i) in
    let more = and_both (is_of_if k.second a.second) (is_of_if k.third a.third) one.1 in
    let f = distances_fit i fits in
    let x = place_if v exact slot_of s k.first h.items.first a.first one.0 f.0 h.first in
    let y = place_if v exact slot_of s k.second h.items.second a.second more.0 f.1 h.second in
    let z = place_if v exact slot_of s k.third h.items.third a.third more.1 f.2 h.third in
    let g : UpToThree (Given Name) = record { first = x.0; second = y.0; third = z.0 } in
    let given : items_as v k h.items ≡ Ok g =
    ap (λ (r : OrAsmFault (Option (Given Name))).
    all_given r (item_if v k.second h.items.second) (item_if v k.third h.items.third)) x.1
    ∙ ap (λ (r : OrAsmFault (Option (Given Name))).
    all_given (Ok x.0) r (item_if v k.third h.items.third)) y.1
    ∙ ap (λ (r : OrAsmFault (Option (Given Name))). all_given (Ok x.0) (Ok y.0) r) z.1 in
    let placed : arguments_at slot_of s g ≡ Ok a =
    ap (λ (r : OrAsmFault (Option Argument)).
    in_turn r (argument_if slot_of s y.0) (argument_if slot_of s z.0)) x.2
    ∙ ap (λ (r : OrAsmFault (Option Argument)). in_turn (Ok a.first) r (argument_if slot_of s z.0))
    y.2
    ∙ ap (λ (r : OrAsmFault (Option Argument)). in_turn (Ok a.first) (Ok a.second) r) z.2 in (
      record { mnemonic = m; arguments = g },
      ap (body_of v) h.word ∙ body_read v (word_of m) h.rest m h.items g
          ((exact.mnemonics (word_of m) m).1 refl) h.operands given,
      ap (λ (r : OrAsmFault (UpToThree Argument)). r >>? λ b. ok_or (v.insn_of m b) fault.Operand)
          placed
          ∙ ap (λ o. ok_or o fault.Operand) ((exact.insns m a i).1 (refl, refl)),
    )

pub reads_as_stated : (v : Vocabulary) → IsExact v → ReadsAsStated v
reads_as_stated v exact = record { only = stated_only v exact; all = stated_all v exact }
