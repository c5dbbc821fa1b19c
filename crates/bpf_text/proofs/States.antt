-- A line is read as an instruction only if it states this instruction.
use Rattle.std.proofs.Common.{◌≡◌, ℕ, ◌+◌, ℤ, pos, ◌-ℤ◌, ◌∷◌, [], Option, Some, None, option_map}
use Rattle.std.proofs.Common.{Ok, Bool, true, false, not, if◌then◌else◌, refl, sym, ap, ◌∙◌, subst}
use Rattle.std.specs.Prelude.{ok_or}
use Rattle.bpf_insn.specs.declared.insn.Insn.{Insn}
use Rattle.bpf_insn.specs.declared.reg.Reg.{Reg}
use Rattle.bpf_insn.specs.declared.operand.Distance.TheVariants.{Short, Long}
use Rattle.bpf_text.specs.declared.argument.Argument.{Argument}
use Rattle.bpf_text.specs.declared.argument.Argument.TheVariants as argument
use Rattle.bpf_text.specs.declared.text_fault.AsmFaultKind.TheVariants as fault
use Rattle.bpf_text.specs.declared.item.Item.{Item}
use Rattle.bpf_text.specs.declared.item.Item.TheVariants as item
use Rattle.bpf_text.specs.declared.operand.Given.{Given}
use Rattle.bpf_text.specs.declared.operand.Given.TheVariants as given
use Rattle.bpf_text.specs.declared.signature.OperandKind.{OperandKind}
use Rattle.bpf_text.specs.declared.signature.OperandKind.TheVariants as kind
use Rattle.bpf_text.specs.declared.three.UpToThree.{UpToThree}
use Rattle.bpf_text.specs.declared.token.Figure.{Figure}
use Rattle.bpf_text.specs.declared.token.AsmToken.TheVariants.{Word}
use Rattle.bpf_text.specs.Arguments.{mnemonic_of}
use Rattle.bpf_text.specs.Assembly.{SlotOf, slots_to, in_field, short_distance}
use Rattle.bpf_text.specs.Assembly.{long_distance, argument_at, argument_if, arguments_at}
use Rattle.bpf_text.specs.Items.{Items, Tokens, items_of}
use Rattle.bpf_text.specs.Lines.{AsmStatement, body_of}
use Rattle.bpf_text.specs.Operands.{has_plus, has_sign, if_of_kind, register_given}
use Rattle.bpf_text.specs.Operands.{memory_given, item_as, item_if, items_as}
use Rattle.bpf_text.specs.Ranges.{imm_of, wide_of, short_of, long_of}
use Rattle.bpf_text.specs.Signatures.{kinds_of}
use Rattle.bpf_text.specs.States.{IsDistanceTo, IsArgument, IsArgumentIf, States, IsReadAs}
use Rattle.bpf_text.specs.Tokens.{Name}
use Rattle.bpf_text.specs.Vocabulary.{Vocabulary, IsExact}
use Rattle.bpf_text.specs.Words.{word_of}
use Rattle.bpf_text.proofs.Successes.{all_given_ok, bind_ok, err_ok, in_turn_ok, map_ok_is}
use Rattle.bpf_text.proofs.Successes.{mapped, ok_or_ok, none_some, same_ok, same_some}

-- ---- one operand

given_is : (slot_of : SlotOf) (s : ℕ) (t : Bool) (o : Option Argument) (g : Given Name)
    (a : Argument) → if_of_kind t o ≡ Ok g → argument_at slot_of s g ≡ Ok a → o ≡ Some a
given_is slot_of s true (Some b) g a h k =
    ap Some (same_ok (ap (argument_at slot_of s) (same_ok h) ∙ k))
given_is slot_of s true None g a h k = absurd (err_ok h)
given_is slot_of s false o g a h k = absurd (err_ok h)

register_is : (slot_of : SlotOf) (s : ℕ) (o : Option Reg) (g : Given Name) (a : Argument)
    → register_given o ≡ Ok g → argument_at slot_of s g ≡ Ok a
    → (r : Reg) × (o ≡ Some r) × (argument.Register r ≡ a)
register_is slot_of s (Some r) g a h k =
    (r, refl, same_ok (ap (argument_at slot_of s) (same_ok h) ∙ k))
register_is slot_of s None g a h k = absurd (err_ok h)

memory_is : (slot_of : SlotOf) (s : ℕ) (o : Option Reg) (f : Figure) (g : Given Name) (a : Argument)
    → memory_given o f ≡ Ok g → argument_at slot_of s g ≡ Ok a
    → (r : Reg) × (k : ℤ) × (o ≡ Some r) × (short_of f ≡ Some k) × (argument.Memory r k ≡ a)
memory_is slot_of s (Some r) f g a h k =
    let m = mapped (argument.Memory r) (short_of f) a
    (given_is slot_of s (has_sign f.sign) (option_map (argument.Memory r) (short_of f)) g a h k) in
    (r, m.0, refl, m.1, m.2)
memory_is slot_of s None f g a h k = absurd (err_ok h)

then_some : (t : Bool) (b a : Argument) → (if t then Some b else None) ≡ Some a → b ≡ a
then_some true b a h = same_some h
then_some false b a h = absurd (none_some h)

leads : (slot_of : SlotOf) (s : ℕ) (w : Name) (z : ℤ) → slots_to slot_of s w ≡ Ok z
    → IsDistanceTo slot_of s w z
leads slot_of s w z h =
    let p = bind_ok (ok_or (slot_of w) fault.Label) (λ t. Ok (pos t -ℤ pos (s + 1))) z h in
    (p.0, ok_or_ok fault.Label (slot_of w) p.0 p.1, sym (same_ok p.2))

module _ (v : Vocabulary) (exact : IsExact v) (slot_of : SlotOf) (s : ℕ) where
  name_is : (w : Name) (g : Given Name) (a : Argument) → register_given (v.register_named w) ≡ Ok g
      → argument_at slot_of s g ≡ Ok a → IsArgument slot_of s (item.Name w) a
  name_is w g a h k =
      let r = register_is slot_of s (v.register_named w) g a h k in
      subst (IsArgument slot_of s (item.Name w)) r.2 ((exact.registers w r.0).0 r.1)

  imm_is : (f : Figure) (g : Given Name) (a : Argument) → item_as v kind.Imm (item.Number f) ≡ Ok g
      → argument_at slot_of s g ≡ Ok a → IsArgument slot_of s (item.Number f) a
  imm_is f g a h k =
      let m = mapped argument.Imm (imm_of f) a
      (given_is slot_of s (not (has_plus f.sign)) (option_map argument.Imm (imm_of f)) g a h k) in
      subst (IsArgument slot_of s (item.Number f)) m.2 m.1

  number_is : (f : Figure) (g : Given Name) (a : Argument)
      → item_as v kind.Number (item.Number f) ≡ Ok g → argument_at slot_of s g ≡ Ok a
      → IsArgument slot_of s (item.Number f) a
  number_is f g a h k =
      let m = mapped argument.Number (wide_of f) a (given_is slot_of s (not (has_plus f.sign))
      (option_map argument.Number (wide_of f)) g a h k) in
      subst (IsArgument slot_of s (item.Number f)) m.2 m.1

  short_is : (f : Figure) (g : Given Name) (a : Argument)
      → item_as v kind.ShortWay (item.Number f) ≡ Ok g → argument_at slot_of s g ≡ Ok a
      → IsArgument slot_of s (item.Number f) a
  short_is f g a h k =
      let c = λ (z : ℤ). argument.Distance (Short z) in
      let m = mapped c (short_of f) a
      (given_is slot_of s (has_sign f.sign) (option_map c (short_of f)) g a h k) in
      subst (IsArgument slot_of s (item.Number f)) m.2 m.1

  long_is : (f : Figure) (g : Given Name) (a : Argument)
      → item_as v kind.LongWay (item.Number f) ≡ Ok g → argument_at slot_of s g ≡ Ok a
      → IsArgument slot_of s (item.Number f) a
  long_is f g a h k =
      let c = λ (z : ℤ). argument.Distance (Long z) in
      let m = mapped c (long_of f) a
      (given_is slot_of s (has_sign f.sign) (option_map c (long_of f)) g a h k) in
      subst (IsArgument slot_of s (item.Number f)) m.2 m.1

  place_is : (w : Name) (f : Figure) (g : Given Name) (a : Argument)
      → item_as v kind.Memory (item.Memory w f) ≡ Ok g → argument_at slot_of s g ≡ Ok a
      → IsArgument slot_of s (item.Memory w f) a
  place_is w f g a h k =
      let m = memory_is slot_of s (v.register_named w) f g a h k in
      subst (IsArgument slot_of s (item.Memory w f)) m.4 ((exact.registers w m.0).0 m.2, m.3)

  short_to : (w : Name) (a : Argument) → argument_at slot_of s (given.ShortTo w) ≡ Ok a
      → IsArgument slot_of s (item.Name w) a
  short_to w a h =
      let p = bind_ok (slots_to slot_of s w) (λ z. ok_or (short_distance z) fault.Range) a h in
      let e = then_some (in_field 15 p.0) (argument.Distance (Short p.0)) a
      (ok_or_ok fault.Range (short_distance p.0) a p.2) in
      subst (IsArgument slot_of s (item.Name w)) e (leads slot_of s w p.0 p.1)

  long_to : (w : Name) (a : Argument) → argument_at slot_of s (given.LongTo w) ≡ Ok a
      → IsArgument slot_of s (item.Name w) a
  long_to w a h =
      let p = bind_ok (slots_to slot_of s w) (λ z. ok_or (long_distance z) fault.Range) a h in
      let e = then_some (in_field 31 p.0) (argument.Distance (Long p.0)) a
      (ok_or_ok fault.Range (long_distance p.0) a p.2) in
      subst (IsArgument slot_of s (item.Name w)) e (leads slot_of s w p.0 p.1)

  item_is : (k : OperandKind) (i : Item Name) (g : Given Name) (a : Argument)
      → item_as v k i ≡ Ok g → argument_at slot_of s g ≡ Ok a → IsArgument slot_of s i a
  item_is kind.Register (item.Name w) g a h e = name_is w g a h e
  item_is kind.Source (item.Name w) g a h e = name_is w g a h e
  item_is kind.Source (item.Number f) g a h e = imm_is f g a h e
  item_is kind.Imm (item.Number f) g a h e = imm_is f g a h e
  item_is kind.Number (item.Number f) g a h e = number_is f g a h e
  item_is kind.Memory (item.Memory w f) g a h e = place_is w f g a h e
  item_is kind.ShortWay (item.Name w) g a h e =
      short_to w a (ap (argument_at slot_of s) (same_ok h) ∙ e)
  item_is kind.ShortWay (item.Number f) g a h e = short_is f g a h e
  item_is kind.LongWay (item.Name w) g a h e =
      long_to w a (ap (argument_at slot_of s) (same_ok h) ∙ e)
  item_is kind.LongWay (item.Number f) g a h e = long_is f g a h e
  item_is k i g a h e = absurd (err_ok h)

  -- ---- all operands

  place : (k : Option OperandKind) (i : Option (Item Name)) (g : Option (Given Name))
      (a : Option Argument)
      → item_if v k i ≡ Ok g → argument_if slot_of s g ≡ Ok a → IsArgumentIf slot_of s i a
  place None None g a h e =
      subst (IsArgumentIf slot_of s None) (same_ok (ap (argument_if slot_of s) (same_ok h) ∙ e)) tt
  place (Some k) (Some i) g a h e =
      let p = map_ok_is Some (item_as v k i) g h in
      let q = map_ok_is Some (argument_at slot_of s p.0) a (ap (argument_if slot_of s) p.2 ∙ e) in
      subst (IsArgumentIf slot_of s (Some i)) q.2 (item_is k i p.0 q.0 p.1 q.1)
  place (Some k) None g a h e = absurd (err_ok h)
  place None (Some i) g a h e = absurd (err_ok h)

pub record IsBody (v : Vocabulary) (tokens : Tokens) (b : AsmStatement) : Type 0 where
  word : Name
  rest : Tokens
  items : Items
  tokens_are : tokens ≡ Word word ∷ rest
  named : v.mnemonic_named word ≡ Some b.mnemonic
  items_are : items_of rest ≡ Some items
  given : items_as v (kinds_of b.mnemonic) items ≡ Ok b.arguments

body_is : (v : Vocabulary) (tokens : Tokens) (b : AsmStatement) → body_of v tokens ≡ Ok (Some b)
    → IsBody v tokens b
body_is v [] b h = absurd (none_some (same_ok h))
body_is v (Word w ∷ rest) b h =
    let p = bind_ok (ok_or (v.mnemonic_named w) fault.Mnemonic) _ (Some b) h in
    let q = bind_ok (ok_or (items_of rest) fault.Operand) _ (Some b) p.2 in
    let r = bind_ok (items_as v (kinds_of p.0) q.0) _ (Some b) q.2 in
    let e = same_some (same_ok r.2) in
    record {
      word = w;
      rest = rest;
      items = q.0;
      tokens_are = refl;
      named = ok_or_ok fault.Mnemonic (v.mnemonic_named w) p.0 p.1
          ∙ ap (λ (t : AsmStatement). Some t.mnemonic) e;
      items_are = ok_or_ok fault.Operand (items_of rest) q.0 q.1;
      given =
          let P : AsmStatement → Type 0 =
          λ t. items_as v (kinds_of t.mnemonic) q.0 ≡ Ok t.arguments in
          subst P e r.1;
    }
body_is v (t ∷ rest) b h = absurd (err_ok h)

pub stated_only : (v : Vocabulary) → IsExact v
    → (slot_of : SlotOf) (s : ℕ) (tokens : Tokens) (i : Insn) → IsReadAs v slot_of s tokens i
    → States slot_of s tokens i
stated_only v exact slot_of s tokens i read =
    let b = read.0 in
    let h = read.1 in
    let e = read.2 in
    let l = body_is v tokens b h in
    let p = bind_ok (arguments_at slot_of s b.arguments)
    (λ a. ok_or (v.insn_of b.mnemonic a) fault.Operand) i e in
    let is =
    (exact.insns b.mnemonic p.0 i).0 (ok_or_ok fault.Operand (v.insn_of b.mnemonic p.0) i p.2) in
    let k = kinds_of b.mnemonic in
    let x = all_given_ok _ _ _ b.arguments l.given in
    let y = in_turn_ok _ _ _ p.0 p.1 in
    let w : l.word ≡ word_of (mnemonic_of i) =
    (exact.mnemonics l.word b.mnemonic).0 l.named ∙ ap word_of (sym is.0) in
    let P : UpToThree Argument → Type 0 = λ a. IsArgumentIf slot_of s l.items.first a.first in
    let Q : UpToThree Argument → Type 0 = λ a. IsArgumentIf slot_of s l.items.second a.second in
    let R : UpToThree Argument → Type 0 = λ a. IsArgumentIf slot_of s l.items.third a.third in
    record {
      rest = l.rest;
      items = l.items;
      word = l.tokens_are ∙ ap (λ (t : Name). Word t ∷ l.rest) w;
      operands = l.items_are;
      first = subst P (sym is.1) (place v exact slot_of s k.first l.items.first b.arguments.first
          p.0.first x.first y.first);
      second = subst Q (sym is.1) (place v exact slot_of s k.second l.items.second
          b.arguments.second p.0.second x.second y.second);
      third = subst R (sym is.1) (place v exact slot_of s k.third l.items.third b.arguments.third
          p.0.third x.third y.third);
    }
