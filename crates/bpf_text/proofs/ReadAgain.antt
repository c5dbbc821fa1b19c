-- The tokens of arguments that an instruction requires are read back as these arguments.
use Rattle.std.proofs.Common.{◌≡◌, ℤ, pos, negsuc, FitsSigned, w16, w32, [], ◌∷◌, ◌++◌}
use Rattle.std.proofs.Common.{Option, Some, None, Result, Ok, option_map, refl, ap, ◌∙◌}
use Rattle.bpf_insn.specs.declared.operand.Distance.TheVariants.{Short, Long}
use Rattle.bpf_insn.specs.declared.operand.WideValue.TheVariants as wide
use Rattle.bpf_insn.specs.declared.insn.Insn.{Insn}
use Rattle.bpf_insn.specs.declared.insn.Insn.TheVariants as insn
use Rattle.bpf_insn.specs.Program.{◌>>=◌}
use Rattle.bpf_text.specs.declared.argument.Argument as arguments
use Rattle.bpf_text.specs.declared.argument.Argument.TheVariants as argument
use Rattle.bpf_text.specs.declared.text_fault.AsmFaultKind.{AsmFaultKind}
use Rattle.bpf_text.specs.declared.item.Item.{Item}
use Rattle.bpf_text.specs.declared.operand.Given.TheVariants.{Argument}
use Rattle.bpf_text.specs.declared.signature.OperandKind.{OperandKind}
use Rattle.bpf_text.specs.declared.signature.OperandKind.TheVariants as kind
use Rattle.bpf_text.specs.declared.three.UpToThree.{UpToThree}
use Rattle.bpf_text.specs.declared.token.AsmToken.TheVariants.{Comma}
use Rattle.bpf_text.specs.Arguments.{arguments_of}
use Rattle.bpf_text.specs.Items.{Items, Tokens, item_at_front, item_after_comma, items_of, at_end}
use Rattle.bpf_text.specs.Operands.{item_as, item_if, items_as, all_given}
use Rattle.bpf_text.specs.Results.{map_ok}
use Rattle.bpf_text.specs.Tables.{tables}
use Rattle.bpf_text.specs.Three.{none, one, two, three, map_three}
use Rattle.bpf_text.specs.Tokens.{Name}
use Rattle.bpf_text.proofs.Named.{register_is_named}
use Rattle.bpf_text.proofs.Arguments.{tokens_of_argument, item_of_argument, item_again}
use Rattle.bpf_text.proofs.Again.{AllFit, Fits, FitsIf, imm_again, long_again, short_again}

-- ---- they are read back

imm_read : (k : ℤ) → FitsSigned w32 k
    → item_as tables kind.Imm (item_of_argument (argument.Imm k)) ≡ Ok (Argument (argument.Imm k))
imm_read (pos n) h = let e = imm_again (pos n) h in simp e refl
imm_read (negsuc n) h = let e = imm_again (negsuc n) h in simp e refl

memory_read : (r : _) (k : ℤ) → FitsSigned w16 k → item_as tables kind.Memory
    (item_of_argument (argument.Memory r k)) ≡ Ok (Argument (argument.Memory r k))
memory_read r (pos n) h =
    let d = (register_is_named r).found in let e = short_again (pos n) h in simp (d, e) refl
memory_read r (negsuc n) h =
    let d = (register_is_named r).found in let e = short_again (negsuc n) h in simp (d, e) refl

short_read : (k : ℤ) → FitsSigned w16 k → item_as tables kind.ShortWay
    (item_of_argument (argument.Distance (Short k))) ≡ Ok (Argument (argument.Distance (Short k)))
short_read (pos n) h = let e = short_again (pos n) h in simp e refl
short_read (negsuc n) h = let e = short_again (negsuc n) h in simp e refl

long_read : (k : ℤ) → FitsSigned w32 k → item_as tables kind.LongWay
    (item_of_argument (argument.Distance (Long k))) ≡ Ok (Argument (argument.Distance (Long k)))
long_read (pos n) h = let e = long_again (pos n) h in simp e refl
long_read (negsuc n) h = let e = long_again (negsuc n) h in simp e refl

argument_again : (k : OperandKind) (a : arguments.Argument) → Fits k a
    → item_as tables k (item_of_argument a) ≡ Ok (Argument a)
argument_again kind.Register (argument.Register r) h =
    let d = (register_is_named r).found in simp d refl
argument_again kind.Source (argument.Register r) h =
    let d = (register_is_named r).found in simp d refl
argument_again kind.Source (argument.Imm k) h = imm_read k h
argument_again kind.Imm (argument.Imm k) h = imm_read k h
argument_again kind.Number (argument.Number n) h = refl
argument_again kind.Memory (argument.Memory r k) h = memory_read r k h
argument_again kind.ShortWay (argument.Distance (Short k)) h = short_read k h
argument_again kind.LongWay (argument.Distance (Long k)) h = long_read k h
argument_again k a h = absurd h

again_if : (k : Option OperandKind) (a : Option arguments.Argument) → FitsIf k a
    → item_if tables k (option_map item_of_argument a) ≡ Ok (option_map Argument a)
again_if None None h = refl
again_if (Some k) (Some a) h = ap (map_ok Some) (argument_again k a h)
again_if k a h = absurd h

pub arguments_again : (k : UpToThree OperandKind) (a : UpToThree arguments.Argument) → AllFit k a
    → items_as tables k (map_three item_of_argument a) ≡ Ok (map_three Argument a)
arguments_again k a h =
    let x = item_if tables k.first (option_map item_of_argument a.first) in
    let y = item_if tables k.second (option_map item_of_argument a.second) in
    let z = item_if tables k.third (option_map item_of_argument a.third) in
    let b = option_map Argument a.first in
    let c = option_map Argument a.second in
    ap (λ (r : Result _ AsmFaultKind). all_given r y z) (again_if k.first a.first h.first)
    ∙ ap (λ (r : Result _ AsmFaultKind). all_given (Ok b) r z) (again_if k.second a.second h.second)
    ∙ ap (λ (r : Result _ AsmFaultKind). all_given (Ok b) (Ok c) r)
    (again_if k.third a.third h.third)

-- ---- the operands of all arguments

abbrev pub behind : Option arguments.Argument → Tokens → Tokens
behind None ts = ts
behind (Some a) ts = Comma ∷ (tokens_of_argument a ++ ts)

abbrev pub at_front : Option arguments.Argument → Tokens → Tokens
at_front None ts = ts
at_front (Some a) ts = tokens_of_argument a ++ ts

abbrev pub tokens_of_arguments : UpToThree arguments.Argument → Tokens
tokens_of_arguments a = at_front a.first (behind a.second (behind a.third []))

after_comma_again : (a : arguments.Argument) (rest : Tokens)
    → item_after_comma (Comma ∷ (tokens_of_argument a ++ rest)) ≡ Some (
      Some (item_of_argument a),
      rest,
    )
after_comma_again a rest =
    let e = item_again a rest in
    ap (λ (o : Option (Item Name × Tokens)). o >>= λ p. Some (Some p.0, p.1)) e

abbrev rest_of_items : Option (Item Name × Tokens) → Option Items
rest_of_items o =
    o >>= λ a.
    item_after_comma a.1 >>= λ b.
    item_after_comma b.1 >>= λ c.
    at_end (record { first = Some a.0; second = b.0; third = c.0 }) c.1

items_start : (a : arguments.Argument) (rest : Tokens) → items_of (tokens_of_argument a ++ rest)
    ≡ rest_of_items (item_at_front (tokens_of_argument a ++ rest))
items_start (argument.Register r) rest = refl
items_start a rest = refl

items_with : (a : arguments.Argument) (rest : Tokens)
    → items_of (tokens_of_argument a ++ rest) ≡ rest_of_items (Some (item_of_argument a, rest))
items_with a rest = items_start a rest ∙ ap rest_of_items (item_again a rest)

abbrev after_second : Item Name → Option (Option (Item Name) × Tokens) → Option Items
after_second i o =
    o >>= λ b.
    item_after_comma b.1 >>= λ c.
    at_end (record { first = Some i; second = b.0; third = c.0 }) c.1

abbrev after_third : Item Name → Option (Item Name) → Option (Option (Item Name) × Tokens)
    → Option Items
after_third i j o = o >>= λ c. at_end (record { first = Some i; second = j; third = c.0 }) c.1

-- no argument, one, two or three
pub data Shaped : UpToThree arguments.Argument → Type 0 where
  Nothing : Shaped none
  Single : (a : arguments.Argument) → Shaped (one a)
  Pair : (a b : arguments.Argument) → Shaped (two a b)
  Triple : (a b c : arguments.Argument) → Shaped (three a b c)

pub items_again : (a : UpToThree arguments.Argument) → Shaped a
    → items_of (tokens_of_arguments a) ≡ Some (map_three item_of_argument a)
items_again _ Nothing = refl
items_again _ (Single a) = items_with a []
items_again _ (Pair a b) =
    items_with a (Comma ∷ (tokens_of_argument b ++ []))
    ∙ ap (after_second (item_of_argument a)) (after_comma_again b [])
items_again _ (Triple a b c) =
    items_with a (Comma ∷ (tokens_of_argument b ++ (Comma ∷ (tokens_of_argument c ++ []))))
    ∙ ap (after_second (item_of_argument a))
    (after_comma_again b (Comma ∷ (tokens_of_argument c ++ [])))
    ∙ ap (after_third (item_of_argument a) (Some (item_of_argument b))) (after_comma_again c [])

pub shape_of : (i : Insn) → Shaped (arguments_of i)
shape_of (insn.Neg bits dst) = Single _
shape_of (insn.End order size dst) = Single _
shape_of (insn.Jump distance) = Single _
shape_of (insn.JumpIf bits condition left right k) = Triple _ _ _
shape_of (insn.Call helper) = Single _
shape_of insn.Exit = Nothing
shape_of (insn.Wide dst (wide.Cell i k)) = Triple _ _ _
shape_of i = Pair _ _
