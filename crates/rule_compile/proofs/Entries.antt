-- What is known between the pieces of a rule's code, and after a write or a comparison.
use Rattle.std.proofs.Common.{ℕ, zero, suc, ◌<◌, ◌≤◌, List, [], ◌∷◌, length, length-set}
use Rattle.std.proofs.Common.{Bool, false, arith, inl, inr}
use Rattle.std.specs.Prelude.{IsSome, ◌⊎◌, slice_set}
use Rattle.std.proofs.lemmas.Bool.{cases_lt, cases_eq}
use Rattle.std.proofs.lemmas.List.{get_or-set_same, get_or-set_other, get_or_past}
use Rattle.std.proofs.lemmas.Grind.{common_steps}
use Rattle.bpf_insn.specs.declared.reg.Reg.{Reg}
use Rattle.bpf_insn.specs.declared.operand.Bits.TheVariants.{Bits64}
use Rattle.bpf_insn.specs.Table.{number_of}
use Rattle.bpf_insn.specs.Program.{Program, at}
use Rattle.cells.specs.Arrays.{AppShape}
use Rattle.abs_value.specs.declared.number.Number.{Number}
use Rattle.abs_value.specs.declared.value.Abs.{Abs}
use Rattle.abs_value.specs.declared.value.Abs.TheVariants.{Unusable, Num, Ctx, Stk}
use Rattle.abs_value.specs.declared.state.AbsState.{AbsState}
use Rattle.abs_value.specs.Numbers.{up_to, full}
use Rattle.abs_value.specs.Values.{places}
use Rattle.abs_value.specs.States.{register_at, value_at, with_value}
use Rattle.bpf_verify.specs.Table.{SlotFacts, IsWider, HasFacts}
use Rattle.rule_compile.proofs.Typed.{entry_at}

-- ---- entries: R6 is the context, R7 a choice, R10 the top of the stack

abbrev pub none_set : ℕ → Bool
none_set place = false

abbrev pub frame : Abs → Abs → Abs → Abs → Abs → Abs → (ℕ → Bool) → SlotFacts
frame zero_is one two three four choice set = record {
  registers = zero_is ∷ one ∷ two ∷ three ∷ four ∷ Unusable ∷ Ctx
      (places 0 0) ∷ choice ∷ Unusable ∷ Unusable ∷ Stk 512 ∷ [];
  set = set;
}

-- a register with any number
abbrev pub any : Number
any = full Bits64

abbrev pub choice : AppShape → Abs
choice shape = Num (up_to shape.releases)

-- between two pieces, and with values in R0 to R4
abbrev pub chosen : AppShape → SlotFacts
chosen shape = frame Unusable Unusable Unusable Unusable Unusable (choice shape) none_set

pub forgets : (a b c d e v : Abs) (set : ℕ → Bool) (f : AbsState)
    → HasFacts (frame a b c d e v set) f
    → HasFacts (frame Unusable Unusable Unusable Unusable Unusable v none_set) f
forgets a b c d e v set f h = record {
  long = h.long;
  wide = h.wide;
  each = λ r. fewer r (h.each r);
  bytes = λ place lt is. absurd cc;
}
  where
    fewer : (r : ℕ) → IsWider (register_at (frame a b c d e v set).registers r) (value_at f r)
        → IsWider (register_at (frame Unusable Unusable Unusable Unusable Unusable v
        none_set).registers r) (value_at f r)
    fewer zero h = tt
    fewer (suc zero) h = tt
    fewer (suc (suc zero)) h = tt
    fewer (suc (suc (suc zero))) h = tt
    fewer (suc (suc (suc (suc zero)))) h = tt
    fewer (suc (suc (suc (suc (suc r))))) h = h

-- ---- the entry at a place covers what is known

pub record Takes (q : Program) (ds : List SlotFacts) (k : ℕ) (d : SlotFacts) : Type 0 where
  pub place : IsSome (at q k)
  pub known : (f : AbsState) → HasFacts d f → HasFacts (entry_at ds k) f

-- ---- a register is written

abbrev pub writes : SlotFacts → Reg → Abs → SlotFacts
writes d r v = record { registers = slice_set d.registers (number_of r) v; set = d.set }

written : (vs es : List Abs) (r : ℕ) (v w : Abs) → r < length es
    → ((q : ℕ) → IsWider (register_at vs q) (register_at es q)) → IsWider v w
    → (q : ℕ) → IsWider (register_at (slice_set vs r v) q) (register_at (slice_set es r w) q)
written vs es r v w lt h hv q = elim (cases_eq q r) [
  | inl same ↦ rw (same, get_or-set_same es r w Unusable lt) (here (cases_lt r (length vs)))
  | inr other ↦ rw (
    get_or-set_other vs r q v Unusable other,
    get_or-set_other es r q w Unusable
        other,
  ) (h q)
]
  where
    here : (r < length vs) ⊎ (length vs ≤ r) → IsWider (register_at (slice_set vs r v) r) w
    here (inl within) = rw (get_or-set_same vs r v Unusable within) hv
    here (inr past) = rw (get_or_past (slice_set vs r v) r Unusable
        (omega (arith, past, length-set vs r v))) tt

overwritten : (vs es : List Abs) (r : ℕ) (w : Abs) → r < length es
    → ((q : ℕ) → IsWider (register_at vs q) (register_at es q)) → IsWider (register_at vs r) w
    → (q : ℕ) → IsWider (register_at vs q) (register_at (slice_set es r w) q)
overwritten vs es r w lt h hv q = grind (arith, common_steps, h q)

register_in : (r : Reg) → number_of r < 11
register_in r = grind arith

pub knows_write : (d : SlotFacts) (e : AbsState) (r : Reg) (v w : Abs) → HasFacts d e → IsWider v w
    → HasFacts (writes d r v) (with_value e r w)
knows_write d e r v w h hv = record {
  long = grind (arith, common_steps, h.long);
  wide = h.wide;
  each = written d.registers e.registers (number_of r) v w
      (omega (arith, h.long, register_in r)) h.each hv;
  bytes = h.bytes;
}

pub knows_over : (d : SlotFacts) (e : AbsState) (r : Reg) (w : Abs) → HasFacts d e
    → IsWider (register_at d.registers (number_of r)) w → HasFacts d (with_value e r w)
knows_over d e r w h hv = record {
  long = grind (arith, common_steps, h.long);
  wide = h.wide;
  each = overwritten d.registers e.registers (number_of r) w
      (omega (arith, h.long, register_in r)) h.each hv;
  bytes = h.bytes;
}
