-- The program `mov r0, 0` and `exit` is accepted under each shape, and chooses none.
use Rattle.std.proofs.Common.{◌≡◌, ℕ, zero, suc, List, [], ◌∷◌, Some, None}
use Rattle.std.proofs.Common.{Option, Bool, cond, not, true, pos, refl, sym, ap, subst, arith, ◌∙◌}
use Rattle.std.proofs.Common.{le-leb}
use lib.Count.{count_leading_zeros}
use Rattle.std.proofs.lemmas.List.Elements.{All-cons, All-nil}
use Rattle.abs_value.specs.declared.state.AbsState.{AbsState}
use Rattle.abs_value.specs.Numbers.{tidied, tidy}
use Rattle.abs_value.specs.States.{opening_state}
use Rattle.acceptance.specs.declared.program_fault.ProgramFault.TheVariants.{Flow, Verify}
use Rattle.bpf_checks.specs.Rules.{first_rule}
use Rattle.bpf_checks.specs.Transfer.{after, edges}
use Rattle.bpf_checks.specs.declared.refusal.Refusal.TheVariants as refusal
use Rattle.bpf_checks.specs.declared.refusal.VerifierRule.{VerifierRule}
use Rattle.bpf_checks.specs.declared.refusal.VerifierRule.TheVariants as rule
use Rattle.bpf_insn.specs.Program.{Program, ◌>>=◌, at, landing, slots_moved}
use Rattle.bpf_insn.specs.Spelling.{IsEncodable}
use Rattle.bpf_insn.specs.declared.insn.Insn.{Insn}
use Rattle.bpf_insn.specs.declared.insn.Insn.TheVariants.{Mov, Exit}
use Rattle.bpf_insn.specs.declared.operand.Bits.TheVariants.{Bits64}
use Rattle.bpf_insn.specs.declared.operand.Distance.{Distance}
use Rattle.bpf_insn.specs.declared.operand.Operand.TheVariants.{Imm}
use Rattle.bpf_insn.specs.declared.reg.Reg.TheVariants.{R0}
use Rattle.bpf_semantics.specs.Program.{shaped}
use Rattle.bpf_semantics.specs.Run.{AlwaysEnds, last, more}
use Rattle.bpf_verify.specs.Accepted.{IsFine, IsRefusedAt, entry_of, incoming}
use Rattle.cells.specs.Arrays.{AppShape}
use Rattle.flow_check.specs.Edges.{KeepsEdges, KeepsReach, along, start, goes_on}
use Rattle.flow_check.specs.Edges.{jump_of, next_of, target_of}
use Rattle.flow_check.specs.Flow.{IsAcceptedAs, IsFlow, IsLayout}
use Rattle.flow_check.specs.declared.flow_fault.FlowFault.TheVariants as flow
use Rattle.flow_check.specs.declared.flow_fault.FlowRule.TheVariants.{BackJump, Outside}
use Rattle.flow_check.specs.declared.flow_fault.FlowRule.TheVariants.{InsideWide, FallsOff}
use Rattle.load.specs.Source.{RefusesBytes}
use Rattle.load.specs.declared.load_fault.AppFault.{AppFault}
use Rattle.load.specs.declared.load_fault.AppFault.TheVariants as app
use Rattle.manifest.specs.declared.app.ProgramSource.TheVariants as source
use Rattle.stage_rules.specs.Halts.{Halts, halted_program}
use Rattle.stage_rules.proofs.Runs.{chooses_none}

abbrev set_none : Insn
set_none = Mov Bits64 R0 (Imm (pos 0))

abbrev none_code : Program
none_code = Some set_none ∷ Some Exit ∷ []

-- ---- it is a flow

mov_fits : IsEncodable set_none
mov_fits = record {
  first = record {
    opcode = omega arith;
    dst = omega arith;
    src = omega arith;
    offset = record { sfits = omega arith };
    imm = record { sfits = omega arith };
  };
  second = tt;
  number = tt;
}

exit_fits : IsEncodable Exit
exit_fits = record {
  first = record {
    opcode = omega arith;
    dst = omega arith;
    src = omega arith;
    offset = record { sfits = omega arith };
    imm = record { sfits = omega arith };
  };
  second = tt;
  number = tt;
}

none_layout : IsLayout none_code
none_layout = (
  set_none ∷ Exit ∷ [],
  refl,
  All-cons IsEncodable set_none (Exit ∷ []) mov_fits
      (All-cons IsEncodable Exit [] exit_fits (All-nil IsEncodable)),
)

-- neither instruction jumps
no_jump : (s : ℕ) (i : Insn) → at none_code s ≡ Some i → jump_of i ≡ None
no_jump zero i is = let same : set_none ≡ i = cc in ap jump_of (sym same)
no_jump (suc zero) i is = let same : Exit ≡ i = cc in ap jump_of (sym same)
no_jump (suc (suc s)) i is = absurd cc

no_target : (s t : ℕ) (i : Insn) → at none_code s ≡ Some i → target_of s i ≡ Some t → ⊥
no_target s t i is target =
    let none = ap (λ (o : Option Distance). o >>= λ d. landing s (slots_moved d))
    (no_jump s i is) in
    absurd cc

falls_off : (s : ℕ) (i : Insn) → at none_code s ≡ Some i → goes_on i ≡ true → next_of s i ≡ 2 → ⊥
falls_off zero i is on ends =
    let same : set_none ≡ i = cc in
    let e = ap (next_of 0) same ∙ ends in
    absurd (omega (arith, e))
falls_off (suc zero) i is on ends =
    let same : Exit ≡ i = cc in
    let e = ap goes_on same ∙ on in
    absurd cc
falls_off (suc (suc s)) i is on ends = absurd cc

none_edges : (s : ℕ) → KeepsEdges none_code s
none_edges s BackJump (i, is, some, back) = let none = no_jump s i is in absurd cc
none_edges s Outside (i, t, is, target, le) = no_target s t i is target
none_edges s InsideWide (i, t, is, target, half) = no_target s t i is target
none_edges s FallsOff (i, is, on, ends) = falls_off s i is on ends
none_edges s rule h = absurd h

none_reached : (s : ℕ) → KeepsReach none_code s
none_reached zero some = start
none_reached (suc zero) some = along start refl (0, omega arith, refl)
none_reached (suc (suc s)) some = absurd cc

none_flow : IsFlow none_code
none_flow = record {
  program = none_layout;
  some = omega arith;
  short = omega arith;
  edges = none_edges;
  reached = none_reached;
}

none_accepted_as : IsAcceptedAs halted_program none_code
none_accepted_as = (none_flow, refl)

-- ---- it is accepted

abbrev second_state : AppShape → AbsState
second_state shape = after shape 0 opening_state set_none

first_entry : (shape : AppShape) → entry_of (shaped none_code shape) 0 ≡ Some opening_state
unfolding incoming
first_entry shape = refl

second_entry : (shape : AppShape)
    → entry_of (shaped none_code shape) 1 ≡ Some (second_state shape)
unfolding incoming edges
second_entry shape = refl

first_fine : (shape : AppShape) → first_rule shape opening_state set_none ≡ None
unfolding first_rule
first_fine shape = refl

second_fine : (shape : AppShape) → first_rule shape (second_state shape) Exit ≡ None
unfolding first_rule tidied tidy count_leading_zeros
second_fine shape =
    ap (λ (b : Bool). cond (not b) (Some rule.Result) None)
    (le-leb 0 shape.releases (omega arith))

none_fine : (shape : AppShape) (s : ℕ) → IsFine (shaped none_code shape) s
none_fine shape zero e i entry is =
    let state : opening_state ≡ e = let first = first_entry shape in cc in
    let insn : set_none ≡ i = cc in
    sym (ap (λ x. first_rule shape x i) state) ∙ sym (ap (first_rule shape opening_state) insn)
    ∙ first_fine shape
none_fine shape (suc zero) e i entry is =
    let state : second_state shape ≡ e = let second = second_entry shape in cc in
    let insn : Exit ≡ i = cc in
    sym (ap (λ x. first_rule shape x i) state)
    ∙ sym (ap (first_rule shape (second_state shape)) insn) ∙ second_fine shape
none_fine shape (suc (suc s)) e i entry is = absurd cc

not_refused : (shape : AppShape) (s : ℕ) (rule : VerifierRule)
    → IsRefusedAt (shaped none_code shape) s rule → ⊥
not_refused shape s rule refused =
    let fails = refused.fails in
    let fine = none_fine shape s fails.entry fails.insn fails.entry_is fails.insn_is in
    let broken = fails.rule_is in
    absurd cc

accepted : (shape : AppShape) (fault : AppFault) → RefusesBytes halted_program shape fault
    → fault ≡ app.Memory
accepted shape (app.Program (Flow (flow.Rule s rule))) (refused, memory) =
    absurd (refused.1.either none_code s rule none_accepted_as refused.0)
accepted shape (app.Program (Flow flow.Memory)) (refused, memory) = absurd cc
accepted shape (app.Program (Verify (refusal.Rule s rule))) (refused, memory) =
    absurd (not_refused shape s rule
    (subst (λ (code : Program). IsRefusedAt (shaped code shape) s rule)
    (sym (refused.are.only none_code none_accepted_as)) refused.refused))
accepted shape (app.Program (Verify refusal.Memory)) (refused, memory) = absurd cc
accepted shape app.Memory refused = refl
accepted shape fault refused = absurd refused

-- ---- it chooses none

none_ends : AlwaysEnds none_code 0 2
none_ends = λ a shape. more refl (last refl refl)

pub program_halts : (file : List ℕ) → Halts (source.Program file) halted_program
program_halts file = record {
  accepted = accepted;
  none = λ p is. chooses_none p.code 2
      (subst (λ (code : Program). AlwaysEnds code 0 2)
      (is.are.only none_code none_accepted_as) none_ends);
}
