-- A fault of the marked slots is a fault of the bytes, and F7 is one if the marked slots have none.
use Rattle.std.proofs.Common.{◌≡◌, ℕ, ◌<◌, Bool, List, Some, refl, arith, inl, inr}
use Rattle.bpf_insn.specs.declared.insn.Insn.{Insn}
use Rattle.bpf_insn.specs.Program.{Program, at}
use Rattle.flow_check.specs.declared.flow_fault.FlowRule.{FlowRule}
use Rattle.flow_check.specs.declared.flow_fault.FlowRule.TheVariants.{BackJump, Outside}
use Rattle.flow_check.specs.declared.flow_fault.FlowRule.TheVariants.{InsideWide, FallsOff}
use Rattle.flow_check.specs.declared.flow_fault.FlowRule.TheVariants.{Empty, TooLong}
use Rattle.flow_check.specs.declared.flow_fault.FlowRule.TheVariants.{Insn as NoInsn}
use Rattle.flow_check.specs.declared.flow_fault.FlowFault.{FlowFault}
use Rattle.flow_check.specs.declared.flow_fault.FlowFault.TheVariants.{Rule, Memory}
use Rattle.flow_check.specs.Fault.{IsFlowFault, IsOfReading, IsRead}
use Rattle.flow_check.specs.Sweep.{IsMarked}
use Rattle.block_order.specs.Reach.{ReachedFrom, AreReachedFrom}
use Rattle.block_order.specs.Refusal.{IsStray, StaysWithin, ClosesCycle, IsStrayBy}
use Rattle.block_order.specs.Refusal.{IsFirstStray, IsOrderFault}
use Rattle.block_order.proofs.Marks.{reached_marked}

-- an instruction is at a slot with an edge that leads onto no instruction
stray_at : (p : Program) (s : ℕ) (rule : FlowRule) → IsStray p s rule
    → (i : Insn) × (at p s ≡ Some i)
stray_at p s BackJump (i, is, jumps, below) = (i, is)
stray_at p s Outside (i, t, is, lands, past) = (i, is)
stray_at p s InsideWide (i, t, is, lands, half) = (i, is)
stray_at p s FallsOff (i, is, goes, ends) = (i, is)
stray_at p s rule stray = absurd stray

-- unreadable bytes have the same fault
pub unread : (bytes : List ℕ) (e : FlowFault) → IsFlowFault bytes e → IsOfReading e
    → IsOrderFault bytes e
unread bytes (Rule s Empty) fault kind = fault
unread bytes (Rule s TooLong) fault kind = (fault.1, inl fault.0)
unread bytes (Rule s (NoInsn e)) fault kind = fault
unread bytes (Rule s rule) fault kind = absurd (omega (arith, kind))
unread bytes Memory fault kind = tt

module _ (p : Program) (marks : List Bool) (reached : AreReachedFrom p 0 marks) where
  within_reached : (s : ℕ) → (IsMarked marks s → StaysWithin p s) → ReachedFrom p 0 s
      → StaysWithin p s
  within_reached s within from rule stray =
      let o : (i : Insn) × (at p s ≡ Some i) = stray_at p s rule stray in
      within (reached_marked p 0 marks reached s from o.0 o.1) rule stray

  acyclic_reached : (s : ℕ) → (IsMarked marks s → ¬ ClosesCycle p s) → ReachedFrom p 0 s
      → ¬ ClosesCycle p s
  acyclic_reached s straight from closes =
      straight (reached_marked p 0 marks reached s from closes.0 closes.2) closes

  module _ (bytes : List ℕ) (read : IsRead bytes p) where
    pub stray_first : (s : ℕ) (rule : FlowRule) → IsMarked marks s → IsStrayBy p s rule
        → ((t : ℕ) → t < s → IsMarked marks t → StaysWithin p t) → IsOrderFault bytes (Rule s rule)
    stray_first s rule mark breaks before = told rule breaks
      where
        first : (rule : FlowRule) → IsStrayBy p s rule → IsFirstStray bytes s rule
        first rule breaks = record {
          program = p;
          read = read;
          reached = reached.so.sound s mark;
          breaks = breaks;
          before = λ t lt. within_reached t (before t lt);
        }

        told : (rule : FlowRule) → IsStrayBy p s rule → IsOrderFault bytes (Rule s rule)
        told BackJump breaks = inl (first BackJump breaks)
        told Outside breaks = first Outside breaks
        told InsideWide breaks = first InsideWide breaks
        told FallsOff breaks = first FallsOff breaks
        told rule breaks = absurd breaks.strays

    module _ (within : (s : ℕ) → IsMarked marks s → StaysWithin p s) where
      pub cycle_first : (s : ℕ) → IsMarked marks s → ClosesCycle p s
          → ((t : ℕ) → t < s → IsMarked marks t → ¬ ClosesCycle p t)
          → IsOrderFault bytes (Rule s BackJump)
      cycle_first s mark closes before = inr record {
        program = p;
        read = read;
        within = λ t. within_reached t (within t);
        reached = reached.so.sound s mark;
        closes = closes;
        before = λ t lt. acyclic_reached t (before t lt);
      }

      pub orderable : ((s : ℕ) → IsMarked marks s → ¬ ClosesCycle p s)
          → IsOrderFault bytes (Rule 0 TooLong)
      orderable acyclic = (
        refl,
        inr record {
          program = p;
          read = read;
          within = λ t. within_reached t (within t);
          acyclic = λ t. acyclic_reached t (acyclic t);
        },
      )
