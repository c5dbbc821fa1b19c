use Rattle.std.proofs.Common.{ℕ, ◌+◌, ◌++◌, List, length}
use Rattle.load.specs.declared.judged.AppProgram.{AppProgram}
use Rattle.load.specs.declared.load_fault.AppFault.{AppFault}
use Rattle.load.specs.Judged.{IsFirstRefused}
use Rattle.load.specs.JudgedApps.{AreAppPrograms}
use Rattle.load.proofs.programs.judge_each.Given as goal

-- the verdicts on the apps that are left, after the programs so far, complete the verdict on all
abbrev pub invariant-loop-left : goal.invariant-loop-left
invariant-loop-left l = record {
  so_far : (rest : List AppProgram) → AreAppPrograms l.left rest
      → AreAppPrograms l.fn.apps (l.programs.items ++ rest);
  refused : (number : ℕ) (fault : AppFault) → IsFirstRefused l.left number fault
      → IsFirstRefused l.fn.apps (length l.programs.items + number) fault;
}

abbrev pub decreases-loop-left : goal.decreases-loop-left
decreases-loop-left l = length l.left
