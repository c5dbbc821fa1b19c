use Rattle.std.proofs.Common.{◌≡◌, ◌++◌, length, map}
use Rattle.folder_facts.specs.Shown.{last_steps}
use Rattle.folder_facts.proofs.steps.taken_steps.Given as goal

-- the steps so far, followed by those that are left, are all that are shown
abbrev pub invariant-loop-left : goal.invariant-loop-left
invariant-loop-left g l =
    map (λ step. step.number) l.taken.items ++ map (λ step. step.number) l.left
    ≡ map (λ step. step.number) (last_steps l.steps)

abbrev pub decreases-loop-left : goal.decreases-loop-left
decreases-loop-left g l = length l.left
