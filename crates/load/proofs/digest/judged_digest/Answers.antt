use Rattle.load.proofs.InTurn.{are_judged}
use Rattle.load.proofs.digest.judged_digest.Goals as goal

pub unreachable-requires : goal.unreachable-requires
unreachable-requires c =
    let some =
    c.in-None.ensures.judged _ (are_judged c.args.apps.now c.args.programs.now c.requires) in
    absurd cc
