use Rattle.std.proofs.Common.{refl, arith, List}
use Rattle.report.specs.Members.{AppMembers}
use Rattle.report.specs.Events.{names_of_events}
use Rattle.report.proofs.Loops.{all_noted, first_rest, more_noted, none_left}
use Rattle.report.proofs.events.note_events.Goals as goal

pub loop-left-preserved : goal.loop-left-preserved
loop-left-preserved c = λ last rest.
    more_noted (λ (vs : List AppMembers). names_of_events c.args.question vs)
    _ _ _ _ c.loop-left.invariant _ _ _ _ last
    (first_rest c.loop-left.left.now c.app-item.result (omega arith) c.app-item.is) refl
    c.in_ok-note_app_events.ensures rest

pub returns : goal.returns
returns c =
    all_noted (λ (vs : List AppMembers). names_of_events c.args.question vs)
    _ _ _ _ c.loop-left.invariant (none_left c.loop-left.left.now (omega arith)) refl
