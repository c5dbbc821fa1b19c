use Rattle.std.proofs.Common.{rules}
use Rattle.world.proofs.Plays.{plays_longer}
use Rattle.world.proofs.run.play.Goals as goal

pub loop-event-preserved : goal.loop-event-preserved
loop-event-preserved c = record {
  many = search rules;
  room = search rules;
  run = λ w represents.
      let come = c.loop-event.invariant.run w represents in
      let next = c.apply-answer.ensures.happens come.0 come.2 in (
        next.0,
        plays_longer w come.0 next.0 c.args.events.now c.loop-event.event-index c.event-item.result
            c.loop-event.answers.items c.push.new.self.items c.apply-answer.result
            c.loop-event-test.true c.event-item.is
            c.in-Ok-push.ensures.items come.1 next.1,
        next.2,
      );
}

pub returns-in_default-clause-safe : goal.returns-in_default-clause-safe
returns-in_default-clause-safe c = c.invariant_law.ensures.safe c.args.events.now

pub returns-in_default-clause-releases : goal.returns-in_default-clause-releases
returns-in_default-clause-releases c = c.invariant_law.ensures.releases c.args.events.now

pub returns-clause-safe : goal.returns-clause-safe
returns-clause-safe c = c.invariant_law.ensures.safe c.args.events.now

pub returns-clause-releases : goal.returns-clause-releases
returns-clause-releases c = c.invariant_law.ensures.releases c.args.events.now
