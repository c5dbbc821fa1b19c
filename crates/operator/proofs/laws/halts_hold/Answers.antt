use Rattle.operator.proofs.Held.{halts_hold}
use Rattle.operator.proofs.Leading.{serve_loads}
use Rattle.operator.proofs.laws.halts_hold.Goals as goal

pub returns-clause-hold : goal.returns-clause-hold
returns-clause-hold g c =
    let so = c.halts_sound.ensures in
    halts_hold (g.L.Loader.loads c.args.loader.now) so.held so.adds so.lifts

pub returns-clause-serve : goal.returns-clause-serve
returns-clause-serve g c = serve_loads (g.L.Loader.loads c.args.loader.now)
