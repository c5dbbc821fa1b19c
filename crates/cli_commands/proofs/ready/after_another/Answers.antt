use Rattle.std.proofs.Common.{ℕ, List, subst}
use Rattle.serving.specs.Manifests.{RefusesToServe}
use Rattle.cli_commands.proofs.Refused.{refused_with}
use Rattle.cli_commands.proofs.ready.after_another.Goals as goal

pub returns-in-Err-opened_with-clause-fault : goal.returns-in-Err-opened_with-clause-fault
returns-in-Err-opened_with-clause-fault g c =
    let known = g.D.Disk.known c.args.disk.now in
    let counters = c.in-Ok.opened.counters in
    refused_with known c.args.args.now c.args.path counters c.in-Err-opened_with.fault
    c.requires.named c.in-Ok.ensures.cells
    (subst (λ (manifest : List ℕ). RefusesToServe known manifest counters.directory
    c.in-Err-opened_with.fault) c.requires.path c.in-Err-opened_with.ensures.refused)
