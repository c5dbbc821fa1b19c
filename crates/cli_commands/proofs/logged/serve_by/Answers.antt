use Rattle.std.proofs.Common.{subst, ℕ}
use Rattle.std.specs.Io.KnownBytes.{Appends}
use Rattle.workers.specs.Texts.{serving_line}
use Rattle.cli_commands.proofs.logged.serve_by.Goals as goal

pub returns-in-Ok-serve-clause-printed : goal.returns-in-Ok-serve-clause-printed
returns-in-Ok-serve-clause-printed g c =
    subst (λ (n : ℕ). Appends (g.O.Write.contents c.args.out.now)
    (g.O.Write.contents c.serve.new.out) (serving_line n)) c.in-Ok.ensures.first
    c.in-Ok-serve.ensures.printed
