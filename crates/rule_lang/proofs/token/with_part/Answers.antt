use Rattle.rule_lang.proofs.Runs.{with_part_run}
use Rattle.rule_lang.proofs.token.with_part.Goals as goal

pub returns-clause-run : goal.returns-clause-run
returns-clause-run c =
    rw (c.part_length.ensures.is, c.split_at.ensures.back)
    (with_part_run c.args.s.now c.args.n c.requires.run)
