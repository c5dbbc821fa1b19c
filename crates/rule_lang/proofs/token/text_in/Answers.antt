use Rattle.rule_lang.proofs.Runs.{run_is_utf8}
use Rattle.rule_lang.proofs.token.text_in.Goals as goal

pub unreachable-requires : goal.unreachable-requires
unreachable-requires c =
    c.in-Err.ensures.cases.0
    (run_is_utf8 c.args.class c.args.s.now c.args.n c.requires.ascii c.requires.run)
