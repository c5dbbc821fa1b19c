use Rattle.std.proofs.Common.{map}
use Rattle.server_metrics.proofs.Written.{state_put}
use Rattle.server_metrics.proofs.texts.push_lines.Goals as goal

pub returns : goal.returns
returns c =
    let lines = map (λ line. line.now) c.args.lines.now in
    state_put lines _ _ _ _ _ _ _ _ c.word_in.ensures c.word_in-2.ensures c.word_in-3.ensures
    c.path_of_load.ensures c.in_ok-push_generation.ensures c.in_ok-push_ruleset.ensures
    c.in_ok-push_halted.ensures
