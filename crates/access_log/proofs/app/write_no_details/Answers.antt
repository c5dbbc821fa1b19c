use Rattle.std.proofs.Common.{ℕ, true, subst, codes}
use Rattle.std.proofs.lemmas.Result.{on_ok_weaker}
use Rattle.access_log.specs.Members.{count_member}
use Rattle.access_log.specs.Tokens.{AddsTokens}
use Rattle.access_log.proofs.app.write_no_details.Goals as goal

pub returns : goal.returns
returns c =
    on_ok_weaker c.write_count.result
    (λ adds. subst
    (λ (n : ℕ). AddsTokens true true c.args.line.now c.write_count.new.line
    (count_member (codes "event_left_out") n)) c.event_length.ensures adds) c.write_count.ensures
