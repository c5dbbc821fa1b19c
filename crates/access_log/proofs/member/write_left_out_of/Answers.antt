use Rattle.std.proofs.Common.{ℕ, true, subst}
use Rattle.std.proofs.lemmas.Result.{on_ok_weaker}
use Rattle.access_log.specs.Members.{count_member}
use Rattle.access_log.specs.Tokens.{AddsTokens}
use Rattle.access_log.proofs.member.write_left_out_of.Goals as goal

pub returns : goal.returns
returns c =
    on_ok_weaker c.write_count.result
    (λ adds. subst
    (λ (n : ℕ). AddsTokens true true c.args.line.now c.write_count.new.line
    (count_member c.args.name.now n)) c.left_out.ensures adds) c.write_count.ensures
