use Rattle.std.proofs.Common.{◌≡◌, ◌+◌, length, rules}
use Rattle.bench_answer.specs.Answered.{none, more}
use Rattle.bench_answer.proofs.answers.answer_times.Goals as goal

pub loop-n-init : goal.loop-n-init
loop-n-init g c = (search rules, rw c.new-reply.ensures.items none)

pub loop-n-preserved : goal.loop-n-preserved
loop-n-preserved g c =
    let bytes : c.in_ok-bytes.bytes ≡ c.loop-n.bytes + length c.in_ok-reply.reply.items =
    search rules in
    (search rules, rw bytes (more c.loop-n.invariant.1 c.in_ok-reply.ensures.replied))
