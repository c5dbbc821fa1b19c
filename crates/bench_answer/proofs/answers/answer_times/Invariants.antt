use Rattle.bench_answer.specs.Answered.{AreAnswers}
use Rattle.bench_answer.proofs.answers.answer_times.Given as goal

-- the replies so far
abbrev pub invariant-loop-n : goal.invariant-loop-n
invariant-loop-n g l =
    g.C.CellSteps.belongs l.cells l.pass
    × AreAnswers (g.C.CellSteps.grew) l.input l.initial.pass l.n l.pass l.bytes l.reply.items
