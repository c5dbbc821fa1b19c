use Rattle.std.proofs.Common.{arith}
use Rattle.report.specs.Questions.{names_of}
use Rattle.report.proofs.Loops.{all_tables, one_table}
use Rattle.report.proofs.note.note_each.Goals as goal

pub loop-place-preserved : goal.loop-place-preserved
loop-place-preserved c =
    one_table (λ q. names_of c.args.drawn q c.args.line.now) c.args.questions.now
    c.args.tallies.now c.loop-place.left.now c.loop-place.tallies c.loop-place.place _
    c.index-tallies-place.result c.note_question.new.tally c.loop-place.invariant
    (omega (arith, c.in-len1-up.len_at_least))
    (omega (arith, c.loop-place-test.true, c.loop-place.auto.tallies))
    c.in_ok-note_question.ensures

pub returns-in_default : goal.returns-in_default
returns-in_default c =
    all_tables (λ q. names_of c.args.drawn q c.args.line.now) c.args.questions.now
    c.args.tallies.now c.loop-place.left.now c.loop-place.tallies c.loop-place.place
    c.loop-place.invariant (λ some. absurd (omega (arith, some, c.in_default.len_below)))

pub returns : goal.returns
returns c =
    all_tables (λ q. names_of c.args.drawn q c.args.line.now) c.args.questions.now
    c.args.tallies.now c.loop-place.left.now c.loop-place.tallies c.loop-place.place
    c.loop-place.invariant
    (λ some. omega (arith, c.loop-place-test.false, c.loop-place.auto.tallies))
