use Rattle.std.proofs.Common.{ap, arith, ◌∙◌}
use Rattle.diff_space.specs.Groups.{Tuple}
use Rattle.diff_space.proofs.Grown.{noted}
use Rattle.diff_space.proofs.group.add_bucket.Goals as goal

pub returns-in_ok-add_bucket : goal.returns-in_ok-add_bucket
returns-in_ok-add_bucket c =
    noted c.args.tuples.now.items c.args.place c.add_bucket.new.self c.index_mut.result.now
    (omega (arith, c.args.tuples.now.ok.0))
    (c.add_bucket.ensures ∙ ap (λ (t : Tuple). t.cells) c.index_mut.ensures.value)

pub returns-in_err-add_bucket : goal.returns-in_err-add_bucket
returns-in_err-add_bucket c =
    noted c.args.tuples.now.items c.args.place c.add_bucket.new.self c.index_mut.result.now
    (omega (arith, c.args.tuples.now.ok.0))
    (c.add_bucket.ensures ∙ ap (λ (t : Tuple). t.cells) c.index_mut.ensures.value)
