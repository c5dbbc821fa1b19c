use Rattle.std.proofs.Common.{ap, option_map, sym, ◌∙◌}
use Rattle.std.proofs.lemmas.Bool.{both_ways}
use Rattle.diff_rules.specs.Search.{is_possible}
use Rattle.diff_rules.proofs.Covered.{has_same, is_added}
use Rattle.diff_rules.proofs.splitting.add_segment.Goals as goal

pub returns-then-not-is_possible-clause-here : goal.returns-then-not-is_possible-clause-here
returns-then-not-is_possible-clause-here c = λ place agrees may here.
    let possible = option_map (λ marks. marks.items) c.args.possible.now in
    absurd (both_ways (is_possible possible c.args.segment)
    (sym c.is_possible.ensures ∙ c.if-not-is_possible.true)
    (ap (is_possible possible) (sym here) ∙ may))

pub returns-clause-here : goal.returns-clause-here
returns-clause-here c = λ place agrees may here.
    has_same _ c.push.new.self.items place c.in_ok-push.ensures.items
    (is_added c.args.left.now.items c.args.partial.now c.in_ok-more.more c.args.dimension
    c.args.segment c.in_ok-more.ensures place agrees here)
