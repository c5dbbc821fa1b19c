use Rattle.std.proofs.Common.{rules, ◌≡◌, ◌∷◌, length}
use Rattle.why_refused_rule.proofs.Trials.{none_left, one_more}
use Rattle.why_refused_rule.proofs.trial.«+add_samples».Goals as goal

pub returns-in-None : goal.returns-in-None
returns-in-None t c =
    let empty : length c.args.among.now ≡ 0 = search rules in
    none_left _ _ _ _ empty

pub returns-in-Some-add_sample : goal.returns-in-Some-add_sample
returns-in-Some-add_sample t c =
    let whole : c.args.among.now ≡ c.in-Some.first.now ∷ c.in-Some.rest.now = search rules in
    one_more c.args.shape.now c.args.before.now c.in-Some.first.now c.args.among.now
    c.in-Some.rest.now c.args.found.now.items c.add_sample.new.found.items
    c.add_samples.new.found.items c.add_samples.result whole
    c.in-Some-add_sample.ensures c.add_samples.ensures
