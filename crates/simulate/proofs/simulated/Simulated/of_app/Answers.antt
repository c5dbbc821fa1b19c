use Rattle.std.proofs.Common.{◌≡◌, ◌+◌, ◌-◌, List, ap, arith, drop, subst, take}
use Rattle.ruleset.specs.Rules.{AppRule}
use Rattle.simulate.specs.Picked.{IsPlaceOf}
use Rattle.simulate.specs.Picked.HasPicked.{picked}
use Rattle.simulate.proofs.simulated.Simulated.of_app.Goals as goal

pub returns-clause-picked : goal.returns-clause-picked
returns-clause-picked g c =
    let place = c.in-Some.place in
    let one : place + 1 - place ≡ 1 = omega arith in
    let represents = subst (λ (apps : List AppRule). IsPlaceOf apps c.args.appid.now place)
    c.apps.ensures c.in-Some.ensures.some in
    picked _ place c.in_ok-chosen.ensures.choices represents
    (ap (λ n. take n (drop place c.args.rules.apps)) one) c.in_ok-chosen-2.ensures
