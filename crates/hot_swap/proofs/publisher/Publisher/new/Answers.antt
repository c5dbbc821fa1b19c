use Rattle.std.proofs.Common.{◌≡◌, [], ◌∷◌, rules, refl, subst}
use Rattle.std.proofs.lemmas.List.Elements.{All-cons, All-nil}
use Rattle.std.specs.Arc.{arc_value}
use Rattle.ruleset.specs.Rules.{IsRuleset}
use Rattle.hot_swap.proofs.publisher.Publisher.new.Goals as goal

pub invariant_of-result : goal.invariant_of-result
invariant_of-result g c =
    let first = arc_value c.args.first in
    let listed : c.in-Some.known.rulesets ≡ first ∷ [] = search rules in
    let same : c.deref.result.now ≡ first = cc in
    let sound : IsRuleset first = subst IsRuleset same c.invariant_law.ensures.sound in
    record {
      last = rw listed refl;
      sound = rw listed (All-cons IsRuleset first [] sound (All-nil IsRuleset));
      seat_is = search rules;
      shown_is = search rules;
      book_is = search rules;
    }
