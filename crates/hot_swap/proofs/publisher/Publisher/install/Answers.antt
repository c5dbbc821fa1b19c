use Rattle.std.proofs.Common.{◌≡◌, ◌++◌, [], ◌∷◌, All, None, rules, subst}
use Rattle.std.proofs.lemmas.List.Elements.{All-append, All-cons, All-nil}
use Rattle.std.specs.Arc.{arc_value}
use Rattle.hot_swap.proofs.Prefixes.{has_last}
use Rattle.hot_swap.proofs.publisher.Publisher.install.Goals as goal
use Rattle.ruleset.specs.Rules.{IsRuleset}

pub invariant_of-self-2 : goal.invariant_of-self-2
invariant_of-self-2 g c =
    let operation = c.in-Ok.operation in
    let old = c.self.inside.known.rulesets in
    let next = arc_value c.args.next in
    let listed : c.in-Some.known.rulesets
    ≡ operation.known.rulesets ++ arc_value operation.rules ∷ [] = search rules in
    let same : c.deref.result.now ≡ next = cc in
    let sound : IsRuleset next = subst IsRuleset same c.invariant_law.ensures.sound in
    let all : All IsRuleset (old ++ next ∷ []) =
    All-append IsRuleset old (next ∷ []) c.self.invariant.sound
    (All-cons IsRuleset next [] sound (All-nil IsRuleset)) in
    record {
      last = rw (listed, c.in-Ok.ensures.1) (has_last None operation.known.rulesets next);
      sound = rw (listed, c.in-Ok.ensures.0, c.in-Ok.ensures.1) all;
      seat_is = search rules;
      shown_is = search rules;
      book_is = search rules;
    }
