-- The laws of one list.
use Rattle.std.proofs.Common.{◌≡◌, length, ap, sym, ◌∙◌, arith, length-append, None, Some}
use Rattle.std.specs.List.{last_or}
use Rattle.hot_swap.proofs.Prefixes.{prefix_shorter, prefix_whole}
use Rattle.hot_swap.specs.Published.{NeverGoesBack, HasOneRuleset, ShorterBegins}

pub never_goes_back : NeverGoesBack
never_goes_back old new m n r s goes a b =
    let size = sym (ap length goes.onwards.1) ∙ length-append old.rulesets goes.onwards.0 in
    omega (arith, a.generation_is, b.generation_is, size)

pub shorter_begins : ShorterBegins
shorter_begins a b all first second less = record {
  publisher = sym second.publisher ∙ first.publisher;
  onwards =
      prefix_shorter a.rulesets b.rulesets all.rulesets first.onwards second.onwards less;
}

pub has_one_ruleset : HasOneRuleset
has_one_ruleset a b all n r s first second x y =
    let sizes : length a.rulesets ≡ length b.rulesets = sym x.generation_is ∙ y.generation_is in
    let begins = shorter_begins a b all first second (omega (arith, sizes)) in
    let same = prefix_whole a.rulesets b.rulesets begins.onwards (omega (arith, sizes)) in
    let last : Some r ≡ Some s = sym x.rules_are ∙ (ap (last_or None) same ∙ y.rules_are) in
    cc last
