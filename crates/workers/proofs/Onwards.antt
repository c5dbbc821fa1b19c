-- The known part of a published list only grows.
use Rattle.std.proofs.Common.{◌≡◌, ℕ, List, [], ◌++◌, length, All, refl, sym, ap, subst, ◌∙◌}
use Rattle.std.proofs.Common.{append_assoc, append-nil}
use Rattle.hot_swap.specs.Published.{KnownPrefix, Extends, HasLast, IsLatest}
use Rattle.ruleset.specs.Rules.{Rules, IsRuleset}
use Rattle.workers.specs.Back.{IsPublished}

pub goes_nowhere : (known : KnownPrefix) → Extends known known
goes_nowhere known = record { publisher = refl; onwards = ([], append-nil known.rulesets) }

pub goes_further : (u v w : KnownPrefix) → Extends u v → Extends v w → Extends u w
goes_further u v w first then_on = record {
  publisher = then_on.publisher ∙ first.publisher;
  onwards = (
    first.onwards.0 ++ then_on.onwards.0,
    sym (append_assoc u.rulesets first.onwards.0 then_on.onwards.0)
        ∙ ap (λ (l : List Rules). l ++ then_on.onwards.0) first.onwards.1 ∙ then_on.onwards.1,
  );
}

-- the notice of a publisher with this list
pub is_published : (known published : KnownPrefix) (generation latest : ℕ) (rules : Rules)
    → published ≡ known → generation ≡ latest → IsLatest known latest rules
    → All IsRuleset known.rulesets → IsPublished published generation
is_published known published generation latest rules same is last sound = record {
  sound = subst (λ (b : KnownPrefix). All IsRuleset b.rulesets) (sym same) sound;
  rules = rules;
  last = record {
    generation_is =
        is ∙ last.generation_is ∙ ap (λ (b : KnownPrefix). length b.rulesets) (sym same);
    rules_are = subst (λ (b : KnownPrefix). HasLast b.rulesets rules) (sym same) last.rules_are;
  };
}
