-- What is known of a published list: the rulesets that a publisher installed, in order.
use Rattle.std.specs.Prelude.{◌≡◌, ◌≤◌, ℕ, List, length, None, Some}
use Rattle.std.specs.List.{last_or}
use mathlib.Core.List.{IsPrefix}
use Rattle.hot_swap.specs.declared.publisher_id.PublisherId.{PublisherId}
use Rattle.ruleset.specs.Rules.{Rules}

-- the publisher of a list, and a prefix of the list
pub record KnownPrefix : Type 0 where
  pub publisher : PublisherId
  pub rulesets : List Rules

-- the list ends with this ruleset
abbrev pub HasLast : List Rules → Rules → Type 0
HasLast rulesets rules = last_or None rulesets ≡ Some rules

-- of all that is known, this ruleset was installed last, as this generation
pub record IsLatest (known : KnownPrefix) (generation : ℕ) (rules : Rules) : Type 0 where
  pub generation_is : generation ≡ length known.rulesets
  pub rules_are : HasLast known.rulesets rules

-- what was known is a prefix of what is known later
pub record Extends (old new : KnownPrefix) : Type 0 where
  pub publisher : new.publisher ≡ old.publisher
  pub onwards : IsPrefix old.rulesets new.rulesets

-- ---- laws of one list

-- generations never go back
abbrev pub NeverGoesBack : Type 0
NeverGoesBack = (old new : KnownPrefix) (m n : ℕ) (r s : Rules)
    → Extends old new → IsLatest old m r → IsLatest new n s → m ≤ n

-- a generation has one ruleset, the same for all that know a prefix of one list
abbrev pub HasOneRuleset : Type 0
HasOneRuleset = (a b all : KnownPrefix) (n : ℕ) (r s : Rules)
    → Extends a all → Extends b all → IsLatest a n r → IsLatest b n s → r ≡ s

-- of two prefixes of one list, the shorter is a prefix of the longer
abbrev pub ShorterBegins : Type 0
ShorterBegins = (a b all : KnownPrefix) → Extends a all → Extends b all
    → length a.rulesets ≤ length b.rulesets → Extends a b
