-- Which publisher each seat (a ghost token) knows.
use Rattle.std.specs.Prelude.{◌≡◌, ℕ, List, Option, Some}
use mathlib.Core.Option.{some}
use lib.ListN.{get_elem?}
use Rattle.hot_swap.specs.declared.publisher_id.PublisherId.{PublisherId}
use Rattle.hot_swap.specs.declared.published_ruleset.PublishedRuleset.{PublishedRuleset}

-- each seat that knows a publisher knows the one of the published ruleset
abbrev pub KnowOnePublisher : PublishedRuleset → List (Option PublisherId) → Type 0
KnowOnePublisher shown views = (seat : ℕ) (id : PublisherId)
    → get_elem? views seat ≡ some (Some id) → id ≡ shown.known.publisher

-- after a look or a publish the seat knows the publisher, which is the one that it knew, if any
abbrev pub NamesPublisher : Option PublisherId → PublishedRuleset → PublishedRuleset
    → Option PublisherId → Type 0
NamesPublisher before old new after = (after ≡ Some new.known.publisher)
    × ((id : PublisherId) → before ≡ Some id → id ≡ new.known.publisher)
