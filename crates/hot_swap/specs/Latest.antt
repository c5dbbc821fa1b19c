-- What a publisher holds: all that it installed, the last of it, and its places.
use Rattle.std.specs.Prelude.{◌≡◌, ℕ, ◌+◌, [], ◌∷◌, ◌++◌, Option, Some, All}
use Rattle.logbook.specs.Pages.{Book}
use Rattle.hot_swap.specs.Book.{id_of}
use Rattle.hot_swap.specs.Published.{KnownPrefix, HasLast}
use Rattle.hot_swap.specs.declared.publisher_id.PublisherId.{PublisherId}
use Rattle.ruleset.specs.Rules.{Rules, IsRuleset}

-- a ruleset and its generation, both published by one install
pub record Latest : Type 0 where
  pub generation : ℕ
  pub rules : Rules

abbrev pub latest : ℕ → Rules → Latest
latest generation rules = record { generation = generation; rules = rules }

-- all that was installed, what was installed last, and for how many watchers there still is a place
pub record Publishing : Type 0 where
  pub known : KnownPrefix
  pub latest : Latest
  pub places : ℕ

-- the ruleset is installed as the next generation, after all that was installed
pub record Installs (old : Publishing) (rules : Rules) (generation : ℕ) (new : Publishing)
    : Type 0 where
  pub next : generation ≡ old.latest.generation + 1
  pub installed : new.latest ≡ latest generation rules
  pub places : new.places ≡ old.places
  pub publisher : new.known.publisher ≡ old.known.publisher
  pub listed : new.known.rulesets ≡ old.known.rulesets ++ rules ∷ []

-- what a publisher keeps: its list is sound and ends with its last ruleset; its seat (a ghost
-- token), what is published and its book belong to the list's publisher
pub record IsPublisher (known : KnownPrefix) (rules : Rules) (seat : Option PublisherId)
    (shown : PublisherId) (book : Book) : Type 0 where
  pub last : HasLast known.rulesets rules
  pub sound : All IsRuleset known.rulesets
  pub seat_is : seat ≡ Some known.publisher
  pub shown_is : shown ≡ known.publisher
  pub book_is : id_of book ≡ known.publisher
