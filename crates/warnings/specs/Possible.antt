-- Possible results of a condition: for all clients in a bucket whose version lies at a spot, or for
-- one client with each counter replying 0.
use Rattle.std.specs.Prelude.{ℕ, List, [], ◌∷◌, Option, Some, min}
use Rattle.std.specs.Prelude.{Bool, true, false, not, ◌&&◌, ◌||◌}
use Rattle.std.specs.Ordering.{nat_cmp}
use Rattle.attrs.specs.Attributes.{Attributes}
use Rattle.cells.specs.Arrays.{AppShape}
use Rattle.rule_lang.specs.declared.condition.Step.{Step}
use Rattle.rule_lang.specs.declared.test.Comparison.{Comparison}
use Rattle.rule_lang.specs.declared.test.Test.{Test}
use Rattle.rule_lang.specs.declared.test.Test.TheVariants as test
use Rattle.rule_lang.specs.Meaning.{allows, test_holds}
use Rattle.rule_lang.specs.Trees.{Tree, Leaf, Negated, Both, Either, trees_from}
use Rattle.warnings.specs.declared.possible.Possible.{Possible}
use Rattle.warnings.specs.declared.possible.Clients.{Clients}
use Rattle.warnings.specs.declared.possible.Clients.TheVariants.{AllAt, One}
use Rattle.warnings.specs.declared.spot.Spot.{Spot}
use Rattle.warnings.specs.Spots.{spot_at, spot_cmp}

-- only this result is possible, or either
abbrev pub decided : Bool → Possible
decided b = record { holds = b; fails = not b }

abbrev pub undecided : Possible
undecided = record { holds = true; fails = true }

-- ---- tests

-- the last day at which a server evaluates rules, that of 9999-12-31
abbrev pub last_today : ℕ
last_today = 2919382

-- the last day of installation; an unknown day has this number also
abbrev pub last_install_day : ℕ
last_install_day = 4294967295

-- how a day from 0 to `last` may compare with a number: as 0 does, as `last` does, or as the day
-- nearest to the number
abbrev pub day_possible : (last : ℕ) → Comparison → ℕ → Possible
day_possible last r n =
    let at_first = allows r (nat_cmp 0 n) in
    let at_nearest = allows r (nat_cmp (min n last) n) in
    let at_last = allows r (nat_cmp last n) in
    record {
      holds = at_first || at_nearest || at_last;
      fails = not at_first || not at_nearest || not at_last;
    }

-- the version lies at the spot, the bucket is known, and other attributes are open
abbrev pub open_possible : Spot → Attributes → AppShape → Test → Possible
open_possible spot a s (test.Version r w) = decided (allows r (spot_cmp spot (spot_at w)))
open_possible spot a s (test.Bucket salt modulus r n) =
    decided (test_holds a s 0 (test.Bucket salt modulus r n))
open_possible spot a s (test.Today r n) = day_possible last_today r n
open_possible spot a s (test.Installed r n) = day_possible last_install_day r n
open_possible spot a s t = undecided

abbrev pub test_possible : Clients → Attributes → AppShape → Test → Possible
test_possible (AllAt spot) a s t = open_possible spot a s t
test_possible One a s t = decided (test_holds a s 0 t)

-- ---- conditions

abbrev pub negated : Possible → Possible
negated p = record { holds = p.fails; fails = p.holds }

abbrev pub both : Possible → Possible → Possible
both p q = record { holds = p.holds && q.holds; fails = p.fails || q.fails }

abbrev pub either : Possible → Possible → Possible
either p q = record { holds = p.holds || q.holds; fails = p.fails && q.fails }

abbrev pub tree_possible : (Test → Possible) → Tree → Possible
tree_possible of (Leaf line t) = of t
tree_possible of (Negated c) = negated (tree_possible of c)
tree_possible of (Both b c) = both (tree_possible of b) (tree_possible of c)
tree_possible of (Either b c) = either (tree_possible of b) (tree_possible of c)

-- the steps of a condition form one tree
abbrev pub one_possible : (Test → Possible) → Option (List Tree) → Possible
one_possible of (Some (c ∷ [])) = tree_possible of c
one_possible of trees = decided false

abbrev pub steps_possible : (Test → Possible) → List Step → Possible
steps_possible of steps = one_possible of (trees_from [] steps)
