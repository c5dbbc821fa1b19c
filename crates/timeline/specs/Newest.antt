-- The newest installs of a version, by which its failures are judged.
use Rattle.std.specs.Prelude.{ℕ, ◌+◌, ◌*◌, List, ◌∷◌, codes, Bool, ◌&&◌, nat_le, nat_lt}
use Rattle.std.specs.Prelude.{if◌then◌else◌, sum}
use Rattle.report.specs.Tallies.{Rows}
use Rattle.timeline.specs.Bins.{counts_by_bin}
use Rattle.timeline.specs.Marks.{of_all, of_version}
use Rattle.timeline.specs.declared.bins.Bins.{Bins}
use Rattle.timeline.specs.declared.newest.Outcomes.{Outcomes}

abbrev pub outcomes_of : (installs failures : ℕ) → Outcomes
outcomes_of installs failures = record { installs = installs; failures = failures }

-- Of the counts in each bin, those of the last bins: as few bins as have 20 installs, or all.
abbrev pub newest : (installs failures : List ℕ) → Outcomes
newest (n ∷ installs) (m ∷ failures) =
    if nat_le 20 (sum installs) then newest installs failures
    else outcomes_of (n + sum installs) (m + sum failures)
newest installs failures = outcomes_of 0 0

-- the newest installs of a version
abbrev pub newest_of : Bins → Rows → (app version : List ℕ) → Outcomes
newest_of bins rows app version =
    newest (counts_by_bin bins (of_version (of_all (codes "installs") app) version) rows)
    (counts_by_bin bins (of_version (of_all (codes "failures") app) version) rows)

-- by these bins if they have 20 installs
abbrev pub judged_by : Bins → Rows → (app version : List ℕ) → (others : Outcomes) → Outcomes
judged_by bins rows app version others =
    if nat_le 20 (Outcomes.installs (newest_of bins rows app version))
    then newest_of bins rows app version else others

-- a version fails if of 20 or more newest installs at least three failed, and above 5 percent
abbrev pub fails : Outcomes → Bool
fails o = nat_le 20 o.installs && nat_le 3 o.failures && nat_lt o.installs (o.failures * 20)
