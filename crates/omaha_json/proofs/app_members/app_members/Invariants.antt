use Rattle.std.proofs.Common.{◌≡◌, ◌++◌, List, length}
use Rattle.serde_json.specs.View.{members_view}
use Rattle.omaha_json.specs.Members.{app_members}
use Rattle.omaha_json.proofs.Named.{Entry}
use Rattle.omaha_json.proofs.app_members.app_members.Given as goal

-- the members from some place on are found
abbrev pub invariant-loop-name : goal.invariant-loop-name
invariant-loop-name l =
    (done : List Entry) × (l.fn.members.entries ≡ l.left.entries ++ done)
    × (l.found ≡ app_members (members_view done))

abbrev pub decreases-loop-name : goal.decreases-loop-name
decreases-loop-name l = length l.left.entries
