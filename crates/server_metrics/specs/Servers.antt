-- What a server says in the text format of Prometheus, version 0.0.4: for each gauge its help and
-- its type, and then its samples.
use Rattle.std.specs.Prelude.{ℕ, List, [], ◌++◌, codes, Bool, true, false, Option, Some, None}
use Rattle.std.specs.Prelude.{unwrap_or}
use Rattle.std.specs.List.{flat_map}
use Rattle.std.specs.Str.Lines.{lines}
use Rattle.cell_assignments.specs.Assignments.{assignments_in}
use Rattle.report.specs.Counters.{counters_exposition}
use Rattle.report.specs.Exposition.{label}
use Rattle.server_replies.specs.Replies.{first_after, path_of_load, text_after}
use Rattle.server_replies.specs.Said.{Replies}

abbrev pub gauge : (name help : List ℕ) → List ℕ
gauge name help =
    codes "# HELP " ++ name ++ codes " " ++ help ++ codes "\n"
    ++ codes "# TYPE " ++ name ++ codes " gauge\n"

abbrev pub up_sample : Bool → List ℕ
up_sample true = codes "rollout_up 1\n"
up_sample false = codes "rollout_up 0\n"

abbrev pub up_metric : Bool → List ℕ
up_metric is_up =
    gauge (codes "rollout_up") (codes "Whether the server replies.") ++ up_sample is_up

abbrev pub generation_metric : List ℕ → List ℕ
generation_metric digits =
    gauge (codes "rollout_generation") (codes "The generation served.")
    ++ codes "rollout_generation " ++ digits ++ codes "\n"

-- the digest and the path of the last load
abbrev pub ruleset_metric : (digest path : List ℕ) → List ℕ
ruleset_metric digest path =
    gauge (codes "rollout_ruleset") (codes "What was loaded last.")
    ++ codes "rollout_ruleset{" ++ label (codes "digest") digest ++ codes ","
    ++ label (codes "path") path ++ codes "} 1\n"

abbrev pub halted_sample : Option (List ℕ) → List ℕ
halted_sample None = []
halted_sample (Some appid) =
    codes "rollout_app_halted{" ++ label (codes "appid") appid ++ codes "} 1\n"

abbrev pub halted_samples : List (List ℕ) → List ℕ
halted_samples lines = flat_map (λ line. halted_sample (text_after (codes "halted") line)) lines

abbrev pub halted_metric : List (List ℕ) → List ℕ
halted_metric lines =
    gauge (codes "rollout_app_halted") (codes "Apps that are halted.") ++ halted_samples lines

-- what follows a word in the lines, or nothing
abbrev pub word_in : (word : List ℕ) → List (List ℕ) → List ℕ
word_in word lines = unwrap_or (first_after word lines) []

abbrev pub lines_metrics : List (List ℕ) → List ℕ
lines_metrics lines =
    generation_metric (word_in (codes "generation") lines)
    ++ ruleset_metric (word_in (codes "digest") lines)
    (path_of_load (word_in (codes "loaded") lines))
    ++ halted_metric lines

-- an older server has no state
abbrev pub state_metrics : Option (List ℕ) → List ℕ
state_metrics None = []
state_metrics (Some reply) = lines_metrics (lines reply)

abbrev pub cells_exposition : List ℕ → List ℕ
cells_exposition reply = counters_exposition (assignments_in (lines reply))

-- a server that doesn't reply only has the sample 0
abbrev pub replies_exposition : Option Replies → List ℕ
replies_exposition None = up_metric false
replies_exposition (Some replies) =
    up_metric true ++ state_metrics replies.state ++ cells_exposition replies.cells

-- empty without a server
abbrev pub server_exposition : Option (Option Replies) → List ℕ
server_exposition None = []
server_exposition (Some replies) = replies_exposition replies
