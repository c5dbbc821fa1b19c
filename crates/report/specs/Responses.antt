-- The replies that a line of totals counts, by status, and how long a client waited at most.
use Rattle.std.specs.Prelude.{ℕ, List, [], ◌∷◌, ◌++◌, codes, decimal, replicate}
use Rattle.report.specs.Members.{LineMembers}
use Rattle.report.specs.Tallies.{RowName}

-- a status once for each whole reply of it
abbrev pub status_names : ℕ × ℕ → List RowName
status_names response = replicate response.1 (decimal response.0)

abbrev pub names_of_statuses : List (ℕ × ℕ) → List RowName
names_of_statuses [] = []
names_of_statuses (response ∷ responses) =
    status_names response ++ names_of_statuses responses

-- and `none` once for each connection that got no whole reply
abbrev pub response_names : LineMembers → List RowName
response_names line =
    names_of_statuses line.responses ++ replicate line.dropped (codes "none")

-- the longest wait of a client for a worker, in microseconds
abbrev pub longest_wait_in : LineMembers → ℕ
longest_wait_in line = line.longest_wait
