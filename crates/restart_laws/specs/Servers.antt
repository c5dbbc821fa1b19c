-- Servers one after another, each of which began with the counters that the one before left.
use Rattle.std.specs.Prelude.{◌≡◌, ℕ, ◌+◌, ◌<◌, ◌^◌, List, [], ◌∷◌, ◌++◌}
use Rattle.std.specs.Prelude.{All, flat_map, slice_index}
use Rattle.cells.specs.declared.event.CellEvent.{CellEvent}
use Rattle.shared_cells.specs.Passes.{ClosedView, events_made}
use Rattle.shared_cells.specs.Quotas.{CountsExactly, add_count}

-- the first opened the counters with these values, each later one with the last values of the one
-- before, and these are the last values of the last
abbrev pub FollowEachOther : (opening : List ℕ) → List ClosedView → (values : List ℕ) → Type 0
FollowEachOther opening [] values = values ≡ opening
FollowEachOther opening (server ∷ later) values =
    (server.cells.opening ≡ opening) × FollowEachOther server.values later values

-- all that they did to counters
abbrev pub made_by_all : List ClosedView → List CellEvent
made_by_all = flat_map (λ server. events_made server.passes)

-- the events counted exactly from the counter's opening value to its last one, if the additions
-- among them don't overflow it
abbrev pub IsExact : ℕ → List ℕ → List ℕ → List CellEvent → Type 0
IsExact counter opening values made =
    slice_index opening counter + add_count counter made < 2 ^ 64
    → CountsExactly counter (slice_index opening counter) (slice_index values counter) made

-- a server counted exactly
abbrev pub Counted : ℕ → ClosedView → Type 0
Counted counter server =
    IsExact counter server.cells.opening server.values (events_made server.passes)

-- If each server counted exactly, all together did. So from 0 on, min(quota, additions) of all
-- their additions found a value below the quota
abbrev pub ServersCountAsOne : Type 0
ServersCountAsOne = (counter : ℕ) (opening values : List ℕ) (servers : List ClosedView)
    → FollowEachOther opening servers values → All (Counted counter) servers
    → IsExact counter opening values (made_by_all servers)

-- whatever servers were before this one, it counts on as one server would
abbrev pub CountsOn : ℕ → ClosedView → Type 0
CountsOn counter server = (opening : List ℕ) (before : List ClosedView)
    → FollowEachOther opening before server.cells.opening → All (Counted counter) before
    → IsExact counter opening server.values (made_by_all before ++ events_made server.passes)

-- this is so of each server that counted exactly
abbrev pub EachCountsOn : Type 0
EachCountsOn = (counter : ℕ) (server : ClosedView) → Counted counter server
    → CountsOn counter server
