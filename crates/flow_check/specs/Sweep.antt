-- One upward sweep marks the slots that are reached; its invariant once it has passed the slots
-- before k.
use Rattle.std.specs.Prelude.{◌≡◌, ℕ, ◌<◌, ◌⊎◌, Bool, true, false, List, length, Option, Some, None}
use Rattle.std.specs.Prelude.{IsTrue, Contains, slice_index_or, slice_set}
use Rattle.bpf_insn.specs.declared.insn.Insn.{Insn}
use Rattle.bpf_insn.specs.Program.{Program, at}
use Rattle.flow_check.specs.Edges.{successors, Reached, KeepsReach}

abbrev pub IsMarked : List Bool → ℕ → Type 0
IsMarked marks m = IsTrue (slice_index_or marks m false)

abbrev pub marked : List Bool → Option ℕ → List Bool
marked marks None = marks
marked marks (Some t) = slice_set marks t true

pub record IsMarkedTo (p : Program) (k : ℕ) (marks : List Bool) : Type 0 where
  pub length_is : length marks ≡ length p
  pub start : IsMarked marks 0
  pub sound : (m : ℕ) → IsMarked marks m → Reached p m
  pub complete : (s : ℕ) (i : Insn) (t : ℕ) → s < k → at p s ≡ Some i
      → Contains (successors s i) t → IsMarked marks t
  pub reached : (s : ℕ) → s < k → KeepsReach p s

-- only these slots, and those that were marked, are marked
abbrev pub MarksOnly : List Bool → List Bool → List ℕ → Type 0
MarksOnly old new places = (m : ℕ) → IsMarked new m → IsMarked old m ⊎ Contains places m

-- the lowest slot whose instruction isn't reached, if there is one
abbrev pub IsLowestUnreached : Program → Option ℕ → Type 0
IsLowestUnreached p None = (k : ℕ) → KeepsReach p k
IsLowestUnreached p (Some s) = (¬ KeepsReach p s) × ((k : ℕ) → k < s → KeepsReach p k)
