-- The slots that are reached from one, and marks of them.
use Rattle.std.specs.Prelude.{◌≡◌, ℕ, ◌<◌, Bool, false, List, length, Some, Contains}
use Rattle.std.specs.Prelude.{slice_index_or, if◌then◌else◌}
use Rattle.std.specs.List.{sum_by}
use Rattle.bpf_insn.specs.declared.insn.Insn.{Insn}
use Rattle.bpf_insn.specs.Program.{Program, at}
use Rattle.flow_check.specs.Edges.{successors}
use Rattle.flow_check.specs.Sweep.{IsMarked}

-- the slots to which a path of edges leads from `first`
pub data ReachedFrom (p : Program) (first : ℕ) : ℕ → Type 0 where
  here : ReachedFrom p first first
  along : {s t : ℕ} {i : Insn} → ReachedFrom p first s → at p s ≡ Some i
      → Contains (successors s i) t → ReachedFrom p first t

abbrev pub IsUnmarked : List Bool → ℕ → Type 0
IsUnmarked marks t = (t < length marks) × (slice_index_or marks t false ≡ false)

-- a marked slot leads to t, which is unmarked
abbrev pub LeadsOutOf : Program → List Bool → ℕ → Type 0
LeadsOutOf p marks t =
    (s : ℕ) × (i : Insn) × IsMarked marks s × (at p s ≡ Some i) × Contains (successors s i) t
    × IsUnmarked marks t

-- marked slots lead only to marked slots
abbrev pub IsClosed : Program → List Bool → Type 0
IsClosed p marks =
    (s : ℕ) (i : Insn) (t : ℕ) → IsMarked marks s → at p s ≡ Some i → Contains (successors s i) t
    → t < length marks → IsMarked marks t

-- the number of unmarked slots
abbrev pub unmarked_count : List Bool → ℕ
unmarked_count marks = sum_by (λ b. if b then 0 else 1) marks

-- `first` is marked, and each marked slot is reached from it
pub record IsReachedSo (p : Program) (first : ℕ) (marks : List Bool) : Type 0 where
  pub length_is : length marks ≡ length p
  pub sound : (m : ℕ) → IsMarked marks m → ReachedFrom p first m
  pub start : IsMarked marks first

-- exactly the slots of the program that are reached are marked
pub record AreReachedFrom (p : Program) (first : ℕ) (marks : List Bool) : Type 0 where
  pub so : IsReachedSo p first marks
  pub closed : IsClosed p marks
