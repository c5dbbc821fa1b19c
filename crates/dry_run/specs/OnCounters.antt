-- The reply to a body on counters with given values, and why there is none.
use Rattle.std.specs.Prelude.{◌≡◌, ℕ, ℤ, List, None, Err}
use Rattle.bounded_files.specs.declared.resource_fault.ResourceFault.TheVariants as resource
use Rattle.cells.specs.Events.{AreZeros}
use Rattle.cells.specs.declared.array.CellArray.{CellArray}
use Rattle.omaha_json.specs.Request.{request_in}
use Rattle.omaha_json.specs.declared.omaha_fault.OmahaFault.TheVariants as omaha
use Rattle.ruleset.specs.Rules.{Rules}
use Rattle.cell_assignments.specs.Assignments.{Assignment}
use Rattle.dry_run.specs.Counters.{AreAssigned, with_cells, with_declared}
use Rattle.dry_run.specs.Reply.{RepliesToBodyOn}
use Rattle.dry_run.specs.declared.dry_run_fault.DryRunFault.{DryRunFault}
use Rattle.dry_run.specs.declared.dry_run_fault.DryRunFault.TheVariants as fault

-- the reply to a body, at a moment, on the counters that a server and the command line gave
pub record RepliesOnCounters (rules : Rules) (arrays : List CellArray) (body : List ℕ) (moment : ℤ)
    (served words : List Assignment) (text : List ℕ) : Type 0 where
  pub counters : List ℕ
  pub set : AreAssigned arrays served words counters
  pub left : List ℕ
  pub replies : RepliesToBodyOn rules moment body counters text left

-- the command line gave a cell that doesn't exist, or a value that doesn't fit
pub record AreUnassignable (arrays : List CellArray) (served words : List Assignment) : Type 0 where
  pub zeros : List ℕ
  pub opens : AreZeros 8192 zeros
  pub unset : with_cells arrays (with_declared arrays zeros served) words ≡ None

abbrev pub IsUnassignable : List CellArray → (served words : List Assignment) → DryRunFault → Type 0
IsUnassignable arrays served words fault.Cell = AreUnassignable arrays served words
IsUnassignable arrays served words (fault.Resource resource.Memory) = Unit {0}
IsUnassignable arrays served words why = ⊥

-- the given counters exist
abbrev pub AreSettable : List CellArray → (served words : List Assignment) → Type 0
AreSettable arrays served words =
    (counters : List ℕ) × AreAssigned arrays served words counters

-- why no reply is made: the given cells, or else the body, which isn't a request. Running out of
-- memory is always allowed
abbrev pub IsUnanswered : List CellArray → (body : List ℕ) → (served words : List Assignment)
    → DryRunFault → Type 0
IsUnanswered arrays body served words fault.Cell = AreUnassignable arrays served words
IsUnanswered arrays body served words (fault.Omaha omaha.Memory) = Unit {0}
IsUnanswered arrays body served words (fault.Omaha why) =
    AreSettable arrays served words × (request_in body ≡ Err why)
IsUnanswered arrays body served words (fault.Resource resource.Memory) = Unit {0}
IsUnanswered arrays body served words why = ⊥
