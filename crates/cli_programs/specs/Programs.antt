-- Programs of files, with the shape that the command line declares: which are accepted, and what
-- their runs are.
use Rattle.std.specs.Prelude.{◌≡◌, ◌⊎◌, ℕ, ◌^◌, List, [], length}
use Rattle.attrs.specs.Attributes.{Attributes}
use Rattle.bpf_semantics.specs.Program.{ShapedProgram}
use Rattle.bpf_semantics.specs.State.{opening}
use Rattle.bpf_semantics.specs.Run.{Ends}
use Rattle.bpf_verify.specs.Covers.{AreLawful}
use Rattle.cells.specs.Arrays.{AppShape, AreNumbered}
use Rattle.cells.specs.Events.{AreZeros, IsEvent}
use Rattle.cells.specs.Grown.{GrewBy}
use Rattle.cells.specs.declared.array.ArrayNo.{ArrayNo}
use Rattle.cells.specs.declared.array.CellArray.{CellArray}
use Rattle.cells.specs.declared.event.CellEvent.{CellEvent}
use Rattle.cells.specs.declared.cells_fault.CellsFault.TheVariants as cells
use Rattle.declarations.specs.Order.{AreDeclared, IsRefusedArray}
use Rattle.cli_programs.specs.declared.program_tool_fault.ProgramToolFault.{ProgramToolFault}
use Rattle.cli_programs.specs.declared.program_tool_fault.ProgramToolFault.TheVariants.{Arrays}
use Rattle.cli_programs.specs.declared.program_tool_fault.ProgramToolFault.TheVariants.{Program}
use Rattle.cli_programs.specs.declared.program_tool_fault.ProgramToolFault.TheVariants.{Resource}
use Rattle.cli_base.specs.Apps.{app_attributes}
use Rattle.cli_base.specs.declared.run_args.RunArgs.{RunArgs}
use Rattle.cli_base.specs.declared.declared_shape.DeclaredShape.{DeclaredShape}
use Rattle.acceptance.specs.Program.{IsProgramOf, RefusesProgram}
use Rattle.acceptance.specs.declared.program_fault.ProgramFault.TheVariants.{Flow}
use Rattle.flow_check.specs.declared.flow_fault.FlowFault.TheVariants as flow
use Rattle.flow_check.specs.declared.flow_fault.FlowRule.TheVariants.{TooLong}
use Rattle.bounded_files.specs.Files.{HasMore, KnownFiles, OfFile}
use Rattle.bounded_files.specs.declared.resource_fault.ResourceFault.TheVariants.{Memory}
use Rattle.cli_programs.specs.Resources.{IsNoFile}

-- the most bytes of a program
abbrev pub most_program : ℕ
most_program = 2 ^ 15

-- ---- shapes

-- the shape has the arrays that the command line declares, in a directory that starts without
-- arrays
pub record IsShapeFor (options : DeclaredShape) (shape : AppShape) : Type 0 where
  pub releases : shape.releases ≡ options.releases
  pub numbers : List ArrayNo
  pub directory : List CellArray
  pub declared : AreDeclared [] options.arrays.items numbers directory
  pub arrays : AreNumbered directory numbers shape.arrays

-- an array is refused; running out of memory is always allowed
abbrev pub IsShapeRefusal : DeclaredShape → ProgramToolFault → Type 0
IsShapeRefusal options (Arrays cells.Memory) = Unit {0}
IsShapeRefusal options (Arrays fault) =
    (number : ℕ) × (before : List CellArray)
    × IsRefusedArray [] options.arrays.items number fault before
IsShapeRefusal options fault = ⊥

-- ---- programs

-- the program of a file, accepted with the declared shape
pub record IsProgramFor (known : KnownFiles) (path : List ℕ) (options : DeclaredShape)
    (p : ShapedProgram) : Type 0 where
  pub shape : IsShapeFor options p.shape
  pub program : OfFile known path (λ bytes. IsProgramOf bytes p)

-- the fault of a file that has more bytes than a program can have
abbrev pub too_long : ProgramToolFault
too_long = Program (Flow (flow.Rule 0 TooLong))

-- why a program's file isn't read: it can't be read, or has more bytes than a program can have
abbrev pub IsUnreadProgram : KnownFiles → List ℕ → ProgramToolFault → Type 0
IsUnreadProgram known path (Program fault) =
    (Program fault ≡ too_long) × HasMore most_program known path
IsUnreadProgram known path fault = IsNoFile known path fault

-- why the bytes of a file aren't an accepted program
abbrev pub IsProgramFault : AppShape → ProgramToolFault → List ℕ → Type 0
IsProgramFault shape (Program fault) bytes = RefusesProgram bytes shape fault
IsProgramFault shape fault bytes = ⊥

-- why a file is refused: the shape comes first, then the file, then its bytes, by the faults that
-- they have with a shape
pub data IsRefusedUnder (known : KnownFiles) (path : List ℕ) (options : DeclaredShape)
    (unread : ProgramToolFault → Type 0) (faults : AppShape → ProgramToolFault → List ℕ → Type 0)
    (fault : ProgramToolFault) : Type 0 where
  of_shape : IsShapeRefusal options fault → IsRefusedUnder known path options unread faults fault
  of_file : {s : AppShape} → IsShapeFor options s → unread fault
      → IsRefusedUnder known path options unread faults fault
  of_bytes : {s : AppShape} → IsShapeFor options s → OfFile known path (faults s fault)
      → IsRefusedUnder known path options unread faults fault

-- why a file has no accepted program: the shape comes first, then the file, then its bytes
abbrev pub IsProgramRefusal : KnownFiles → List ℕ → DeclaredShape → ProgramToolFault → Type 0
IsProgramRefusal known path options fault =
    IsRefusedUnder known path options (IsUnreadProgram known path) IsProgramFault fault

-- an accepted program has `slots` slots
abbrev pub HasSlots : KnownFiles → List ℕ → DeclaredShape → ℕ → Type 0
HasSlots known path options slots =
    (p : ShapedProgram) × IsProgramFor known path options p × (slots ≡ length p.code)

-- ---- runs

-- the program's run for an app with these attributes, on cells that start at 0. Each of its events
-- is on a cell of the shape's arrays; on an array with a quota it is a load or an add of 1
pub record RunsTo (p : ShapedProgram) (a : Attributes) (choice count : ℕ) : Type 0 where
  pub values : List ℕ
  pub opens : AreZeros 8192 values
  pub events : List CellEvent
  pub values_after : List ℕ
  pub grew : GrewBy IsEvent values events values_after
  pub ends : Ends p (opening a) events choice count
  pub lawful : AreLawful p.shape events

-- the requested program is accepted, and makes this choice after `count` instructions
abbrev pub HasChosen : KnownFiles → RunArgs → (choice count : ℕ) → Type 0
HasChosen known run choice count =
    (p : ShapedProgram) × IsProgramFor known run.path.now run.shape p
    × RunsTo p (app_attributes run.app run.bucket) choice count

-- it isn't accepted, or an allocation for the run fails
abbrev pub IsRunRefusal : KnownFiles → List ℕ → DeclaredShape → ProgramToolFault → Type 0
IsRunRefusal known path options fault =
    (fault ≡ Resource Memory) ⊎ IsProgramRefusal known path options fault
