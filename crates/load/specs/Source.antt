-- The program that an app's file gives: a program's bytes, or the text of a rule.
use Rattle.std.specs.Prelude.{◌≡◌, ℕ, List, Some, None, false}
use Rattle.acceptance.specs.Program as program
use Rattle.acceptance.specs.Program.{IsProgramOf, RefusesProgram}
use Rattle.acceptance.specs.Rule as rule
use Rattle.acceptance.specs.Rule.{IsProgramOfRule, RefusesRule}
use Rattle.bpf_semantics.specs.Program.{ShapedProgram}
use Rattle.cells.specs.Arrays.{AppShape}
use Rattle.manifest.specs.App.{file_of}
use Rattle.manifest.specs.declared.app.ProgramSource.{ProgramSource}
use Rattle.manifest.specs.declared.app.ProgramSource.TheVariants as source
use Rattle.load.specs.declared.load_fault.AppFault.{AppFault}
use Rattle.load.specs.declared.load_fault.AppFault.TheVariants as app
use Rattle.bounded_files.specs.Files.{KnownFiles, Gives}

-- the program that the bytes of the file give
abbrev pub IsProgramFrom : ProgramSource → List ℕ → ShapedProgram → Type 0
IsProgramFrom (source.Program file) bytes p = IsProgramOf bytes p
IsProgramFrom (source.Rule file) bytes p = IsProgramOfRule bytes p

-- why bytes aren't a program, or don't spell a rule; running out of memory is always allowed
abbrev pub RefusesBytes : List ℕ → AppShape → AppFault → Type 0
RefusesBytes bytes shape (app.Program fault) =
    RefusesProgram bytes shape fault × (program.is_memory fault ≡ false)
RefusesBytes bytes shape app.Memory = Unit {0}
RefusesBytes bytes shape fault = ⊥

abbrev pub RefusesText : List ℕ → AppShape → AppFault → Type 0
RefusesText bytes shape (app.Rule fault) =
    RefusesRule bytes shape fault × (rule.is_memory fault ≡ false)
RefusesText bytes shape app.Memory = Unit {0}
RefusesText bytes shape fault = ⊥

-- why the bytes of the file give no program
abbrev pub RefusesFile : ProgramSource → List ℕ → AppShape → AppFault → Type 0
RefusesFile (source.Program file) bytes shape fault = RefusesBytes bytes shape fault
RefusesFile (source.Rule file) bytes shape fault = RefusesText bytes shape fault

-- the program of the file that an app names
abbrev pub IsProgramIn : KnownFiles → ProgramSource → ShapedProgram → Type 0
IsProgramIn known from p =
    (bytes : List ℕ) × Gives known (file_of from) (Some bytes) × IsProgramFrom from bytes p

-- why an app gets no program: no file, or a fault of its bytes
abbrev pub RefusesSource : KnownFiles → ProgramSource → AppShape → AppFault → Type 0
RefusesSource known from shape app.File = Gives known (file_of from) None
RefusesSource known from shape app.Memory = Unit {0}
RefusesSource known from shape fault =
    (bytes : List ℕ) × Gives known (file_of from) (Some bytes) × RefusesFile from bytes shape fault
