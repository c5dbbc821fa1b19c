-- What is kept of an app's file: enough to judge it, whatever its length.
use Rattle.std.specs.Prelude.{◌≡◌, ◌↔◌, ℕ, ◌+◌, ◌<◌, List, length}
use Rattle.std.specs.Prelude.{Bool, true, false, Option, Some, None, Result, Ok, Err}
use Rattle.std.specs.Prelude.{IsTrue, IsUtf8}
use Rattle.bounded_files.specs.Files.{KnownFiles, Gives}
use Rattle.bounded_files.specs.Kept.{IsKeptOf}
use Rattle.bounded_files.specs.declared.kept_bytes.KeptBytes.{KeptBytes}
use Rattle.bounded_files.specs.declared.kept_bytes.KeptBytes.TheVariants.{Whole, Longer}
use Rattle.bpf_semantics.specs.Program.{ShapedProgram}
use Rattle.cells.specs.Arrays.{AppShape}
use Rattle.manifest.specs.App.{file_of}
use Rattle.manifest.specs.declared.app.ProgramSource.{ProgramSource}
use Rattle.manifest.specs.declared.app.ProgramSource.TheVariants as source
use Rattle.load.specs.declared.load_fault.AppFault.{AppFault}
use Rattle.load.specs.declared.load_fault.AppFault.TheVariants as app
use Rattle.load.specs.Source.{IsProgramFrom, RefusesFile}

-- the most bytes of a program, and of the text of a rule
abbrev pub most_of : ProgramSource → ℕ
most_of (source.Program file) = 32768
most_of (source.Rule file) = 65536

-- what is kept of an app's file: nothing, if it can't be read; all bytes; or, if there are more
-- than it may have, the first of them, how many there are, and whether they are UTF-8 to their end
abbrev pub IsKeptFrom : KnownFiles → ProgramSource → Option KeptBytes → Type 0
IsKeptFrom known from None = Gives known (file_of from) None
IsKeptFrom known from (Some kept) =
    (bytes : List ℕ) × Gives known (file_of from) (Some bytes)
    × IsKeptOf (most_of from) bytes kept

-- these bytes are more than the file may have, and `is_text` says whether they are UTF-8
abbrev pub IsLonger : ProgramSource → Bool → List ℕ → Type 0
IsLonger from is_text bytes = (most_of from < length bytes) × (IsTrue is_text ↔ IsUtf8 bytes)

-- the program of what is kept, which is all bytes of the file
abbrev pub IsProgramKept : ProgramSource → Option KeptBytes → ShapedProgram → Type 0
IsProgramKept from (Some (Whole v)) p = IsProgramFrom from v.items p
IsProgramKept from kept p = ⊥

-- why an app gets no program: the file couldn't be read; its bytes have this fault; or the file is
-- longer than it may be, and all such bytes have this fault. Running out of memory is always
-- allowed
abbrev pub RefusesKept : ProgramSource → Option KeptBytes → AppShape → AppFault → Type 0
RefusesKept from None shape app.File = Unit {0}
RefusesKept from None shape app.Memory = Unit {0}
RefusesKept from None shape fault = ⊥
RefusesKept from (Some (Whole v)) shape fault = RefusesFile from v.items shape fault
RefusesKept from (Some (Longer v count is_text)) shape fault =
    (bytes : List ℕ) → IsLonger from is_text bytes → RefusesFile from bytes shape fault

-- how many bytes a file has if it is longer than it may be; otherwise 0
abbrev pub long_count : Option KeptBytes → ℕ
long_count (Some (Longer v count is_text)) = count
long_count kept = 0

-- all bytes, if they are kept
abbrev pub whole_file : Option KeptBytes → Option (List ℕ)
whole_file (Some (Whole v)) = Some v.items
whole_file kept = None

-- nothing is kept, because the file couldn't be read
abbrev pub is_unread : Option KeptBytes → Bool
is_unread None = true
is_unread kept = false

-- a file that couldn't be read is counted
abbrev pub CountsFile : ℕ → ℕ → Option KeptBytes → Type 0
CountsFile old new None = new ≡ old + 1
CountsFile old new kept = new ≡ old

abbrev pub CountsKept : {E : Type 0} → ℕ → ℕ → Result (Option KeptBytes) E → Type 0
CountsKept old new (Ok kept) = CountsFile old new kept
CountsKept old new (Err e) = new ≡ old
