-- The results of the commands `asm` and `list` for the bytes of a file: a file of more than 16 MiB
-- counts as unreadable.
use Rattle.std.specs.Prelude.{◌≡◌, ◌⊎◌, ℕ, List, Ok}
use Rattle.std.specs.Str.{IsUtf8}
use Rattle.bpf_text.specs.declared.text_fault.AsmFault.{AsmFault}
use Rattle.bpf_text.specs.declared.text_fault.AsmFaultKind.TheVariants.{Token}
use Rattle.bpf_text.specs.declared.text_fault.ListFault.TheVariants.{Insn}
use Rattle.bpf_text.specs.Assembly.{Assembles, at_line, IsAsmFault}
use Rattle.bpf_text.specs.Listing.{Lists, IsFirstFault}
use Rattle.bounded_files.specs.Files.{KnownFiles, most_bytes, within, OfFileWithin}
use Rattle.cli_programs.specs.Resources.{IsNoFile}
use Rattle.cli_programs.specs.declared.program_tool_fault.ProgramToolFault.{ProgramToolFault}
use Rattle.cli_programs.specs.declared.program_tool_fault.ProgramToolFault.TheVariants.{Resource}
use Rattle.cli_programs.specs.declared.program_tool_fault.ProgramToolFault.TheVariants.{Text}
use Rattle.cli_programs.specs.declared.program_tool_fault.ProgramToolFault.TheVariants.{Bytes}

-- ---- asm

-- the bytes are a text that assembles to this program
abbrev pub IsAssembled : List ℕ → List ℕ → Type 0
IsAssembled program bytes = IsUtf8 bytes × Assembles bytes (Ok program)

-- bytes that aren't UTF-8 are a wrong token at line 1
abbrev pub IsAssemblyFault : List ℕ → AsmFault → Type 0
IsAssemblyFault bytes fault =
    (IsUtf8 bytes × IsAsmFault bytes fault) ⊎ ((¬ IsUtf8 bytes) × (fault ≡ at_line 1 Token))

module _ (known : KnownFiles) (path : List ℕ) where
  abbrev pub IsAssembledFrom : List ℕ → Type 0
  IsAssembledFrom program = OfFileWithin most_bytes known path (IsAssembled program)

  -- the file can't be read, or its bytes can't be assembled
  abbrev pub IsTextRefusal : ProgramToolFault → Type 0
  IsTextRefusal (Text fault) =
      OfFileWithin most_bytes known path (λ bytes. IsAssemblyFault bytes fault)
  IsTextRefusal fault = IsNoFile (within most_bytes known) path fault

  -- or they can, and the program can't be written
  abbrev pub IsAssemblyRefusal : ProgramToolFault → Type 0
  IsAssemblyRefusal (Resource fault) =
      IsTextRefusal (Resource fault) ⊎ ((program : List ℕ) × IsAssembledFrom program)
  IsAssemblyRefusal fault = IsTextRefusal fault

  -- ---- list

  abbrev pub IsListedFrom : List ℕ → Type 0
  IsListedFrom text = OfFileWithin most_bytes known path (λ bytes. Lists bytes text)

  -- the file can't be read, or its bytes have a faulty instruction
  abbrev pub IsListingRefusal : ProgramToolFault → Type 0
  IsListingRefusal (Bytes (Insn slot fault)) =
      OfFileWithin most_bytes known path (λ bytes. IsFirstFault bytes slot fault)
  IsListingRefusal fault = IsNoFile (within most_bytes known) path fault
