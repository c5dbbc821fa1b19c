-- The state of the assembler after each line, and the faults of its two passes.
use Rattle.std.specs.Prelude.{◌≡◌, ℕ, ◌+◌, ◌≤◌, ◌⊎◌, List, [], ◌∷◌, ◌++◌}
use Rattle.std.specs.Prelude.{length, map, Some, None, Err}
use Rattle.std.specs.Vec.{vec_items}
use Rattle.bpf_text.specs.declared.text_fault.AsmFault.{AsmFault}
use Rattle.bpf_text.specs.declared.text_fault.AsmFault.TheVariants.{At, Memory}
use Rattle.bpf_text.specs.declared.scan.Reading as reader
use Rattle.bpf_text.specs.Assembly.{BytesOrFault, slots_in, label_slot, line_fault, first_fault}
use Rattle.bpf_text.specs.Assembly.{placed, placed_body, bytes_of_placed, assembly_of}
use Rattle.bpf_text.specs.Labels.{slot_at}
use Rattle.bpf_text.specs.Lines.{Line, lines_in}
use Rattle.bpf_text.specs.Names.{BodyBytes, body_named, PlacedBytes, placed_named}
use Rattle.bpf_text.specs.Tables.{tables}
use Rattle.bpf_text.specs.Tokens.{Name}

-- a body's statement, if it has one, is noted at the end
abbrev pub AddsBody : List PlacedBytes → List PlacedBytes → ℕ → ℕ → BodyBytes → Type 0
AddsBody before after n s body =
    map placed_named after ≡ map placed_named before ++ placed_body n s (body_named body)

-- these lines have been read
pub record HasRead (ls : List Line) (r : reader.Reading) : Type 0 where
  pub count : r.lines ≡ length ls
  pub slots : r.slots ≡ slots_in ls
  pub small : r.slots ≤ 4096
  pub labels : (q : Name) → slot_at r.labels q ≡ label_slot 0 ls q
  pub placed_are : map placed_named (vec_items r.placed) ≡ placed 1 0 ls

-- one more line has been read, without a fault
abbrev pub ReadsOn : reader.Reading → reader.Reading → Line → Type 0
ReadsOn before after l =
    (ls : List Line) → HasRead ls before →
    (line_fault ls l ≡ None) × HasRead (ls ++ (l ∷ [])) after

-- the fault of one more line; no claim if an allocation failed
abbrev pub IsLineFault : reader.Reading → Line → AsmFault → Type 0
IsLineFault before l Memory = Unit {0}
IsLineFault before l (At n e) =
    (n ≡ before.lines + 1) × ((ls : List Line) → HasRead ls before → line_fault ls l ≡ Some e)

-- ---- both passes, with the assembler's own tables; or an allocation failed

-- all lines have been read, without a fault
abbrev pub IsWholeReading : List ℕ → reader.Reading → Type 0
IsWholeReading text r =
    (first_fault [] (lines_in tables text) ≡ None) × HasRead (lines_in tables text) r

abbrev pub IsReadingFault : List ℕ → AsmFault → Type 0
IsReadingFault text e = (e ≡ Memory) ⊎ (first_fault [] (lines_in tables text) ≡ Some e)

abbrev pub bytes_read : reader.Reading → BytesOrFault
bytes_read r = bytes_of_placed tables (slot_at r.labels) (map placed_named (vec_items r.placed))

abbrev pub IsByteFault : reader.Reading → AsmFault → Type 0
IsByteFault r e = (e ≡ Memory) ⊎ (bytes_read r ≡ Err e)

abbrev pub IsTableFault : List ℕ → AsmFault → Type 0
IsTableFault text e = (e ≡ Memory) ⊎ (assembly_of tables text ≡ Err e)
