-- What is kept of a file that may be longer than needed, and how a text is read in pieces.
use Rattle.std.specs.Prelude.{◌≡◌, ◌↔◌, ℕ, ◌<◌, ◌≤◌, List, ◌++◌, length, take, Vec, IsTrue}
use Rattle.std.specs.Prelude.{IsUtf8, Option, Some, None, IfSome, Result, Ok, Err}
use Rattle.std.specs.declared.alloc.Global.{Global}
use Rattle.bounded_files.specs.Files.{Gives, KnownFiles}
use Rattle.bounded_files.specs.declared.resource_fault.ResourceFault.{ResourceFault}
use Rattle.bounded_files.specs.declared.resource_fault.ResourceFault.TheVariants.{File, Memory}
use Rattle.bounded_files.specs.declared.kept_bytes.KeptBytes.{KeptBytes}
use Rattle.bounded_files.specs.declared.kept_bytes.KeptBytes.TheVariants.{Whole, Longer}

-- what is kept of bytes: all; or, of more than `most`, the first `most`, how many there are, and
-- whether they are UTF-8 to their end
abbrev pub IsKeptOf : ℕ → List ℕ → KeptBytes → Type 0
IsKeptOf most bytes (Whole v) = (v.items ≡ bytes) × (length bytes ≤ most)
IsKeptOf most bytes (Longer v count is_text) =
    (v.items ≡ take most bytes) × (most < length bytes) × (count ≡ length bytes)
    × (IsTrue is_text ↔ IsUtf8 bytes)

-- what is kept of a file; running out of memory is always allowed
abbrev pub KeepsFile : ℕ → KnownFiles → List ℕ → Result KeptBytes ResourceFault → Type 0
KeepsFile most known path (Ok kept) =
    (bytes : List ℕ) × Gives known path (Some bytes) × IsKeptOf most bytes kept
KeepsFile most known path (Err File) = Gives known path None
KeepsFile most known path (Err Memory) = Unit {0}

-- what is kept of the bytes that a reader has yet to give, if they are at most `most`; if they
-- aren't known, they are some bytes
abbrev pub KeepsOf : Option (List ℕ) → (kept most : ℕ) → Option KeptBytes → Type 0
KeepsOf remaining kept most (Some k) =
    (bytes : List ℕ) × IfSome remaining (λ all. all ≡ bytes) × (length bytes ≤ most)
    × IsKeptOf kept bytes k
KeepsOf remaining kept most None = IfSome remaining (λ all. most < length all)

-- ---- a text in pieces

-- no prefix of these bytes is UTF-8, except the empty one
abbrev pub IsOpen : List ℕ → Type 0
IsOpen bytes = (n : ℕ) → 0 < n → n ≤ length bytes → ¬ IsUtf8 (take n bytes)

-- the bytes after a UTF-8 prefix: at most three, of which no prefix is UTF-8; `None` if no text
-- begins with these bytes
abbrev pub LeavesOpen : List ℕ → Option (Vec ℕ Global) → Type 0
LeavesOpen bytes (Some left) =
    (front : List ℕ) × IsUtf8 front × (bytes ≡ front ++ left.items) × IsOpen left.items
    × (length left.items ≤ 3)
LeavesOpen bytes None = (rest : List ℕ) → ¬ IsUtf8 (bytes ++ rest)
