-- What files contain, by their paths, and what is read of them.
use Rattle.std.specs.Prelude.{◌≡◌, ℕ, ◌+◌, ◌^◌, ◌<◌, ◌≤◌, nat_le, if◌then◌else◌, List, length, take}
use Rattle.std.specs.Prelude.{Bool, Vec, Option, Some, None, option_map, IfSome, Result, Ok, Err}
use Rattle.std.specs.declared.alloc.Global.{Global}
use Rattle.bounded_files.specs.declared.resource_fault.ResourceFault.{ResourceFault}
use Rattle.bounded_files.specs.declared.resource_fault.ResourceFault.TheVariants.{File, Memory}

-- what is known of a file: the bytes that reading it gives, and whether it is a regular file (not a
-- FIFO, a folder, a terminal or another device)
pub record KnownFile : Type 0 where
  pub bytes : List ℕ
  pub is_regular : Bool

-- what is known of files: the file that each path leads to, or nothing if it can't be read; nothing
-- is known of the files of a device
abbrev pub KnownFiles : Type 0
KnownFiles = Option (List ℕ → Option KnownFile)

abbrev pub bytes_of : Option KnownFile → Option (List ℕ)
bytes_of file = option_map (λ f. f.bytes) file

-- by all that is known, the path may give these bytes, or none
abbrev pub Gives : KnownFiles → List ℕ → Option (List ℕ) → Type 0
Gives known path given = IfSome known (λ files. bytes_of (files path) ≡ given)

-- the file has more than `most` bytes
abbrev pub HasMore : ℕ → KnownFiles → List ℕ → Type 0
HasMore most known path =
    (bytes : List ℕ) × Gives known path (Some bytes) × (most < length bytes)

-- a file of at most `most` bytes is read whole; running out of memory is always allowed
abbrev pub ReadsAtMost : ℕ → KnownFiles → List ℕ
    → Result (Option (Vec ℕ Global)) ResourceFault → Type 0
ReadsAtMost most known path (Ok (Some v)) =
    Gives known path (Some v.items) × (length v.items ≤ most)
ReadsAtMost most known path (Ok None) = HasMore most known path
ReadsAtMost most known path (Err File) = Gives known path None
ReadsAtMost most known path (Err Memory) = Unit {0}

-- ---- files that count as unreadable

-- nothing, unless the file is regular
abbrev pub if_regular : Option KnownFile → Option KnownFile
if_regular None = None
if_regular (Some file) = if file.is_regular then Some file else None

-- what paths give if only regular files count as readable
abbrev pub regular_files : KnownFiles → KnownFiles
regular_files known = option_map (λ files. λ path. if_regular (files path)) known

-- the most bytes of a text, of a script, and of a file that a manifest names: 16 MiB
abbrev pub most_bytes : ℕ
most_bytes = 2 ^ 24

-- nothing, if the file is longer than `most`
abbrev pub if_within : ℕ → Option KnownFile → Option KnownFile
if_within most None = None
if_within most (Some file) = if nat_le (length file.bytes) most then Some file else None

-- what paths give if a file of more than `most` bytes counts as unreadable
abbrev pub within : ℕ → KnownFiles → KnownFiles
within most known = option_map (λ files. λ path. if_within most (files path)) known

-- ---- what is read of a file with a bounded length

-- a longer file isn't read
abbrev pub whole : Result (Option (Vec ℕ Global)) ResourceFault
    → Result (Vec ℕ Global) ResourceFault
whole (Ok (Some v)) = Ok v
whole (Ok None) = Err File
whole (Err fault) = Err fault

-- running out of memory is always allowed
abbrev pub ReadsFile : KnownFiles → List ℕ → Result (Vec ℕ Global) ResourceFault → Type 0
ReadsFile known path (Ok v) = Gives known path (Some v.items)
ReadsFile known path (Err File) = Gives known path None
ReadsFile known path (Err Memory) = Unit {0}

-- the file gives bytes for which this holds; nothing is known of a device's file, so they are some
-- bytes
pub record OfFile (known : KnownFiles) (path : List ℕ) (says : List ℕ → Type 0) : Type 0 where
  pub bytes : List ℕ
  pub given : Gives known path (Some bytes)
  pub holds : says bytes

-- and they are at most `most`
abbrev pub OfFileWithin : ℕ → KnownFiles → List ℕ → (List ℕ → Type 0) → Type 0
OfFileWithin most known path says =
    OfFile (within most known) path (λ bytes. (length bytes ≤ most) × says bytes)

-- one byte more than allowed is read, which shows whether the file is longer
abbrev pub IsWithin : ℕ → List ℕ → Type 0
IsWithin most bytes = length bytes ≤ most + 1

-- ---- the first bytes that a reader gives

-- the first `most + 1` bytes that a reader has yet to give, if they are known
abbrev pub IsBeginning : Option (List ℕ) → ℕ → List ℕ → Type 0
IsBeginning remaining most bytes = IfSome remaining (λ all. bytes ≡ take (most + 1) all)
