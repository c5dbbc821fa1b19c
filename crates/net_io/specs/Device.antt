-- What a counted device did in one call: its failures, and the bytes that a writer took.
use Rattle.std.specs.Prelude.{◌≡◌, ℕ, ◌+◌, ◌≤◌, List, length, take, Option, Result, Ok, Err}
use Rattle.std.specs.Io.KnownBytes.{Appends}
use Rattle.net_io.specs.declared.counted.WriteFault.{WriteFault}

-- an error counts as one failure, and a success as none
abbrev pub CountsFailure : {A E : Type 0} → ℕ → ℕ → Result A E → Type 0
CountsFailure old new (Ok a) = new ≡ old
CountsFailure old new (Err e) = new ≡ old + 1

-- all bytes were taken, or a prefix whose length the fault has
abbrev pub WritesPrefix :
    {A : Type 0} → Option (List ℕ) → Option (List ℕ) → List ℕ → Result A WriteFault → Type 0
WritesPrefix old new bytes (Ok a) = Appends old new bytes
WritesPrefix old new bytes (Err e) =
    (e.written ≤ length bytes) × Appends old new (take e.written bytes)
