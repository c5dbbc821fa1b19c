-- What is kept of bytes while they are read.
use Rattle.std.specs.Prelude.{◌≡◌, ℕ, List, length, take, Option}
use Rattle.std.specs.Io.KnownBytes.{Consumes}
use Rattle.bounded_files.specs.declared.kept_bytes.SoFar.{SoFar}
use Rattle.bounded_files.specs.Kept.{LeavesOpen}

-- of these bytes: the first `most`, how many they are, and the open end of a text
pub record KeepsSoFar (most : ℕ) (bytes : List ℕ) (far : SoFar) : Type 0 where
  pub beginning : far.beginning.items ≡ take most bytes
  pub count : far.count ≡ length bytes
  pub text : LeavesOpen bytes far.left

-- of the bytes that a reader gave so far
pub record IsReadSoFar (most : ℕ) (old now : Option (List ℕ)) (far : SoFar) : Type 0 where
  pub bytes : List ℕ
  pub read : Consumes old now bytes
  pub kept : KeepsSoFar most bytes far
