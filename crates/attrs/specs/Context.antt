-- The context of an app: its fields, and the 64 bytes in which a program reads them.
use Rattle.std.specs.Prelude.{◌≡◌, ℕ, ◌<◌, ◌^◌, All, List, [], ◌∷◌, ◌++◌, length, take, drop}
use Rattle.std.specs.Prelude.{slice_index, replicate}
use Rattle.std.specs.Int.{w8, w16, w32, to_le_bytes}

-- the facts that a program reads of an app
pub record Context : Type 0 where
  pub version : List ℕ
  pub bucket : ℕ
  pub flags : ℕ
  pub install_day : ℕ
  pub today : ℕ
  pub seconds : ℕ

-- the ranges of a context's fields, which the type's invariant keeps
pub record HasContextRanges (c : Context) : Type 0 where
  pub version : All (λ n. n < 2 ^ 32) c.version
  pub install_day : c.install_day < 2 ^ 32
  pub today : c.today < 2 ^ 32
  pub bucket : c.bucket < 10000
  pub flags : c.flags < 64
  pub seconds : c.seconds < 86400

-- little-endian, each field in its size; the byte at 19 and those from 32 on are zero
unfoldable pub context_bytes : Context → List ℕ
context_bytes c =
    to_le_bytes w32 (slice_index c.version 0)
    ++ to_le_bytes w32 (slice_index c.version 1)
    ++ to_le_bytes w32 (slice_index c.version 2)
    ++ to_le_bytes w32 (slice_index c.version 3)
    ++ to_le_bytes w16 c.bucket
    ++ to_le_bytes w8 c.flags
    ++ 0 ∷ []
    ++ to_le_bytes w32 c.install_day
    ++ to_le_bytes w32 c.today
    ++ to_le_bytes w32 c.seconds
    ++ replicate 32 0

-- the offsets of the fields after the version
abbrev pub bucket_offset : ℕ
bucket_offset = 16

abbrev pub flags_offset : ℕ
flags_offset = 18

abbrev pub install_day_offset : ℕ
install_day_offset = 20

abbrev pub today_offset : ℕ
today_offset = 24

abbrev pub seconds_offset : ℕ
seconds_offset = 28

-- from the offset on, the context has a field's bytes
abbrev pub IsAt : Context → ℕ → List ℕ → Type 0
IsAt c offset field = take (length field) (drop offset (context_bytes c)) ≡ field

-- the flags; a context has their sum
abbrev pub version_known : ℕ
version_known = 1

abbrev pub updatecheck : ℕ
updatecheck = 2

abbrev pub ping : ℕ
ping = 4

abbrev pub event : ℕ
event = 8

abbrev pub cohort_known : ℕ
cohort_known = 16

abbrev pub installdate_known : ℕ
installdate_known = 32

-- an install day that isn't known
abbrev pub unknown_day : ℕ
unknown_day = 4294967295
