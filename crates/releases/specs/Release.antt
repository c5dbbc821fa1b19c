-- A release of an app, as in a manifest and in replies.
use Rattle.std.specs.Prelude.{ℕ, ◌^◌, ◌<◌, ◌≤◌, List, length}
use Rattle.std.specs.Prelude.{Bool, ◌&&◌, ◌||◌, ◌==◌, nat_le, IsTrue, IsSome}
use Rattle.std.specs.List.{list_all}
use Rattle.std.specs.Char.{is_ascii_digit}
use Rattle.attrs.specs.Version.{version_of}

-- a file of a release
pub record Package : Type 0 where
  pub name : List ℕ
  pub hash_sha256 : List ℕ
  pub size : ℕ
  pub required : Bool

-- its version, the URL below which its files are, and the files in order
pub record Release : Type 0 where
  pub version : List ℕ
  pub codebase : List ℕ
  pub packages : List Package

-- a lower case hexadecimal digit
abbrev pub is_hex_digit : ℕ → Bool
is_hex_digit c = is_ascii_digit c || (nat_le 97 c && nat_le c 102)

-- the 32 bytes of a hash as hexadecimal digits
abbrev pub is_hash : List ℕ → Bool
is_hash text = (length text == 64) && list_all is_hex_digit text

-- the invariant of a package
pub record IsPackage (hash_sha256 : List ℕ) (size : ℕ) : Type 0 where
  pub hash : IsTrue (is_hash hash_sha256)
  pub below : size < 2 ^ 53

-- the invariant of a release
pub record IsRelease (version : List ℕ) (packages : List Package) : Type 0 where
  pub readable : IsSome (version_of version)
  pub some : 1 ≤ length packages
  pub few : length packages ≤ 16
