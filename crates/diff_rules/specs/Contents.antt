-- Numbers for the contents of releases.
use Rattle.std.specs.Prelude.{ℕ, ◌+◌, List, [], ◌∷◌, Bool, true, false, ◌&&◌, ◌==◌, not}
use Rattle.std.specs.Prelude.{if◌then◌else◌}
use Rattle.std.specs.List.{position_or_len}
use Rattle.std.specs.Str.{bytes_eq}
use Rattle.releases.specs.Release.{Package, Release}

-- two packages have the same name, hash and size, and both or neither is required
abbrev pub is_same_package : Package → Package → Bool
is_same_package p q =
    bytes_eq p.name q.name && bytes_eq p.hash_sha256 q.hash_sha256 && (p.size == q.size)
    && (if p.required then q.required else not q.required)

-- the same packages, in the same order
abbrev pub are_same : (packages others : List Package) → Bool
are_same [] [] = true
are_same [] (q ∷ qs) = false
are_same (p ∷ ps) [] = false
are_same (p ∷ ps) (q ∷ qs) = is_same_package p q && are_same ps qs

-- two releases have the same content
abbrev pub has_content_of : Release → Release → Bool
has_content_of r s =
    bytes_eq r.version s.version && bytes_eq r.codebase s.codebase
    && are_same r.packages s.packages

-- the number of a release's content, from 1: the position of the first release with this content
abbrev pub content_number : (all : List Release) → Release → ℕ
content_number all r = position_or_len (has_content_of r) all + 1
