-- The digest of a manifest and of its apps' files: SHA-256 (FIPS 180-4).
use Rattle.std.specs.Prelude.{ℕ, List, [], ◌∷◌, ◌++◌, length, Option, Some}
use Rattle.std.specs.Prelude.{option_map, option_and_then}
use Rattle.std.specs.Int.{w64, to_be_bytes}
use Rattle.bounded_files.specs.declared.kept_bytes.KeptBytes.{KeptBytes}
use Rattle.sha2.specs.Sha256.{sha256}
use Rattle.load.specs.declared.sources.AppSources.{AppSources}
use Rattle.load.specs.Kept.{whole_file}

-- a piece, after its length in eight bytes, high byte first
abbrev pub framed : List ℕ → List ℕ
framed piece = to_be_bytes w64 (length piece) ++ piece

-- the framed bytes of a file, if all are kept
abbrev pub framed_file : Option KeptBytes → Option (List ℕ)
framed_file kept = option_map framed (whole_file kept)

-- the files of apps, in their order
unfoldable pub framed_files : List AppSources → Option (List ℕ)
framed_files [] = Some []
framed_files (app ∷ apps) =
    option_and_then (λ file. option_map (λ files. file ++ files) (framed_files apps))
    (framed_file app.kept)

-- the digest of a manifest and of its apps' files, if all bytes of each are kept
abbrev pub digest_of : List ℕ → List AppSources → Option (List ℕ)
digest_of manifest apps =
    option_map (λ files. sha256 (framed manifest ++ files)) (framed_files apps)
