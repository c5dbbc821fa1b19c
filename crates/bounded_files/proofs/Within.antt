-- From what is read of a file to what is returned for a bounded length.
use Rattle.std.proofs.Common.{◌≡◌, ◌<◌, ◌≤◌, ℕ, List, length, Vec, Option, Some, None}
use Rattle.std.proofs.Common.{Result, Ok, Err, IfOk, refl, arith}
use Rattle.std.specs.declared.alloc.Global.{Global}
use Rattle.bounded_files.specs.Files.{KnownFile, KnownFiles, ReadsAtMost, ReadsFile}
use Rattle.bounded_files.specs.Files.{bytes_of, if_within, whole, within}
use Rattle.bounded_files.specs.declared.resource_fault.ResourceFault.{ResourceFault}
use Rattle.bounded_files.specs.declared.resource_fault.ResourceFault.TheVariants.{File, Memory}

kept : (most : ℕ) (file : Option KnownFile) (bytes : List ℕ) → bytes_of file ≡ Some bytes
    → length bytes ≤ most → bytes_of (if_within most file) ≡ Some bytes
kept most None bytes is short = absurd cc
kept most (Some file) bytes is short = grind arith

left_out : (most : ℕ) (file : Option KnownFile) (bytes : List ℕ) → bytes_of file ≡ Some bytes
    → most < length bytes → bytes_of (if_within most file) ≡ None
left_out most None bytes is long = absurd cc
left_out most (Some file) bytes is long = grind arith

missing : (most : ℕ) (file : Option KnownFile) → bytes_of file ≡ None
    → bytes_of (if_within most file) ≡ None
missing most None is = refl
missing most (Some file) is = absurd cc

pub taken : (most : ℕ) (known : KnownFiles) (path : List ℕ)
    (read : Result (Option (Vec ℕ Global)) ResourceFault) → ReadsAtMost most known path read
    → ReadsFile (within most known) path (whole read)
taken most None path (Ok (Some v)) read = tt
taken most None path (Ok None) read = tt
taken most None path (Err File) read = tt
taken most None path (Err Memory) read = tt
taken most (Some files) path (Ok (Some v)) read = kept most (files path) v.items read.0 read.1
taken most (Some files) path (Ok None) read = left_out most (files path) read.0 read.1 read.2
taken most (Some files) path (Err File) read = missing most (files path) read
taken most (Some files) path (Err Memory) read = tt

pub short : (most : ℕ) (known : KnownFiles) (path : List ℕ)
    (read : Result (Option (Vec ℕ Global)) ResourceFault) → ReadsAtMost most known path read
    → IfOk (whole read) (λ v. length v.items ≤ most)
short most known path (Ok (Some v)) read = read.1
short most known path (Ok None) read = tt
short most known path (Err fault) read = tt
