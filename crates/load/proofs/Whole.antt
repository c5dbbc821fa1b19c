-- If apps have programs, all bytes of each file are kept, so there is a digest.
use Rattle.std.proofs.Common.{ℕ, List, [], ◌∷◌, ◌++◌, Option, Some, None, refl}
use Rattle.std.specs.Option.{IsSome}
use Rattle.std.specs.Prelude.{option_map, option_and_then}
use Rattle.bpf_semantics.specs.Program.{ShapedProgram}
use Rattle.manifest.specs.declared.app.ProgramSource.{ProgramSource}
use Rattle.sha2.specs.Sha256.{sha256}
use Rattle.load.specs.Digest.{digest_of, framed, framed_file, framed_files}
use Rattle.load.specs.Judged.{AreJudged, next_program}
use Rattle.load.specs.Kept.{IsProgramKept}
use Rattle.load.specs.declared.sources.AppSources.{AppSources}
use Rattle.bounded_files.specs.declared.kept_bytes.KeptBytes.{KeptBytes}
use Rattle.bounded_files.specs.declared.kept_bytes.KeptBytes.TheVariants.{Whole, Longer}

one_framed : (from : ProgramSource) (kept : Option KeptBytes) (p : ShapedProgram)
    → IsProgramKept from kept p → IsSome (framed_file kept)
one_framed from None p h = absurd h
one_framed from (Some (Whole v)) p h = refl
one_framed from (Some (Longer v count is_text)) p h = absurd h

both : (file files : Option (List ℕ)) → IsSome file → IsSome files
    → IsSome (option_and_then (λ one. option_map (λ more. one ++ more) files) file)
both (Some one) (Some more) first rest = refl
both (Some one) None first rest = absurd cc
both None files first rest = absurd cc

all_framed : (apps : List AppSources) (programs : List ShapedProgram) → AreJudged apps programs
    → IsSome (framed_files apps)
unfolding framed_files
all_framed [] programs are = refl
all_framed (a ∷ apps) [] are = elim are [ ]
all_framed (a ∷ apps) (p ∷ programs) (next_program j rest) =
    both (framed_file a.kept) (framed_files apps) (one_framed a.entry.source a.kept p j.program_is)
    (all_framed apps programs rest)

mapped : (f : List ℕ → List ℕ) (o : Option (List ℕ)) → IsSome o → IsSome (option_map f o)
mapped f (Some x) h = refl
mapped f None h = absurd cc

pub all_digested : (manifest : List ℕ) (apps : List AppSources) (programs : List ShapedProgram)
    → AreJudged apps programs → IsSome (digest_of manifest apps)
all_digested manifest apps programs are =
    mapped (λ files. sha256 (framed manifest ++ files)) (framed_files apps)
    (all_framed apps programs are)
