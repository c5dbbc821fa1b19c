-- A digest piece by piece.
use Rattle.std.proofs.Common.{◌≡◌, ℕ, List, [], ◌∷◌, ◌++◌, Option, Some, None}
use Rattle.std.proofs.Common.{refl, sym, ap, ◌∙◌, append_assoc, append-nil}
use Rattle.std.specs.Prelude.{option_map, option_and_then}
use Rattle.sha2.specs.Hashers.{Holds256}
use Rattle.sha2.specs.Sha256.{sha256}
use Rattle.sha2.specs.declared.Sha256.{Sha256}
use Rattle.load.specs.Digest.{framed, framed_file, framed_files}
use Rattle.load.specs.declared.sources.AppSources.{AppSources}

-- the digest of a message followed by these files
abbrev pub digest_behind : List ℕ → List AppSources → Option (List ℕ)
digest_behind message left = option_map (λ files. sha256 (message ++ files)) (framed_files left)

-- The hasher holds a message, which together with the files that are left gives the digest of all.
pub record GoesOn (hasher : Sha256) (left : List AppSources) (all : Option (List ℕ)) : Type 0
  where
    pub message : List ℕ
    pub held : Holds256 hasher message
    pub is : digest_behind message left ≡ all

behind : (message file : List ℕ) (files : Option (List ℕ))
    → option_map (λ rest. sha256 (message ++ rest)) (option_map (λ rest. file ++ rest) files)
    ≡ option_map (λ rest. sha256 ((message ++ file) ++ rest)) files
behind message file (Some files) =
    ap (λ (l : List ℕ). Some (sha256 l)) (sym (append_assoc message file files))
behind message file None = refl

chosen : (message : List ℕ) (apps : List AppSources) (app : AppSources) (file : List ℕ)
    → framed_file app.kept ≡ Some file
    → digest_behind message (app ∷ apps) ≡ digest_behind (message ++ file) apps
unfolding framed_files
chosen message apps app file is =
    ap (λ (kept : Option (List ℕ)). option_map (λ files. sha256 (message ++ files))
    (option_and_then (λ one. option_map (λ files. one ++ files) (framed_files apps)) kept)) is
    ∙ behind message file (framed_files apps)

pub one_file : {h new : Sha256} {all : Option (List ℕ)} (left apps : List AppSources)
    (app : AppSources) (piece : List ℕ) → left ≡ app ∷ apps
    → framed_file app.kept ≡ Some (framed piece)
    → ((m : List ℕ) → Holds256 h m → Holds256 new (m ++ framed piece))
    → GoesOn h left all → GoesOn new apps all
one_file {h} {new} {all} left apps app piece left_is is adds goes = record {
  message = goes.message ++ framed piece;
  held = adds goes.message goes.held;
  is =
      sym (chosen goes.message apps app (framed piece) is)
      ∙ sym (ap (digest_behind goes.message) left_is) ∙ goes.is;
}

pub no_file : {h : Sha256} {all : Option (List ℕ)} (left apps : List AppSources)
    (app : AppSources) → left ≡ app ∷ apps → framed_file app.kept ≡ None → GoesOn h left all
    → None ≡ all
unfolding framed_files
no_file {h} {all} left apps app left_is is goes =
    sym (ap (digest_behind goes.message) left_is
    ∙ ap (λ (kept : Option (List ℕ)). option_map (λ files. sha256 (goes.message ++ files))
    (option_and_then (λ one. option_map (λ files. one ++ files) (framed_files apps)) kept)) is)
    ∙ goes.is

pub all_files : {h : Sha256} {all : Option (List ℕ)} (left : List AppSources) (digest : List ℕ)
    → left ≡ [] → ((m : List ℕ) → Holds256 h m → digest ≡ sha256 m) → GoesOn h left all
    → Some digest ≡ all
unfolding framed_files
all_files {h} {all} left digest left_is finishes goes =
    ap (λ (d : List ℕ). Some d) (finishes goes.message goes.held)
    ∙ ap (λ (l : List ℕ). Some (sha256 l)) (sym (append-nil goes.message))
    ∙ sym (ap (digest_behind goes.message) left_is) ∙ goes.is
