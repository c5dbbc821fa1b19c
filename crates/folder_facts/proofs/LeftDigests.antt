-- The digests of what steps found and left.
use Rattle.std.proofs.Common.{◌≡◌, sym, subst, ℕ, List, [], ◌∷◌, ◌++◌, Option, Some, String}
use Rattle.std.specs.Prelude.{IfSome, string_bytes}
use Rattle.std.proofs.lemmas.List.Elements.{All-push}
use Rattle.std.specs.declared.alloc.Global.{Global}
use Rattle.hex.specs.Hex.{encode_lower}
use Rattle.bounded_files.specs.Files.{KnownFiles}
use Rattle.load.specs.Digest.{digest_of}
use Rattle.load.specs.declared.opened.CollectedManifest.{CollectedManifest}
use Rattle.stage_records.specs.Steps.{ReplacedFile, StagingStep}
use Rattle.stage_servers.specs.Earlier.{AreNamedAs, IsCollectedWith, files_at}
use Rattle.folder_facts.specs.Digests.{AreLeft, IsDigestOf, IsLeft}

pub digest_shown : (manifest : CollectedManifest) (digest : List ℕ) (text : String Global)
    → Some digest ≡ digest_of manifest.bytes.items manifest.sources.apps.items
    → string_bytes text ≡ encode_lower digest → IsDigestOf manifest text
digest_shown manifest digest text is digits =
    record { digest = digest; has = sym is; digits = digits }

-- one digest more
pub one_more : (known : KnownFiles) (path : List ℕ) (steps : List StagingStep) (first count : ℕ)
    (files given : List ReplacedFile) (manifest : CollectedManifest)
    (found : Option (String Global)) (text : String Global) (digests new : List (String Global))
    → AreNamedAs files (files_at steps first count) → given ≡ files
    → IsCollectedWith known path given manifest → IfSome found (IsDigestOf manifest)
    → found ≡ Some text → new ≡ digests ++ text ∷ [] → AreLeft known path steps digests
    → AreLeft known path steps new
one_more known path steps first count files given manifest found text digests new named same are
    digest is grown left =
    subst (λ (l : List (String Global)). AreLeft known path steps l) (sym grown)
    (All-push (IsLeft known path steps) digests text left (record {
      first = first;
      count = count;
      files = files;
      named = named;
      manifest = manifest;
      are = subst (λ (l : List ReplacedFile). IsCollectedWith known path l manifest) same are;
      digest = subst (λ (o : Option (String Global)). IfSome o (IsDigestOf manifest)) is digest;
    }))
