-- A manifest that is too long fails with this fault, whatever its bytes are.
use Rattle.std.proofs.Common.{◌≡◌, [], refl, sym, subst}
use Rattle.load.specs.Load.{IsLoadFault, of_bytes}
use Rattle.load.specs.Sources.{AreArraysWithFault, IsParsedWithFault}
use Rattle.load.specs.declared.load_fault.LoadFault.{LoadFault}
use Rattle.load.specs.declared.load_fault.LoadFault.TheVariants.{Manifest}
use Rattle.manifest.specs.declared.manifest_fault.ManifestFault.TheVariants.{Toml}
use Rattle.manifest.specs.declared.manifest_fault.TomlFault.TheVariants.{TooLong}
use Rattle.manifest.specs.declared.refused.Parsed.TheVariants.{Nothing}
use Rattle.why_refused_manifest.specs.Check.{FailsIfLong, no_file}
use Rattle.why_refused_manifest.specs.Reported.{ReportsRefused}
use Rattle.why_refused_manifest.specs.declared.refused.Refused.{Refused}

pub fails_if_long : (r : Refused) → r.fault ≡ Manifest (Toml TooLong)
    → ReportsRefused Nothing [] [] 0 r → FailsIfLong r
fails_if_long r is reported known bytes long = record {
  refused = subst (λ (f : LoadFault). IsLoadFault known [] bytes f) (sym is) (of_bytes long);
  parsed = Nothing;
  parsed_is = subst (λ (f : LoadFault). IsParsedWithFault bytes f Nothing) (sym is) tt;
  arrays = [];
  apps = [];
  unread = 0;
  read_until = no_file (λ any.
      subst (λ (f : LoadFault). IsLoadFault any [] bytes f) (sym is) (of_bytes long))
      (subst (λ (f : LoadFault). AreArraysWithFault bytes f []) (sym is) refl);
  reported = reported;
}
