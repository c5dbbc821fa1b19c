-- One server after the other.
use Rattle.std.proofs.Common.{◌≡◌, ◌++◌, ◌∙◌, ℕ, List, [], ◌∷◌, ap, append_assoc, refl, subst, sym}
use Rattle.std.specs.Prelude.{All, map, Vec, Result, Ok, Err, IfOk, false}
use Rattle.std.specs.declared.alloc.Global.{Global}
use Rattle.std.proofs.lemmas.List.Elements.{All-nil, All-push}
use Rattle.std.proofs.lemmas.List.{map-append}
use Rattle.bounded_files.specs.Files.{KnownFiles}
use Rattle.stage_servers.specs.Drift.{IsSurveyed}
use Rattle.stage_servers.specs.Ports.{AreSurveyed, ports_of}
use Rattle.stage_servers.specs.declared.options.StageOptions.{StageOptions}
use Rattle.stage_servers.specs.declared.serves.Surveyed.{Surveyed}

pub begins : (known : KnownFiles) (current ports : List ℕ)
    → AreSurveyed known current ports ports []
begins known current ports = record {
  are = All-nil (IsSurveyed known current);
  ports_are = refl;
}

pub one_more : (known : KnownFiles) (current ports left : List ℕ) (port : ℕ)
    (servers more : List Surveyed) (server : Surveyed) → more ≡ servers ++ server ∷ []
    → IsSurveyed known current server → server.port ≡ port
    → AreSurveyed known current ports (port ∷ left) servers
    → AreSurveyed known current ports left more
one_more known current ports left port servers more server pushed is at h = record {
  are = subst (All (IsSurveyed known current)) (sym pushed)
      (All-push (IsSurveyed known current) servers server h.are is);
  ports_are = ap (λ s. map (λ one. one.port) s ++ left) pushed
      ∙ ap (λ m. m ++ left) (map-append (λ one. one.port) servers (server ∷ []))
      ∙ append_assoc (map (λ one. one.port) servers) (server.port ∷ []) left
      ∙ ap (λ p. map (λ one. one.port) servers ++ p ∷ left) at ∙ h.ports_are;
}

pub surveyed : {E : Type 0} (known : KnownFiles) (current ports : List ℕ)
    (options : StageOptions) (result : Result (Vec Surveyed Global) E)
    → ports ≡ ports_of options
    → IfOk result (λ servers. AreSurveyed known current ports [] servers.items)
    → IfOk result (λ servers. options.no_load ≡ false
    → AreSurveyed known current (ports_of options) [] servers.items)
surveyed known current ports options (Ok servers) is are = λ served.
    subst (λ ps. AreSurveyed known current ps [] servers.items) is are
surveyed known current ports options (Err fault) is are = tt
