-- What a server serves, and when an action continues there.
use Rattle.std.proofs.Common.{◌≡◌, ◌∙◌, ap, refl, subst, sym, Bool, true, false}
use Rattle.std.specs.Prelude.{◌||◌, not, IfSome, List, ℕ, Option, Some, None}
use Rattle.bounded_files.specs.Files.{KnownFiles}
use Rattle.load.specs.Opened.{IsCollected}
use Rattle.load.specs.declared.opened.CollectedManifest.{CollectedManifest}
use Rattle.stage_servers.specs.Drift.{IsServedBy, stops_by}
use Rattle.stage_servers.specs.Served.{IsGatheredAs}
use Rattle.stage_servers.specs.Stops.{IsRefusedOnlyIf}
use Rattle.stage_servers.specs.declared.outcome.Stop.{Stop}
use Rattle.stage_servers.specs.declared.outcome.Stop.TheVariants as stop
use Rattle.stage_servers.specs.declared.serves.Serves.TheVariants.{InPlace}

pub in_place : (known : KnownFiles) (current digest : List ℕ)
    (present : Option CollectedManifest) → IfSome present (IsCollected known current)
    → IsGatheredAs digest present → IsServedBy known current (Some digest) InPlace
in_place known current digest (Some manifest) is has = (manifest, is, has)
in_place known current digest None is has = absurd has

pub halt_goes_on : (halts strange other expected anyway : Bool) → halts ≡ true
    → stops_by halts strange other expected anyway ≡ false
halt_goes_on halts strange other expected anyway is =
    ap (λ h. stops_by h strange other expected anyway) is

pub other_goes_on : (halts strange other expected anyway : Bool) → strange ≡ true → other ≡ true
    → stops_by halts strange other expected anyway ≡ false
other_goes_on true strange other expected anyway is so = refl
other_goes_on false strange other expected anyway is so =
    ap (λ s. stops_by false s other expected anyway) is ∙ ap not so

pub expected_goes_on : (halts strange other expected anyway : Bool) → strange ≡ false
    → expected ≡ true → stops_by halts strange other expected anyway ≡ false
expected_goes_on true strange other expected anyway is so = refl
expected_goes_on false strange other expected anyway is so =
    ap (λ s. stops_by false s other expected anyway) is ∙ ap (λ e. not (e || anyway)) so

pub anyway_goes_on : (halts strange other expected anyway : Bool) → strange ≡ false
    → anyway ≡ true → stops_by halts strange other expected anyway ≡ false
anyway_goes_on true strange other expected anyway is so = refl
anyway_goes_on false strange other true anyway is so =
    ap (λ s. stops_by false s other true anyway) is
anyway_goes_on false strange other false anyway is so =
    ap (λ s. stops_by false s other false anyway) is ∙ ap (λ a. not (false || a)) so

-- ---- an action is refused

pub other_stops : (halts strange other expected anyway : Bool) (why : Stop) → halts ≡ false
    → strange ≡ true → IsRefusedOnlyIf (not other) why
    → IsRefusedOnlyIf (stops_by halts strange other expected anyway) why
other_stops halts strange other expected anyway why is so refused =
    subst (λ h. IsRefusedOnlyIf (stops_by h strange other expected anyway) why) (sym is)
    (subst (λ s. IsRefusedOnlyIf (stops_by false s other expected anyway) why) (sym so)
    refused)

pub drift_stops : (halts strange other expected anyway : Bool) (why : Stop) → halts ≡ false
    → strange ≡ false → expected ≡ false → IsRefusedOnlyIf (not anyway) why
    → IsRefusedOnlyIf (stops_by halts strange other expected anyway) why
drift_stops halts strange other expected anyway why is none not_expected refused =
    subst (λ h. IsRefusedOnlyIf (stops_by h strange other expected anyway) why) (sym is)
    (subst (λ s. IsRefusedOnlyIf (stops_by false s other expected anyway) why) (sym none)
    (subst (λ e. IsRefusedOnlyIf (not (e || anyway)) why) (sym not_expected) refused))

pub some_stops : (one others all : Bool) (why : Stop) → (one || others) ≡ all
    → IsRefusedOnlyIf one why → IsRefusedOnlyIf all why
some_stops one others all (stop.Refused reason) is so =
    sym is ∙ ap (λ o. o || others) so
some_stops one others all (stop.Failed reason) is so = tt
some_stops one others all stop.Memory is so = tt
