-- Faults, each with its own lines.
use Rattle.std.proofs.Common.{◌≡◌, ℕ, ◌-◌, List, [], ◌∷◌, ◌++◌, length, map, take}
use Rattle.std.proofs.Common.{sym, ap, ◌∙◌, append_assoc, append-nil}
use Rattle.std.proofs.lemmas.List.{map-append}
use Rattle.cells.specs.Directory.{Declaration}
use Rattle.why_refused_manifest.specs.Further.{AreFurther}
use Rattle.why_refused_manifest.specs.Reported.{ReportsFurther, faults_in}
use Rattle.why_refused_manifest.specs.declared.refused.FaultReport.{FaultReport}
use Rattle.load.specs.declared.load_fault.LoadFault.{LoadFault}
use Rattle.load.specs.declared.sources.AppSources.{AppSources}
use Rattle.manifest.specs.declared.refused.Parsed.{Parsed}

pub none_yet : (old : List FaultReport) (left all : List LoadFault) → old ≡ [] → left ≡ all
    → faults_in old ++ left ≡ all
none_yet old left all empty is = ap (λ l. faults_in l ++ left) empty ∙ is

-- the faults so far, and those that are left, are all faults
pub faults_more : (old new : List FaultReport) (t : FaultReport) (left rest all : List LoadFault)
    → faults_in old ++ left ≡ all → left ≡ t.fault ∷ rest → new ≡ old ++ t ∷ []
    → faults_in new ++ rest ≡ all
faults_more old new t left rest all so_far left_is new_is =
    ap (λ l. faults_in l ++ rest) new_is
    ∙ ap (λ l. l ++ rest) (map-append (λ (s : FaultReport). s.fault) old (t ∷ []))
    ∙ append_assoc (faults_in old) (t.fault ∷ []) rest
    ∙ ap (λ l. faults_in old ++ l) (sym left_is) ∙ so_far

pub all_reported : (reported : List FaultReport) (left faults : List LoadFault)
    → faults_in reported ++ left ≡ faults → left ≡ [] → faults_in reported ≡ faults
all_reported reported left faults are is =
    sym (append-nil (faults_in reported)) ∙ ap (λ l. faults_in reported ++ l) (sym is) ∙ are

module _ (parsed : Parsed) (arrays : List Declaration) (apps : List AppSources) where
  -- nine faults, and how many more there are
  pub nine_reported : (fault : LoadFault) (faults few : List LoadFault)
      (reported : List FaultReport)
      (count left_out : ℕ) → AreFurther parsed arrays apps fault faults → few ≡ take 9 faults
      → faults_in reported ≡ few → count ≡ length faults → left_out ≡ count - 9
      → ReportsFurther parsed arrays apps fault reported left_out
  nine_reported fault faults few reported count left_out further few_are lines count_is
      left_out_is =
      record {
        faults = faults;
        further = further;
        first = lines ∙ few_are;
        left_out_is = left_out_is ∙ ap (λ n. n - 9) count_is;
      }
