-- The report on a refused manifest: the further faults, and how many more there are. No clause says
-- the words; rows compare them.
use Rattle.std.specs.Prelude.{◌≡◌, ◌⊎◌, ℕ, ◌-◌, List, [], length, take, map}
use Rattle.why_refused_manifest.specs.Further.{AreFurther}
use Rattle.why_refused_manifest.specs.declared.refused.Refused.{Refused}
use Rattle.why_refused_manifest.specs.declared.refused.FaultReport.{FaultReport}
use Rattle.cells.specs.Directory.{Declaration}
use Rattle.load.specs.declared.load_fault.LoadFault.{LoadFault}
use Rattle.load.specs.declared.sources.AppSources.{AppSources}
use Rattle.manifest.specs.declared.refused.Parsed.{Parsed}

-- the most further faults that are printed
abbrev pub most_further : ℕ
most_further = 9

abbrev pub faults_in : List FaultReport → List LoadFault
faults_in reported = map (λ (t : FaultReport). t.fault) reported

module _ (parsed : Parsed) (arrays : List Declaration) (apps : List AppSources) where
  -- the first nine of the further faults, and how many more there are
  pub record ReportsFurther (fault : LoadFault) (reported : List FaultReport) (left_out : ℕ)
      : Type 0
    where
      pub faults : List LoadFault
      pub further : AreFurther parsed arrays apps fault faults
      pub first : faults_in reported ≡ take most_further faults
      pub left_out_is : left_out ≡ length faults - most_further

  -- those, or none if out of memory
  abbrev pub ReportsOthers : LoadFault → List FaultReport → ℕ → Type 0
  ReportsOthers fault reported left_out =
      ((reported ≡ []) × (left_out ≡ 0)) ⊎ ReportsFurther fault reported left_out

  -- the whole report, if after these apps there are `unread` ones whose files aren't read
  pub record ReportsRefused (unread : ℕ) (r : Refused) : Type 0 where
    pub further : ReportsOthers r.fault r.further.items r.left_out
    pub read_is : r.read ≡ length apps
    pub unread_is : r.unread ≡ unread
