-- From what is kept of a file to the verdict on its bytes, and to the counts.
use Rattle.std.proofs.Common.{◌≡◌, ℕ, ◌<◌, List, length, Vec, Bool, true, false}
use Rattle.std.proofs.Common.{Option, Some, None, Result, Ok, Err, IfOk, IfErr}
use Rattle.std.proofs.Common.{refl, sym, ◌∙◌, subst}
use Rattle.std.specs.Prelude.{◌↔◌, IsTrue, IsUtf8}
use Rattle.std.specs.declared.alloc.Global.{Global}
use Rattle.acceptance.specs.Rule.{no_rule, no_text}
use Rattle.acceptance.specs.declared.program_fault.ProgramFault.TheVariants.{Flow}
use Rattle.acceptance.specs.declared.program_fault.RuleTextFault.TheVariants.{Text}
use Rattle.bounded_files.specs.Files.{KnownFiles, Gives}
use Rattle.bounded_files.specs.Kept.{IsKeptOf, KeepsFile}
use Rattle.bpf_semantics.specs.Program.{ShapedProgram}
use Rattle.cells.specs.Arrays.{AppShape}
use Rattle.flow_check.specs.declared.flow_fault.FlowFault.TheVariants as flow
use Rattle.flow_check.specs.declared.flow_fault.FlowRule.TheVariants.{TooLong}
use Rattle.manifest.specs.App.{file_of}
use Rattle.manifest.specs.declared.app.ProgramSource.{ProgramSource}
use Rattle.manifest.specs.declared.app.ProgramSource.TheVariants as source
use Rattle.rule_lang.specs.Verdicts.{too_long}
use Rattle.rule_lang.specs.declared.rule_fault.RuleFault.TheVariants.{At}
use Rattle.rule_lang.specs.declared.rule_fault.RuleFaultKind.TheVariants as kind
use Rattle.load.specs.declared.load_fault.AppFault.{AppFault}
use Rattle.load.specs.declared.load_fault.AppFault.TheVariants as app
use Rattle.bounded_files.specs.declared.kept_bytes.KeptBytes.{KeptBytes}
use Rattle.bounded_files.specs.declared.kept_bytes.KeptBytes.TheVariants.{Whole, Longer}
use Rattle.load.specs.JudgedApps.{IsAppProgram, IsGivenBy, IsGivenByKept, IsRuleKept}
use Rattle.load.specs.declared.judged.AppProgram.{AppProgram}
use Rattle.load.specs.declared.sources.AppSources.{AppSources}
use Rattle.load.specs.Kept.{IsKeptFrom, IsLonger, IsProgramKept, RefusesKept}
use Rattle.load.specs.Kept.{long_count, most_of}
use Rattle.load.specs.Source.{IsProgramFrom, IsProgramIn, RefusesBytes, RefusesFile}
use Rattle.load.specs.Source.{RefusesSource, RefusesText}
use Rattle.load.proofs.Long.{long_verdict}

pub no_file : (from : ProgramSource) (bytes : List ℕ) (shape : AppShape)
    → RefusesFile from bytes shape app.File → ⊥
no_file (source.Program file) bytes shape h = h
no_file (source.Rule file) bytes shape h = h

-- ---- a file that couldn't be read

pub unread_fault : (from : ProgramSource) (kept : Option KeptBytes) (shape : AppShape) → kept ≡ None
    → RefusesKept from kept shape app.File
unread_fault from kept shape is =
    subst (λ (x : Option KeptBytes). RefusesKept from x shape app.File) (sym is) tt

-- ---- a file that is kept whole

module _ (from : ProgramSource) (kept : Option KeptBytes) (v : Vec ℕ Global) (bytes : List ℕ)
    (is : kept ≡ Some (Whole v)) (same : bytes ≡ v.items) where
  pub whole_program : (r : Result AppProgram AppFault) → IfOk r (IsGivenBy from bytes)
      → IfOk r (IsGivenByKept from kept)
  whole_program (Ok p) h =
      subst (λ (x : Option KeptBytes). IsGivenByKept from x p) (sym is)
      (subst (λ (b : List ℕ). IsGivenBy from b p) same h)
  whole_program (Err fault) h = tt

  pub whole_fault : (shape : AppShape) (r : Result AppProgram AppFault)
      → IfErr r (RefusesFile from bytes shape) → IfErr r (RefusesKept from kept shape)
  whole_fault shape (Ok p) h = tt
  whole_fault shape (Err fault) h =
      subst (λ (x : Option KeptBytes). RefusesKept from x shape fault) (sym is)
      (subst (λ (b : List ℕ). RefusesFile from b shape fault) same h)

-- ---- the program and the rule of what is kept

program_kept : (from : ProgramSource) (kept : Option KeptBytes) (p : AppProgram)
    → IsGivenByKept from kept p → IsProgramKept from kept p.program
program_kept (source.Program file) None p h = absurd h
program_kept (source.Program file) (Some (Whole v)) p h = h.0
program_kept (source.Program file) (Some (Longer v count is_text)) p h = absurd h
program_kept (source.Rule file) None p h = absurd h
program_kept (source.Rule file) (Some (Whole v)) p h = h.0
program_kept (source.Rule file) (Some (Longer v count is_text)) p h = absurd h

rule_kept : (from : ProgramSource) (kept : Option KeptBytes) (p : AppProgram)
    → IsGivenByKept from kept p → IsRuleKept from kept p.program p.rule
rule_kept (source.Program file) None p h = absurd h
rule_kept (source.Program file) (Some (Whole v)) p h = h.1
rule_kept (source.Program file) (Some (Longer v count is_text)) p h = absurd h
rule_kept (source.Rule file) None p h = absurd h
rule_kept (source.Rule file) (Some (Whole v)) p h = h
rule_kept (source.Rule file) (Some (Longer v count is_text)) p h = absurd h

pub app_program : (app : AppSources) (r : Result AppProgram AppFault)
    → IfOk r (λ p. p.program.shape ≡ app.shape) → IfOk r (IsGivenByKept app.entry.source app.kept)
    → IfOk r (IsAppProgram app)
app_program app (Ok p) shape given = record {
  judged = record {
    shape_is = shape;
    program_is = program_kept app.entry.source app.kept p given;
  };
  rule_is = rule_kept app.entry.source app.kept p given;
}
app_program app (Err fault) shape given = tt

-- ---- a file that is too long

pub long_program : (bytes : List ℕ) (shape : AppShape) → 32768 < length bytes
    → RefusesBytes bytes shape (app.Program (Flow (flow.Rule 0 TooLong)))
long_program bytes shape long = (((long, refl), long_verdict bytes long), refl)

pub long_text : (bytes : List ℕ) (shape : AppShape) (is_text : Bool) → is_text ≡ true
    → 65536 < length bytes → (IsTrue is_text ↔ IsUtf8 bytes)
    → RefusesText bytes shape (app.Rule (Text (At 1 kind.Range)))
long_text bytes shape is_text holds long utf8 = (no_rule (utf8.0 holds) (too_long long), refl)

pub no_text_at_all : (bytes : List ℕ) (shape : AppShape) (is_text : Bool) → is_text ≡ false
    → (IsTrue is_text ↔ IsUtf8 bytes) → RefusesText bytes shape (app.Rule (Text (At 1 kind.Token)))
no_text_at_all bytes shape is_text fails utf8 =
    (no_text (λ h. let both = sym fails ∙ utf8.1 h in absurd cc), refl)

module _ (from : ProgramSource) (kept : Option KeptBytes) (beginning : Vec ℕ Global) (count : ℕ)
    (is_text : Bool) (fault : AppFault) (is : kept ≡ Some (Longer beginning count is_text)) where
  pub longer_fault : (shape : AppShape)
      → ((bytes : List ℕ) (s : AppShape) → IsLonger from is_text bytes
      → RefusesFile from bytes s fault) → RefusesKept from kept shape fault
  longer_fault shape refuses =
      subst (λ (x : Option KeptBytes). RefusesKept from x shape fault) (sym is)
      (λ bytes longer. refuses bytes shape longer)

-- ---- a file that gives a program isn't too long

pub none_long : (from : ProgramSource) (kept : Option KeptBytes) (p : ShapedProgram)
    → IsProgramKept from kept p → long_count kept ≡ 0
none_long from None p h = absurd h
none_long from (Some (Whole v)) p h = refl
none_long from (Some (Longer v n is_text)) p h = absurd h

-- ---- the file of which this is kept

pub kept_unread : (known : KnownFiles) (from : ProgramSource) (name : List ℕ)
    → name ≡ file_of from → Gives known name None → IsKeptFrom known from None
kept_unread known from name named gives = subst (λ (n : List ℕ). Gives known n None) named gives

pub kept_from : (known : KnownFiles) (from : ProgramSource) (name : List ℕ) (most : ℕ)
    (k : KeptBytes) → name ≡ file_of from → most ≡ most_of from → KeepsFile most known name (Ok k)
    → IsKeptFrom known from (Some k)
kept_from known from name most k named is h = (
  h.0,
  subst (λ (n : List ℕ). Gives known n (Some h.0)) named h.1,
  subst (λ (m : ℕ). IsKeptOf m h.0 k) is h.2,
)

-- ---- the program of the file

whole_is : (most : ℕ) (v : Vec ℕ Global) (bytes : List ℕ) → IsKeptOf most bytes (Whole v)
    → v.items ≡ bytes
whole_is most v bytes k = k.0

file_refused : (known : KnownFiles) (from : ProgramSource) (shape : AppShape) (fault : AppFault)
    (bytes : List ℕ) → Gives known (file_of from) (Some bytes) → RefusesFile from bytes shape fault
    → RefusesSource known from shape fault
file_refused known from shape app.File bytes gives h = absurd (no_file from bytes shape h)
file_refused known from shape app.Memory bytes gives h = tt
file_refused known from shape (app.Program fault) bytes gives h = (bytes, gives, h)
file_refused known from shape (app.Rule fault) bytes gives h = (bytes, gives, h)

unread_refused : (known : KnownFiles) (from : ProgramSource) (shape : AppShape) (fault : AppFault)
    → Gives known (file_of from) None → RefusesKept from None shape fault
    → RefusesSource known from shape fault
unread_refused known from shape app.File gives h = gives
unread_refused known from shape app.Memory gives h = tt
unread_refused known from shape (app.Program fault) gives h = absurd h
unread_refused known from shape (app.Rule fault) gives h = absurd h

module _ (known : KnownFiles) (from : ProgramSource) where
  program_given : (k : KeptBytes) (p : ShapedProgram) (bytes : List ℕ)
      → Gives known (file_of from) (Some bytes) → IsKeptOf (most_of from) bytes k
      → IsProgramKept from (Some k) p → IsProgramIn known from p
  program_given (Longer v n is_text) p bytes gives k h = absurd h
  program_given (Whole v) p bytes gives k h = (
    bytes,
    gives,
    subst (λ (b : List ℕ). IsProgramFrom from b p) (whole_is (most_of from) v bytes k) h,
  )

  fault_given : (k : KeptBytes) (shape : AppShape) (fault : AppFault) (bytes : List ℕ)
      → Gives known (file_of from) (Some bytes) → IsKeptOf (most_of from) bytes k
      → RefusesKept from (Some k) shape fault → RefusesSource known from shape fault
  fault_given (Whole v) shape fault bytes gives k h =
      file_refused known from shape fault bytes gives
      (subst (λ (b : List ℕ). RefusesFile from b shape fault)
      (whole_is (most_of from) v bytes k) h)
  fault_given (Longer v n is_text) shape fault bytes gives k h =
      file_refused known from shape fault bytes gives (h bytes (k.1, k.3))

  pub program_of : (kept : Option KeptBytes) → IsKeptFrom known from kept → (p : ShapedProgram)
      → IsProgramKept from kept p → IsProgramIn known from p
  program_of None is p h = absurd h
  program_of (Some k) is p h = program_given k p is.0 is.1 is.2 h

  pub fault_of : (kept : Option KeptBytes) → IsKeptFrom known from kept → (shape : AppShape)
      (fault : AppFault) → RefusesKept from kept shape fault → RefusesSource known from shape fault
  fault_of None is shape fault h = unread_refused known from shape fault is h
  fault_of (Some k) is shape fault h = fault_given k shape fault is.0 is.1 is.2 h
