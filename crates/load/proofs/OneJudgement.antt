-- What is gathered of apps has one verdict: one list of programs, or one first fault.
use Rattle.std.proofs.Common.{◌≡◌, ◌≢◌, ℕ, suc, List, [], ◌∷◌, Vec, Bool, Result, Ok, Err}
use Rattle.std.proofs.Common.{Option, Some, None}
use Rattle.std.proofs.Common.{refl, sym, ◌∙◌, ap, subst}
use Rattle.std.specs.declared.alloc.Global.{Global}
use Rattle.bpf_insn.specs.Program.{Program}
use Rattle.bpf_semantics.specs.Program.{ShapedProgram, shaped}
use Rattle.bpf_verify.specs.Accepted as verify
use Rattle.rule_lang.specs.Verdicts as rules
use Rattle.cells.specs.Arrays.{AppShape}
use Rattle.load.specs.declared.load_fault.AppFault.{AppFault}
use Rattle.load.specs.declared.load_fault.AppFault.TheVariants as app
use Rattle.load.specs.declared.load_fault.LoadFault.{LoadFault}
use Rattle.load.specs.declared.load_fault.LoadFault.TheVariants.{Manifest as NoManifest, Cells}
use Rattle.load.specs.declared.load_fault.LoadFault.TheVariants.{File}
use Rattle.load.specs.declared.load_fault.LoadFault.TheVariants.{Program as NoProgram, Rule, Memory}
use Rattle.load.specs.declared.sources.AppSources.{AppSources}
use Rattle.bounded_files.specs.declared.kept_bytes.KeptBytes.{KeptBytes}
use Rattle.bounded_files.specs.declared.kept_bytes.KeptBytes.TheVariants.{Whole, Longer}
use Rattle.manifest.specs.declared.app.ProgramSource.{ProgramSource}
use Rattle.load.specs.Apps.{in_app}
use Rattle.load.specs.Judged.{AreJudged, next_program, IsJudged, RefusesSources}
use Rattle.load.specs.Judged.{IsFirstRefused, here, there}
use Rattle.load.specs.Kept.{IsProgramKept, RefusesKept}
use Rattle.load.specs.OneLoad.{HasOneJudgement, Judges}
use Rattle.load.specs.Source.{IsProgramFrom}
use Rattle.load.proofs.LongBytes.{longer}
use Rattle.load.proofs.OneProgram.{ComesTo, same_program}

-- the verdict on what is kept of a file, for a shape
abbrev Comes : ProgramSource → Option KeptBytes → AppShape → Result ShapedProgram AppFault → Type 0
Comes from kept shape (Ok p) = (p.shape ≡ shape) × IsProgramKept from kept p
Comes from kept shape (Err fault) = RefusesKept from kept shape fault

abbrev code_of : Result ShapedProgram AppFault → Result Program AppFault
code_of (Ok p) = Ok p.code
code_of (Err fault) = Err fault

abbrev code_in : Result Program AppFault → Program → Program
code_in (Ok code) other = code
code_in (Err fault) other = other

abbrev fault_in : {X : Type 0} → Result X AppFault → AppFault
fault_in (Ok x) = app.Memory
fault_in (Err fault) = fault

abbrev program_in : Result ShapedProgram AppFault → ShapedProgram → ShapedProgram
program_in (Ok p) other = p
program_in (Err fault) other = other

known : (r : Result ShapedProgram AppFault) → r ≢ Err app.Memory → code_of r ≢ Err app.Memory
known (Ok p) other = λ e. absurd cc
known (Err fault) other = λ e. other (ap (λ f. Err f) (ap fault_in e))

-- for a file that couldn't be read
unread : (from : ProgramSource) (shape : AppShape) (r : Result ShapedProgram AppFault)
    → Comes from None shape r → r ≢ Err app.Memory → r ≡ Err app.File
unread from shape (Ok p) h other = absurd h.1
unread from shape (Err app.File) h other = refl
unread from shape (Err app.Memory) h other = absurd (other refl)
unread from shape (Err (app.Program fault)) h other = absurd h
unread from shape (Err (app.Rule fault)) h other = absurd h

-- for its bytes, if all are kept; and for any bytes that a file that is too long may have
whole_bytes : (from : ProgramSource) (v : Vec ℕ Global) (shape : AppShape)
    (r : Result ShapedProgram AppFault) → Comes from (Some (Whole v)) shape r
    → ComesTo from v.items shape (code_of r)
whole_bytes from v shape (Ok p) h =
    subst (λ (s : AppShape). IsProgramFrom from v.items (shaped p.code s)) h.0 h.1
whole_bytes from v shape (Err fault) h = h

longer_bytes : (from : ProgramSource) (v : Vec ℕ Global) (count : ℕ) (is_text : Bool)
    (shape : AppShape) (r : Result ShapedProgram AppFault)
    → Comes from (Some (Longer v count is_text)) shape r
    → ComesTo from (longer from is_text).0 shape (code_of r)
longer_bytes from v count is_text shape (Ok p) h = absurd h.1
longer_bytes from v count is_text shape (Err fault) h =
    h (longer from is_text).0 (longer from is_text).1

same_parts : (from : ProgramSource) (kept : Option KeptBytes) (shape : AppShape)
    (r s : Result ShapedProgram AppFault) → Comes from kept shape r → Comes from kept shape s
    → code_of r ≡ code_of s → r ≡ s
same_parts from kept shape (Ok p) (Ok q) h k same =
    let code : p.code ≡ q.code = ap (λ (c : Result Program AppFault). code_in c q.code) same in
    ap (λ x. Ok x)
    (ap (λ (c : Program). shaped c p.shape) code
    ∙ ap (λ (s : AppShape). shaped q.code s) (h.0 ∙ sym k.0))
same_parts from kept shape (Ok p) (Err f) h k same = absurd cc
same_parts from kept shape (Err e) (Ok q) h k same = absurd cc
same_parts from kept shape (Err e) (Err f) h k same = ap (λ x. Err x) (ap fault_in same)

module _ (judged : (p : Program) (shape : AppShape) → verify.ProgramHasOneVerdict p shape)
    (told : (shape : AppShape) (text : List ℕ) → rules.RuleHasOneVerdict shape text) where
  same_kept : (from : ProgramSource) (kept : Option KeptBytes) (shape : AppShape)
      (r s : Result ShapedProgram AppFault) → Comes from kept shape r → Comes from kept shape s
      → r ≢ Err app.Memory → s ≢ Err app.Memory → r ≡ s
  same_kept from None shape r s h k other also =
      unread from shape r h other ∙ sym (unread from shape s k also)
  same_kept from (Some (Whole v)) shape r s h k other also =
      same_parts from (Some (Whole v)) shape r s h k
      (same_program judged told from v.items shape (code_of r) (code_of s)
      (whole_bytes from v shape r h) (whole_bytes from v shape s k) (known r other)
      (known s also))
  same_kept from (Some (Longer v count is_text)) shape r s h k other also =
      same_parts from (Some (Longer v count is_text)) shape r s h k
      (same_program judged told from (longer from is_text).0 shape (code_of r) (code_of s)
      (longer_bytes from v count is_text shape r h)
      (longer_bytes from v count is_text shape s k) (known r other) (known s also))

  same_of : (one : AppSources) (r s : Result ShapedProgram AppFault)
      → Comes one.entry.source one.kept one.shape r → Comes one.entry.source one.kept one.shape s
      → r ≢ Err app.Memory → s ≢ Err app.Memory → r ≡ s
  same_of one r s = same_kept one.entry.source one.kept one.shape r s

  same_one : (one : AppSources) (p q : ShapedProgram) → IsJudged one p → IsJudged one q → p ≡ q
  same_one one p q h k =
      ap (λ (r : Result ShapedProgram AppFault). program_in r q)
      (same_of one (Ok p) (Ok q) (h.shape_is, h.program_is) (k.shape_is, k.program_is)
      (λ e. absurd cc) (λ e. absurd cc))

  not_refused : (one : AppSources) (p : ShapedProgram) (fault : AppFault) → IsJudged one p
      → RefusesSources one fault → fault ≢ app.Memory → ⊥
  not_refused one p fault h k other =
      let same = same_of one (Ok p) (Err fault) (h.shape_is, h.program_is) k (λ e. absurd cc)
      (λ e. other (ap fault_in e)) in absurd cc

  same_fault : (one : AppSources) (e f : AppFault) → RefusesSources one e
      → RefusesSources one f → e ≢ app.Memory → f ≢ app.Memory → e ≡ f
  same_fault one e f h k other also =
      ap fault_in (same_of one (Err e) (Err f) h k (λ x. other (ap fault_in x))
      (λ x. also (ap fault_in x)))

  same_programs : (apps : List AppSources) (ps qs : List ShapedProgram)
      → AreJudged apps ps → AreJudged apps qs → ps ≡ qs
  same_programs [] [] [] h k = refl
  same_programs [] [] (q ∷ qs) h k = elim k [ ]
  same_programs [] (p ∷ ps) qs h k = elim h [ ]
  same_programs (a ∷ apps) [] qs h k = elim h [ ]
  same_programs (a ∷ apps) (p ∷ ps) [] h k = elim k [ ]
  same_programs (a ∷ apps) (p ∷ ps) (q ∷ qs) (next_program h hs) (next_program k ks) =
      let first = same_one a p q h k in
      let rest = same_programs apps ps qs hs ks in cc

  same_first : (apps : List AppSources) {m n : ℕ} {e f : AppFault}
      → IsFirstRefused apps m e → IsFirstRefused apps n f
      → e ≢ app.Memory → f ≢ app.Memory → (m ≡ n) × (e ≡ f)
  same_first [] h k other also = elim h [ ]
  same_first (a ∷ apps) {e = e} {f = f} (here h) (here k) other also =
      (refl, same_fault a e f h k other also)
  same_first (a ∷ apps) {e = e} (here h) (there p k more) other also =
      absurd (not_refused a p e k h other)
  same_first (a ∷ apps) {f = f} (there p h more) (here k) other also =
      absurd (not_refused a p f h k also)
  same_first (a ∷ apps) (there p h more) (there q k rest) other also =
      let same = same_first apps more rest other also in
      (ap (λ (n : ℕ). suc n) same.0, same.1)

  not_both : (apps : List AppSources) (ps : List ShapedProgram) {n : ℕ} {e : AppFault}
      → AreJudged apps ps → IsFirstRefused apps n e
      → e ≢ app.Memory → ⊥
  not_both [] ps h r other = elim r [ ]
  not_both (a ∷ apps) [] h r other = elim h [ ]
  not_both (a ∷ apps) (p ∷ ps) {e = e} (next_program h hs) (here k) other =
      not_refused a p e h k other
  not_both (a ∷ apps) (p ∷ ps) (next_program h hs) (there q k more) other =
      not_both apps ps hs more other

  -- a verdict, by its first fault, if it has one
  data Found (apps : List AppSources) : Result (List ShapedProgram) LoadFault → Type 0 where
    programs : (ps : List ShapedProgram) → AreJudged apps ps → Found apps (Ok ps)
    refused : (n : ℕ) (e : AppFault) → IsFirstRefused apps n e → e ≢ app.Memory
        → Found apps (Err (in_app n e))

  found : (apps : List AppSources) (r : Result (List ShapedProgram) LoadFault) → Judges apps r
      → r ≢ Err Memory → Found apps r
  found apps (Ok ps) h other = programs ps h
  found apps (Err (File n)) h other = refused n app.File h (λ e. absurd cc)
  found apps (Err (NoProgram n fault)) h other = refused n (app.Program fault) h (λ e. absurd cc)
  found apps (Err (Rule n fault)) h other = refused n (app.Rule fault) h (λ e. absurd cc)
  found apps (Err Memory) h other = absurd (other refl)
  found apps (Err (NoManifest fault)) h other = absurd h
  found apps (Err (Cells n fault)) h other = absurd h

  same_found : (apps : List AppSources) {r s : Result (List ShapedProgram) LoadFault}
      → Found apps r → Found apps s → r ≡ s
  same_found apps (programs ps h) (programs qs k) =
      ap (λ x. Ok x) (same_programs apps ps qs h k)
  same_found apps (programs ps h) (refused n e k other) =
      absurd (not_both apps ps h k other)
  same_found apps (refused n e h other) (programs ps k) =
      absurd (not_both apps ps k h other)
  same_found apps (refused m e h other) (refused n f k also) =
      let same = same_first apps h k other also in
      ap (λ (i : ℕ). Err (in_app i e)) same.0 ∙ ap (λ (x : AppFault). Err (in_app n x)) same.1

  pub one_judgement : HasOneJudgement
  one_judgement = λ apps r s h k other also.
      same_found apps (found apps r h other) (found apps s k also)
