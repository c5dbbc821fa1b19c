-- The entries of a manifest give one list of apps, or one of them is the first without a program,
-- with one fault.
use Rattle.std.proofs.Common.{◌≡◌, ◌≢◌, ℕ, suc, List, [], ◌∷◌, ◌++◌, length, map}
use Rattle.std.proofs.Common.{Option, Some, None, Result, Ok, Err, refl, sym, ◌∙◌, ap, subst}
use Rattle.std.proofs.lemmas.Option.{same_Some, none-some}
use Rattle.bpf_insn.specs.Program.{Program}
use Rattle.bpf_semantics.specs.Program.{shaped}
use Rattle.bpf_verify.specs.Accepted as verify
use Rattle.rule_lang.specs.Verdicts as rules
use Rattle.bounded_files.specs.Files.{KnownFile, bytes_of}
use Rattle.cells.specs.Arrays.{AppShape}
use Rattle.cells.specs.declared.array.ArrayNo.{ArrayNo}
use Rattle.cells.specs.declared.array.CellArray.{CellArray}
use Rattle.manifest.specs.App.{AppEntry}
use Rattle.ruleset.specs.Rules.{AppRule}
use Rattle.load.specs.declared.load_fault.AppFault.{AppFault}
use Rattle.load.specs.declared.load_fault.AppFault.TheVariants as app
use Rattle.load.specs.App.{IsShapeOf, IsAppOf, RefusesApp}
use Rattle.load.specs.Apps.{AreAppsOf, next, IsRefusedApp}
use Rattle.manifest.specs.App.{file_of}
use Rattle.load.proofs.OneProgram.{ComesTo, same_program}

-- ---- the shape of an app

same_list : (xs ys : List CellArray)
    → map (λ a. Some a) xs ≡ map (λ a. Some a) ys → xs ≡ ys
same_list [] [] e = refl
same_list [] (y ∷ ys) e = absurd cc
same_list (x ∷ xs) [] e = absurd cc
same_list (x ∷ xs) (y ∷ ys) e =
    let head : Some x ≡ Some y = cc in
    let tail : map (λ a. Some a) xs ≡ map (λ a. Some a) ys = cc in
    let first = same_Some x y head in
    let rest = same_list xs ys tail in cc

same_shape : (directory : List CellArray) (numbers : List ArrayNo) (entry : AppEntry)
    (s t : AppShape) → IsShapeOf directory numbers entry s → IsShapeOf directory numbers entry t
    → s ≡ t
same_shape directory numbers entry s t h k =
    let releases : s.releases ≡ t.releases = h.releases_are ∙ sym k.releases_are in
    let arrays : s.arrays ≡ t.arrays =
    same_list s.arrays t.arrays (h.arrays_are ∙ sym k.arrays_are) in
    ap (λ (n : ℕ). record { releases = n; arrays = s.arrays }) releases
    ∙ ap (λ (l : List CellArray). record { releases = t.releases; arrays = l }) arrays

-- the app that an entry and the code of its program make
abbrev pub made : AppEntry → AppShape → Result Program AppFault → Result AppRule AppFault
made entry shape (Ok code) = Ok (record {
  appid = entry.appid;
  program = shaped code shape;
  releases = entry.releases;
})
made entry shape (Err fault) = Err fault

module _ (files : List ℕ → Option KnownFile) (directory : List CellArray) (numbers : List ArrayNo)
  where
    -- the outcome of an entry
    abbrev pub EntryComesTo : AppEntry → Result AppRule AppFault → Type 0
    EntryComesTo entry (Ok rule) = IsAppOf (Some files) directory numbers entry rule
    EntryComesTo entry (Err fault) = RefusesApp (Some files) directory numbers entry fault

    -- the outcome, by the entry's file
    data Found (entry : AppEntry) : Result AppRule AppFault → Type 0 where
      no_file : bytes_of (files (file_of entry.source)) ≡ None → Found entry (Err app.File)
      file : (r : Result AppRule AppFault) (shape : AppShape) (bytes : List ℕ)
          (c : Result Program AppFault) → IsShapeOf directory numbers entry shape
          → bytes_of (files (file_of entry.source)) ≡ Some bytes
          → ComesTo entry.source bytes shape c → c ≢ Err app.Memory → r ≡ made entry shape c
          → Found entry r

    found : (entry : AppEntry) (r : Result AppRule AppFault) → EntryComesTo entry r
        → r ≢ Err app.Memory → Found entry r
    found entry (Ok rule) h known =
        file (Ok rule) rule.program.shape h.program_is.0 (Ok rule.program.code) h.shape_is
        h.program_is.1 h.program_is.2 (λ e. absurd cc)
        (ap (λ x. Ok x) (ap (λ (t : List ℕ). record {
          appid = t;
          program = rule.program;
          releases = rule.releases;
        }) h.appid_is
        ∙ ap (λ l. record { appid = entry.appid; program = rule.program; releases = l })
        h.releases_are))
    found entry (Err app.File) h known = no_file h.2
    found entry (Err app.Memory) h known = absurd (known refl)
    found entry (Err (app.Program fault)) h known =
        file (Err (app.Program fault)) h.0 h.2.0 (Err (app.Program fault)) h.1 h.2.1 h.2.2
        (λ e. absurd cc) refl
    found entry (Err (app.Rule fault)) h known =
        file (Err (app.Rule fault)) h.0 h.2.0 (Err (app.Rule fault)) h.1 h.2.1 h.2.2
        (λ e. absurd cc) refl

    -- the first entry without a program is at this place
    pub data IsRefusedFrom : List AppEntry → ℕ → AppFault → Type 0 where
      here : {entry : AppEntry} {after : List AppEntry} {fault : AppFault}
          → RefusesApp (Some files) directory numbers entry fault
          → IsRefusedFrom (entry ∷ after) 0 fault
      there : {entry : AppEntry} {after : List AppEntry} {k : ℕ} {fault : AppFault} (rule : AppRule)
          → IsAppOf (Some files) directory numbers entry rule → IsRefusedFrom after k fault
          → IsRefusedFrom (entry ∷ after) (suc k) fault

    refused_from : (before : List AppEntry) (apps : List AppRule) (entry : AppEntry)
        (after : List AppEntry) (fault : AppFault)
        → AreAppsOf (Some files) directory numbers before apps
        → RefusesApp (Some files) directory numbers entry fault
        → IsRefusedFrom (before ++ entry ∷ after) (length before) fault
    refused_from [] apps entry after fault are h = here h
    refused_from (e ∷ before) [] entry after fault are h = elim are [ ]
    refused_from (e ∷ before) (a ∷ apps) entry after fault (next first rest) h =
        there a first (refused_from before apps entry after fault rest h)

    pub refused_at : (entries : List AppEntry) (number : ℕ) (fault : AppFault)
        → (r : IsRefusedApp (Some files) directory numbers entries number fault)
        → IsRefusedFrom entries (length r.before) fault
    refused_at entries number fault r =
        subst (λ (l : List AppEntry). IsRefusedFrom l (length r.before) fault) (sym r.entries_are)
        (refused_from r.before r.apps r.entry r.after fault r.supplied r.refused)

    module _ (judged : (p : Program) (shape : AppShape) → verify.ProgramHasOneVerdict p shape)
        (told : (shape : AppShape) (text : List ℕ) → rules.RuleHasOneVerdict shape text) where
      same_found : (entry : AppEntry) {r s : Result AppRule AppFault} → Found entry r
          → Found entry s → r ≡ s
      same_found entry (no_file h) (no_file k) = refl
      same_found entry (no_file h) (file s t b c shape given comes known is) =
          absurd (none-some b (sym h ∙ given))
      same_found entry (file r t b c shape given comes known is) (no_file h) =
          absurd (none-some b (sym h ∙ given))
      same_found entry (file r t b c shape given comes known is)
          (file s u d e form also came filed are) =
          let shapes : u ≡ t = same_shape directory numbers entry u t form shape in
          let read : d ≡ b = same_Some d b (sym also ∙ given) in
          let there : ComesTo entry.source b t e =
          subst (λ (x : AppShape). ComesTo entry.source b x e) shapes
          (subst (λ (x : List ℕ). ComesTo entry.source x u e) read came) in
          let same : c ≡ e = same_program judged told entry.source b t c e comes there known
          filed in
          is ∙ ap (λ (x : Result Program AppFault). made entry t x) same
          ∙ ap (λ (x : AppShape). made entry x e) (sym shapes) ∙ sym are

      same_app : (entry : AppEntry) (r s : Result AppRule AppFault) → EntryComesTo entry r
          → EntryComesTo entry s → r ≢ Err app.Memory → s ≢ Err app.Memory → r ≡ s
      same_app entry r s h k known also =
          same_found entry (found entry r h known) (found entry s k also)

      abbrev rule_in : Result AppRule AppFault → AppRule → AppRule
      rule_in (Ok rule) other = rule
      rule_in (Err fault) other = other

      abbrev fault_in : Result AppRule AppFault → AppFault
      fault_in (Ok rule) = app.Memory
      fault_in (Err fault) = fault

      same_rule : (entry : AppEntry) (rule other : AppRule)
          → IsAppOf (Some files) directory numbers entry rule
          → IsAppOf (Some files) directory numbers entry other → rule ≡ other
      same_rule entry rule other h k =
          ap (λ (r : Result AppRule AppFault). rule_in r other)
          (same_app entry (Ok rule) (Ok other) h k (λ e. absurd cc) (λ e. absurd cc))

      not_refused : (entry : AppEntry) (rule : AppRule) (fault : AppFault)
          → IsAppOf (Some files) directory numbers entry rule
          → RefusesApp (Some files) directory numbers entry fault → fault ≢ app.Memory → ⊥
      not_refused entry rule fault h k known =
          let same = same_app entry (Ok rule) (Err fault) h k (λ e. absurd cc)
          (λ e. known (ap fault_in e)) in absurd cc

      same_fault : (entry : AppEntry) (e f : AppFault)
          → RefusesApp (Some files) directory numbers entry e
          → RefusesApp (Some files) directory numbers entry f → e ≢ app.Memory → f ≢ app.Memory
          → e ≡ f
      same_fault entry e f h k known also =
          ap fault_in (same_app entry (Err e) (Err f) h k (λ x. known (ap fault_in x))
          (λ x. also (ap fault_in x)))

      pub same_apps : (entries : List AppEntry) (apps others : List AppRule)
          → AreAppsOf (Some files) directory numbers entries apps
          → AreAppsOf (Some files) directory numbers entries others → apps ≡ others
      same_apps [] [] [] are also = refl
      same_apps [] [] (b ∷ others) are also = elim also [ ]
      same_apps [] (a ∷ apps) others are also = elim are [ ]
      same_apps (e ∷ entries) [] others are also = elim are [ ]
      same_apps (e ∷ entries) (a ∷ apps) [] are also = elim also [ ]
      same_apps (e ∷ entries) (a ∷ apps) (b ∷ others) (next h are) (next k also) =
          let first = same_rule e a b h k in
          let rest = same_apps entries apps others are also in cc

      pub same_refusal : (entries : List AppEntry) {j k : ℕ} {e f : AppFault}
          → IsRefusedFrom entries j e → IsRefusedFrom entries k f → e ≢ app.Memory
          → f ≢ app.Memory → (j ≡ k) × (e ≡ f)
      same_refusal [] h k known also = elim h [ ]
      same_refusal (x ∷ entries) {e = e} {f = f} (here h) (here k) known also =
          (refl, same_fault x e f h k known also)
      same_refusal (x ∷ entries) {e = e} (here h) (there rule k more) known also =
          absurd (not_refused x rule e k h known)
      same_refusal (x ∷ entries) {f = f} (there rule h more) (here k) known also =
          absurd (not_refused x rule f h k also)
      same_refusal (x ∷ entries) (there rule h more) (there other k rest) known also =
          let same = same_refusal entries more rest known also in
          (ap (λ n. suc n) same.0, same.1)

      pub not_both : (entries : List AppEntry) (apps : List AppRule) {k : ℕ} {e : AppFault}
          → AreAppsOf (Some files) directory numbers entries apps → IsRefusedFrom entries k e
          → e ≢ app.Memory → ⊥
      not_both [] apps are r known = elim r [ ]
      not_both (x ∷ entries) [] are r known = elim are [ ]
      not_both (x ∷ entries) (a ∷ apps) {e = e} (next h are) (here k) known =
          not_refused x a e h k known
      not_both (x ∷ entries) (a ∷ apps) (next h are) (there rule k more) known =
          not_both entries apps are more known
