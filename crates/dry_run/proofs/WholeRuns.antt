-- Whole runs of an app's program: step by step, and by a rule that means the same.
use Rattle.std.proofs.Common.{◌≡◌, ◌∙◌, ℕ, suc, ◌≤◌, List, [], ◌∷◌, length, refl, ap, sym, subst}
use Rattle.std.proofs.Common.{Bool, Contains, Option, Some, None, arith, cond, false, true}
use Rattle.std.specs.Prelude.{ℤ, All, IsTrue, String, string_bytes}
use Rattle.std.specs.declared.alloc.Global.{Global}
use Rattle.std.specs.Str.{bytes_eq}
use Rattle.std.proofs.lemmas.List.Elements.{All-head, All-tail}
use Rattle.std.proofs.lemmas.Option.{none-some, same_Some}
use Rattle.std.proofs.lemmas.Slice.Eq.{bytes_eq-Decides}
use Rattle.attrs.specs.Attributes.{Attributes, AreShort, kept_text}
use Rattle.attrs.specs.Context.{HasContextRanges}
use Rattle.attrs.specs.Facts.{attributes_of}
use Rattle.attrs.specs.declared.facts.AppFacts.{AppFacts}
use Rattle.attrs.specs.declared.facts.RequestFacts.{RequestFacts}
use Rattle.answering.specs.Apps.{RunsApp, ran}
use Rattle.bpf_semantics.specs.Program.{ShapedProgram}
use Rattle.bpf_semantics.specs.Run.{Ends, last, more, operated}
use Rattle.bpf_semantics.specs.State.{State, opening}
use Rattle.bpf_verify.specs.Covers.{HasPossibleReply, IsCovered}
use Rattle.bpf_verify.specs.Covers.{EndsWell, RunsAreLawful, RunsEndWell, ends, goes, operates}
use Rattle.cells.specs.Arrays.{AppShape}
use Rattle.cells.specs.Events.{CanReply}
use Rattle.cells.specs.declared.event.CellEvent.{CellEvent}
use Rattle.cells.specs.declared.event.CellOp.{CellOp}
use Rattle.why_choice.specs.RuleLines.{ExplainsRule}
use Rattle.rule_compile.specs.Means.{Means}
use Rattle.rule_lang.specs.declared.rule.Statement.{Statement}
use Rattle.releases.specs.Appid.{is_appid}
use Rattle.ruleset.specs.Rules.{AppRule, ChoosesAmong, ListsApp, Rules, app_in, app_of, appid_of}
use Rattle.trace.specs.Trace.{IsTraced}
use Rattle.trace.specs.declared.jump.Jump.{Jump}
use Rattle.dry_run.specs.Courses.{ExplainsCourse, WholeRun}
use Rattle.dry_run.specs.declared.app_runs.ChoiceCourse.TheVariants.{ByRule, ByRun}
use Rattle.dry_run.proofs.Courses.{differs, choice_of, state_of, cell_of, op_of, next_of}

-- ---- a run that ends well is short and chooses among the releases

record IsBrief (p : ShapedProgram) (choice count : ℕ) : Type 0 where
  pub short : count ≤ length p.code
  pub among : choice ≤ p.shape.releases

brief : {p : ShapedProgram} {s : State} {es : List CellEvent} {choice count : ℕ}
    → EndsWell p s → All HasPossibleReply es → Ends p s es choice count
    → IsBrief p choice count
brief {p} (ends e among short) fits (last e' q) = record {
  short = subst (λ (n : ℕ). n ≤ length p.code) (sym q) short;
  among = subst (λ (n : ℕ). n ≤ p.shape.releases) (ap choice_of (sym e ∙ e')) among;
}
brief (ends e among short) fits (more e' r) = differs _ _ _ e e' (λ k. absurd cc)
brief (ends e among short) fits (operated e' r) = differs _ _ _ e e' (λ k. absurd cc)
brief (goes e w) fits (last e' q) = differs _ _ _ e e' (λ k. absurd cc)
brief {p} {s} (goes e w) fits (more e' r) =
    brief (subst (EndsWell p) (ap (state_of s) (sym e ∙ e')) w) fits r
brief (goes e w) fits (operated e' r) = differs _ _ _ e e' (λ k. absurd cc)
brief (operates e w) fits (last e' q) = differs _ _ _ e e' (λ k. absurd cc)
brief (operates e w) fits (more e' r) = differs _ _ _ e e' (λ k. absurd cc)
brief {p} (operates {cell} {op} {next} e w) fits (operated {e = d} {es} e' r) =
    let same = sym e ∙ e' in
    let first = All-head HasPossibleReply d es fits in
    let by_op : CanReply d.cell op d.reply =
    subst (λ (o : CellOp). CanReply d.cell o d.reply) (sym (ap (op_of op) same)) first in
    let fit : CanReply cell op d.reply =
    subst (λ (c : ℕ). CanReply c op d.reply) (sym (ap cell_of same)) by_op in
    brief (subst (EndsWell p) (ap (λ o. next_of next o d.reply) same) (w d.reply fit))
    (All-tail HasPossibleReply d es fits) r

-- ---- by a rule, and step by step

pub by_meaning : (p : ShapedProgram) (a : Attributes) (rule : List Statement)
    (old : List ℕ) (choice : ℕ) (new before : List ℕ) (lines : String Global) (shape : AppShape)
    → shape ≡ p.shape → before ≡ [] → ((b : Attributes) → Means b rule p)
    → HasContextRanges a.context → AreShort a.texts
    → ((b : Attributes) → AreShort b.texts → IsCovered p (opening b)) → RunsEndWell p
    → RunsAreLawful p → ExplainsRule a shape rule old before (string_bytes lines) choice new
    → ExplainsCourse p (Some rule) a old choice new (ByRule lines)
by_meaning p a rule old choice new before lines shape same fresh means ranges short opens well
    lawful given =
    let behind : ExplainsRule a shape rule old [] (string_bytes lines) choice new =
    subst (λ (b : List ℕ). ExplainsRule a shape rule old b (string_bytes lines) choice new) fresh
    given in
    let explains : ExplainsRule a p.shape rule old [] (string_bytes lines) choice new =
    subst (λ (s : AppShape). ExplainsRule a s rule old [] (string_bytes lines) choice new) same
    behind in
    let m = explains.meant in
    let run = means a ranges m.events choice m.trace in
    let covered = opens a short in
    let few = brief (well (opening a) covered (omega arith)) m.fits run.1 in
    record {
      count = run.0;
      run = record {
        events = m.events;
        grown = m.grown;
        ends = run.1;
        short = few.short;
        among = few.among;
        fits = m.fits;
        lawful = lawful (opening a) m.events choice run.0 covered m.fits run.1;
      };
      course_is = explains;
    }

pub by_trace : (p : ShapedProgram) (a held : Attributes) (old new : List ℕ) (choice count : ℕ)
    (jump : Option Jump) → held ≡ a
    → IsTraced p (opening held) old new choice count jump → count ≤ length p.code
    → choice ≤ p.shape.releases → ExplainsCourse p None a old choice new (ByRun count jump)
by_trace p a held old new choice count jump same traced short among =
    let run : IsTraced p (opening a) old new choice count jump =
    subst (λ (b : Attributes). IsTraced p (opening b) old new choice count jump) same traced in
    record {
      count = count;
      run = record {
        events = run.events;
        grown = run.grown;
        ends = run.ends;
        short = short;
        among = among;
        fits = run.fits;
        lawful = run.lawful;
      };
      course_is = (refl, run.jump_is);
    }

-- ---- an app is answered by it

-- a valid appid is kept unchanged
kept_appid : (appid : List ℕ) → IsTrue (is_appid appid) → appid ≡ kept_text (Some appid)
kept_appid appid named = grind (arith, named)

-- a found app is listed, with this appid
found_in : (apps : List AppRule) (appid : List ℕ) (known : AppRule) → app_in apps appid ≡ Some known
    → Contains apps known × (known.appid ≡ appid)
found_in [] appid known found = absurd (none-some known found)
found_in (app ∷ rest) appid known found =
    by (bytes_eq app.appid appid) refl (λ h. found_in rest appid known h)
  where
    by : (b : Bool) → bytes_eq app.appid appid ≡ b
        → (app_in rest appid ≡ Some known → Contains rest known × (known.appid ≡ appid))
        → Contains (app ∷ rest) known × (known.appid ≡ appid)
    by true e behind =
        let here = ap (λ (b : Bool). cond b (Some app) (app_in rest appid)) e in
        let same : app ≡ known = same_Some app known (sym here ∙ found) in (
          (0, omega arith, same),
          ap (λ (a : AppRule). a.appid) (sym same) ∙ (bytes_eq-Decides app.appid appid).0 e,
        )
    by false e behind =
        let here = ap (λ (b : Bool). cond b (Some app) (app_in rest appid)) e in
        let there = behind (sym here ∙ found) in
        ((suc there.0.0, omega (arith, there.0.1), there.0.2), there.1)

-- so attribute 0 is the appid, if the ruleset has the app
known_by : (rules : Rules) (app : AppFacts) (facts : RequestFacts) (moment : ℤ) (known : AppRule)
    → IsTrue (is_appid known.appid) → ListsApp rules app.appid known
    → ListsApp rules (appid_of (attributes_of app facts moment)) known
known_by rules app facts moment known named is =
    subst (λ (appid : List ℕ). ListsApp rules appid known)
    (sym is.appid_is ∙ kept_appid known.appid named
    ∙ ap (λ (text : List ℕ). kept_text (Some text)) is.appid_is) is

pub runs_app : (rules : Rules) (facts : RequestFacts) (moment : ℤ) (app : AppFacts)
    (known : AppRule) (old : List ℕ) (choice count : ℕ) (new : List ℕ)
    (run : WholeRun known.program (attributes_of app facts moment) old choice count new)
    → app.updatecheck ≡ true → app_of rules app.appid ≡ Some known
    → IsTrue (is_appid known.appid) → ChoosesAmong known.program known.releases
    → RunsApp rules facts moment app (Some choice) run.events
runs_app rules facts moment app known old choice count new run updates found named among =
    let listed = found_in rules.apps app.appid known found in
    let is : ListsApp rules app.appid known =
    record { listed = listed.0; appid_is = listed.1 } in
    ran known count updates found (known_by rules app facts moment known named is) run.ends
    run.short (subst (λ (n : ℕ). choice ≤ n) (sym among) run.among) run.fits run.lawful
