-- The explanation of a request is about its reply.
use Rattle.std.proofs.Common.{◌≡◌, ◌∙◌, ℕ, List, [], ◌∷◌, ◌++◌, refl, ap, sym, subst}
use Rattle.std.proofs.Common.{Option, Some, None}
use Rattle.std.proofs.lemmas.Grind.{same_number_lists}
use Rattle.std.specs.Prelude.{ℤ}
use Rattle.attrs.specs.declared.facts.AppFacts.{AppFacts}
use Rattle.attrs.specs.declared.facts.RequestFacts.{RequestFacts}
use Rattle.answering.specs.Apps.{RunsApp, RunsApps, no_updatecheck, unknown, none, then}
use Rattle.answering.specs.Found.{reply_text}
use Rattle.cells.specs.Events.{AreZeros, IsEvent}
use Rattle.cells.specs.Grown.{GrewBy}
use Rattle.cells.specs.declared.array.CellArray.{CellArray}
use Rattle.cells.specs.declared.event.CellEvent.{CellEvent}
use Rattle.ruleset.specs.Rules.{Rules}
use Rattle.cell_assignments.specs.Assignments.{Assignment}
use Rattle.dry_run.specs.Counters.{AreAssigned, with_cells, with_declared}
use Rattle.load.specs.JudgedApps.{rules_of}
use Rattle.load.specs.declared.judged.JudgedManifest.{JudgedManifest}
use Rattle.dry_run.specs.Reply.{RepliesToBodyOn}
use Rattle.dry_run.specs.Why.{ExplainsApp, ExplainsApps, ExplainsReply}
use Rattle.dry_run.specs.Why.{unlisted, not_requested, was_run, no_reason, next_reason}
use Rattle.dry_run.proofs.Explaining.{rules_lack}
use Rattle.dry_run.proofs.Requests.{one_reply_to_body}

-- ---- the given counters are the same

same_zeros : (n : ℕ) (xs ys : List ℕ) → AreZeros n xs → AreZeros n ys → xs ≡ ys
same_zeros n xs ys x y =
    same_number_lists xs ys (x.count ∙ sym y.count) (λ k below. x.zero k ∙ sym (y.zero k))

abbrev list_or : List ℕ → Option (List ℕ) → List ℕ
list_or other (Some xs) = xs
list_or other None = other

same_counters : (arrays : List CellArray) (served words : List Assignment) (c d : List ℕ)
    → AreAssigned arrays served words c → AreAssigned arrays served words d → c ≡ d
same_counters arrays served words c d x y =
    let W : List ℕ → Option (List ℕ) = λ z. with_cells arrays (with_declared arrays z served)
    words in
    ap (list_or c) (sym x.set ∙ ap W (same_zeros 8192 x.zeros y.zeros x.opens y.opens) ∙ y.set)

-- ---- the runs

joined : (a b : List CellEvent) (p m q : List ℕ) → GrewBy IsEvent p a m → GrewBy IsEvent m b q
    → GrewBy IsEvent p (a ++ b) q
joined [] b p m q g h = subst (λ (x : List ℕ). GrewBy IsEvent x b q) g h
joined (e ∷ es) b p m q g h = (g.0, g.1, joined es b g.0 m q g.2 h)

module _ (manifest : JudgedManifest) (facts : RequestFacts) (moment : ℤ) where
  abbrev rules : Rules
  rules = rules_of manifest

  pub record OneRuns (app : AppFacts) (choice : Option ℕ) (old new : List ℕ) : Type 0 where
    pub events : List CellEvent
    pub runs : RunsApp rules facts moment app choice events
    pub grown : GrewBy IsEvent old events new

  one_runs : {app : AppFacts} {old : List ℕ} {choice : Option ℕ} {new text : List ℕ}
      → ExplainsApp manifest facts moment app old choice new text
      → OneRuns app choice old new
  one_runs {app} (unlisted found) =
      record { events = []; runs = unknown (rules_lack manifest app.appid found); grown = refl }
  one_runs (not_requested known found asks) =
      record { events = []; runs = no_updatecheck asks; grown = refl }
  one_runs (was_run shown_text) =
      let run = shown_text.course_is.run in
      record { events = run.events; runs = shown_text.runs; grown = run.grown }

  pub record AllRun (apps : List AppFacts) (choices : List (Option ℕ)) (old new : List ℕ)
      : Type 0 where
    pub events : List CellEvent
    pub runs : RunsApps rules facts moment apps choices events
    pub grown : GrewBy IsEvent old events new

  pub all_run : {old : List ℕ} {apps : List AppFacts} {choices : List (Option ℕ)}
      {new text : List ℕ} → ExplainsApps manifest facts moment old apps choices new text
      → AllRun apps choices old new
  all_run no_reason = record { events = []; runs = none; grown = refl }
  all_run {old} (next_reason {between} {new} before here) =
      let first = all_run before in
      let one = one_runs here in
      record {
        events = first.events ++ one.events;
        runs = then first.runs one.runs;
        grown = joined first.events one.events old between new first.grown one.grown;
      }

pub explains_reply : ExplainsReply
explains_reply o moment served words text reply shown_text replied =
    let rules = rules_of o.manifest in
    let runs = all_run o.manifest shown_text.request.facts moment shown_text.reasons in
    let mine : RepliesToBodyOn rules moment o.body.items shown_text.counters
    (reply_text shown_text.request rules shown_text.choices moment) shown_text.left = (
      shown_text.request,
      shown_text.requested,
      record {
        events = runs.events;
        legal = runs.grown;
        replies = record { choices = shown_text.choices; runs = runs.runs; text_is = refl };
      },
    ) in
    let same =
    same_counters o.manifest.directory served words replied.counters shown_text.counters replied.set
    shown_text.set in
    (one_reply_to_body rules moment o.body.items shown_text.counters reply
    (reply_text shown_text.request rules shown_text.choices moment) replied.left shown_text.left
    (subst (λ (c : List ℕ). RepliesToBodyOn rules moment o.body.items c reply replied.left) same
    replied.replies) mine).0
