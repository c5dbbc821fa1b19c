-- From its parts a run, a request, a line and the whole are explained.
use Rattle.std.proofs.Common.{◌≡◌, ℕ, List, ◌++◌, Result, Ok, Err, IfOk, subst, sym}
use Rattle.std.specs.Prelude.{ℤ}
use Rattle.std.specs.Str.{NoCharPasses}
use Rattle.attrs.specs.Attributes.{Attributes}
use Rattle.cell_assignments.specs.Assignments.{Assignment}
use Rattle.cells.specs.declared.array.CellArray.{CellArray}
use Rattle.dry_run.specs.Counters.{AreAssigned}
use Rattle.dry_run.specs.Why.{RunIsExplained}
use Rattle.json_value.specs.Bytes.{json_of}
use Rattle.load.specs.declared.judged.JudgedApp.{JudgedApp}
use Rattle.load.specs.declared.judged.JudgedManifest.{JudgedManifest}
use Rattle.printing.specs.Laws.{PrintsNoControl}
use Rattle.printing.specs.Printed.{is_control_in_line}
use Rattle.why_log.specs.Explained.{ExplainsApps, ExplainsJson, ExplainsLine, ExplainsLines}
use Rattle.why_log.specs.Explained.{ExplainsRequest, ExplainsRun, IsExplanation, IsPrintedAfter}
use Rattle.why_log.specs.Requests.{Request, attributes_in}
use Rattle.why_log.specs.declared.finding.FoundLine.{FoundLine}
use Rattle.why_log.specs.declared.line_app.LineApp.{LineApp}

pub run_is : (known : JudgedApp) (moment : ℤ) (app : LineApp) (a : Attributes) (old new : List ℕ)
    (choice : ℕ) (reasons more text : List ℕ) → a ≡ attributes_in app moment
    → RunIsExplained known a old choice new reasons → text ≡ reasons ++ more
    → ExplainsRun known moment app old new text
run_is known moment app a old new choice reasons more text made run is = record {
  choice = choice;
  reasons = reasons;
  run = subst (λ (b : Attributes). RunIsExplained known b old choice new reasons) made run;
  more = more;
  text_is = is;
}

pub request_is : (manifest : JudgedManifest) (old : List ℕ) (request : Request)
    (apps : List LineApp) (left head lines text : List ℕ) → apps ≡ request.apps
    → ExplainsApps manifest request.moment apps old left lines → text ≡ head ++ lines
    → ExplainsRequest manifest old request text
request_is manifest old request apps left head lines text same all is = record {
  left = left;
  head = head;
  lines = lines;
  apps = subst (λ (each : List LineApp).
      ExplainsApps manifest request.moment each old left lines) same all;
  text_is = is;
}

pub line_is : (manifest : JudgedManifest) (served words : List Assignment) (line : FoundLine)
    (arrays : List CellArray) (counters bytes text : List ℕ) → arrays ≡ manifest.directory
    → AreAssigned arrays served words counters → bytes ≡ line.bytes.items
    → ExplainsJson manifest counters (json_of bytes) text
    → ExplainsLine manifest served words line text
line_is manifest served words line arrays counters bytes text same set lent all = record {
  counters = counters;
  set = subst (λ (a : List CellArray). AreAssigned a served words counters) same set;
  explains = subst (λ (b : List ℕ). ExplainsJson manifest counters (json_of b) text) lent all;
}

pub explanation_is : (manifest : JudgedManifest) (served words : List Assignment)
    (lines found : List FoundLine) (before explained text : List ℕ) → lines ≡ found
    → ExplainsLines manifest served words lines explained → IsPrintedAfter before explained text
    → IsExplanation manifest served words found text
explanation_is manifest served words lines found before explained text same all is = record {
  before = before;
  explained = explained;
  each = subst (λ (each : List FoundLine). ExplainsLines manifest served words each explained)
      same all;
  text_is = is;
}

pub is_plain : PrintsNoControl → (before explained text : List ℕ)
    → IsPrintedAfter before explained text → NoCharPasses is_control_in_line text
is_plain prints before explained text is =
    subst (NoCharPasses is_control_in_line) (sym is)
    (prints.lines_have_none (before ++ explained))

-- what holds of any text holds of the one that is made
pub of_any : {A E : Type 0} (made : Result A E) (P : A → Type 0) → ((a : A) → P a)
    → IfOk made P
of_any (Ok a) P all = all a
of_any (Err e) P all = tt
