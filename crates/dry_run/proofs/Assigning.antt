-- The explanation of a request, and why there is none.
use Rattle.std.proofs.Common.{◌≡◌, ◌≢◌, ℕ, List, Ok, Err, sym, subst}
use Rattle.std.specs.Prelude.{ℤ, Result}
use Rattle.cells.specs.declared.array.CellArray.{CellArray}
use Rattle.omaha_json.specs.Request.{Request, request_in}
use Rattle.omaha_json.specs.declared.omaha_fault.OmahaFault.{OmahaFault}
use Rattle.omaha_json.specs.declared.omaha_fault.OmahaFault.TheVariants.{Json, Shape, Protocol}
use Rattle.omaha_json.specs.declared.omaha_fault.OmahaFault.TheVariants.{TooManyApps, Memory}
use Rattle.cell_assignments.specs.Assignments.{Assignment}
use Rattle.dry_run.specs.Counters.{AreAssigned}
use Rattle.dry_run.specs.OnCounters.{IsUnanswered}
use Rattle.dry_run.specs.Why.{ExplainsRequest, IsWhyText}
use Rattle.dry_run.specs.declared.dry_run_fault.DryRunFault.TheVariants as fault
use Rattle.dry_run.specs.declared.why_files.OpenedWhy.{OpenedWhy}

-- the body was read as this request
abbrev ReadsAs : (body : List ℕ) → Result Request OmahaFault → Type 0
ReadsAs body read = read ≢ Err Memory → read ≡ request_in body

pub why_text_is : (o : OpenedWhy) (moment : ℤ) (served words : List Assignment)
    (arrays : List CellArray) (counters : List ℕ) (request : Request) (left text : List ℕ)
    → arrays ≡ o.manifest.directory → AreAssigned arrays served words counters
    → ReadsAs o.body.items (Ok request)
    → ExplainsRequest o.manifest request.facts moment counters request.apps left text
    → IsWhyText o moment served words text
why_text_is o moment served words arrays counters request left text same set read all = record {
  counters = counters;
  set = subst (λ (a : List CellArray). AreAssigned a served words counters) same set;
  request = request;
  requested = sym (read (λ e. cc));
  choices = all.2.0;
  left = left;
  front = all.0;
  lines = all.1;
  reasons = all.2.1;
  text_is = all.3;
}

module _ (directory : List CellArray) (body : List ℕ) (served words : List Assignment) where
  because : (counters : List ℕ) (why : OmahaFault) → AreAssigned directory served words counters
      → ReadsAs body (Err why) → IsUnanswered directory body served words (fault.Omaha why)
  because counters Json set read = ((counters, set), sym (read (λ e. cc)))
  because counters Shape set read = ((counters, set), sym (read (λ e. cc)))
  because counters Protocol set read = ((counters, set), sym (read (λ e. cc)))
  because counters TooManyApps set read = ((counters, set), sym (read (λ e. cc)))
  because counters Memory set read = tt

  pub unread : (arrays : List CellArray) (counters : List ℕ) (why : OmahaFault)
      → arrays ≡ directory → AreAssigned arrays served words counters
      → ReadsAs body (Err why) → IsUnanswered directory body served words (fault.Omaha why)
  unread arrays counters why same set read =
      because counters why
      (subst (λ (a : List CellArray). AreAssigned a served words counters) same set) read
