-- What the threads of a server returned: a new pass has made the events by which it grew.
use Rattle.std.proofs.Common.{◌≡◌, Bool, ℕ, ◌≤◌, List, [], ◌∷◌, ◌++◌, length, All, sym, ap, subst}
use Rattle.std.proofs.Common.{◌∙◌, arith, length-append}
use Rattle.std.specs.List.{AllZip}
use Rattle.std.proofs.lemmas.List.Elements.{All-nil, All-cons, All-head, All-tail, All-weaker}
use mathlib.Core.List.{IsPrefix}
use Rattle.atomic_table.specs.Seated.{TableId}
use Rattle.cells.specs.Grown.{GrewBy}
use Rattle.cells.specs.declared.event.CellEvent.{CellEvent}
use Rattle.shared_cells.specs.Passes.{CellsView, PassView, IsPassOf, IsNewPass, Gained}
use Rattle.shared_cells.specs.Passes.{PassesGainLists}
use Rattle.thread_laws.specs.Passes.{AreLoads}
use Rattle.hot_swap.specs.Published.{KnownPrefix, Extends, IsLatest, ShorterBegins}
use Rattle.hot_swap.specs.declared.publisher_id.PublisherId.{PublisherId}
use Rattle.ruleset.specs.Rules.{Rules}
use Rattle.workers.specs.Answers.{AnswersGoOnwards}
use Rattle.workers.specs.Back.{WorkerBack}
use Rattle.serving.specs.Ended.{IsOfServer}
use Rattle.serving.specs.Staff.{IsNewWorker}

-- ---- what was returned for what was new

-- for lists that are related element by element
pub zipped : {A B : Type 0} (P : A → Type 0) (R : A → B → Type 0) (Q : B → Type 0)
    → ((x : A) (y : B) → P x → R x y → Q y) → (xs : List A) (ys : List B)
    → All P xs → AllZip R xs ys → All Q ys
zipped P R Q one [] [] all back = All-nil Q
zipped P R Q one [] (y ∷ ys) all back = absurd back
zipped P R Q one (x ∷ xs) [] all back = absurd back
zipped P R Q one (x ∷ xs) (y ∷ ys) all back =
    All-cons Q y ys (one x y (All-head P x xs all) back.0)
    (zipped P R Q one xs ys (All-tail P x xs all) back.1)

-- a new pass has made the events by which it grew
pub all_made : PassesGainLists → (table : TableId) (old : PassView) (made : List CellEvent)
    (new : PassView) → IsNewPass table old → GrewBy Gained old made new → new.events ≡ made
all_made gain table old made new is grown =
    ap (λ (pass : PassView). pass.events) (gain old made new grown)
    ∙ ap (λ (es : List CellEvent). es ++ made) is.none

-- so a new pass that grew by Loads has only read
pub has_looked : PassesGainLists → (table : TableId) (old : PassView) (reads : List CellEvent)
    (new : PassView) → IsNewPass table old → GrewBy Gained old reads new → AreLoads reads
    → AreLoads new.events
has_looked gain table old reads new is grown =
    subst AreLoads (sym (all_made gain table old reads new is grown))

-- new workers belong to the cells
pub new_belong : (cells : CellsView) (known : KnownPrefix) (workers : List (PassView × KnownPrefix))
    → All (IsNewWorker cells.table known) workers → All (λ w. IsPassOf cells w.0) workers
new_belong cells known workers =
    All-weaker (IsNewWorker cells.table known) (λ (w : PassView × KnownPrefix). IsPassOf cells w.0)
    (λ w is. is.pass.of) workers

-- and have done nothing
pub new_are_unused : (table : TableId) (known : KnownPrefix)
    (workers : List (PassView × KnownPrefix)) → All (IsNewWorker table known) workers
    → All (λ w. w.0.events ≡ []) workers
new_are_unused table known workers =
    All-weaker (IsNewWorker table known) (λ (w : PassView × KnownPrefix). w.0.events ≡ [])
    (λ w is. is.pass.none) workers

-- returned workers belong to the server
pub are_of_server : (withholds : Bool) → AnswersGoOnwards → (cells : CellsView)
    (known : KnownPrefix) (publisher : PublisherId) (old new : List (PassView × KnownPrefix))
    → publisher ≡ known.publisher → All (IsNewWorker cells.table known) old
    → AllZip (WorkerBack withholds (IsPassOf cells) Gained) old new
    → All (IsOfServer cells publisher) new
are_of_server withholds onwards cells known publisher old new same =
    zipped (IsNewWorker cells.table known) (WorkerBack withholds (IsPassOf cells) Gained)
    (IsOfServer cells publisher)
    (λ x y is back. record {
      pass = back.belongs_yet;
      watcher =
          same ∙ sym ((onwards withholds x.1 y.1 back.answers back.in_turn).publisher
          ∙ ap (λ (b : KnownPrefix). b.publisher) is.watches);
    })
    old new

-- ---- a worker has read only what was published

shorter : (a b : KnownPrefix) → Extends a b → length a.rulesets ≤ length b.rulesets
shorter a b goes =
    let size = sym (ap length goes.onwards.1) ∙ length-append a.rulesets goes.onwards.0 in
    omega (arith, size)

pub reads_published : ShorterBegins → (old noticed learned new : KnownPrefix) (generation : ℕ)
    (rules : Rules)
    → Extends old learned → Extends noticed learned → Extends learned new
    → IsLatest new generation rules → generation ≤ length noticed.rulesets
    → IsPrefix old.rulesets noticed.rulesets
reads_published begins old noticed learned new generation rules first second last is less =
    let a = shorter old learned first in
    let b = shorter learned new last in
    let g = is.generation_is in
    (begins old noticed learned first second (omega (arith, a, b, g, less))).onwards
