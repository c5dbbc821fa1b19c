-- Workers that take a new pass each, and the staff of a server.
use Rattle.std.proofs.Common.{◌≡◌, ◌+◌, List, [], ◌∷◌, ◌++◌, length, All, Some, ap, ◌∙◌, arith}
use Rattle.std.proofs.lemmas.List.{length_push}
use Rattle.std.proofs.lemmas.List.Elements.{All-same, All-push, All-pop}
use Rattle.atomic_table.specs.Seated.{TableId}
use Rattle.shared_cells.specs.Passes.{CellsView, PassView, IsNewPass}
use Rattle.hot_swap.specs.Published.{KnownPrefix}
use Rattle.serving.specs.Staff.{IsNewWorker, IsStaff}

pub one_less : {A B : Type 0} (old rest : List A) (a : A) (xs more : List B) (b : B)
    → old ≡ rest ++ a ∷ [] → more ≡ xs ++ b ∷ []
    → length more + length rest ≡ length xs + length old
one_less old rest a xs more b split grown =
    let x = ap (λ l. length l) split ∙ length_push rest a in
    let y = ap (λ l. length l) grown ∙ length_push xs b in
    omega (arith, x, y)

-- a worker takes the last pass
pub one_worker : (table : TableId) (known : KnownPrefix) (passes rest : List PassView)
    (pass : PassView) (workers more : List (PassView × KnownPrefix)) (watcher : KnownPrefix)
    → passes ≡ rest ++ pass ∷ [] → more ≡ workers ++ (pass, watcher) ∷ [] → watcher ≡ known
    → All (IsNewPass table) passes × All (IsNewWorker table known) workers
    → All (IsNewPass table) rest × All (IsNewWorker table known) more
one_worker table known passes rest pass workers more watcher split grown seen new =
    let popped = All-pop (IsNewPass table) passes rest (Some pass) split new.0 in
    let P = IsNewWorker table known in (
      popped.0,
      All-same P more (workers ++ (pass, watcher) ∷ []) grown
          (All-push P workers (pass, watcher) new.1
          (record { pass = popped.1; watches = seen })),
    )

-- the operator takes the last pass, and each worker takes one of the others
pub is_staff : (cells : CellsView) (known : KnownPrefix) (all rest : List PassView)
    (pass : PassView)
    (workers : List (PassView × KnownPrefix))
    → cells.passes ≡ length all → All (IsNewPass cells.table) all → all ≡ rest ++ pass ∷ []
    → length workers ≡ length rest
    → (All (IsNewPass cells.table) rest → All (IsNewWorker cells.table known) workers)
    → IsStaff cells pass known workers
is_staff cells known all rest pass workers many new split one_each each =
    let popped = All-pop (IsNewPass cells.table) all rest (Some pass) split new in
    let x = ap (λ l. length l) split ∙ length_push rest pass in
    record {
      all = omega (arith, many, x, one_each);
      own = popped.1;
      each = each popped.0;
    }
