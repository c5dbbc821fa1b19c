-- The passes of a server, as they are collected to close its cells: from the last worker on.
use Rattle.std.proofs.Common.{◌≡◌, List, [], ◌∷◌, ◌++◌, length, All, map, reverse, sym, ap}
use Rattle.std.proofs.Common.{◌∙◌, append_assoc, append-nil, arith}
use Rattle.std.proofs.lemmas.List.{map-append, reverse-append}
use Rattle.std.proofs.lemmas.List.Elements.{All-head, All-nil, All-push, All-same, All-tail}
use mathlib.Core.List.{IsPrefix, reverse-cons}
use Rattle.shared_cells.specs.Passes.{PassView}
use Rattle.hot_swap.specs.Published.{KnownPrefix}
use Rattle.ruleset.specs.Rules.{Rules}

abbrev pub turned : List (PassView × KnownPrefix) → List PassView
turned workers = reverse (map (λ (worker : PassView × KnownPrefix). worker.0) workers)

-- the last worker's pass is the first
turned_push : (rest : List (PassView × KnownPrefix)) (worker : PassView × KnownPrefix)
    → turned (rest ++ worker ∷ []) ≡ worker.0 ∷ turned rest
turned_push rest worker =
    let passes = map (λ (w : PassView × KnownPrefix). w.0) rest in
    ap (λ (ps : List PassView). reverse ps)
    (map-append (λ (w : PassView × KnownPrefix). w.0) rest (worker ∷ []))
    ∙ reverse-append passes (worker.0 ∷ [])

-- ---- the passes so far and those of the remaining workers are all

-- one more worker
pub one_gathered : (room more : List PassView) (workers rest : List (PassView × KnownPrefix))
    (worker : PassView × KnownPrefix) (pass : PassView) (all : List PassView)
    → workers ≡ rest ++ worker ∷ [] → more ≡ room ++ pass ∷ [] → pass ≡ worker.0
    → room ++ turned workers ≡ all → more ++ turned rest ≡ all
one_gathered room more workers rest worker pass all split grown same so_far =
    ap (λ (ps : List PassView). ps ++ turned rest) grown
    ∙ append_assoc room (pass ∷ []) (turned rest)
    ∙ ap (λ (p : PassView). room ++ p ∷ turned rest) same
    ∙ ap (λ (ps : List PassView). room ++ ps)
    (sym (ap turned split ∙ turned_push rest worker))
    ∙ so_far

-- no worker remains
pub all_gathered : (room : List PassView) (workers : List (PassView × KnownPrefix))
    (all : List PassView) → length workers ≡ 0 → room ++ turned workers ≡ all → room ≡ all
all_gathered room [] all none so_far = sym (append-nil room) ∙ so_far
all_gathered room (w ∷ workers) all none so_far = absurd (omega (arith, none))

-- what holds for each element also holds in reverse order
pub All-reverse : {A : Type 0} (P : A → Type 0) (xs : List A) → All P xs → All P (reverse xs)
All-reverse P [] all = All-nil P
All-reverse P (x ∷ xs) all =
    All-same P (reverse (x ∷ xs)) (reverse xs ++ x ∷ []) (reverse-cons x xs)
    (All-push P (reverse xs) x (All-reverse P xs (All-tail P x xs all)) (All-head P x xs all))

-- ---- what each worker has read

abbrev pub IsPublishedPrefix : List Rules → PassView × KnownPrefix → Type 0
IsPublishedPrefix published worker = IsPrefix worker.1.rulesets published

-- if all remaining workers have read only what was published, all have
pub one_more_has : (published : List Rules) (workers rest : List (PassView × KnownPrefix))
    (worker : PassView × KnownPrefix) (all : List (PassView × KnownPrefix))
    → workers ≡ rest ++ worker ∷ [] → IsPrefix worker.1.rulesets published
    → (All (IsPublishedPrefix published) workers → All (IsPublishedPrefix published) all)
    → All (IsPublishedPrefix published) rest → All (IsPublishedPrefix published) all
one_more_has published workers rest worker all split seen before others =
    let P = IsPublishedPrefix published in
    before (All-same P workers (rest ++ worker ∷ []) split (All-push P rest worker others seen))

pub all_are_prefixes : (published : List Rules) (workers all : List (PassView × KnownPrefix))
    → length workers ≡ 0
    → (All (IsPublishedPrefix published) workers → All (IsPublishedPrefix published) all)
    → All (IsPublishedPrefix published) all
all_are_prefixes published [] all none before = before (All-nil (IsPublishedPrefix published))
all_are_prefixes published (w ∷ workers) all none before = absurd (omega (arith, none))
