-- The apps, added one after the other, and their runs.
use Rattle.std.proofs.Common.{◌≡◌, ℕ, ◌+◌, ◌%◌, ◌<◌, List, [], ◌∷◌, ◌++◌}
use Rattle.std.proofs.Common.{length, length-append, map, get_or}
use Rattle.std.proofs.Common.{Some, slice_get, option_map, sym, ap, subst, ◌∙◌, inl, inr, arith}
use Rattle.std.proofs.Math.ListN.{get_or-append}
use Rattle.std.proofs.lemmas.List.{map-append, length-map}
use Rattle.std.proofs.Math.Seq.{get_or-append_seam}
use Rattle.std.proofs.lemmas.Bool.{cases_lt}
use Rattle.std.proofs.lemmas.Option.{slice_get_within, slice_get-get_or}
use Rattle.std.proofs.lemmas.Option.{slice_get-map, get_or_from_slice_get}
use Rattle.attrs.specs.Attributes.{Attributes}
use Rattle.bpf_semantics.specs.Program.{ShapedProgram}
use Rattle.bench.specs.declared.runs.RunTotals.{RunTotals}
use Rattle.bench.specs.Runs.{IsBenchApp, RunsInTurn, RunsOnce, with_run}
use Rattle.bench.specs.Runs as runs

abbrev pub AreAppsSoFar : List Attributes → Type 0
AreAppsSoFar apps = (k : ℕ) (a : Attributes) → slice_get apps k ≡ Some a → IsBenchApp k a

pub app_added : (apps : List Attributes) (app : Attributes) (n : ℕ)
    → length apps ≡ n → AreAppsSoFar apps → IsBenchApp n app → AreAppsSoFar (apps ++ app ∷ [])
app_added apps app n len before new k a found =
    let here = get_or_from_slice_get (apps ++ app ∷ []) k a a found in
    elim (cases_lt k n) [
      | inl below ↦
          let within : k < length apps = omega arith in
          before k a (slice_get-get_or apps k a within
          ∙ ap Some (sym (get_or-append apps (app ∷ []) a k within) ∙ here))
      | inr above ↦
          let k_within = slice_get_within (apps ++ app ∷ []) k a found in
          let last : k ≡ length apps = omega (arith, length-append apps (app ∷ [])) in
          let same : app ≡ a = sym (get_or-append_seam apps app [] a)
          ∙ ap (λ (j : ℕ). get_or (apps ++ app ∷ []) j a) (sym last) ∙ here in
          subst (λ (b : Attributes). IsBenchApp k b) same
          (subst (λ (j : ℕ). IsBenchApp j app) (sym (last ∙ len)) new)
    ]

pub app_at : {A : Type 0} (view : A → Attributes) (xs : List A) (k : ℕ) (x : A)
    → k < length xs → x ≡ get_or xs k x → slice_get (map view xs) k ≡ Some (view x)
app_at view xs k x h e =
    slice_get-map view xs k ∙ ap (option_map view) (slice_get-get_or xs k x h ∙ ap Some (sym e))

pub run_added : (p : ShapedProgram) (apps : List Attributes) (opened values after : List ℕ)
    (n choice count : ℕ) (t u : RunTotals) (a : Attributes) → RunsInTurn p apps opened n values t
    → slice_get apps (n % 10) ≡ Some a → RunsOnce p a values after choice count
    → u ≡ with_run t choice count → RunsInTurn p apps opened (n + 1) after u
run_added p apps opened values after n choice count t u a before app once e =
    subst (RunsInTurn p apps opened (n + 1) after) (sym e) (runs.more before app once)

pub apps_added : {A : Type 0} (view : A → Attributes) (xs ys : List A) (x : A) (n : ℕ)
    → ys ≡ xs ++ x ∷ [] → length xs ≡ n
    → AreAppsSoFar (map view xs) → IsBenchApp n (view x) → AreAppsSoFar (map view ys)
apps_added view xs ys x n more len before new =
    let same = ap (map view) more ∙ map-append view xs (x ∷ []) in
    subst AreAppsSoFar (sym same)
    (app_added (map view xs) (view x) n (length-map xs view ∙ len) before new)

pub length_added : {A : Type 0} (xs ys : List A) (x : A) (n : ℕ)
    → ys ≡ xs ++ x ∷ [] → length xs ≡ n → length ys ≡ n + 1
length_added xs ys x n more len = omega (arith, ap length more, length-append xs (x ∷ []))
