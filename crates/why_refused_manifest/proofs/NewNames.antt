-- Duplicate names, in a walk along a list.
use Rattle.std.proofs.Common.{◌≡◌, ℕ, ◌+◌, length, List, [], ◌∷◌, ◌++◌, map, take}
use Rattle.std.proofs.Common.{Bool, true, false, not, ◌&&◌, ◌||◌, cond, refl, sym, ap, ◌∙◌}
use Rattle.std.proofs.lemmas.Bool.{or_parts, not_from_false}
use Rattle.std.proofs.lemmas.Bool.Decides.{Decides-like, same_from_decides}
use Rattle.std.proofs.lemmas.List.{map-append}
use Rattle.std.proofs.lemmas.List.Elements.{All-cons, All-head, All-filter, All-nil, All-tail}
use Rattle.std.proofs.lemmas.List.Folds.{list_any-append}
use Rattle.std.proofs.lemmas.Slice.Eq.{bytes_eq-Decides}
use Rattle.std.specs.List.{All, filter, list_any}
use Rattle.std.specs.Str.{bytes_eq}
use Rattle.why_refused_manifest.proofs.Walks.{taken, reported_both}
use Rattle.why_refused_manifest.specs.AllDuplicates.{duplicate_names, names_without}

-- the names that didn't occur before
abbrev pub names_new : (before names : List (List ℕ)) → List (List ℕ)
names_new before names = filter (λ name. not (list_any (bytes_eq name) before)) names

pub names_new-none : (names : List (List ℕ)) → names_new [] names ≡ names
names_new-none [] = refl
names_new-none (name ∷ names) = ap (λ rest. name ∷ rest) (names_new-none names)

-- ---- with one more name before them

kept : (here seen : Bool) (x : List ℕ) (f : List ℕ → Bool) (some all : List (List ℕ))
    → f x ≡ not seen → filter f some ≡ all
    → filter f (cond (not here) (x ∷ some) some)
    ≡ cond (not (seen || (here || false))) (x ∷ all) all
kept true true x f some all e same = same
kept true false x f some all e same = same
kept false true x f some all e same =
    ap (λ b. cond b (x ∷ filter f some) (filter f some)) e ∙ same
kept false false x f some all e same =
    ap (λ b. cond b (x ∷ filter f some) (filter f some)) e ∙ ap (λ rest. x ∷ rest) same

new-without : (name : List ℕ) (before names : List (List ℕ))
    → names_new before (names_without name names) ≡ names_new (before ++ name ∷ []) names
new-without name before [] = refl
new-without name before (x ∷ names) =
    let all = names_new (before ++ name ∷ []) names in
    kept (bytes_eq x name) (list_any (bytes_eq x) before) x
    (λ other. not (list_any (bytes_eq other) before)) (names_without name names) all
    refl (new-without name before names)
    ∙ ap (λ b. cond (not b) (x ∷ all) all)
    (sym (list_any-append (bytes_eq x) before (name ∷ [])))

-- ---- a name that isn't among them

bytes_eq-sym : (a b : List ℕ) → bytes_eq a b ≡ bytes_eq b a
bytes_eq-sym a b =
    same_from_decides (bytes_eq a b) (bytes_eq b a) (bytes_eq-Decides a b)
    (Decides-like (bytes_eq b a) (λ e. sym e) (λ e. sym e) (bytes_eq-Decides b a))

abbrev IsOther : List ℕ → List ℕ → Type 0
IsOther name other = not (bytes_eq other name) ≡ true

all_other : (name : List ℕ) (again : Bool) (x : List ℕ) (names : List (List ℕ))
    → IsOther name x → All (IsOther name) names
    → All (IsOther name) (cond again (x ∷ names_without x names) names)
all_other name true x names one all =
    All-cons (IsOther name) x (names_without x names) one
    (All-filter (λ other. not (bytes_eq other x)) (IsOther name) names all)
all_other name false x names one all = all

are_other : (name : List ℕ) (names : List (List ℕ)) → list_any (bytes_eq name) names ≡ false
    → All (IsOther name) (duplicate_names names)
are_other name [] none = All-nil (IsOther name)
are_other name (x ∷ names) none =
    let parts = or_parts (bytes_eq name x) (list_any (bytes_eq name) names) none in
    all_other name (list_any (bytes_eq x) names) x (duplicate_names names)
    (not_from_false (bytes_eq x name) (bytes_eq-sym x name ∙ parts.0))
    (are_other name names parts.1)

without-other : (name : List ℕ) (names : List (List ℕ)) → All (IsOther name) names
    → names_without name names ≡ names
without-other name [] all = refl
without-other name (x ∷ names) all =
    ap (λ b. cond b (x ∷ names_without name names) (names_without name names))
    (All-head (IsOther name) x names all)
    ∙ ap (λ rest. x ∷ rest) (without-other name names (All-tail (IsOther name) x names all))

-- ---- one step along the list

begun : (seen again : Bool) (x : List ℕ) (f : List ℕ → Bool)
    (some names all : List (List ℕ))
    → f x ≡ not seen → filter f some ≡ all → (again ≡ false → filter f names ≡ all)
    → filter f (cond again (x ∷ some) names) ≡ cond (not seen && again) (x ∷ []) [] ++ all
begun true true x f some names all e same none =
    ap (λ b. cond b (x ∷ filter f some) (filter f some)) e ∙ same
begun false true x f some names all e same none =
    ap (λ b. cond b (x ∷ filter f some) (filter f some)) e ∙ ap (λ rest. x ∷ rest) same
begun true false x f some names all e same none = none refl
begun false false x f some names all e same none = none refl

next : (name : List ℕ) (before rest : List (List ℕ))
    → names_new before (duplicate_names (name ∷ rest))
    ≡ cond (not (list_any (bytes_eq name) before) && list_any (bytes_eq name) rest)
    (name ∷ []) []
    ++ names_new (before ++ name ∷ []) (duplicate_names rest)
next name before rest =
    begun (list_any (bytes_eq name) before) (list_any (bytes_eq name) rest) name
    (λ other. not (list_any (bytes_eq other) before))
    (names_without name (duplicate_names rest)) (duplicate_names rest)
    (names_new (before ++ name ∷ []) (duplicate_names rest)) refl
    (new-without name before (duplicate_names rest))
    (λ none. ap (names_new before)
    (sym (without-other name (duplicate_names rest) (are_other name rest none)))
    ∙ new-without name before (duplicate_names rest))

-- the duplicates so far, with those of the next item and of the later ones, are all duplicates
pub next_reported : {X Y : Type 0} (reported : List ℕ → Y) (name_of : X → List ℕ)
    (done new all : List Y)
    (list left before : List X) (place : ℕ) (x : X) (after : List X)
    → left ≡ x ∷ after → take place list ++ left ≡ list
    → place + length left ≡ length list
    → before ≡ take place list
    → done ++ map reported
    (names_new (map name_of (take place list)) (duplicate_names (map name_of left))) ≡ all
    → new ≡ done ++ map reported (cond (not (list_any (bytes_eq (name_of x)) (map name_of before))
    && list_any (bytes_eq (name_of x)) (map name_of after)) (name_of x ∷ []) [])
    → new ++ map reported
    (names_new (map name_of (take (place + 1) list)) (duplicate_names (map name_of after))) ≡ all
next_reported reported name_of done new all list left before place x after
    is whole within at so_far pushed =
    let seen = map name_of (take place list) in
    let rest = map name_of after in
    let here = cond (not (list_any (bytes_eq (name_of x)) seen)
    && list_any (bytes_eq (name_of x)) rest) (name_of x ∷ []) [] in
    let step : new ≡ done ++ map reported here =
    pushed ∙ ap (λ xs. done ++ map reported
    (cond (not (list_any (bytes_eq (name_of x)) (map name_of xs))
    && list_any (bytes_eq (name_of x)) rest) (name_of x ∷ []) [])) at in
    let front : map name_of (take (place + 1) list) ≡ seen ++ name_of x ∷ [] =
    ap (map name_of) (taken list left place x after is whole within)
    ∙ map-append name_of (take place list) (x ∷ []) in
    ap (λ xs. new ++ map reported (names_new xs (duplicate_names rest))) front
    ∙ ap (λ xs. xs ++ map reported (names_new (seen ++ name_of x ∷ []) (duplicate_names rest))) step
    ∙ reported_both reported done here (names_new (seen ++ name_of x ∷ []) (duplicate_names rest))
    ∙ ap (λ xs. done ++ map reported xs) (sym (next (name_of x) seen rest))
    ∙ ap (λ xs. done ++ map reported (names_new seen (duplicate_names (map name_of xs)))) (sym is)
    ∙ so_far
