-- The facts of apps, one app at a time.
use Rattle.std.proofs.Common.{◌≡◌, suc, List, length, [], ◌∷◌, ◌++◌, append_assoc, append-nil}
use Rattle.std.proofs.Common.{Option, Some, None, option_map, refl, ap, sym, ◌∙◌}
use Rattle.attrs.specs.declared.facts.AppFacts.{AppFacts}
use Rattle.serde_json.specs.View.{view, items_view}
use Rattle.serde_json.specs.declared.value.Value.{Value}
use Rattle.omaha_json.specs.Request.{count_of, app_facts, all_facts, joined}

one_more : (each : List AppFacts) (facts : AppFacts) (rest : Option (List AppFacts))
    → option_map (λ xs. (each ++ facts ∷ []) ++ xs) rest
    ≡ option_map (λ xs. each ++ xs) (option_map (λ xs. facts ∷ xs) rest)
one_more each facts None = refl
one_more each facts (Some xs) = ap Some (append_assoc each (facts ∷ []) xs)

-- the facts of the apps that were read, followed by those of the apps that are left
abbrev pub all_with : List AppFacts → List Value → Option (List AppFacts)
all_with each left = option_map (λ rest. each ++ rest) (all_facts (items_view left))

whole : (o : Option (List AppFacts)) → option_map (λ rest. [] ++ rest) o ≡ o
whole None = refl
whole (Some xs) = refl

pub none_read : (each : List AppFacts) (all left : List Value) → each ≡ [] → left ≡ all
    → all_with each left ≡ all_facts (items_view all)
none_read each all left none same = rw (none, same) (whole (all_facts (items_view all)))

pub one_read : (each each' : List AppFacts) (said shared : AppFacts) (old left : List Value)
    (app : Value) (total : Option (List AppFacts))
    → old ≡ app ∷ left → Some said ≡ app_facts (view app) → shared ≡ said
    → each' ≡ each ++ shared ∷ [] → all_with each old ≡ total → all_with each' left ≡ total
one_read each each' said shared old left app total taken says same pushed so_far =
    let first : all_with each' left
    ≡ option_map (λ xs. each ++ xs) (joined (Some said) (all_facts (items_view left))) =
    rw (pushed, same) (one_more each said (all_facts (items_view left))) in
    first
    ∙ ap (λ o. option_map (λ xs. each ++ xs) (joined o (all_facts (items_view left)))) says
    ∙ ap (all_with each) (sym taken) ∙ so_far

-- a value that isn't an app
pub none_said : (each : List AppFacts) (old left : List Value) (app : Value)
    (total : Option (List AppFacts))
    → old ≡ app ∷ left → None ≡ app_facts (view app) → all_with each old ≡ total → total ≡ None
none_said each old left app total taken says so_far =
    sym so_far ∙ ap (all_with each) taken
    ∙ ap (λ o. option_map (λ xs. each ++ xs) (joined o (all_facts (items_view left)))) (sym says)

pub all_read : (each : List AppFacts) (left : List Value) (total : Option (List AppFacts))
    → length left ≡ 0 → all_with each left ≡ total → total ≡ Some each
all_read each [] total none so_far = sym so_far ∙ ap Some (append-nil each)
all_read each (v ∷ vs) total none so_far = cc

pub count_of_view : (values : List Value) → count_of (items_view values) ≡ length values
count_of_view [] = refl
count_of_view (v ∷ vs) = ap suc (count_of_view vs)
