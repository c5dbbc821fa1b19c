-- A place that agrees with a partial place has a possible segment.
use Rattle.std.proofs.Common.{◌≡◌, ◌∙◌, refl, ap, sym, subst, ⊎_elim, ℕ, ◌<◌, zero, suc, List, []}
use Rattle.std.proofs.Common.{◌∷◌}
use Rattle.std.proofs.Common.{length, get_or, Bool, true, false, Option, Some, None, arith}
use Rattle.std.proofs.Common.{replicate}
use Rattle.std.specs.Prelude.{Contains, ◌==◌, ◌||◌, slice_index, slice_set, if◌then◌else◌}
use Rattle.std.specs.List.{list_any}
use Rattle.std.proofs.lemmas.Bool.{cases_eq, cases_lt, eqb-true}
use Rattle.std.proofs.lemmas.List.{get_or-set_other, get_or-set_same, length-set, set_past}
use Rattle.std.proofs.lemmas.List.{length-replicate}
use Rattle.diff_space.specs.Groups.{Group, HasTuple, all_cells, cells_at}
use Rattle.diff_rules.specs.Classes.{Agrees}
use Rattle.diff_rules.specs.Search.{fits, mark_if, marked_by, marked_by_all, segment_in}
use Rattle.diff_rules.specs.Truths.{PartialPlace}
use Rattle.diff_rules.proofs.PartialPlaces.{fits_place}

abbrev IsMarked : List Bool → ℕ → Type 0
IsMarked marks m = get_or marks m false ≡ true

set_stays : (marks : List Bool) (n m : ℕ) → IsMarked marks m → IsMarked (slice_set marks n true) m
set_stays marks n m is = ⊎_elim
    (λ (same : m ≡ n). ⊎_elim
    (λ within. subst (λ (k : ℕ). IsMarked (slice_set marks n true) k) (sym same)
    (get_or-set_same marks n true false within))
    (λ past. subst (λ (ms : List Bool). IsMarked ms m) (sym (set_past marks n true past)) is)
    (cases_lt n (length marks)))
    (λ apart. get_or-set_other marks n m true false apart ∙ is)
    (cases_eq m n)

mark_stays : (marks : List Bool) (o : Option ℕ) (m : ℕ) → IsMarked marks m
    → IsMarked (mark_if marks o) m
mark_stays marks (Some n) m is = set_stays marks n m is
mark_stays marks None m is = is

mark_length : (marks : List Bool) (o : Option ℕ) → length (mark_if marks o) ≡ length marks
mark_length marks (Some n) = length-set marks n true
mark_length marks None = refl

if_stays : (b : Bool) (marks : List Bool) (o : Option ℕ) (m : ℕ) → IsMarked marks m
    → IsMarked (if b then mark_if marks o else marks) m
if_stays true marks o m is = mark_stays marks o m is
if_stays false marks o m is = is

if_length : (b : Bool) (marks : List Bool) (o : Option ℕ)
    → length (if b then mark_if marks o else marks) ≡ length marks
if_length true marks o = mark_length marks o
if_length false marks o = refl

if_marks : (b : Bool) (marks : List Bool) (o : Option ℕ) (m : ℕ) → b ≡ true → o ≡ Some m
    → m < length marks → IsMarked (if b then mark_if marks o else marks) m
if_marks true marks (Some n) m holds is within =
    let same : n ≡ m = cc in
    subst (λ (k : ℕ). IsMarked (slice_set marks k true) m) (sym same)
    (get_or-set_same marks m true false within)
if_marks true marks None m holds is within = absurd cc
if_marks false marks o m holds is within = absurd cc

module _ (ds : List ℕ) (partial : PartialPlace) (d : ℕ) where
  all_stay : (tuples : List (List ℕ)) (marks : List Bool) (m : ℕ) → IsMarked marks m
      → IsMarked (marked_by_all ds partial d marks tuples) m
  all_stay [] marks m is = is
  all_stay (segments ∷ tuples) marks m is =
      all_stay tuples (marked_by ds partial d marks segments) m
      (if_stays (fits ds segments partial) marks (segment_in ds segments d) m is)

  is_marked : (tuples : List (List ℕ)) (marks : List Bool) (cells : List ℕ) (m : ℕ)
      → m < length marks → fits ds cells partial ≡ true → segment_in ds cells d ≡ Some m
      → Contains tuples cells → IsMarked (marked_by_all ds partial d marks tuples) m
  is_marked [] marks cells m within fit at (k, below, is) = absurd (omega (arith, below))
  is_marked (segments ∷ tuples) marks cells m within fit at (zero, below, is) =
      all_stay tuples (marked_by ds partial d marks segments) m
      (if_marks (fits ds segments partial) marks (segment_in ds segments d) m
      (ap (λ (c : List ℕ). fits ds c partial) is ∙ fit)
      (ap (λ (c : List ℕ). segment_in ds c d) is ∙ at) within)
  is_marked (segments ∷ tuples) marks cells m within fit at (suc k, below, is) =
      is_marked tuples (marked_by ds partial d marks segments) cells m
      (subst (λ (n : ℕ). m < n)
      (sym (if_length (fits ds segments partial) marks (segment_in ds segments d))) within)
      fit at (k, omega (arith, below), is)

-- ---- a place in a group

first_or : (b : Bool) (e d : ℕ) (place : List ℕ) (rest : Option ℕ) → b ≡ (e == d)
    → (b ≡ false → rest ≡ Some (slice_index place d))
    → (if e == d then Some (slice_index place e) else rest) ≡ Some (slice_index place d)
first_or true e d place rest same later =
    subst (λ (c : Bool). (if c then Some (slice_index place e) else rest)
    ≡ Some (slice_index place d)) same
    (ap (λ (k : ℕ). Some (slice_index place k)) (eqb-true e d (sym same)))
first_or false e d place rest same later =
    subst (λ (c : Bool). (if c then Some (slice_index place e) else rest)
    ≡ Some (slice_index place d)) same (later refl)

left_over : (b rest : Bool) → (b || rest) ≡ true → b ≡ false → rest ≡ true
left_over true rest some none = absurd cc
left_over false rest some none = some

segment_at : (place : List ℕ) (d : ℕ) (ds : List ℕ) → list_any (λ (e : ℕ). e == d) ds ≡ true
    → segment_in ds (cells_at place ds) d ≡ Some (slice_index place d)
segment_at place d [] there = absurd cc
segment_at place d (e ∷ ds) there =
    first_or (e == d) e d place (segment_in ds (cells_at place ds) d) refl
    (λ none. segment_at place d ds
    (left_over (e == d) (list_any (λ (f : ℕ). f == d) ds) there none))

pub place_marked : (place : List ℕ) (partial : PartialPlace) → Agrees place partial → (d : ℕ)
    (group : Group) (segments : ℕ) → HasTuple group (cells_at place group.dimensions)
    → list_any (λ (e : ℕ). e == d) group.dimensions ≡ true → slice_index place d < segments
    → get_or (marked_by_all group.dimensions partial d (replicate segments false)
    (all_cells group.tuples)) (slice_index place d) false ≡ true
place_marked place partial agrees d group segments has there within =
    is_marked group.dimensions partial d (all_cells group.tuples) (replicate segments false)
    (cells_at place group.dimensions) (slice_index place d)
    (subst (λ (n : ℕ). slice_index place d < n) (sym (length-replicate segments false)) within)
    (fits_place place partial agrees group.dimensions) (segment_at place d group.dimensions there)
    has
