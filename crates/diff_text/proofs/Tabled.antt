-- Parts of a condition hold where their tables do.
use Rattle.std.proofs.Common.{◌≡◌, ◌∙◌, ℕ, ◌<◌, suc, zero, List, [], ◌∷◌, ◌++◌, All, length, map}
use Rattle.std.proofs.Common.{refl, sym, ap, ap₂, subst, arith}
use Rattle.std.specs.Prelude.{Bool, true, false, not, ◌&&◌, Some, option_map}
use Rattle.std.specs.Prelude.{slice_get, slice_index, slice_index_or}
use Rattle.std.specs.List.{list_all}
use Rattle.std.proofs.lemmas.List.{get_or-map, length-map}
use Rattle.std.proofs.lemmas.List.Elements.{All-append, All-cons, All-head, All-nil, All-pop}
use Rattle.std.proofs.lemmas.List.Elements.{All-same}
use Rattle.std.proofs.lemmas.List.Folds.{list_all-append}
use Rattle.std.proofs.lemmas.Option.{get_or_from_slice_get, same_Some, slice_get-map}
use Rattle.attrs.specs.Attributes.{Attributes}
use Rattle.rule_lang.specs.declared.test.Test.{Test}
use Rattle.diff_space.specs.Coordinates.{Dimension, cell_in, number_of, place_of}
use Rattle.diff_space.specs.Lines.{IsLine}
use Rattle.diff_space.specs.Machines.{State}
use Rattle.diff_space.specs.Scopes.{IsWithin, Scope}
use Rattle.diff_space.specs.Tests.{ComparesNumberAt}
use Rattle.diff_space.specs.declared.test_line.NumberComparison.{NumberComparison}
use Rattle.diff_space.proofs.Cells.{is_at}
use Rattle.diff_space.proofs.Ranges.{from_first}
use Rattle.diff_space.proofs.Tests.{all_at}
use Rattle.diff_text.specs.Tables.{IsJoined, IsNegated, IsPlace, IsTable}
use Rattle.diff_text.specs.Tables.{IsTestTable, Table, all_hold, holds_at, join_by}
use Rattle.diff_text.specs.Tables.{pairwise, truths}

and_true : (b : Bool) → (b && true) ≡ b
and_true true = refl
and_true false = refl

and_assoc : (a b c : Bool) → (a && (b && c)) ≡ ((a && b) && c)
and_assoc true b c = refl
and_assoc false b c = refl

pub one_table : (t : Table) (place : List ℕ) → all_hold (t ∷ []) place ≡ holds_at t place
one_table t place = and_true (holds_at t place)

-- ---- a place has a segment of each dimension

pub place_at : (ds : List Dimension) (a : Attributes) (g : State) (d : Dimension) (at : ℕ)
    → slice_get ds at ≡ Some d → slice_index (place_of ds a g) at ≡ cell_in d a g
place_at ds a g d at there =
    get_or_from_slice_get (place_of ds a g) at (cell_in d a g) 0
    (slice_get-map (λ (e : Dimension). cell_in e a g) ds at
    ∙ ap (option_map (λ (e : Dimension). cell_in e a g)) there)

pub segment_there : (x : Scope) (d : Dimension) (a : Attributes) (g : State) → IsLine x d
    → IsWithin x a g → cell_in d a g < length d.starts
segment_there x d a g line within =
    (is_at d.last (number_of d a g) d.starts line.rises (from_first x a g within d line)).is_cell

pub is_place : (x : Scope) (ds : List Dimension) → All (IsLine x) ds → (a : Attributes) (g : State)
    → IsWithin x a g → IsPlace ds (place_of ds a g)
is_place x ds lines a g within at d there =
    subst (λ (c : ℕ). c < length d.starts) (sym (place_at ds a g d at there))
    (segment_there x d a g (all_at (IsLine x) ds at d there lines) within)

-- ---- tables

module _ (ds : List Dimension) where
  pub within_table : (t : Table) (place : List ℕ) → IsTable ds t → IsPlace ds place
      → slice_index place t.dimension < length t.holds
  within_table t place is at =
      subst (λ (n : ℕ). slice_index place t.dimension < n) (sym is.each)
      (at t.dimension is.dimension is.is_at)

  -- a table of the same dimension
  same_table : (t u : Table) → IsTable ds t → u.dimension ≡ t.dimension
      → length u.holds ≡ length t.holds → IsTable ds u
  same_table t u is same long = record {
    dimension = is.dimension;
    is_at = ap (slice_get ds) same ∙ is.is_at;
    each = long ∙ is.each;
  }

  one_is : (t : Table) → IsTable ds t → All (IsTable ds) (t ∷ [])
  one_is t is = All-cons (IsTable ds) t [] is (All-nil (IsTable ds))

  the_one : (t : Table) → All (IsTable ds) (t ∷ []) → IsTable ds t
  the_one t all = All-head (IsTable ds) t [] all

  module _ (t : Table) (holds : List Bool) where
    abbrev with_truths : Table
    with_truths = record { dimension = t.dimension; holds = holds }

    negated_table : IsTable ds t → holds ≡ map not t.holds
        → IsNegated ds (t ∷ []) (with_truths ∷ [])
    negated_table is truths = record {
      tables = one_is with_truths
          (same_table t with_truths is refl (ap length truths ∙ length-map t.holds not));
      holds = λ place at.
          one_table with_truths place
          ∙ ap (λ (hs : List Bool). slice_index_or hs (slice_index place t.dimension) false) truths
          ∙ get_or-map not t.holds (slice_index place t.dimension) false false
          (within_table t place is at)
          ∙ ap not (sym (one_table t place));
    }

  pub negated_is : (part new : List Table) (t u : Table) → part ≡ t ∷ []
      → u ≡ with_truths t (map not t.holds) → new ≡ u ∷ [] → All (IsTable ds) part
      → IsNegated ds part new
  negated_is part new t u is_one truths is_new all =
      subst (λ (p : List Table). IsNegated ds p new) (sym is_one)
      (subst (λ (q : List Table). IsNegated ds (t ∷ []) q)
      (sym (is_new ∙ ap (λ (v : Table). v ∷ []) truths))
      (negated_table t (map not t.holds)
      (the_one t (All-same (IsTable ds) (t ∷ []) part (sym is_one) all)) refl))

-- ---- two tables, segment by segment

pairwise_length : (op : Bool → Bool → Bool) (hs bs : List Bool) → length hs ≡ length bs
    → length (pairwise op hs bs) ≡ length hs
pairwise_length op [] bs same = refl
pairwise_length op (a ∷ hs) [] same = absurd (omega (arith, same))
pairwise_length op (a ∷ hs) (b ∷ bs) same =
    let e : length hs ≡ length bs = omega (arith, same) in
    ap suc (pairwise_length op hs bs e)

pairwise_at : (op : Bool → Bool → Bool) (hs bs : List Bool) (k : ℕ) → length hs ≡ length bs
    → k < length hs → slice_index_or (pairwise op hs bs) k false
    ≡ op (slice_index_or hs k false) (slice_index_or bs k false)
pairwise_at op [] bs k same within = absurd (omega (arith, within))
pairwise_at op (a ∷ hs) [] k same within = absurd (omega (arith, same))
pairwise_at op (a ∷ hs) (b ∷ bs) zero same within = refl
pairwise_at op (a ∷ hs) (b ∷ bs) (suc k) same within =
    let e : length hs ≡ length bs = omega (arith, same) in
    let w : k < length hs = omega (arith, within) in
    pairwise_at op hs bs k e w

module _ (ds : List Dimension) (op : Bool → Bool → Bool) (t u : Table) (is : IsTable ds t)
    (it_is : IsTable ds u) (same : t.dimension ≡ u.dimension) where
  same_length : length t.holds ≡ length u.holds
  same_length =
      let e : is.dimension ≡ it_is.dimension =
      same_Some is.dimension it_is.dimension
      (sym is.is_at ∙ ap (slice_get ds) same ∙ it_is.is_at) in
      is.each ∙ ap (λ (d : Dimension). length d.starts) e ∙ sym it_is.each

  abbrev joined_of : Table
  joined_of = record { dimension = t.dimension; holds = pairwise op t.holds u.holds }

  joined_holds : (place : List ℕ) → IsPlace ds place
      → holds_at joined_of place ≡ op (holds_at t place) (holds_at u place)
  joined_holds place at =
      pairwise_at op t.holds u.holds (slice_index place t.dimension) same_length
      (within_table ds t place is at)
      ∙ ap (λ (k : ℕ). op (holds_at t place) (slice_index_or u.holds (slice_index place k) false))
      same

  pub joined_tables : (v : Table) → v ≡ joined_of → IsJoined ds op (t ∷ []) (u ∷ []) (v ∷ [])
  joined_tables v is_joined =
      subst (λ (w : Table). IsJoined ds op (t ∷ []) (u ∷ []) (w ∷ [])) (sym is_joined)
      (record {
        tables = one_is ds joined_of
            (same_table ds t joined_of is refl
            (pairwise_length op t.holds u.holds same_length));
        holds = λ place at.
            one_table joined_of place ∙ joined_holds place at
            ∙ sym (ap₂ op (one_table t place) (one_table u place));
      })

-- ---- lists of tables

module _ (ds : List Dimension) where
  pub first_table : (first part : List Table) (second : Table) → first ≡ [] → part ≡ second ∷ []
      → IsTable ds second → IsJoined ds (join_by true) first (second ∷ []) part
  first_table first part second none is_part is =
      subst (λ (p : List Table). IsJoined ds (join_by true) p (second ∷ []) part) (sym none)
      (subst (λ (q : List Table). IsJoined ds (join_by true) [] (second ∷ []) q) (sym is_part)
      (record { tables = one_is ds second is; holds = λ place at. refl }))

  module _ (init : List Table) (last second : Table) (all : All (IsTable ds) (init ++ last ∷ []))
    where
      init_is : All (IsTable ds) init
      init_is = (All-pop (IsTable ds) (init ++ last ∷ []) init (Some last) refl all).0

      pub last_is : IsTable ds last
      last_is = (All-pop (IsTable ds) (init ++ last ∷ []) init (Some last) refl all).1

      pub merged : (table : Table)
          → IsJoined ds (join_by true) (last ∷ []) (second ∷ []) (table ∷ [])
          → IsJoined ds (join_by true) (init ++ last ∷ []) (second ∷ []) (init ++ table ∷ [])
      merged table h = record {
        tables = All-append (IsTable ds) init (table ∷ []) init_is h.tables;
        holds = λ place at.
            let p = λ (t : Table). holds_at t place in
            list_all-append p init (table ∷ [])
            ∙ ap (λ (b : Bool). list_all p init && b) (h.holds place at)
            ∙ and_assoc (list_all p init) (all_hold (last ∷ []) place)
            (all_hold (second ∷ []) place)
            ∙ ap (λ (b : Bool). b && all_hold (second ∷ []) place)
            (sym (list_all-append p init (last ∷ [])));
      }

      pub appended : IsTable ds second
          → IsJoined ds (join_by true) (init ++ last ∷ []) (second ∷ [])
          ((init ++ last ∷ []) ++ second ∷ [])
      appended is = record {
        tables = All-append (IsTable ds) (init ++ last ∷ []) (second ∷ []) all
            (one_is ds second is);
        holds = λ place at.
            list_all-append (λ (t : Table). holds_at t place) (init ++ last ∷ []) (second ∷ []);
      }

-- ---- parts of one table

module _ (ds : List Dimension) where
  pub test_table : (test : Test) (place : ℕ) (by : NumberComparison) (d : Dimension)
      (holds : List Bool)
      → slice_get ds place ≡ Some d → ComparesNumberAt ds place test by → holds ≡ truths by d.starts
      → IsTestTable ds test (record { dimension = place; holds = holds })
  test_table test place by d holds there h is = record {
    by = by;
    compared = h;
    is =
        is
        ∙ ap (λ (e : Dimension). truths by e.starts)
        (same_Some d h.dimension (sym there ∙ h.is_at));
  }

  pub either_is : (op : Bool → Bool → Bool) (first second new : List Table) (t u v : Table)
      → first ≡ t ∷ [] → second ≡ u ∷ [] → new ≡ v ∷ []
      → (IsTable ds t → IsTable ds u → IsJoined ds op (t ∷ []) (u ∷ []) (v ∷ []))
      → All (IsTable ds) first → All (IsTable ds) second → IsJoined ds op first second new
  either_is op first second new t u v one two three joined all others =
      let t_is = the_one ds t (All-same (IsTable ds) (t ∷ []) first (sym one) all) in
      let u_is = the_one ds u (All-same (IsTable ds) (u ∷ []) second (sym two) others) in
      subst (λ (p : List Table). IsJoined ds op p second new) (sym one)
      (subst (λ (q : List Table). IsJoined ds op (t ∷ []) q new) (sym two)
      (subst (λ (r : List Table). IsJoined ds op (t ∷ []) (u ∷ []) r) (sym three)
      (joined t_is u_is)))

  pub both_is : (first second new : List Table) (u : Table) → second ≡ u ∷ []
      → (All (IsTable ds) first → IsTable ds u
      → IsJoined ds (join_by true) first (u ∷ []) new)
      → All (IsTable ds) first → All (IsTable ds) second
      → IsJoined ds (join_by true) first second new
  both_is first second new u two joined all others =
      let u_is = the_one ds u (All-same (IsTable ds) (u ∷ []) second (sym two) others) in
      subst (λ (q : List Table). IsJoined ds (join_by true) first q new) (sym two)
      (joined all u_is)

  -- a table after others is joined with the last one, or appended
  pub merged_is : (first part init : List Table) (last second table : Table)
      → first ≡ init ++ last ∷ [] → part ≡ init ++ table ∷ []
      → (IsTable ds last → IsTable ds second
      → IsJoined ds (join_by true) (last ∷ []) (second ∷ []) (table ∷ []))
      → All (IsTable ds) first → IsTable ds second
      → IsJoined ds (join_by true) first (second ∷ []) part
  merged_is first part init last second table one two joined all is =
      let alls = All-same (IsTable ds) (init ++ last ∷ []) first (sym one) all in
      subst (λ (p : List Table). IsJoined ds (join_by true) p (second ∷ []) part) (sym one)
      (subst (λ (q : List Table). IsJoined ds (join_by true) (init ++ last ∷ []) (second ∷ []) q)
      (sym two)
      (merged ds init last second alls table (joined (last_is ds init last second alls) is)))

  pub appended_is : (first part init : List Table) (last second : Table)
      → first ≡ init ++ last ∷ [] → part ≡ (init ++ last ∷ []) ++ second ∷ []
      → All (IsTable ds) first → IsTable ds second
      → IsJoined ds (join_by true) first (second ∷ []) part
  appended_is first part init last second one two all is =
      let alls = All-same (IsTable ds) (init ++ last ∷ []) first (sym one) all in
      subst (λ (p : List Table). IsJoined ds (join_by true) p (second ∷ []) part) (sym one)
      (subst (λ (q : List Table). IsJoined ds (join_by true) (init ++ last ∷ []) (second ∷ []) q)
      (sym two) (appended ds init last second alls is))
