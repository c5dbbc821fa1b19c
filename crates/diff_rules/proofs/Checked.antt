-- What is promised of rows follows from their check, as the classes cover all machines in all
-- states.
use Rattle.std.proofs.Common.{◌≡◌, ◌∙◌, ℕ, zero, suc, List, [], ◌∷◌, inl, inr, refl, ap, sym}
use Rattle.std.specs.Prelude.{Bool, true, false, ◌&&◌, ◌==◌, Contains, Option, Some, None}
use Rattle.std.specs.Prelude.{slice_get, slice_index, if◌then◌else◌}
use Rattle.std.specs.List.{list_all, list_any}
use Rattle.std.proofs.lemmas.Bool.{and_from, and_parts, both_ways, eqb-false, eqb-true}
use Rattle.std.proofs.lemmas.Bool.{false≢true, not-true, or_cases}
use Rattle.std.proofs.lemmas.List.Elements.{All-contains}
use Rattle.std.proofs.lemmas.List.Sums.{AllPass-from_list_all}
use Rattle.std.proofs.lemmas.Option.{get_or_from_slice_get, same_Some, slice_get-get_or}
use Rattle.std.proofs.lemmas.Option.{slice_get_within}
use Rattle.attrs.specs.Attributes.{Attributes}
use Rattle.diff_space.specs.Coordinates.{place_of}
use Rattle.diff_space.specs.Machines.{Side, State, gets}
use Rattle.diff_space.specs.Scopes.{Scope}
use Rattle.diff_space.specs.Spaces.{IsSpaceOf, Space}
use Rattle.diff_rules.specs.Checks.{are_right, has_all, has_none, have_none, in_segments, in_set}
use Rattle.diff_rules.specs.Checks.{is_in_one, is_right, is_row_of, out_of_segments, out_of_set}
use Rattle.diff_rules.specs.Classes.{Agrees, PlaceClass, Covers, IsInSome}
use Rattle.diff_rules.specs.Rows.{AreApart, AreComplete, AreTrue, SegmentSet, IsDiff, IsInRow}
use Rattle.diff_rules.specs.Rows.{DiffRow, has_segment, row_agrees, is_row}
use Rattle.diff_rules.specs.Truths.{PartialPlace, partial_at}

-- ---- lists

all_give : {X : Type 0} (p q : X → Bool) → ((x : X) → p x ≡ true → q x ≡ true) → (xs : List X)
    → list_all p xs ≡ true → list_all q xs ≡ true
all_give p q give [] all = refl
all_give p q give (x ∷ xs) all =
    let both = and_parts (p x) (list_all p xs) all in
    and_from (q x) (list_all q xs) (give x both.0) (all_give p q give xs both.1)

any_not_all : {X : Type 0} (p q : X → Bool) → ((x : X) → p x ≡ true → q x ≡ true → ⊥)
    → (xs : List X) → list_any p xs ≡ true → list_all q xs ≡ true → ⊥
any_not_all p q not_both [] any all = false≢true any
any_not_all p q not_both (x ∷ xs) any all =
    let both = and_parts (q x) (list_all q xs) all in
    elim (or_cases (p x) (list_any p xs) any) [
      | inl here ↦ not_both x here both.0
      | inr later ↦ any_not_all p q not_both xs later both.1
    ]

all_at : {X : Type 0} (p : X → Bool) (xs : List X) (k : ℕ) (x : X) → list_all p xs ≡ true
    → slice_get xs k ≡ Some x → p x ≡ true
all_at p xs k x all there =
    All-contains (λ y. p y ≡ true) xs x (AllPass-from_list_all p xs all)
    (k, slice_get_within xs k x there, get_or_from_slice_get xs k x x there)

got : {X : Type 0} (xs : List X) (x : X) → Contains xs x → (k : ℕ) × (slice_get xs k ≡ Some x)
got xs x (k, within, is) = (k, slice_get-get_or xs k x within ∙ ap Some is)

-- ---- a row, and a partial place with which a place agrees

in_place : (segments : List ℕ) (o : Option ℕ) (segment : ℕ) → ((c : ℕ) → o ≡ Some c → segment ≡ c)
    → in_segments segments o ≡ true → has_segment segments segment ≡ true
in_place segments None segment is h = absurd (false≢true h)
in_place segments (Some c) segment is h = ap (has_segment segments) (is c refl) ∙ h

out_of_place : (segments : List ℕ) (o : Option ℕ) (segment : ℕ)
    → ((c : ℕ) → o ≡ Some c → segment ≡ c)
    → out_of_segments segments o ≡ true → has_segment segments segment ≡ true → ⊥
out_of_place segments None segment is h has = false≢true h
out_of_place segments (Some c) segment is h has =
    both_ways (has_segment segments c) (not-true (has_segment segments c) h)
    (ap (has_segment segments) (sym (is c refl)) ∙ has)

module _ (place : List ℕ) (partial : PartialPlace) (agrees : Agrees place partial) where
  has_all_place : (row : DiffRow) → has_all row partial ≡ true → row_agrees row place ≡ true
  has_all_place row all =
      all_give (in_set partial)
      (λ (set : SegmentSet). has_segment set.segments (slice_index place set.dimension))
      (λ set h. in_place set.segments (partial_at partial set.dimension)
      (slice_index place set.dimension) (agrees.each set.dimension) h) row.sets all

  has_none_place : (row : DiffRow) → has_none partial row ≡ true → row_agrees row place ≡ true → ⊥
  has_none_place row none has =
      any_not_all (out_of_set partial)
      (λ (set : SegmentSet). has_segment set.segments (slice_index place set.dimension))
      (λ set h. out_of_place set.segments (partial_at partial set.dimension)
      (slice_index place set.dimension) (agrees.each set.dimension) h) row.sets none has

-- ---- a class that is in one row

record IsOneOf (rows : List DiffRow) (place : List ℕ) (c : PlaceClass) : Type 0 where
  pub index : ℕ
  pub row : DiffRow
  pub there : slice_get rows index ≡ Some row
  pub is : is_row_of row c ≡ true
  pub only : (l : ℕ) (other : DiffRow) → slice_get rows l ≡ Some other
      → row_agrees other place ≡ true → l ≡ index

module _ (place : List ℕ) (c : PlaceClass) (agrees : Agrees place c.partial) where
  only_first : (row : DiffRow) (rows : List DiffRow) → have_none rows c.partial ≡ true → (l : ℕ)
      (other : DiffRow) → slice_get (row ∷ rows) l ≡ Some other → row_agrees other place ≡ true
      → l ≡ 0
  only_first row rows none zero other there has = refl
  only_first row rows none (suc l) other there has =
      absurd (has_none_place place c.partial agrees other
      (all_at (has_none c.partial) rows l other none there) has)

  only_later : (row : DiffRow) (rows : List DiffRow) → has_none c.partial row ≡ true
      → (rest : IsOneOf rows place c) → (l : ℕ) (other : DiffRow)
      → slice_get (row ∷ rows) l ≡ Some other → row_agrees other place ≡ true → l ≡ suc rest.index
  only_later row rows none rest zero other there has =
      absurd (has_none_place place c.partial agrees row none
      (ap (λ (r : DiffRow). row_agrees r place) (same_Some row other there) ∙ has))
  only_later row rows none rest (suc l) other there has = ap suc (rest.only l other there has)

  first_or_later : (row : DiffRow) (rows : List DiffRow) (b : Bool) → is_row_of row c ≡ b
      → (if b then have_none rows c.partial else has_none c.partial row && is_in_one rows c) ≡ true
      → (is_in_one rows c ≡ true → IsOneOf rows place c) → IsOneOf (row ∷ rows) place c
  first_or_later row rows true is h rest =
      record { index = 0; row = row; there = refl; is = is; only = only_first row rows h }
  first_or_later row rows false is h rest =
      let both = and_parts (has_none c.partial row) (is_in_one rows c) h in
      let one = rest both.1 in
      record {
        index = suc one.index;
        row = one.row;
        there = one.there;
        is = one.is;
        only = only_later row rows both.0 one;
      }

  one_of : (rows : List DiffRow) → is_in_one rows c ≡ true → IsOneOf rows place c
  one_of [] h = absurd (false≢true h)
  one_of (row ∷ rows) h =
      first_or_later row rows (is_row_of row c) refl h (λ rest. one_of rows rest)

-- ---- rows

module _ (x : Scope) (old new : Side) (space : Space) (rows : List DiffRow)
    (classes : List PlaceClass) (covers : Covers x old new space classes)
    (right : are_right rows classes ≡ true) where
  abbrev InOne : Attributes → State → Type 0
  InOne a g = IsInSome old new (place_of space.dimensions a g) a g classes

  right_at : (a : Attributes) (g : State) (i : InOne a g) → is_right rows i.one ≡ true
  right_at a g i =
      All-contains (λ (c : PlaceClass). is_right rows c ≡ true) classes i.one
      (AllPass-from_list_all (is_right rows) classes right) i.there

  -- the row of a class that differs has the machine in the state
  row_has : (a : Attributes) (g : State) (i : InOne a g)
      (o : IsOneOf rows (place_of space.dimensions a g) i.one)
      → IsInRow x old new space rows o.row a g
  row_has a g i o =
      has_all_place (place_of space.dimensions a g) i.one.partial i.is_in.agrees o.row
      (and_parts ((o.row.current == i.one.current) && (o.row.next == i.one.next))
      (has_all o.row i.one.partial) o.is).1

  complete_at : (a : Attributes) (g : State) (i : InOne a g) (b : Bool)
      → (i.one.current == i.one.next) ≡ b
      → (if b then have_none rows i.one.partial else is_in_one rows i.one) ≡ true
      → ((row : DiffRow) → Contains rows row → IsInRow x old new space rows row a g → ⊥)
      → gets old a g ≡ gets new a g
  complete_at a g i true same h none =
      i.is_in.current_is ∙ eqb-true i.one.current i.one.next same ∙ sym i.is_in.next_is
  complete_at a g i false differ h none =
      let place = place_of space.dimensions a g in
      let o = one_of place i.one i.is_in.agrees rows h in
      absurd (none o.row (
        o.index,
        slice_get_within rows o.index o.row o.there,
        get_or_from_slice_get rows o.index o.row o.row o.there,
      ) (row_has a g i o))

  pub complete : AreComplete x old new space rows
  complete a g within none =
      let i = covers a g within in
      complete_at a g i (i.one.current == i.one.next) refl (right_at a g i) none

  -- a row that has a machine in a state is that of its class, which differs
  record IsRowOf (a : Attributes) (g : State) (i : InOne a g) : Type 0 where
    pub differs : (i.one.current == i.one.next) ≡ false
    pub one : IsOneOf rows (place_of space.dimensions a g) i.one

  row_of : (a : Attributes) (g : State) (i : InOne a g) (b : Bool)
      → (i.one.current == i.one.next) ≡ b
      → (if b then have_none rows i.one.partial else is_in_one rows i.one) ≡ true
      → (k : ℕ) (row : DiffRow) → slice_get rows k ≡ Some row → IsInRow x old new space rows row a g
      → IsRowOf a g i
  row_of a g i true same none k row there has =
      absurd (has_none_place (place_of space.dimensions a g) i.one.partial i.is_in.agrees row
      (all_at (has_none i.one.partial) rows k row none there) has)
  row_of a g i false differ h k row there has = record {
    differs = differ;
    one = one_of (place_of space.dimensions a g) i.one i.is_in.agrees rows h;
  }

  row_is : (a : Attributes) (g : State) (i : InOne a g) (k : ℕ) (row : DiffRow)
      → slice_get rows k ≡ Some row → IsInRow x old new space rows row a g → IsRowOf a g i
  row_is a g i k row there has =
      row_of a g i (i.one.current == i.one.next) refl (right_at a g i) k row there has

  pub are_true : AreTrue x old new space rows
  are_true a g within row contains has =
      let i = covers a g within in
      let found = got rows row contains in
      let r = row_is a g i found.0 row found.1 has in
      let o = r.one in
      let at = o.only found.0 row found.1 has in
      let same : o.row ≡ row =
      same_Some o.row row (sym o.there ∙ ap (slice_get rows) (sym at) ∙ found.1) in
      let both = and_parts ((o.row.current == i.one.current) && (o.row.next == i.one.next))
      (has_all o.row i.one.partial) o.is in
      let parts = and_parts (o.row.current == i.one.current) (o.row.next == i.one.next) both.0 in
      let now : i.one.current ≡ row.current =
      sym (eqb-true o.row.current i.one.current parts.0) ∙ ap (λ (r : DiffRow). r.current) same in
      let next : i.one.next ≡ row.next =
      sym (eqb-true o.row.next i.one.next parts.1) ∙ ap (λ (r : DiffRow). r.next) same in (
        i.is_in.current_is ∙ now,
        i.is_in.next_is ∙ next,
        λ equal. eqb-false i.one.current i.one.next r.differs (now ∙ equal ∙ sym next),
      )

  pub apart : AreApart x old new space rows
  apart a g within k l row other at_k at_l has has_other =
      let i = covers a g within in
      let r = row_is a g i k row at_k has in
      r.one.only k row at_k has ∙ sym (r.one.only l other at_l has_other)

pub is_diff : (x : Scope) (old new : Side) (space : Space) (rows : List DiffRow)
    (classes : List PlaceClass) → IsSpaceOf x old new space → Covers x old new space classes
    → are_right rows classes ≡ true → list_all (is_row space.dimensions) rows ≡ true
    → IsDiff x old new space rows
is_diff x old new space rows classes of covers right all = record {
  of = of;
  complete = complete x old new space rows classes covers right;
  are_true = are_true x old new space rows classes covers right;
  apart = apart x old new space rows classes covers right;
  sets = AllPass-from_list_all (is_row space.dimensions) rows all;
}
