-- Counts of the buckets so far, and of one more bucket.
use Rattle.std.proofs.Common.{◌≡◌, ◌≢◌, ℕ, ◌+◌, ◌*◌, ◌<◌, ◌≤◌, ◌==◌, ◌&&◌, ◌∙◌, List, length, take}
use Rattle.std.proofs.Common.{get_or, set, Bool, true, false, refl, sym, ap, arith, inl, inr}
use Rattle.std.proofs.Common.{length-take}
use Rattle.std.proofs.lemmas.Bool.{cases_eq, eqb-true, eq-eqb, false≢true}
use Rattle.std.proofs.lemmas.List.{get_or-set_same, get_or-set_other, take_all}
use Rattle.std.proofs.lemmas.List.Sums.{count_by_more_yes, count_by_more_no, count_by-le-length}
use Rattle.std.proofs.lemmas.Slice.Zip.{get_or-zip, length-zip}
use Rattle.std.specs.List.{count_by, zip}

module _ {X : Type 0} (xs : List X) where
  not_own : (b : Bool) (k place : ℕ) → (b ≡ true → k ≡ place) → k ≢ place → b ≡ false
  not_own true k place to other = absurd (other (to refl))
  not_own false k place to other = refl

  -- an element is counted at its place, and at no other
  pub one_counted : (table : List ℕ) (i place k : ℕ) (d : X) (own : X → Bool)
      → i < length xs → place < length table
      → get_or table k 0 ≡ count_by own (take i xs)
      → (own (get_or xs i d) ≡ true → k ≡ place) → (k ≡ place → own (get_or xs i d) ≡ true)
      → get_or (set table place (get_or table place 0 + 1)) k 0 ≡ count_by own (take (i + 1) xs)
  one_counted table i place k d own within room is to back = elim (cases_eq k place) [
    | inl same ↦ ap (λ (n : ℕ). get_or (set table place (get_or table place 0 + 1)) n 0) same
        ∙ get_or-set_same table place (get_or table place 0 + 1) 0 room
        ∙ ap (λ (n : ℕ). get_or table n 0 + 1) (sym same)
        ∙ ap (λ (n : ℕ). n + 1) is
        ∙ sym (count_by_more_yes own xs i d within (back same))
    | inr other ↦ get_or-set_other table place k (get_or table place 0 + 1) 0 other ∙ is
        ∙ sym (count_by_more_no own xs i d within
        (not_own (own (get_or xs i d)) k place to other))
  ]

  pub few_counted : (n i : ℕ) (own : X → Bool) → n ≡ count_by own (take i xs) → n ≤ i
  few_counted n i own is =
      let most = count_by-le-length own (take i xs) in
      let short = length-take i xs in
      omega (arith, is, most, short)

-- ---- choices

abbrev pub AreCounted : List ℕ → ℕ → List ℕ → Type 0
AreCounted choices i counts =
    (k : ℕ) → k ≤ 64 → get_or counts k 0 ≡ count_by (λ choice. choice == k) (take i choices)

pub choice_counted : (choices : List ℕ) (i : ℕ) (counts : List ℕ) (choice : ℕ)
    → i < length choices → length counts ≡ 65 → choice ≤ 64 → choice ≡ get_or choices i 0
    → AreCounted choices i counts
    → AreCounted choices (i + 1) (set counts choice (get_or counts choice 0 + 1))
choice_counted choices i counts choice within room low is counted k few =
    one_counted choices counts i choice k 0 (λ c. c == k) within (omega (arith, room, low))
    (counted k few) (λ own. sym (is ∙ eqb-true (get_or choices i 0) k own))
    (λ same. eq-eqb (get_or choices i 0) k (sym is ∙ sym same))

-- ---- moves

abbrev pub is_move : ℕ → ℕ → ℕ × ℕ → Bool
is_move from to move = (move.0 == from) && (move.1 == to)

abbrev pub AreMovesSoFar : List (ℕ × ℕ) → ℕ → List ℕ → Type 0
AreMovesSoFar moves i table = (from to : ℕ) → from ≤ 64 → to ≤ 64
    → get_or table (65 * from + to) 0 ≡ count_by (is_move from to) (take i moves)

both_true : (a b : Bool) → (a && b) ≡ true → (a ≡ true) × (b ≡ true)
both_true true true h = (refl, refl)
both_true true false h = absurd (false≢true h)
both_true false b h = absurd (false≢true h)

pub move_counted : (moves : List (ℕ × ℕ)) (i : ℕ) (table : List ℕ) (x y : ℕ)
    → i < length moves → length table ≡ 4225 → x ≤ 64 → y ≤ 64
    → get_or moves i (0, 0) ≡ (x, y) → AreMovesSoFar moves i table
    → AreMovesSoFar moves (i + 1)
    (set table (65 * x + y) (get_or table (65 * x + y) 0 + 1))
move_counted moves i table x y within room low few is counted from to from_low to_low =
    one_counted moves table i (65 * x + y) (65 * from + to) (0, 0) (is_move from to) within
    (omega (arith, room, low, few)) (counted from to from_low to_low)
    (λ own.
    let halves = both_true (x == from) (y == to) (rw is at own) in
    let first = eqb-true x from halves.0 in
    let second = eqb-true y to halves.1 in
    omega (arith, first, second))
    (λ same.
    let first : x ≡ from = omega (arith, same, low, few, from_low, to_low) in
    let second : y ≡ to = omega (arith, same, first) in
    rw (is, eq-eqb x from first, eq-eqb y to second) refl)

pub moves_at : (now next : List ℕ) (i n : ℕ) → i < length now → length now ≡ n → length next ≡ n
    → get_or (zip now next) i (0, 0) ≡ (get_or now i 0, get_or next i 0)
moves_at now next i n within first second =
    get_or-zip now next i (0, 0) within (omega (arith, within, first, second))

pub all_moves : (now next : List ℕ) (i : ℕ) (table : List ℕ) (from to : ℕ)
    → length now ≡ 10000 → length next ≡ 10000 → 10000 ≤ i
    → get_or table (65 * from + to) 0 ≡ count_by (is_move from to) (take i (zip now next))
    → get_or table (65 * from + to) 0 ≡ count_by (is_move from to) (zip now next)
all_moves now next i table from to first second past is =
    let long = length-zip now next in
    is ∙ ap (λ (moves : List (ℕ × ℕ)). count_by (is_move from to) moves)
    (take_all i (zip now next) (omega (arith, long, first, second, past)))

-- at the end all buckets are counted
pub all_choices : (choices : List ℕ) (i : ℕ) (counts : List ℕ) (k : ℕ) → length choices ≡ 10000
    → 10000 ≤ i
    → get_or counts k 0 ≡ count_by (λ choice. choice == k) (take i choices)
    → get_or counts k 0 ≡ count_by (λ choice. choice == k) choices
all_choices choices i counts k long past is =
    is ∙ ap (λ (l : List ℕ). count_by (λ choice. choice == k) l)
    (take_all i choices (omega (arith, long, past)))

pub few_choices : (choices : List ℕ) (n k : ℕ) → length choices ≡ 10000
    → n ≡ count_by (λ choice. choice == k) choices → n ≤ 10000
few_choices choices n k long is =
    let most = count_by-le-length (λ choice. choice == k) choices in
    omega (arith, most, long, is)
