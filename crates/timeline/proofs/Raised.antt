-- Adding the rows to the numbers one by one adds their sums.
use Rattle.std.proofs.Common.{◌≡◌, ◌∙◌, refl, sym, ap, ap₂, ℕ, zero, suc, ◌+◌, ◌<◌, ◌≤◌}
use Rattle.std.proofs.Common.{List, [], ◌∷◌, length, get_or, set, arith, Bool, true, false}
use Rattle.std.proofs.Common.{◌==◌, if◌then◌else◌, Option, Some, None}
use Rattle.std.proofs.Common.{◌-◌, ◌/◌, String, string_bytes, subst, nat_le, nat_lt}
use Rattle.std.specs.Prelude.{option_and_then}
use Rattle.std.specs.declared.alloc.Global.{Global}
use Rattle.std.proofs.lemmas.List.{length-set}
use Rattle.std.proofs.lemmas.List.Sums.{sum_by-cons}
use Rattle.timeline.specs.Bins.{bin_of, count_at, count_in, is_place, bin_at, bin_within}
use Rattle.timeline.specs.Bins.{raised, raised_at, raised_from}
use Rattle.report.specs.Tallies.{Rows}
use Rattle.timeline.specs.Marks.{Drawn, moment_of}
use Rattle.timeline.specs.declared.bins.Bins.{Bins}

-- numbers raised by amounts that are equal from an index on
pub same_raised : (place : ℕ) (f g : ℕ → ℕ) (numbers : List ℕ)
    → ((p : ℕ) → place ≤ p → f p ≡ g p) → raised_from place f numbers ≡ raised_from place g numbers
same_raised place f g [] same = refl
same_raised place f g (n ∷ numbers) same =
    ap₂ (λ (m : ℕ) (ms : List ℕ). m ∷ ms) (ap (λ k. n + k) (same place (omega arith)))
    (same_raised (place + 1) f g numbers (λ p past. same p (omega (arith, past))))

pub by_nothing : (place : ℕ) (f : ℕ → ℕ) (numbers : List ℕ) → ((p : ℕ) → f p ≡ 0)
    → raised_from place f numbers ≡ numbers
by_nothing place f [] none = refl
by_nothing place f (n ∷ numbers) none =
    ap₂ (λ (m : ℕ) (ms : List ℕ). m ∷ ms) (omega (arith, none place))
    (by_nothing (place + 1) f numbers none)

-- what a row adds at an index
adds : Option ℕ → ℕ → ℕ → ℕ
adds found more place = if is_place place found then more else 0

here : (place more : ℕ) → (if place == place then more else 0) ≡ more
here place more = grind arith

elsewhere : (p place more : ℕ) → place < p → (if place == p then more else 0) ≡ 0
elsewhere p place more past = grind arith

-- raising one number first, and then all
one_first : (place at more : ℕ) (f : ℕ → ℕ) (numbers : List ℕ) → at < length numbers
    → raised_from place f (set numbers at (get_or numbers at 0 + more))
    ≡ raised_from place (λ p. (if place + at == p then more else 0) + f p) numbers
one_first place at more f [] within = absurd (omega (arith, within))
one_first place zero more f (n ∷ numbers) within =
    ap₂ (λ (m : ℕ) (ms : List ℕ). m ∷ ms) (first place n more (f place))
    (same_raised (place + 1) f (λ p. (if place + 0 == p then more else 0) + f p) numbers
    (λ p past. later p past))
  where
    first : (place n more k : ℕ)
        → (n + more) + k ≡ n + ((if place + 0 == place then more else 0) + k)
    first place n more k = grind arith

    later : (p : ℕ) → place + 1 ≤ p → f p ≡ (if place + 0 == p then more else 0) + f p
    later p past = grind arith
one_first place (suc at) more f (n ∷ numbers) within =
    ap₂ (λ (m : ℕ) (ms : List ℕ). m ∷ ms) (first place at n more (f place))
    (one_first (place + 1) at more f numbers (omega (arith, within))
    ∙ same_raised (place + 1) (λ p. (if place + 1 + at == p then more else 0) + f p)
    (λ p. (if place + suc at == p then more else 0) + f p) numbers (λ p past. same p))
  where
    first : (place at n more k : ℕ)
        → n + k ≡ n + ((if place + suc at == place then more else 0) + k)
    first place at n more k = grind arith

    same : (p : ℕ) → (if place + 1 + at == p then more else 0) + f p
        ≡ (if place + suc at == p then more else 0) + f p
    same p = grind arith

-- adding a row, and then the rows after it
pub row_further : (found : Option ℕ) (more : ℕ) (f : ℕ → ℕ) (old new numbers whole : List ℕ)
    → ((p : ℕ) → found ≡ Some p → p < length old) → new ≡ raised_at found more old
    → raised_from 0 (λ p. (if is_place p found then more else 0) + f p) old ≡ whole
    → raised_from 0 f new ≡ whole
row_further None more f old new numbers whole within grown is =
    ap (raised_from 0 f) grown ∙ same_raised 0 f (λ p. 0 + f p) old (λ p past. omega arith) ∙ is
row_further (Some at) more f old new numbers whole within grown is =
    ap (raised_from 0 f) grown ∙ one_first 0 at more f old (within at refl)
    ∙ same_raised 0 (λ p. (if 0 + at == p then more else 0) + f p)
    (λ p. (if at == p then more else 0) + f p) old (λ p past. same p) ∙ is
  where
    same : (p : ℕ) → (if 0 + at == p then more else 0) + f p
        ≡ (if at == p then more else 0) + f p
    same p = grind arith

-- the index found for a name is that of a bin
some_place : (b : Bool) (x p n : ℕ) → (b ≡ true → x < n) → (if b then Some x else None) ≡ Some p
    → p < n
some_place true x p n less is = subst (λ (k : ℕ). k < n) (some_is x p is) (less refl)
  where
    some_is : (m k : ℕ) → Some m ≡ Some k → m ≡ k
    some_is m k same = cc
some_place false x p n less is = cc

is_less : (x n : ℕ) → nat_lt x n ≡ true → x < n
is_less x n holds = grind arith

either_place : (b : Bool) (o : Option ℕ) (p n : ℕ) → (o ≡ Some p → p < n)
    → (if b then o else None) ≡ Some p → p < n
either_place true o p n less is = less is
either_place false o p n less is = cc

place_within : (bins : Bins) (moment : Option ℕ) (p : ℕ)
    → option_and_then (bin_at bins) moment ≡ Some p → p < bins.count
place_within bins None p is = cc
place_within bins (Some n) p is =
    either_place (nat_le bins.first (n / bins.width))
    (bin_within bins (n / bins.width - bins.first)) p bins.count
    (some_place (nat_lt (n / bins.width - bins.first) bins.count) (n / bins.width - bins.first) p
    bins.count (is_less (n / bins.width - bins.first) bins.count)) is

row_more : (bins : Bins) (drawn : Drawn) (row : String Global × ℕ) (rows : Rows)
    (old new whole : List ℕ) → length old ≡ bins.count
    → new ≡ raised_at (bin_of bins drawn (string_bytes row.0)) row.1 old
    → raised bins drawn (row ∷ rows) old ≡ whole → raised bins drawn rows new ≡ whole
row_more bins drawn row rows old new whole all grown is =
    row_further (bin_of bins drawn (string_bytes row.0)) row.1 (count_in bins drawn rows) old new
    old whole
    (λ p found. subst (λ (n : ℕ). p < n) (sym all)
    (place_within bins (moment_of drawn (string_bytes row.0)) p found))
    grown
    (same_raised 0
    (λ p. (if is_place p (bin_of bins drawn (string_bytes row.0)) then row.1 else 0)
    + count_in bins drawn rows p) (count_in bins drawn (row ∷ rows)) old
    (λ p past. sym (sum_by-cons (count_at bins drawn p) row rows)) ∙ is)

-- row by row
abbrev pub raised_each : Bins → Drawn → Rows → List ℕ → List ℕ
raised_each bins drawn [] numbers = numbers
raised_each bins drawn (row ∷ rows) numbers =
    raised_each bins drawn rows
    (raised_at (bin_of bins drawn (string_bytes row.0)) row.1 numbers)

as_long : (found : Option ℕ) (more : ℕ) (numbers : List ℕ)
    → length (raised_at found more numbers) ≡ length numbers
as_long None more numbers = refl
as_long (Some place) more numbers = length-set numbers place (get_or numbers place 0 + more)

pub each_is : (bins : Bins) (drawn : Drawn) (rows : Rows) (numbers : List ℕ)
    → length numbers ≡ bins.count
    → raised_each bins drawn rows numbers ≡ raised bins drawn rows numbers
each_is bins drawn [] numbers all = sym (by_nothing 0 (count_in bins drawn []) numbers (λ p. refl))
each_is bins drawn (row ∷ rows) numbers all =
    let found = bin_of bins drawn (string_bytes row.0) in
    each_is bins drawn rows (raised_at found row.1 numbers) (as_long found row.1 numbers ∙ all)
    ∙ row_more bins drawn row rows numbers (raised_at found row.1 numbers)
    (raised bins drawn (row ∷ rows) numbers) all refl refl
