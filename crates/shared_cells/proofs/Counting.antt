-- A cell with only Loads and Adds of 1 counts the Adds, and each limit is passed by exactly as
-- many.
use Rattle.std.proofs.Common.{◌≡◌, ◌≢◌, ℕ, ◌+◌, ◌%◌, ◌^◌, ◌<◌, Bool, true, false, min}
use Rattle.std.proofs.Common.{List, [], ◌∷◌, length, sym, ap, ◌∙◌, subst, arith}
use Rattle.std.proofs.Common.{add-zero, get_or-set_same, get_or-set_other, length-set}
use Rattle.std.specs.Prelude.{if◌then◌else◌, ◌==◌, ◌&&◌, nat_lt, All, slice_index, slice_set}
use Rattle.std.proofs.lemmas.Bool.Decides.{nat_tests}
use Rattle.std.proofs.lemmas.List.Elements.{All-head, All-tail}
use Rattle.std.proofs.lemmas.List.Sums.{sum_by-cons}
use Rattle.std.proofs.lemmas.List.Sorted.{IsPermutation-sym, All-permutation, sum_by-IsPermutation}
use Rattle.std.proofs.Math.Nat.{mod-eq_of_lt}
use mathlib.Core.Logic.{dite}
use native.Mathlib.Decide.{ℕ_discrete}
use Rattle.cells.specs.declared.event.CellOp.{CellOp}
use Rattle.cells.specs.declared.event.CellOp.TheVariants.{Load, Store, Add, Or, And}
use Rattle.cells.specs.declared.event.CellOp.TheVariants.{Xor, Swap, CompareExchange}
use Rattle.cells.specs.declared.event.CellEvent.{CellEvent}
use Rattle.cells.specs.Events.{limit, after, reply_of, value_after, IsEvent}
use Rattle.cells.specs.Grown.{GrewBy}
use Rattle.shared_cells.specs.History.{all_events}
use Rattle.shared_cells.specs.Passes.{PassView, events_made, AreLeftBy}
use Rattle.shared_cells.specs.Quotas.{adds_one, add_count, yes_count, OnlyCounts, QuotasAreExact}
use Rattle.shared_cells.specs.Rule.{one_if}
use Rattle.shared_cells.proofs.Shuffles.{passes_shuffled}

-- what an event does to a counter: `v` and `w` are its values before and after, `here` is whether
-- the event is on it, `r` the reply
record Counts (v w r top : ℕ) (here : Bool) (op : CellOp) : Type 0 where
  adds : w ≡ v + one_if (here && adds_one op)
  passes : one_if (here && adds_one op && nat_lt r top) + min top v ≡ min top
      (v + one_if (here && adds_one op))

one_passes : (v top : ℕ) → one_if (nat_lt v top) + min top v ≡ min top (v + 1)
one_passes v top = grind (arith, nat_tests)

none_passes : (v top : ℕ) → 0 + min top v ≡ min top (v + 0)
none_passes v top = omega arith

add_counts : (v r top : ℕ) → r ≡ v → v + 1 < 2 ^ 64 → Counts v ((v + 1) % 2 ^ 64) r top true (Add 1)
add_counts v r top reply room = record {
  adds = mod-eq_of_lt room;
  passes = ap (λ (j : ℕ). one_if (nat_lt j top) + min top v) reply ∙ one_passes v top;
}

counts_here : (v r top : ℕ) (op : CellOp) → OnlyCounts op → r ≡ reply_of v op
    → v + one_if (adds_one op) < 2 ^ 64
    → Counts v (after (2 ^ 64) v op) r top true op
counts_here v r top Load counts reply room =
    record { adds = sym (add-zero v); passes = none_passes v top }
counts_here v r top (Store x) counts reply room = absurd counts
counts_here v r top (Add k) counts reply room =
    subst
    (λ (j : ℕ). v + one_if (j == 1) < 2 ^ 64 → Counts v ((v + j) % 2 ^ 64) r top true (Add j))
    (sym counts) (λ (lt : v + 1 < 2 ^ 64). add_counts v r top reply lt) room
counts_here v r top (Or x) counts reply room = absurd counts
counts_here v r top (And x) counts reply room = absurd counts
counts_here v r top (Xor x) counts reply room = absurd counts
counts_here v r top (Swap x) counts reply room = absurd counts
counts_here v r top (CompareExchange expected new) counts reply room = absurd counts

wide : (c : ℕ) → c < 4096 → limit c ≡ 2 ^ 64
wide c lt = ap (λ (b : Bool). 2 ^ (if b then 64 else 32)) (test c lt)
  where
    test : (k : ℕ) → k < 4096 → nat_lt k 4096 ≡ true
    test k h = grind (arith, nat_tests)

is_same : (a : ℕ) → (a == a) ≡ true
is_same a = grind (arith, nat_tests)

is_other : (a b : ℕ) → a ≢ b → (a == b) ≡ false
is_other a b ne = grind (arith, nat_tests)

-- an event on cells, and a counter among them
counts_event : (c top : ℕ) (old : List ℕ) (e : CellEvent) (new : List ℕ) → c < 4096
    → length old ≡ 8192
    → IsEvent old e new → (e.cell ≡ c → OnlyCounts e.op)
    → slice_index old c + one_if (e.cell == c && adds_one e.op) < 2 ^ 64
    → Counts (slice_index old c) (slice_index new c) e.reply top (e.cell == c) e.op
counts_event c top old e new lt size is counts room =
    dite (ℕ_discrete e.cell c)
    (λ (same : e.cell ≡ c).
    let test : (e.cell == c) ≡ true = ap (λ (k : ℕ). k == c) same ∙ is_same c in
    let value : slice_index new c ≡ after (2 ^ 64) (slice_index old c) e.op =
    ap (λ (l : List ℕ). slice_index l c) is.values_are
    ∙ ap (λ (k : ℕ). slice_index (slice_set old k (after (limit k) (slice_index old k) e.op)) c)
    same
    ∙ get_or-set_same old c (after (limit c) (slice_index old c) e.op) 0 (omega arith)
    ∙ ap (λ (m : ℕ). after m (slice_index old c) e.op) (wide c lt) in
    let reply : e.reply ≡ reply_of (slice_index old c) e.op =
    is.reply_is ∙ ap (λ (k : ℕ). reply_of (slice_index old k) e.op) same in
    let few : slice_index old c + one_if (adds_one e.op) < 2 ^ 64 =
    subst (λ (b : Bool). slice_index old c + one_if (b && adds_one e.op) < 2 ^ 64) test room in
    subst (λ (x : ℕ × Bool). Counts (slice_index old c) x.0 e.reply top x.1 e.op)
    (λ i. (sym value i, sym test i))
    (counts_here (slice_index old c) e.reply top e.op (counts same) reply few))
    (λ (ne : e.cell ≢ c).
    let value : slice_index new c ≡ slice_index old c =
    ap (λ (l : List ℕ). slice_index l c) is.values_are
    ∙ get_or-set_other old e.cell c (value_after old e) 0 (λ k. ne (sym k)) in
    subst (λ (x : ℕ × Bool). Counts (slice_index old c) x.0 e.reply top x.1 e.op)
    (λ i. (sym value i, sym (is_other e.cell c ne) i))
    (record {
      adds = sym (add-zero (slice_index old c));
      passes = none_passes (slice_index old c) top;
    }))

add_count-cons : (c : ℕ) (e : CellEvent) (es : List CellEvent)
    → add_count c (e ∷ es) ≡ one_if (e.cell == c && adds_one e.op) + add_count c es
add_count-cons c e es = sum_by-cons (λ (x : CellEvent). one_if (x.cell == c && adds_one x.op)) e es

yes_count-cons : (c top : ℕ) (e : CellEvent) (es : List CellEvent)
    → yes_count c top (e ∷ es) ≡ one_if
    (e.cell == c && adds_one e.op && nat_lt e.reply top) + yes_count c top es
yes_count-cons c top e es =
    sum_by-cons (λ (x : CellEvent). one_if (x.cell == c && adds_one x.op && nat_lt x.reply top)) e
    es

together : (y ys v a w more top : ℕ) → w ≡ v + a → y + min top v ≡ min top (v + a)
    → ys + min top w ≡ min top (w + more) → y + ys + min top v ≡ min top (v + (a + more))
together y ys v a w more top here first rest = let m = ap (λ (k : ℕ). min top k) here in omega arith

-- a counter along legal events
counts_along : (c top : ℕ) (old : List ℕ) (made : List CellEvent) (new : List ℕ) → c < 4096
    → length old ≡ 8192
    → GrewBy IsEvent old made new → All (λ (e : CellEvent). e.cell ≡ c → OnlyCounts e.op) made
    → slice_index old c + add_count c made < 2 ^ 64
    → (slice_index new c ≡ slice_index old c + add_count c made)
    × (yes_count c top made + min top (slice_index old c) ≡ min top
    (slice_index old c + add_count c made))
counts_along c top old [] new lt size same counts room = (
  ap (λ (l : List ℕ). slice_index l c) same
      ∙ sym (add-zero (slice_index old c)),
  none_passes (slice_index old c) top,
)
counts_along c top old (e ∷ es) new lt size h counts room =
    let P : CellEvent → Type 0 = λ x. x.cell ≡ c → OnlyCounts x.op in
    let adds = add_count-cons c e es in
    let yes = yes_count-cons c top e es in
    let first = counts_event c top old e h.0 lt size h.1 (All-head P e es counts) (omega arith) in
    let here = first.adds in
    let count : length h.0 ≡ 8192 = ap (λ (l : List ℕ). length l) (h.1).values_are
    ∙ length-set old e.cell (value_after old e) ∙ size in
    let rest = counts_along c top h.0 es new lt count h.2 (All-tail P e es counts) (omega arith) in
    let both = together (one_if (e.cell == c && adds_one e.op && nat_lt e.reply top))
    (yes_count c top es) (slice_index old c)
    (one_if (e.cell == c && adds_one e.op)) (slice_index h.0 c)
    (add_count c es) top here first.passes rest.1 in (
      rest.0 ∙ omega arith,
      ap (λ (k : ℕ). k + min top (slice_index old c)) yes ∙ both
          ∙ ap (λ (k : ℕ). min top (slice_index old c + k)) (sym adds),
    )

-- what the quotas promise, for closed cells
pub exact : (opening : List ℕ) (passes : List PassView) (values : List ℕ)
    → AreLeftBy opening passes values → QuotasAreExact opening passes values
exact opening passes values closed c counter =
    let made = all_events closed.history in
    let all = events_made passes in
    let legal = closed.legal in
    let shuffle = passes_shuffled closed.history passes closed.own in
    let P : CellEvent → Type 0 = λ x. x.cell ≡ c → OnlyCounts x.op in
    let counts = All-permutation P all made (IsPermutation-sym made all shuffle) counter.counts in
    let adds : add_count c all ≡ add_count c made =
    sum_by-IsPermutation (λ (x : CellEvent). one_if (x.cell == c && adds_one x.op)) made all
    shuffle in
    let yes : (top : ℕ) → yes_count c top all ≡ yes_count c top made = λ top.
    sum_by-IsPermutation (λ (x : CellEvent). one_if
    (x.cell == c && adds_one x.op && nat_lt x.reply top)) made all shuffle in
    let room = counter.adds_fit in
    let along : (top : ℕ) → (slice_index values c ≡ slice_index opening c + add_count c made)
    × (yes_count c top made + min top (slice_index opening c) ≡ min top
    (slice_index opening c + add_count c made)) = λ top.
    counts_along c top opening made values counter.wide legal.cells.count legal.grown counts
    (omega arith) in
    record {
      value_is = (along 0).0 ∙ ap (λ (k : ℕ). slice_index opening c + k) (sym adds);
      yes_is = λ top.
          ap (λ (k : ℕ). k + min top (slice_index opening c)) (yes top)
          ∙ (along top).1
          ∙ ap (λ (k : ℕ). min top (slice_index opening c + k)) (sym adds);
    }
