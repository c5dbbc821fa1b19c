-- What is noted stays noted.
use Rattle.std.proofs.Common.{◌≡◌, ℕ, ◌+◌, ◌-◌, ◌^◌, ◌<◌, ◌≤◌, min, List, [], ◌∷◌, ◌++◌}
use Rattle.std.proofs.Common.{length, drop, sym, ap, subst, ◌∙◌, arith}
use Rattle.std.specs.Prelude.{All, slice_index}
use Rattle.std.proofs.lemmas.List.{drop-append-le, length-append}
use Rattle.std.proofs.lemmas.List.Elements.{All-push, All-weaker}
use Rattle.cells.specs.declared.event.CellEvent.{CellEvent}
use Rattle.kept_cells.specs.Noted.{NotesView, IsNoted, Notes, KeepsNotes, NotesOneMore}

below_more : (reply a b : ℕ) → reply < a → a ≤ b → reply < b
below_more reply a b lt le = omega (arith, lt, le)

some : (reply a : ℕ) → reply < a → 0 < a
some reply a lt = omega (arith, lt)

least_more : (reply a b : ℕ) → a ≤ reply → b ≤ a → b ≤ reply
least_more reply a b le less = omega (arith, le, less)

one_kept : (old new : NotesView) → KeepsNotes old new → (e : CellEvent) → IsNoted old e
    → IsNoted new e
one_kept old new keeps e noted is =
    let was = noted is in
    let above =
    below_more e.reply (slice_index old.above e.cell) (slice_index new.above e.cell) was.0
    (keeps.above e.cell) in
    let least =
    least_more e.reply (slice_index old.least e.cell) (slice_index new.least e.cell) was.1
    (keeps.least e.cell (some e.reply (slice_index old.above e.cell) was.0)) in
    (above, least)

all_kept : (old new : NotesView) → KeepsNotes old new → (events : List CellEvent)
    → All (IsNoted old) events → All (IsNoted new) events
all_kept old new keeps events =
    All-weaker (IsNoted old) (IsNoted new) (one_kept old new keeps) events

-- ---- one more event

count_more : (n count : ℕ) → count ≡ min n (2 ^ 64 - 1)
    → min (count + 1) (2 ^ 64 - 1) ≡ min (n + 1) (2 ^ 64 - 1)
count_more n count is = omega (arith, is)

within : (n count from : ℕ) → count ≡ min n (2 ^ 64 - 1) → from ≤ count → from ≤ n
within n count from is le = omega (arith, is, le)

still_from : (n count from new : ℕ) → count ≡ min n (2 ^ 64 - 1) → from ≤ count
    → new ≡ min (count + 1) (2 ^ 64 - 1) → from ≤ new
still_from n count from new is le more = omega (arith, is, le, more)

pub one_more : (old new : NotesView) (events : List CellEvent) (e : CellEvent)
    → Notes old events → NotesOneMore old e new → Notes new (events ++ e ∷ [])
one_more old new events e notes more =
    let count = length-append events (e ∷ []) in
    let from = more.keeps.from in
    record {
      count =
          more.count ∙ count_more (length events) old.count notes.count
          ∙ ap (λ (n : ℕ). min n (2 ^ 64 - 1)) (sym count);
      from =
          subst (λ (n : ℕ). n ≤ new.count) (sym from)
          (still_from (length events) old.count old.from new.count notes.count notes.from
          more.count);
      noted = λ less.
          let le = within (length events) old.count old.from notes.count notes.from in
          let earlier = all_kept old new more.keeps (drop old.from events)
          (notes.noted (subst (λ (n : ℕ). n < 2 ^ 64 - 1) from less)) in
          let all = All-push (IsNoted new) (drop old.from events) e earlier more.noted in
          subst (λ (n : ℕ). All (IsNoted new) (drop n (events ++ e ∷ []))) (sym from)
          (subst (All (IsNoted new)) (sym (drop-append-le old.from events (e ∷ []) le)) all);
    }
