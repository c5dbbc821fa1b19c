-- The places that several starts sent.
use Rattle.std.proofs.Common.{◌≡◌, ℕ, ◌+◌, ◌<◌, ◌≤◌, Bool, true, false, min, List, [], ◌∷◌, ◌++◌}
use Rattle.std.proofs.Common.{sym, ap, subst, ◌∙◌, arith}
use Rattle.std.specs.Prelude.{◌==◌, ◌&&◌, nat_lt, All, IsTrue}
use Rattle.std.proofs.lemmas.Bool.{lt-ltb, le-ltb, cases_lt}
use Rattle.std.proofs.lemmas.List.Elements.{All-head, All-tail}
use Rattle.std.proofs.lemmas.List.Sums.{sum_by-cons}
use mathlib.Core.Logic.{⊎_elim}
use Rattle.cells.specs.declared.event.CellEvent.{CellEvent}
use Rattle.shared_cells.specs.Quotas.{adds_one, add_count, yes_count}
use Rattle.restart_laws.specs.Starts.{End, Stopped, Crashed, Start, IsCounted, MayLeave, AreStarts}
use Rattle.restart_laws.specs.Starts.{takes_place, sent_in_all, StartsGrantNoMore}
use Rattle.restart_laws.proofs.Counts.{one_if, yes-cons, yes-append}

-- ---- one event

below_min : (r quota next : ℕ) → r < quota → r < next → r < min quota next
below_min r quota next a b = omega arith

one_less : (here : Bool) (r quota next : ℕ) → (IsTrue (here && nat_lt r quota) → r < next)
    → one_if (here && nat_lt r quota) ≤ one_if (here && nat_lt r (min quota next))
one_less false r quota next covered = omega arith
one_less true r quota next covered =
    ⊎_elim
    (λ (lt : r < quota).
    let yes : nat_lt r quota ≡ true = lt-ltb r quota lt in
    let yes' : nat_lt r (min quota next) ≡ true =
    lt-ltb r (min quota next) (below_min r quota next lt (covered yes)) in
    omega (arith, ap one_if yes, ap one_if yes'))
    (λ (le : quota ≤ r).
    let no : nat_lt r quota ≡ false = le-ltb r quota le in
    omega (arith, ap one_if no))
    (cases_lt r quota)

-- places whose replies are all below a number are also places for that number
covered_less : (c quota next : ℕ) (es : List CellEvent)
    → All (λ e. IsTrue (takes_place c quota e) → e.reply < next) es
    → yes_count c quota es ≤ yes_count c (min quota next) es
covered_less c quota next [] covered = omega arith
covered_less c quota next (e ∷ es) covered =
    let P : CellEvent → Type 0 = λ x. IsTrue (takes_place c quota x) → x.reply < next in
    let first =
    one_less (e.cell == c && adds_one e.op) e.reply quota next (All-head P e es covered) in
    let rest = covered_less c quota next es (All-tail P e es covered) in
    omega (arith, first, rest, yes-cons c quota e es, yes-cons c (min quota next) e es)

-- ---- one start

-- the numbers of a start that crashed: `a` and `b` are the places below both quota and next, sent
-- and unsent, `t` those that were sent
crash_adds : (quota opening next adds t a b : ℕ) → opening ≤ next → t ≤ a
    → a + b + min (min quota next) opening ≡ min (min quota next) (opening + adds)
    → t + min quota opening ≤ min quota next
crash_adds quota opening next adds t a b le sent counts = omega arith

stop_adds : (quota opening value adds t b : ℕ) → value ≡ opening + adds
    → t + b + min quota opening ≡ min quota (opening + adds)
    → t + min quota opening ≤ min quota value
stop_adds quota opening value adds t b is counts = omega arith

start_adds : (c quota : ℕ) (start : Start) (end : End) (next : ℕ)
    → IsCounted c start → MayLeave c quota start end next
    → yes_count c quota start.sent + min quota start.opening ≤ min quota next
start_adds c quota start Stopped next counts leaves =
    let both = yes-append c quota start.sent start.unsent in
    let t = yes_count c quota start.sent in
    subst (λ (n : ℕ). t + min quota start.opening ≤ min quota n) (sym leaves)
    (stop_adds quota start.opening start.value (add_count c (start.sent ++ start.unsent)) t
    (yes_count c quota start.unsent) counts.value_is
    (ap (λ (n : ℕ). n + min quota start.opening) (sym both) ∙ counts.yes_is quota))
start_adds c quota start Crashed next counts leaves =
    let q = min quota next in
    let both = yes-append c q start.sent start.unsent in
    crash_adds quota start.opening next (add_count c (start.sent ++ start.unsent))
    (yes_count c quota start.sent)
    (yes_count c q start.sent) (yes_count c q start.unsent) leaves.0
    (covered_less c quota next start.sent leaves.1)
    (ap (λ (n : ℕ). n + min q start.opening) (sym both) ∙ counts.yes_is q)

-- ---- all starts

sent-cons : (c quota : ℕ) (start : Start) (starts : List Start)
    → sent_in_all c quota (start ∷ starts)
    ≡ yes_count c quota start.sent + sent_in_all c quota starts
sent-cons c quota start starts =
    sum_by-cons (λ (s : Start). yes_count c quota s.sent) start starts

starts_add : (c quota opening : ℕ) (starts : List Start) (next : ℕ)
    → AreStarts c quota opening starts next
    → sent_in_all c quota starts + min quota opening ≤ min quota next
starts_add c quota opening [] next same =
    subst (λ (n : ℕ). 0 + min quota opening ≤ min quota n) (sym same) (omega arith)
starts_add c quota opening (start ∷ starts) next h =
    let here = start_adds c quota start start.end h.0 h.2 h.3 in
    let rest = starts_add c quota h.0 starts next h.4 in
    let same = ap (λ (n : ℕ). min quota n) h.1 in
    omega (arith, here, rest, same, sent-cons c quota start starts)

pub no_more : StartsGrantNoMore
no_more c quota next starts h =
    let all = starts_add c quota 0 starts next h in
    omega (arith, all)
