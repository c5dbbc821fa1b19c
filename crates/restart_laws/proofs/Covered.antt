-- Places that were sent, and the numbers that a crash may leave.
use Rattle.std.proofs.Common.{ℕ, suc, ◌<◌, ◌≤◌, max, List, [], ◌∷◌, sym, subst, arith, get_or}
use Rattle.std.specs.Prelude.{All}
use Rattle.std.proofs.lemmas.List.Elements.{All-nil, All-cons, All-head, All-contains}
use Rattle.restart_laws.specs.Moments.{Moment, Begins, Ends, Sends, newest, numbers_after}
use Rattle.restart_laws.specs.Moments.{bound_after, IsAllowed, GoOn, sent_by, sent_in}
use Rattle.restart_laws.specs.Moments.{CrashesLeaveEnough, CrashesLeaveOpenings}

-- the bound is at most each number
abbrev Above : ℕ → List ℕ → Type 0
Above bound = All (λ (n : ℕ). bound ≤ n)

newest_above : (bound : ℕ) (numbers : List ℕ) → Above bound numbers
    → Above bound (newest numbers)
newest_above bound [] above = above
newest_above bound (n ∷ numbers) above =
    let P : ℕ → Type 0 = λ m. bound ≤ m in
    All-cons P n [] (All-head P n numbers above) (All-nil P)

max_above : (bound place : ℕ) (numbers : List ℕ) → Above bound numbers
    → All (λ (n : ℕ). place < n) numbers → Above (max bound (suc place)) numbers
max_above bound place numbers above covers k d lt =
    let a = above k d lt in
    let b = covers k d lt in
    omega (arith, a, b)

moment_above : (bound : ℕ) (numbers : List ℕ) (moment : Moment) → Above bound numbers
    → IsAllowed bound numbers moment
    → Above (bound_after moment bound) (numbers_after moment numbers)
moment_above bound numbers (Begins number) above allowed =
    All-cons (λ (m : ℕ). bound ≤ m) number numbers allowed above
moment_above bound numbers Ends above allowed = newest_above bound numbers above
moment_above bound numbers (Sends place) above allowed =
    max_above bound place numbers above allowed

-- after moments, each place that was sent in them is below the bound, which has only risen and is
-- at most each number that a crash may leave
record IsBound (bound : ℕ) (moments : List Moment) (bound' : ℕ) (numbers' : List ℕ)
    : Type 0 where
  above : Above bound' numbers'
  rises : bound ≤ bound'
  sent : All (λ (t : ℕ). t < bound') (sent_in moments)

sent_more : (moment : Moment) (moments : List Moment) (bound bound' : ℕ)
    → bound_after moment bound ≤ bound' → All (λ (t : ℕ). t < bound') (sent_in moments)
    → All (λ (t : ℕ). t < bound') (sent_by moment (sent_in moments))
sent_more (Begins number) moments bound bound' rises sent = sent
sent_more Ends moments bound bound' rises sent = sent
sent_more (Sends place) moments bound bound' rises sent =
    All-cons (λ (t : ℕ). t < bound') place (sent_in moments) (omega (arith, rises)) sent

rises_first : (moment : Moment) (bound : ℕ) → bound ≤ bound_after moment bound
rises_first (Begins number) bound = omega arith
rises_first Ends bound = omega arith
rises_first (Sends place) bound = omega arith

go_on : (bound : ℕ) (numbers : List ℕ) (moments : List Moment) (bound' : ℕ)
    (numbers' : List ℕ) → Above bound numbers → GoOn bound numbers moments bound' numbers'
    → IsBound bound moments bound' numbers'
go_on bound numbers [] bound' numbers' above h = record {
  above = subst (λ (b : ℕ). Above b numbers') (sym h.0)
      (subst (λ (o : List ℕ). Above bound o) (sym h.1) above);
  rises = subst (λ (b : ℕ). bound ≤ b) (sym h.0) (omega arith);
  sent = All-nil (λ (t : ℕ). t < bound');
}
go_on bound numbers (moment ∷ moments) bound' numbers' above h =
    let rest = go_on (bound_after moment bound) (numbers_after moment numbers) moments bound'
    numbers' (moment_above bound numbers moment above h.0) h.1 in
    let first = rises_first moment bound in
    let later = rest.rises in
    record {
      above = rest.above;
      rises = omega (arith, first, later);
      sent = sent_more moment moments bound bound' rest.rises rest.sent;
    }

opened_above : (opening : ℕ) → Above opening (opening ∷ [])
opened_above opening =
    All-cons (λ (m : ℕ). opening ≤ m) opening [] (omega arith) (All-nil (λ (m : ℕ). opening ≤ m))

pub covered : CrashesLeaveEnough
covered opening bound moments numbers h k d lt =
    let all = go_on opening (opening ∷ []) moments bound numbers (opened_above opening) h in
    let above = all.above k d lt in
    let rises = all.rises in (
      omega (arith, above, rises),
      λ i e less.
          let sent = all.sent i e less in
          omega (arith, sent, above),
    )

pub openings : CrashesLeaveOpenings
openings cell quota bound start moments numbers goes have k d lt =
    let number = get_or numbers k d in
    let left = covered start.opening bound moments numbers goes k d lt in (
      left.0,
      λ i e less yes.
          All-contains
          (λ (t : ℕ). t < number) (sent_in moments) (get_or start.sent i e).reply left.1
          (have i e less yes),
    )
