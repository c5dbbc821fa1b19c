-- Rising replies of a cell: how many are below a number.
use Rattle.std.proofs.Common.{◌≡◌, ◌∙◌, ℕ, suc, ◌+◌, ◌-◌, ◌<◌, ◌≤◌, List, [], ◌∷◌, ◌++◌}
use Rattle.std.proofs.Common.{length, get_or, inl, inr, refl, ap, sym, subst, arith, length-append}
use Rattle.std.specs.Prelude.{All, Bool, true, false, cond, ◌&&◌, ◌==◌, nat_lt}
use Rattle.std.specs.List.{count_by}
use Rattle.std.proofs.lemmas.Bool.{and_from, and_parts, and_right, cases_Bool, eq-eqb}
use Rattle.std.proofs.lemmas.Bool.{eqb-true, le-ltb, lt-ltb, ltb-false, ltb-true}
use Rattle.std.proofs.lemmas.List.{get_or_append_left, get_or_at}
use Rattle.std.proofs.lemmas.List.Elements.{All-head, All-tail, All-weaker}
use Rattle.std.proofs.lemmas.List.Sums.{sum_by-append, sum_by-cons, sum_by-le-sum_by}
use Rattle.cells.specs.declared.event.CellEvent.{CellEvent}
use Rattle.diff_rules.specs.Replies.{RisesOn, on_cell}

abbrev pub Rises : (cell : ℕ) → CellEvent → CellEvent → Type 0
Rises cell e f = e.cell ≡ cell → f.cell ≡ cell → e.reply < f.reply

abbrev pub is_granted : (cell quota : ℕ) → CellEvent → Bool
is_granted cell quota e = (e.cell == cell) && nat_lt e.reply quota

-- how many replies of the cell are below the quota
abbrev pub granted_in : (cell quota : ℕ) → List CellEvent → ℕ
granted_in cell quota events = count_by (is_granted cell quota) events

counted : (p : CellEvent → Bool) (e : CellEvent) (es : List CellEvent)
    → count_by p (e ∷ es) ≡ cond (p e) 1 0 + count_by p es
counted p e es = sum_by-cons (λ (f : CellEvent). cond (p f) 1 0) e es

-- ---- pairs

first_rises : (cell : ℕ) (e : CellEvent) (es : List CellEvent) → RisesOn cell (e ∷ es)
    → All (Rises cell e) es
first_rises cell e es rise = λ k d within. rise 0 (suc k) d (omega arith) (omega (arith, within))

rest_rises : (cell : ℕ) (e : CellEvent) (es : List CellEvent) → RisesOn cell (e ∷ es)
    → RisesOn cell es
rest_rises cell e es rise =
    λ i j d order within. rise (suc i) (suc j) d (omega (arith, order)) (omega (arith, within))

-- the replies before an event are below its reply
before_rises : (cell : ℕ) (done rest : List CellEvent) (e : CellEvent)
    → RisesOn cell (done ++ e ∷ rest) → All (λ d. Rises cell d e) done
before_rises cell done rest e rise = λ k d within.
    let both = length-append done (e ∷ rest) in
    let r = rise k (length done) d within (omega (arith, both)) in
    subst (λ (f : CellEvent). Rises cell f e)
    (get_or_append_left done (e ∷ rest) d k within)
    (subst (λ (f : CellEvent). Rises cell (get_or (done ++ e ∷ rest) k d) f)
    (get_or_at done e rest d (length done) refl) r)

behind_rises : (cell : ℕ) (done rest : List CellEvent) (e : CellEvent)
    → RisesOn cell (done ++ e ∷ rest) → All (Rises cell e) rest
behind_rises cell [] rest e rise = first_rises cell e rest rise
behind_rises cell (d ∷ done) rest e rise =
    behind_rises cell done rest e (rest_rises cell d (done ++ e ∷ rest) rise)

-- ---- counts

-- if replies are at least `low`, at most quota - low of them are below the quota
pub few_granted : (cell quota low : ℕ) (events : List CellEvent) → RisesOn cell events
    → All (λ e. e.cell ≡ cell → low ≤ e.reply) events
    → granted_in cell quota events ≤ quota - low
few_granted cell quota low [] rise from = omega arith
few_granted cell quota low (e ∷ es) rise from =
    let low_is = All-head (λ (f : CellEvent). f.cell ≡ cell → low ≤ f.reply) e es from in
    let others = All-tail (λ (f : CellEvent). f.cell ≡ cell → low ≤ f.reply) e es from in
    let step = counted (is_granted cell quota) e es in
    elim (cases_Bool (is_granted cell quota e)) [
      | inl granted ↦
          let both = and_parts (e.cell == cell) (nat_lt e.reply quota) granted in
          let here = eqb-true e.cell cell both.0 in
          let below = ltb-true e.reply quota both.1 in
          let from_here = low_is here in
          let rest = few_granted cell quota (e.reply + 1) es (rest_rises cell e es rise)
          (All-weaker (Rises cell e) (λ (f : CellEvent). f.cell ≡ cell → e.reply + 1 ≤ f.reply)
          (λ f rises same. let more = rises here same in omega (arith, more)) es
          (first_rises cell e es rise)) in
          let added = ap (λ (b : Bool). cond b 1 0 + granted_in cell quota es) granted in
          omega (arith, step, added, rest, below, from_here)
      | inr refused ↦
          let rest = few_granted cell quota low es (rest_rises cell e es rise) others in
          let added = ap (λ (b : Bool). cond b 1 0 + granted_in cell quota es) refused in
          omega (arith, step, added, rest)
    ]

granted_same : (reply quota : ℕ) (on : Bool) → (on ≡ true → reply < quota)
    → (on && nat_lt reply quota) ≡ on
granted_same reply quota true below = lt-ltb reply quota (below refl)
granted_same reply quota false below = refl

-- if all replies of the cell are below the quota, all its events are granted
all_granted : (cell quota : ℕ) (events : List CellEvent)
    → All (λ e. e.cell ≡ cell → e.reply < quota) events
    → granted_in cell quota events ≡ count_by (on_cell cell) events
all_granted cell quota [] below = refl
all_granted cell quota (e ∷ es) below =
    let rest = all_granted cell quota es
    (All-tail (λ (f : CellEvent). f.cell ≡ cell → f.reply < quota) e es below) in
    let here = All-head (λ (f : CellEvent). f.cell ≡ cell → f.reply < quota) e es below in
    let same : is_granted cell quota e ≡ on_cell cell e = granted_same e.reply quota
    (e.cell == cell) (λ on. here (eqb-true e.cell cell on)) in
    counted (is_granted cell quota) e es
    ∙ ap (λ (b : Bool). cond b 1 0 + granted_in cell quota es) same
    ∙ ap (λ (n : ℕ). cond (on_cell cell e) 1 0 + n) rest
    ∙ sym (counted (on_cell cell) e es)

none_same : (reply quota : ℕ) (on : Bool) → (on ≡ true → quota ≤ reply)
    → (on && nat_lt reply quota) ≡ false
none_same reply quota true above = le-ltb reply quota (above refl)
none_same reply quota false above = refl

-- if no reply of the cell is below the quota, no event is granted
none_granted : (cell quota : ℕ) (events : List CellEvent)
    → All (λ e. e.cell ≡ cell → quota ≤ e.reply) events → granted_in cell quota events ≡ 0
none_granted cell quota [] above = refl
none_granted cell quota (e ∷ es) above =
    let rest = none_granted cell quota es
    (All-tail (λ (f : CellEvent). f.cell ≡ cell → quota ≤ f.reply) e es above) in
    let here = All-head (λ (f : CellEvent). f.cell ≡ cell → quota ≤ f.reply) e es above in
    let none : is_granted cell quota e ≡ false = none_same e.reply quota (e.cell == cell)
    (λ on. here (eqb-true e.cell cell on)) in
    let step = counted (is_granted cell quota) e es in
    let added = ap (λ (b : Bool). cond b 1 0 + granted_in cell quota es) none in
    omega (arith, step, added, rest)

less : (on below : Bool) → cond (on && below) 1 0 ≤ cond on 1 0
less true true = omega arith
less true false = omega arith
less false below = omega arith

granted_less : (cell quota : ℕ) (events : List CellEvent)
    → granted_in cell quota events ≤ count_by (on_cell cell) events
granted_less cell quota events =
    sum_by-le-sum_by (λ (e : CellEvent). cond (is_granted cell quota e) 1 0)
    (λ (e : CellEvent). cond (on_cell cell e) 1 0) events
    (λ e. less (e.cell == cell) (nat_lt e.reply quota))

-- an event is granted exactly if fewer events of its cell come before it than are granted in all
pub granted_is : (cell quota : ℕ) (done rest : List CellEvent) (e : CellEvent) → e.cell ≡ cell
    → RisesOn cell (done ++ e ∷ rest)
    → nat_lt e.reply quota
    ≡ nat_lt (count_by (on_cell cell) done) (granted_in cell quota (done ++ e ∷ rest))
granted_is cell quota done rest e here rise =
    let p : CellEvent → ℕ = λ f. cond (is_granted cell quota f) 1 0 in
    let whole = sum_by-append p done (e ∷ rest) in
    let step = counted (is_granted cell quota) e rest in
    elim (cases_Bool (nat_lt e.reply quota)) [
      | inl granted ↦
          let below = ltb-true e.reply quota granted in
          let earlier = all_granted cell quota done
          (All-weaker (λ (d : CellEvent). Rises cell d e)
          (λ (d : CellEvent). d.cell ≡ cell → d.reply < quota)
          (λ d rises same. let less = rises same here in omega (arith, less, below))
          done (before_rises cell done rest e rise)) in
          let added = ap (λ (b : Bool). cond b 1 0 + granted_in cell quota rest)
          (and_from (e.cell == cell) (nat_lt e.reply quota) (eq-eqb e.cell cell here) granted) in
          granted ∙ sym (lt-ltb (count_by (on_cell cell) done)
          (granted_in cell quota (done ++ e ∷ rest)) (omega (arith, whole, step, added, earlier)))
      | inr refused ↦
          let above = ltb-false e.reply quota refused in
          let later = none_granted cell quota rest
          (All-weaker (Rises cell e) (λ (f : CellEvent). f.cell ≡ cell → quota ≤ f.reply)
          (λ f rises same. let more = rises here same in omega (arith, more, above))
          rest (behind_rises cell done rest e rise)) in
          let added = ap (λ (b : Bool). cond b 1 0 + granted_in cell quota rest)
          (and_right (e.cell == cell) (nat_lt e.reply quota) refused) in
          let few = granted_less cell quota done in
          refused ∙ sym (le-ltb (count_by (on_cell cell) done)
          (granted_in cell quota (done ++ e ∷ rest))
          (omega (arith, whole, step, added, later, few)))
    ]
