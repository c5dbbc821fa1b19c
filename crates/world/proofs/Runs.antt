-- A run that ends well, step by step, on the counters of a world.
use Rattle.std.proofs.Common.{◌≡◌, ◌≢◌, ℕ, ◌+◌, ◌<◌, ◌≤◌, List, [], ◌∷◌, ◌++◌, length, refl, sym}
use Rattle.std.proofs.Common.{ap, subst, ◌∙◌, arith}
use Rattle.std.specs.Prelude.{slice_index, slice_set}
use Rattle.std.proofs.lemmas.Nat.{pow_pos}
use Rattle.bpf_semantics.specs.Program.{ShapedProgram}
use Rattle.bpf_semantics.specs.State.{State}
use Rattle.bpf_semantics.specs.Outcome.{Outcome, Going, Operates, Done, Trap}
use Rattle.bpf_semantics.specs.Step.{step}
use Rattle.bpf_semantics.specs.Run.{Ends, last, more}
use Rattle.bpf_semantics.specs.Run as run
use Rattle.bpf_semantics.specs.Laws.{Follows, IsNext}
use Rattle.bpf_verify.specs.Covers.{EndsWell, ends, goes, operates}
use Rattle.cells.specs.declared.event.CellOp.{CellOp}
use Rattle.cells.specs.declared.event.CellOp.TheVariants.{Load, Store, Add, Or, And, Xor, Swap}
use Rattle.cells.specs.declared.event.CellOp.TheVariants.{CompareExchange}
use Rattle.cells.specs.declared.event.CellEvent.{CellEvent}
use Rattle.cells.specs.Events.{width, limit, after, reply_of, CanReply, AreCells}
use Rattle.cells.specs.Widths.{FitsWidths, EventsFit}
use Rattle.world.specs.Counters.{accesses, answered, cells_after}

-- what the crates below promise of every step, and of every event on counters
pub record Laws : Type 0 where
  pub counts : (p : ShapedProgram) (s : State) → IsNext s (step p s)
  pub fit : EventsFit

-- ---- a step on counters

pub same_state : (s t : State) → Going s ≡ Going t → s ≡ t
same_state s t same = cc

-- the state after a step that continues has one instruction more, and the same attributes
pub follows : (cells : List ℕ) (s t : State) (o : Outcome) → IsNext s o → answered cells o ≡ Going t
    → Follows s t
follows cells s t (Going u) next going = subst (Follows s) (same_state u t going) next
follows cells s t (Operates cell op f) next going =
    let reply = reply_of (slice_index cells cell) op in
    subst (Follows s) (same_state (f reply) t going) (next reply)
follows cells s t (Done choice) next going = absurd cc
follows cells s t Trap next going = absurd cc

-- the event of a step that accesses a counter
event_fits : Laws → (cells : List ℕ) (cell : ℕ) (op : CellOp) → AreCells cells
    → FitsWidths (record { cell = cell; op = op; reply = reply_of (slice_index cells cell) op })
    (slice_set cells cell (after (limit cell) (slice_index cells cell) op))
event_fits law cells cell op fit =
    law.fit cells (slice_set cells cell (after (limit cell) (slice_index cells cell) op))
    (record { cell = cell; op = op; reply = reply_of (slice_index cells cell) op }) fit
    (record { reply_is = refl; values_are = refl })

reply_fits : Laws → (cells : List ℕ) (cell : ℕ) (op : CellOp) → AreCells cells
    → CanReply cell op (reply_of (slice_index cells cell) op)
reply_fits law cells cell op fit = (event_fits law cells cell op fit).reply

pub cells_kept : Laws → (cells : List ℕ) (o : Outcome) → AreCells cells
    → AreCells (cells_after cells o)
cells_kept law cells (Going t) fit = fit
cells_kept law cells (Operates cell op next) fit = (event_fits law cells cell op fit).cells
cells_kept law cells (Done choice) fit = fit
cells_kept law cells Trap fit = fit

-- ---- a run that ends well

pub no_trap : (p : ShapedProgram) (s : State) → EndsWell p s → step p s ≢ Trap
no_trap p s (ends e release short) trap = cc
no_trap p s (goes e rest) trap = cc
no_trap p s (operates e rest) trap = cc

zero_fits : (cell : ℕ) (op : CellOp) → CanReply cell op 0
zero_fits cell Load = pow_pos (width cell)
zero_fits cell (Store x) = refl
zero_fits cell (Add x) = pow_pos (width cell)
zero_fits cell (Or x) = pow_pos (width cell)
zero_fits cell (And x) = pow_pos (width cell)
zero_fits cell (Xor x) = pow_pos (width cell)
zero_fits cell (Swap x) = pow_pos (width cell)
zero_fits cell (CompareExchange expected new) = pow_pos (width cell)

-- it has done fewer instructions than its program has slots
pub is_short : Laws → (p : ShapedProgram) (s : State) → EndsWell p s → s.count < length p.code
is_short law p s (ends e release short) = omega (arith, short)
is_short law p s (goes {t = t} e rest) =
    let later = is_short law p t rest in
    let next : Follows s t = subst (IsNext s) e (law.counts p s) in
    let count = next.count in
    omega (arith, later, count)
is_short law p s (operates {cell = cell} {op = op} {next = next} e rest) =
    let later = is_short law p (next 0) (rest 0 (zero_fits cell op)) in
    let all : (reply : ℕ) → Follows s (next reply) = subst (IsNext s) e (law.counts p s) in
    let count = (all 0).count in
    omega (arith, later, count)

-- it continues so
pub goes_well : Laws → (cells : List ℕ) (p : ShapedProgram) (s t : State) → AreCells cells
    → EndsWell p s → answered cells (step p s) ≡ Going t → EndsWell p t
goes_well law cells p s t fit (ends {choice = choice} e release short) going =
    let both : Done choice ≡ Going t = sym (ap (answered cells) e) ∙ going in absurd cc
goes_well law cells p s t fit (goes {t = u} e rest) going =
    subst (EndsWell p) (same_state u t (sym (ap (answered cells) e) ∙ going)) rest
goes_well law cells p s t fit (operates {cell = cell} {op = op} {next = next} e rest) going =
    let reply = reply_of (slice_index cells cell) op in
    subst (EndsWell p) (same_state (next reply) t (sym (ap (answered cells) e) ∙ going))
    (rest reply (reply_fits law cells cell op fit))

-- if it ends, it ends with none or a release, in time
pub ends_here : (p : ShapedProgram) (s : State) (chosen : ℕ) → EndsWell p s → step p s ≡ Done chosen
    → (chosen ≤ p.shape.releases) × (s.count + 1 ≤ length p.code)
ends_here p s chosen (ends {choice = choice} e release short) done =
    let same : choice ≡ chosen = cc in (omega (arith, same, release), short)
ends_here p s chosen (goes e rest) done = absurd cc
ends_here p s chosen (operates e rest) done = absurd cc

-- ---- a whole run on replies that fit

abbrev pub AllFit : List CellEvent → Type 0
AllFit [] = Unit {0}
AllFit (e ∷ es) = CanReply e.cell e.op e.reply × AllFit es

pub all_fit : (es ds : List CellEvent) → AllFit es → AllFit ds → AllFit (es ++ ds)
all_fit [] ds first second = second
all_fit (e ∷ es) ds first second = (first.0, all_fit es ds first.1 second)

pub accesses_fit : Laws → (cells : List ℕ) (o : Outcome) → AreCells cells
    → AllFit (accesses cells o)
accesses_fit law cells (Going t) fit = tt
accesses_fit law cells (Operates cell op next) fit = (reply_fits law cells cell op fit, tt)
accesses_fit law cells (Done choice) fit = tt
accesses_fit law cells Trap fit = tt

pub ends_well : (p : ShapedProgram) (s : State) (es : List CellEvent) (choice count : ℕ) → AllFit es
    → EndsWell p s → Ends p s es choice count
    → (choice ≤ p.shape.releases) × (count ≤ length p.code)
ends_well p s es choice count fit (ends {choice = chosen} e release short) (last f counted) =
    let same : chosen ≡ choice = cc in
    (omega (arith, same, release), omega (arith, counted, short))
ends_well p s es choice count fit (ends e release short) (more f rest) = absurd cc
ends_well p s es choice count fit (ends e release short) (run.operated f rest) = absurd cc
ends_well p s es choice count fit (goes e well) (last f counted) = absurd cc
ends_well p s es choice count fit (goes {t = t} e well) (more {t = u} f rest) =
    let same : u ≡ t = cc in
    ends_well p t es choice count fit well
    (subst (λ (x : State). Ends p x es choice count) same rest)
ends_well p s es choice count fit (goes e well) (run.operated f rest) = absurd cc
ends_well p s es choice count fit (operates e well) (last f counted) = absurd cc
ends_well p s es choice count fit (operates e well) (more f rest) = absurd cc
ends_well p s es choice count fit (operates {cell = cell} {op = op} {next = next} e well)
    (run.operated {next = after} {e = event} {es = tail} f rest) =
    let cell_is : event.cell ≡ cell = cc in
    let op_is : event.op ≡ op = cc in
    let next_is : after ≡ next = cc in
    let fits = subst (λ (o : CellOp). CanReply cell o event.reply) op_is
    (subst (λ (c : ℕ). CanReply c event.op event.reply) cell_is fit.0) in
    ends_well p (next event.reply) tail choice count fit.1 (well event.reply fits)
    (subst (λ (x : State). Ends p x tail choice count)
    (ap (λ (f : ℕ → State). f event.reply) next_is) rest)

-- ---- a run of the semantics, one step longer at its start

-- a step that continues, with its event
pub goes_from : (cells : List ℕ) (p : ShapedProgram) (s t : State) (o : Outcome)
    (es : List CellEvent)
    (choice count : ℕ) → step p s ≡ o → answered cells o ≡ Going t → Ends p t es choice count
    → Ends p s (accesses cells o ++ es) choice count
goes_from cells p s t (Going u) es choice count e going rest =
    more e (subst (λ (x : State). Ends p x es choice count) (sym (same_state u t going)) rest)
goes_from cells p s t (Operates cell op next) es choice count e going rest =
    let reply = reply_of (slice_index cells cell) op in
    run.operated {e = record { cell = cell; op = op; reply = reply }} e
    (subst (λ (x : State). Ends p x es choice count) (sym (same_state (next reply) t going)) rest)
goes_from cells p s t (Done chosen) es choice count e going rest = absurd cc
goes_from cells p s t Trap es choice count e going rest = absurd cc

-- a step that ends has no event
pub ends_from : (cells : List ℕ) (p : ShapedProgram) (s : State) (o : Outcome) (choice : ℕ)
    → step p s ≡ o → o ≡ Done choice → Ends p s (accesses cells o) choice (s.count + 1)
ends_from cells p s (Done chosen) choice e done = last (e ∙ done) refl
ends_from cells p s (Going t) choice e done = absurd cc
ends_from cells p s (Operates cell op next) choice e done = absurd cc
ends_from cells p s Trap choice e done = absurd cc
