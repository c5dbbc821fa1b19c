-- What a run does to a cell that its program has only in arrays with a quota.
use Rattle.std.proofs.Common.{ℕ, List, get_or, subst}
use Rattle.std.specs.Prelude.{All}
use Rattle.std.proofs.lemmas.List.Elements.{All-nil, All-cons, All-head, All-tail}
use Rattle.cells.specs.Arrays.{HasCell}
use Rattle.cells.specs.declared.event.CellEvent.{CellEvent}
use Rattle.cells.specs.declared.event.CellOp.{CellOp}
use Rattle.cells.specs.declared.event.CellOp.TheVariants.{Load, Store, Add, Or, And, Xor}
use Rattle.cells.specs.declared.event.CellOp.TheVariants.{Swap, CompareExchange}
use Rattle.attrs.specs.Attributes.{AreShort}
use Rattle.shared_cells.specs.Quotas.{OnlyCounts}
use Rattle.bpf_semantics.specs.Program.{ShapedProgram}
use Rattle.bpf_semantics.specs.Run.{Ends, last, more}
use Rattle.bpf_semantics.specs.Run as whole
use Rattle.bpf_semantics.specs.State.{State, opening}
use Rattle.bpf_verify.specs.Covers.{IsCovered, IsSafeOutcome, HasPossibleReply}
use Rattle.bpf_verify.specs.Covers.{StepsAreSafe, AreLawful}
use Rattle.bpf_checks.specs.Sound.{IsLawful, KeepsQuota}
use Rattle.thread_laws.specs.Runs.{Reaches, stays, goes, operates, Stage, UnderWay, AtEnd}
use Rattle.thread_laws.specs.Runs.{ComesAsFar, AppRun}
use Rattle.thread_laws.specs.Quotas.{HasOnlyQuotasAt, OnlyCountsAt}

-- ---- a run does only what its shape allows

lawful_to : (p : ShapedProgram) → StepsAreSafe p → (s t : State) (es : List CellEvent)
    → Reaches p s es t → IsCovered p s → All HasPossibleReply es → AreLawful p.shape es
lawful_to p safe s t es stays covered fit =
    All-nil (λ (e : CellEvent). IsLawful p.shape e.cell e.op)
lawful_to p safe s t es (goes {t = u} is rest) covered fit =
    lawful_to p safe u t es rest (subst (IsSafeOutcome p s) is (safe s covered)).1 fit
lawful_to p safe s t es (operates {next = next} {e = d} {es = ds} is rest) covered fit =
    let here = subst (IsSafeOutcome p s) is (safe s covered) in
    let then = here.1 d.reply (All-head HasPossibleReply d ds fit) in
    All-cons (λ (e : CellEvent). IsLawful p.shape e.cell e.op) d ds here.0
    (lawful_to p safe (next d.reply) t ds rest then.1 (All-tail HasPossibleReply d ds fit))

-- a run that ends gets to the state of its last step
ends_at : (p : ShapedProgram) (s : State) (es : List CellEvent) (choice count : ℕ)
    → Ends p s es choice count → (t : State) × Reaches p s es t
ends_at p s es choice count (last is counted) = (s, stays)
ends_at p s es choice count (more {t = t} is rest) =
    let end = ends_at p t es choice count rest in (end.0, goes is end.1)
ends_at p s es choice count (whole.operated {next = next} {e = d} {es = ds} is rest) =
    let end = ends_at p (next d.reply) ds choice count rest in (end.0, operates is end.1)

lawful_as_far : (p : ShapedProgram) → StepsAreSafe p → (s : State) (es : List CellEvent)
    (stage : Stage) → ComesAsFar p s es stage → IsCovered p s → All HasPossibleReply es
    → AreLawful p.shape es
lawful_as_far p safe s es (UnderWay t) comes covered fit = lawful_to p safe s t es comes covered fit
lawful_as_far p safe s es (AtEnd choice count) comes covered fit =
    let end = ends_at p s es choice count comes in
    lawful_to p safe s end.0 es end.1 covered fit

-- ---- and so it only counts

counts : (op : CellOp) → KeepsQuota op → OnlyCounts op
counts Load keeps = keeps
counts (Store x) keeps = absurd keeps
counts (Add n) keeps = keeps
counts (Or x) keeps = absurd keeps
counts (And x) keeps = absurd keeps
counts (Xor x) keeps = absurd keeps
counts (Swap x) keeps = absurd keeps
counts (CompareExchange expected new) keeps = absurd keeps

counts_at : (cell : ℕ) (p : ShapedProgram) (e : CellEvent) → HasOnlyQuotasAt cell p
    → IsLawful p.shape e.cell e.op → OnlyCountsAt cell e
counts_at cell p e knows lawful same =
    let array = lawful.array in
    let has = subst (HasCell array) same lawful.has in
    counts e.op (lawful.quota array lawful.there lawful.has (knows.quota array lawful.there has))

-- for a run from its opening state, as far as it got
pub run_counts : (cell : ℕ) (run : AppRun) → HasOnlyQuotasAt cell run.program
    → AreShort run.attributes.texts
    → ComesAsFar run.program (opening run.attributes) run.events run.stage
    → All HasPossibleReply run.events → All (OnlyCountsAt cell) run.events
run_counts cell run knows short comes fit k d lt =
    let opens = knows.opens run.attributes short in
    let all = lawful_as_far run.program knows.sound (opening run.attributes) run.events run.stage
    comes opens fit in
    counts_at cell run.program (get_or run.events k d) knows (all k d lt)
