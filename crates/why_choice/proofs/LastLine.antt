-- A rule chooses by the last reported line.
use Rattle.std.proofs.Common.{◌≡◌, ◌∙◌, ℕ, List, [], ◌∷◌, refl, sym, ap, subst}
use Rattle.std.specs.Prelude.{Bool, true, false, if◌then◌else◌, slice_index}
use Rattle.attrs.specs.Attributes.{Attributes}
use Rattle.cells.specs.Arrays.{AppShape}
use Rattle.cells.specs.Events.{IsEvent, reply_of}
use Rattle.cells.specs.Grown.{GrewBy}
use Rattle.cells.specs.declared.event.CellEvent.{CellEvent}
use Rattle.cells.specs.declared.event.CellOp.{CellOp}
use Rattle.rule_lang.specs.Meaning.{Behaviour, Chooses, Operates, HasTrace, behaviour}
use Rattle.rule_lang.specs.declared.condition.Step.{Step}
use Rattle.rule_lang.specs.declared.rule.Statement.{Statement}
use Rattle.rule_lang.specs.declared.rule.Statement.TheVariants.{Count, When}
use Rattle.why_choice.specs.Ending.{Ending, counters_after, ending, ending_on}
use Rattle.why_choice.specs.Reading.{read_steps}
use Rattle.why_choice.specs.RuleLines.{ChoosesByLastLine, by_its_end, by_this_when, after_when}
use Rattle.why_choice.specs.RuleLines.{after_count, LastLineChooses, counted, rule_lines, when_line}
use Rattle.why_choice.proofs.Conditions.{when_sound}

-- ---- the result of a trace on counters that reply by their values is the behaviour's result

event_is_next : (old new : List ℕ) (cell : ℕ) (op : CellOp) (next : ℕ → Behaviour) (e : CellEvent)
    → e.cell ≡ cell → e.op ≡ op → IsEvent old e new
    → ending_on (counters_after old cell op) (next (reply_of (slice_index old cell) op))
    ≡ ending_on new (next e.reply)
event_is_next old new cell op next e cell_is op_is is =
    let left : counters_after old cell op ≡ new =
    sym (is.values_are ∙ ap (λ (c : ℕ). counters_after old c e.op) cell_is
    ∙ ap (λ (o : CellOp). counters_after old cell o) op_is) in
    let reply : reply_of (slice_index old cell) op ≡ e.reply =
    sym (is.reply_is ∙ ap (λ (c : ℕ). reply_of (slice_index old c) e.op) cell_is
    ∙ ap (λ (o : CellOp). reply_of (slice_index old cell) o) op_is) in
    ap (λ (cs : List ℕ). ending_on cs (next (reply_of (slice_index old cell) op))) left
    ∙ ap (λ (r : ℕ). ending_on new (next r)) reply

trace_ends : (b : Behaviour) (events : List CellEvent) (old : List ℕ) (choice : ℕ) (new : List ℕ)
    → HasTrace b events choice → GrewBy IsEvent old events new
    → ending_on old b ≡ ending choice new
trace_ends (Chooses k) [] old choice new is grown =
    ap (λ (n : ℕ). ending n old) is ∙ ap (λ (cs : List ℕ). ending choice cs) (sym grown)
trace_ends (Chooses k) (e ∷ es) old choice new is grown = absurd is
trace_ends (Operates cell op next) [] old choice new is grown = absurd is
trace_ends (Operates cell op next) (e ∷ es) old choice new is grown =
    event_is_next old grown.0 cell op next e is.0 is.1 grown.1
    ∙ trace_ends (next e.reply) es grown.0 choice new is.3 grown.2

-- ---- the result is that of the last line

module _ (a : Attributes) (s : AppShape) where
  when_chooses : (old : List ℕ) (steps : List Step) (release : ℕ) (rest : List Statement)
      (holds : Bool) (e last : Ending) → (read_steps a s old steps).holds ≡ holds
      → e ≡ (if holds then ending release (read_steps a s old steps).counters else last)
      → ChoosesByLastLine a s (read_steps a s old steps).counters rest
      (rule_lines a s (read_steps a s old steps).counters rest) last.choice last.counters
      → ChoosesByLastLine a s old (When steps release ∷ rest)
      (when_line steps (read_steps a s old steps).text
      ∷ (if holds then [] else rule_lines a s (read_steps a s old steps).counters rest))
      e.choice e.counters
  when_chooses old steps release rest true e last holds ends more =
      let r = read_steps a s old steps in
      subst (λ (x : Ending). ChoosesByLastLine a s old (When steps release ∷ rest)
      (when_line steps r.text ∷ []) x.choice x.counters) (sym ends)
      (by_this_when old steps release rest holds)
  when_chooses old steps release rest false e last holds ends more =
      let r = read_steps a s old steps in
      let rest_lines = rule_lines a s r.counters rest in
      subst (λ (x : Ending). ChoosesByLastLine a s old (When steps release ∷ rest)
      (when_line steps r.text ∷ rest_lines) x.choice x.counters) (sym ends)
      (after_when old steps release rest rest_lines last.choice last.counters holds more)

  rule_chooses : (rule : List Statement) (old : List ℕ)
      → ChoosesByLastLine a s old rule (rule_lines a s old rule)
      (ending_on old (behaviour a s rule)).choice (ending_on old (behaviour a s rule)).counters
  rule_chooses [] old = by_its_end old
  rule_chooses (Count name index ∷ rest) old =
      let new = counted s old name index in
      let e = ending_on new (behaviour a s rest) in
      after_count old name index rest (rule_lines a s new rest) e.choice e.counters
      (rule_chooses rest new)
  rule_chooses (When steps release ∷ rest) old =
      let r = read_steps a s old steps in
      when_chooses old steps release rest r.holds
      (ending_on old (behaviour a s (When steps release ∷ rest)))
      (ending_on r.counters (behaviour a s rest)) refl (when_sound a s old steps release rest)
      (rule_chooses rest r.counters)

pub last_line_chooses : LastLineChooses
last_line_chooses a s rule old choice new is =
    subst (λ (e : Ending). ChoosesByLastLine a s old rule (rule_lines a s old rule) e.choice
    e.counters) (trace_ends (behaviour a s rule) is.events old choice new is.trace is.grown)
    (rule_chooses a s rule old)
