-- When a program has a rule's meaning.
use Rattle.std.specs.Prelude.{ℕ, List}
use Rattle.attrs.specs.Attributes.{Attributes}
use Rattle.attrs.specs.Context.{HasContextRanges}
use Rattle.bpf_semantics.specs.Program.{ShapedProgram}
use Rattle.bpf_semantics.specs.Run.{Ends}
use Rattle.bpf_semantics.specs.State.{opening}
use Rattle.cells.specs.declared.event.CellEvent.{CellEvent}
use Rattle.rule_lang.specs.declared.rule.Statement.{Statement}
use Rattle.rule_lang.specs.Meaning.{behaviour, HasTrace}

-- for attributes whose context is in its ranges, and for any replies of cells: the run makes the
-- events that the rule means, and ends with its choice
abbrev pub Means : Attributes → List Statement → ShapedProgram → Type 0
Means a rule p =
    HasContextRanges a.context → (es : List CellEvent) (choice : ℕ)
    → HasTrace (behaviour a p.shape rule) es choice
    → (count : ℕ) × Ends p (opening a) es choice count
