-- A whole run of an app's program, and how it makes its choice.
use Rattle.std.specs.Prelude.{◌≡◌, ℕ, ◌≤◌, ◌++◌, List, [], length, All, Some, None, string_bytes}
use Rattle.attrs.specs.Attributes.{Attributes}
use Rattle.bpf_semantics.specs.Program.{ShapedProgram}
use Rattle.bpf_semantics.specs.Run.{Ends}
use Rattle.bpf_semantics.specs.State.{opening}
use Rattle.bpf_verify.specs.Covers.{AreLawful, HasPossibleReply}
use Rattle.cells.specs.Events.{IsEvent}
use Rattle.cells.specs.Grown.{GrewBy}
use Rattle.cells.specs.declared.event.CellEvent.{CellEvent}
use Rattle.why_choice.specs.RuleLines.{ExplainsRule}
use Rattle.trace.specs.Jumps.{last_jump_of}
use Rattle.dry_run.specs.declared.app_runs.ChoiceCourse.{ChoiceCourse}
use Rattle.dry_run.specs.declared.app_runs.ChoiceCourse.TheVariants.{ByRule, ByRun}
use Rattle.load.specs.JudgedApps.{OptionalRule}

-- from its first instruction to its end, on counters with the values `old`, each of which replies
-- with its value; it leaves them the values `new`. It takes at most as many instructions as the
-- program has slots, and chooses 0 or a release; its events are allowed by the program's arrays
pub record WholeRun (program : ShapedProgram) (a : Attributes) (old : List ℕ) (choice count : ℕ)
    (new : List ℕ) : Type 0 where
  pub events : List CellEvent
  pub grown : GrewBy IsEvent old events new
  pub ends : Ends program (opening a) events choice count
  pub short : count ≤ length program.code
  pub among : choice ≤ program.shape.releases
  pub fits : All HasPossibleReply events
  pub lawful : AreLawful program.shape events

-- how it makes its choice: by the lines of the program's rule, which means this choice and these
-- values; or, if the program isn't a rule's, by this number of instructions, with this last jump
abbrev pub IsCourse : (a : Attributes) (program : ShapedProgram) → OptionalRule → (old : List ℕ)
    → (choice count : ℕ) → (new : List ℕ) → WholeRun program a old choice count new → ChoiceCourse
    → Type 0
IsCourse a program (Some rule) old choice count new run (ByRule lines) =
    ExplainsRule a program.shape rule old [] (string_bytes lines) choice new
IsCourse a program None old choice count new run (ByRun instructions last_jump) =
    (instructions ≡ count)
    × (last_jump ≡ last_jump_of program (opening a) run.events choice count run.ends)
IsCourse a program rule old choice count new run course = ⊥

-- the explanation of a run
pub record ExplainsCourse (program : ShapedProgram) (rule : OptionalRule) (a : Attributes)
    (old : List ℕ) (choice : ℕ) (new : List ℕ) (course : ChoiceCourse) : Type 0 where
  pub count : ℕ
  pub run : WholeRun program a old choice count new
  pub course_is : IsCourse a program rule old choice count new run course

-- ---- as it is printed

-- the lines of a rule are printed as they are. No clause says how a run is printed
abbrev pub IsPrinted : ChoiceCourse → (lines : List ℕ) → Type 0
IsPrinted (ByRule lines) printed = printed ≡ string_bytes lines
IsPrinted (ByRun instructions last_jump) printed = Unit {0}

-- a text has the lines of a course, between others
pub record PrintsCourse (course : ChoiceCourse) (text : List ℕ) : Type 0 where
  pub before : List ℕ
  pub lines : List ℕ
  pub after : List ℕ
  pub are : IsPrinted course lines
  pub text_is : text ≡ before ++ lines ++ after
