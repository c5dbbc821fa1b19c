-- The report on a rule: a line for each `when`, up to the one that chooses.
use Rattle.std.specs.Prelude.{◌≡◌, ℕ, List, [], ◌∷◌, ◌++◌, codes, decimal, flat_map}
use Rattle.std.specs.Prelude.{Bool, true, false, if◌then◌else◌}
use Rattle.attrs.specs.Attributes.{Attributes}
use Rattle.cells.specs.Arrays.{AppShape}
use Rattle.cells.specs.Events.{AreCells}
use Rattle.cells.specs.declared.event.CellOp.TheVariants.{Add}
use Rattle.rule_lang.specs.Meaning.{behaviour, Behaviour, cell_used, decide, test_then}
use Rattle.rule_lang.specs.Shapes.{array_named, cell_of}
use Rattle.rule_lang.specs.Trees.{Tree}
use Rattle.rule_lang.specs.declared.condition.Step.{Step}
use Rattle.rule_lang.specs.declared.condition.Step.TheVariants as step
use Rattle.rule_lang.specs.declared.rule.Statement.{Statement}
use Rattle.rule_lang.specs.declared.rule.Statement.TheVariants.{Count, When}
use Rattle.rule_lang.specs.declared.test.Test.{Test}
use Rattle.why_choice.specs.Ending.{IsMeant, counters_after, ending, ending_on, holds_on, left_at}
use Rattle.why_choice.specs.Reading.{read_steps, read_tree}

-- the line of a condition's first test, which may be below its `when`
abbrev pub first_test_line : List Step → ℕ
first_test_line (step.Test line t ∷ rest) = line
first_test_line steps = 0

-- the line of a `when`, whose tests are reported in `report`
abbrev pub when_line : List Step → (report : List ℕ) → List ℕ
when_line steps report =
    codes "  line " ++ decimal (first_test_line steps) ++ codes ": " ++ report

-- the line for the rule's end
abbrev pub otherwise_line : List ℕ
otherwise_line = codes "  otherwise none"

-- a line with its line feed
abbrev pub ended : (line : List ℕ) → List ℕ
ended line = line ++ codes "\n"

-- the counters after a count
abbrev pub counted : AppShape → (counters : List ℕ) → (name : List ℕ) → (index : ℕ) → List ℕ
counted s counters name index =
    counters_after counters (cell_of (array_named name s.arrays) index) (Add 1)

module _ (a : Attributes) (s : AppShape) where
  -- the lines, up to the one that chooses
  abbrev pub rule_lines : (counters : List ℕ) → List Statement → List (List ℕ)
  rule_lines counters [] = otherwise_line ∷ []
  rule_lines counters (Count name index ∷ rest) = rule_lines (counted s counters name index) rest
  rule_lines counters (When steps release ∷ rest) =
      let r = read_steps a s counters steps in
      when_line steps r.text ∷ (if r.holds then [] else rule_lines r.counters rest)

  -- the text of these lines
  abbrev pub rule_text : (counters : List ℕ) → List Statement → List ℕ
  rule_text counters rule = flat_map ended (rule_lines counters rule)

-- `ChoosesByLastLine a s old rule report choice new`: on counters with the values `old`, the rule
-- makes this choice and leaves the values `new`. The last line of `report` is that of the `when`
-- that chooses, or of the rule's end.
pub data ChoosesByLastLine (a : Attributes) (s : AppShape)
    : (old : List ℕ) → List Statement → (report : List (List ℕ)) → (choice : ℕ) → (new : List ℕ)
    → Type 0 where
  -- the rule's end chooses nothing
  by_its_end : (old : List ℕ) → ChoosesByLastLine a s old [] (otherwise_line ∷ []) 0 old
  -- a `when` that holds chooses its release, and the statements after it aren't evaluated
  by_this_when : (old : List ℕ) (steps : List Step) (release : ℕ) (rest : List Statement)
      → (read_steps a s old steps).holds ≡ true
      → ChoosesByLastLine a s old (When steps release ∷ rest)
      (when_line steps (read_steps a s old steps).text ∷ []) release
      (read_steps a s old steps).counters
  -- after a `when` that doesn't hold the rest chooses
  after_when : (old : List ℕ) (steps : List Step) (release : ℕ) (rest : List Statement)
      (report : List (List ℕ)) (choice : ℕ) (new : List ℕ)
      → (read_steps a s old steps).holds ≡ false
      → ChoosesByLastLine a s (read_steps a s old steps).counters rest report choice new
      → ChoosesByLastLine a s old (When steps release ∷ rest)
      (when_line steps (read_steps a s old steps).text ∷ report) choice new
  -- a count has no line
  after_count : (old name : List ℕ) (index : ℕ) (rest : List Statement)
      (report : List (List ℕ)) (choice : ℕ) (new : List ℕ)
      → ChoosesByLastLine a s (counted s old name index) rest report choice new
      → ChoosesByLastLine a s old (Count name index ∷ rest) report choice new

-- the report on a `when`: its line is appended to a text, with whether it holds, and the counters'
-- new values
pub record ExplainsWhen (a : Attributes) (s : AppShape) (steps : List Step) (old : List ℕ)
    (before after : List ℕ) (holds : Bool) (new : List ℕ) : Type 0 where
  pub text_is : after ≡ before ++ ended (when_line steps (read_steps a s old steps).text)
  pub holds_is : holds ≡ (read_steps a s old steps).holds
  pub counters_are : new ≡ (read_steps a s old steps).counters

-- the report on a rule: its lines are appended to a text, and the choice and the counters are those
-- that the rule means
pub record ExplainsRule (a : Attributes) (s : AppShape) (rule : List Statement) (old : List ℕ)
    (before after : List ℕ) (choice : ℕ) (new : List ℕ) : Type 0 where
  pub text_is : after ≡ before ++ rule_text a s old rule
  pub meant : IsMeant a s rule old choice new

-- ---- laws

-- each reported truth is that of its test: for any continuations, on counters with these values the
-- test continues by the reported truth
abbrev pub TruthsSound : Type 0
TruthsSound = (a : Attributes) (s : AppShape) (counters : List ℕ) (t : Test)
    (met unmet : Behaviour) → ending_on counters (test_then a s t met unmet)
    ≡ ending_on (left_at counters (cell_used s t))
    (if holds_on a s counters t then met else unmet)

-- so a condition continues by its reported truth
abbrev pub ConditionsSound : Type 0
ConditionsSound = (a : Attributes) (s : AppShape) (counters : List ℕ) (c : Tree)
    (met unmet : Behaviour) → (let r = read_tree a s counters c in
    ending_on counters (decide a s c met unmet)
    ≡ ending_on r.counters (if r.holds then met else unmet))

-- so a `when` that is reported to hold ends the rule with its release, and otherwise the rest of
-- the rule chooses
abbrev pub WhensDecide : Type 0
WhensDecide = (a : Attributes) (s : AppShape) (counters : List ℕ) (steps : List Step)
    (release : ℕ) (rest : List Statement) → (let r = read_steps a s counters steps in
    ending_on counters (behaviour a s (When steps release ∷ rest))
    ≡ (if r.holds then ending release r.counters else ending_on r.counters (behaviour a s rest)))

-- evaluating a rule on counters gives what it means
abbrev pub EndingsAreMeant : Type 0
EndingsAreMeant = (a : Attributes) (s : AppShape) (rule : List Statement) (counters : List ℕ)
    → AreCells counters → (let e = ending_on counters (behaviour a s rule) in
    IsMeant a s rule counters e.choice e.counters)

-- so whatever a rule means on counters, it chooses by the last reported line
abbrev pub LastLineChooses : Type 0
LastLineChooses = (a : Attributes) (s : AppShape) (rule : List Statement) (old : List ℕ)
    (choice : ℕ) (new : List ℕ) → IsMeant a s rule old choice new
    → ChoosesByLastLine a s old rule (rule_lines a s old rule) choice new
