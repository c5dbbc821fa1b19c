-- The program of the rule that bytes spell, and why they have none.
use Rattle.std.specs.Prelude.{◌≡◌, ◌<◌, ℕ, List, length, Ok, Err, IsUtf8, Bool, true, false}
use Rattle.attrs.specs.Attributes.{Attributes}
use Rattle.bpf_semantics.specs.Program.{ShapedProgram}
use Rattle.bpf_verify.specs.Accepted.{IsAccepted}
use Rattle.cells.specs.Arrays.{AppShape}
use Rattle.flow_check.specs.Flow.{IsFlow}
use Rattle.rule_compile.specs.Code.{rule_code}
use Rattle.rule_compile.specs.Means.{Means}
use Rattle.rule_compile.specs.declared.compile_fault.CompileFault.TheVariants as compile
use Rattle.rule_lang.specs.declared.rule_fault.RuleFault.TheVariants as rule
use Rattle.rule_lang.specs.declared.rule_fault.RuleFaultKind.{RuleFaultKind}
use Rattle.rule_lang.specs.declared.rule_fault.RuleFaultKind.TheVariants.{Token}
use Rattle.rule_lang.specs.declared.rule.Statement.{Statement}
use Rattle.rule_lang.specs.Cost.{cost}
use Rattle.rule_lang.specs.Verdicts.{IsVerdict}
use Rattle.acceptance.specs.declared.rule.RuleProgram.{RuleProgram}
use Rattle.acceptance.specs.declared.program_fault.RuleTextFault.{RuleTextFault}
use Rattle.acceptance.specs.declared.program_fault.RuleTextFault.TheVariants.{Text, Compile}

-- the bytes spell the rule, which fits the shape
pub record IsTextOf (bytes : List ℕ) (shape : AppShape) (rule : List Statement) : Type 0 where
  pub utf8 : IsUtf8 bytes
  pub spelled : IsVerdict shape bytes (Ok rule)

-- the program is the rule's code, has the meaning of the rule that the bytes spell, and is accepted
-- under its shape
pub record IsProgramOfRule (bytes : List ℕ) (program : ShapedProgram) : Type 0 where
  pub rule : List Statement
  pub text : IsTextOf bytes program.shape rule
  pub code : program.code ≡ rule_code program.shape rule
  pub means : (a : Attributes) → Means a rule program
  pub flow : IsFlow program.code
  pub accepted : IsAccepted program.code program.shape

-- the program is that of the rule that the bytes spell, and this is the rule
pub record IsRuleProgram (bytes : List ℕ) (made : RuleProgram) : Type 0 where
  pub program_is : IsProgramOfRule bytes made.program
  pub rule_is : made.rule ≡ program_is.rule

-- the bytes spell a rule of the shape whose code exceeds 4096 slots, and so does its cost
pub record IsTooLong (bytes : List ℕ) (shape : AppShape) : Type 0 where
  pub rule : List Statement
  pub text : IsTextOf bytes shape rule
  pub slots : 4096 < length (rule_code shape rule)
  pub cost_is : 4096 < cost rule

-- the fault of a text; bytes that aren't UTF-8 have no token in line 1
pub data IsRuleTextFault (bytes : List ℕ) (shape : AppShape) : ℕ → RuleFaultKind → Type 0 where
  no_text : ¬ IsUtf8 bytes → IsRuleTextFault bytes shape 1 Token
  no_rule : {line : ℕ} {kind : RuleFaultKind} → IsUtf8 bytes
      → IsVerdict shape bytes (Err (rule.At line kind)) → IsRuleTextFault bytes shape line kind

-- why the bytes aren't a rule of the shape, or one without a program; about L5 only that the bytes
-- are UTF-8, and about C2 nothing is claimed
abbrev pub RefusesRule : List ℕ → AppShape → RuleTextFault → Type 0
RefusesRule bytes shape (Text (rule.At line kind)) = IsRuleTextFault bytes shape line kind
RefusesRule bytes shape (Text rule.Memory) = IsUtf8 bytes
RefusesRule bytes shape (Compile compile.TooLong) = IsTooLong bytes shape
RefusesRule bytes shape (Compile compile.Memory) = Unit {0}

abbrev pub is_memory : RuleTextFault → Bool
is_memory (Text rule.Memory) = true
is_memory (Compile compile.Memory) = true
is_memory fault = false
