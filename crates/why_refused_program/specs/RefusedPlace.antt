-- Where and why a program is refused.
use Rattle.std.specs.Prelude.{◌≡◌, ℕ, List, ◌++◌, codes}
use Rattle.std.specs.Fmt.{decimal}
use Rattle.bpf_checks.specs.declared.refusal.VerifierRule.{VerifierRule}
use Rattle.bpf_checks.specs.declared.refusal.VerifierRule.TheVariants as rule
use Rattle.bpf_semantics.specs.Program.{ShapedProgram}
use Rattle.bpf_verify.specs.Accepted.{IsRefusedAt}

-- the number of a rule, `V1` to `V14`
abbrev pub verifier_rule_number : VerifierRule → ℕ
verifier_rule_number rule.Unusable = 1
verifier_rule_number rule.WritesFrame = 2
verifier_rule_number rule.PointerArithmetic = 3
verifier_rule_number rule.OffsetRange = 4
verifier_rule_number rule.PointerCompare = 5
verifier_rule_number rule.Access = 6
verifier_rule_number rule.StoresPointer = 7
verifier_rule_number rule.WritesContext = 8
verifier_rule_number rule.NotAddress = 9
verifier_rule_number rule.Helper = 10
verifier_rule_number rule.MapIndex = 11
verifier_rule_number rule.Kind = 12
verifier_rule_number rule.Result = 13
verifier_rule_number rule.QuotaCell = 14

-- a rule, and why it refuses, in words
abbrev pub cited_rule : VerifierRule → (why : List ℕ) → List ℕ
cited_rule r why = codes "V" ++ decimal (verifier_rule_number r) ++ codes ": " ++ why

-- a text cites the rule
pub record CitesRule (r : VerifierRule) (text : List ℕ) : Type 0 where
  pub why : List ℕ
  pub text_is : text ≡ cited_rule r why

-- the rule that refuses the program at a slot is cited
pub record IsRefusedPlace (p : ShapedProgram) (slot : ℕ) (text : List ℕ) : Type 0 where
  pub rule : VerifierRule
  pub refused : IsRefusedAt p slot rule
  pub cited : CitesRule rule text
