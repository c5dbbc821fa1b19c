-- The texts of the verifier's refusals, as they are printed.
use Rattle.std.specs.Prelude.{ℕ, List, ◌++◌, codes, decimal}
use Rattle.bpf_checks.specs.declared.refusal.Refusal.{Refusal}
use Rattle.bpf_checks.specs.declared.refusal.Refusal.TheVariants as verify
use Rattle.bpf_checks.specs.declared.refusal.VerifierRule.{VerifierRule}
use Rattle.bpf_checks.specs.declared.refusal.VerifierRule.TheVariants as verifier

abbrev pub verifier_rule_text : VerifierRule → List ℕ
verifier_rule_text verifier.Unusable = codes "V1 Unusable"
verifier_rule_text verifier.WritesFrame = codes "V2 WritesFrame"
verifier_rule_text verifier.PointerArithmetic = codes "V3 PointerArithmetic"
verifier_rule_text verifier.OffsetRange = codes "V4 OffsetRange"
verifier_rule_text verifier.PointerCompare = codes "V5 PointerCompare"
verifier_rule_text verifier.Access = codes "V6 Access"
verifier_rule_text verifier.StoresPointer = codes "V7 StoresPointer"
verifier_rule_text verifier.WritesContext = codes "V8 WritesContext"
verifier_rule_text verifier.NotAddress = codes "V9 NotAddress"
verifier_rule_text verifier.Helper = codes "V10 Helper"
verifier_rule_text verifier.MapIndex = codes "V11 MapIndex"
verifier_rule_text verifier.Kind = codes "V12 Kind"
verifier_rule_text verifier.Result = codes "V13 Result"
verifier_rule_text verifier.QuotaCell = codes "V14 QuotaCell"

abbrev pub verifier_refusal_text : Refusal → List ℕ
verifier_refusal_text (verify.Rule slot rule) =
    verifier_rule_text rule ++ codes " at slot " ++ decimal slot
verifier_refusal_text verify.Memory = codes "V15 Memory"
