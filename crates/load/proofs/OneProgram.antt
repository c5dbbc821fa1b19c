-- The bytes of an app's file give one program for a shape, or have one fault.
use Rattle.std.proofs.Common.{◌≡◌, ◌≢◌, ℕ, ◌≤◌, List, length, Result, Ok, Err}
use Rattle.std.proofs.Common.{refl, sym, ◌∙◌, ap, subst, arith}
use Rattle.acceptance.specs.Program.{IsProgramOf, IsRefusedProgram}
use Rattle.acceptance.specs.Rule.{IsTextOf, IsRuleTextFault, IsTooLong, no_text, no_rule}
use Rattle.bpf_insn.specs.Program.{Program}
use Rattle.bpf_semantics.specs.Program.{shaped}
use Rattle.bpf_verify.specs.Accepted as verify
use Rattle.bpf_verify.specs.Accepted.{IsRefusedAt}
use Rattle.bpf_checks.specs.declared.refusal.Refusal.TheVariants as refusal
use Rattle.bpf_checks.specs.declared.refusal.VerifierRule.{VerifierRule}
use Rattle.acceptance.specs.declared.program_fault.ProgramFault.TheVariants.{Flow, Verify}
use Rattle.acceptance.specs.declared.program_fault.RuleTextFault.TheVariants.{Text, Compile}
use Rattle.cells.specs.Arrays.{AppShape}
use Rattle.flow_check.specs.Fault.{HasOneVerdict, IsFlowFault}
use Rattle.flow_check.specs.declared.flow_fault.FlowFault.TheVariants as flow
use Rattle.flow_check.specs.declared.flow_fault.FlowRule.{FlowRule}
use Rattle.rule_compile.specs.Code.{rule_code}
use Rattle.rule_compile.specs.declared.compile_fault.CompileFault.TheVariants as compile
use Rattle.rule_lang.specs.Parts.{OrFault}
use Rattle.rule_lang.specs.Verdicts as rules
use Rattle.rule_lang.specs.declared.rule_fault.RuleFault.TheVariants as rule
use Rattle.rule_lang.specs.declared.rule_fault.RuleFault.TheVariants.{At}
use Rattle.rule_lang.specs.declared.rule_fault.RuleFaultKind.{RuleFaultKind}
use Rattle.rule_lang.specs.declared.rule_fault.RuleFaultKind.TheVariants.{Token}
use Rattle.rule_lang.specs.declared.rule.Statement.{Statement}
use Rattle.manifest.specs.declared.app.ProgramSource.{ProgramSource}
use Rattle.manifest.specs.declared.app.ProgramSource.TheVariants as source
use Rattle.load.specs.declared.load_fault.AppFault.{AppFault}
use Rattle.load.specs.declared.load_fault.AppFault.TheVariants as app
use Rattle.load.specs.Source.{IsProgramFrom, RefusesFile}

-- the outcome of a file's bytes for a shape
abbrev pub ComesTo : ProgramSource → List ℕ → AppShape → Result Program AppFault → Type 0
ComesTo from bytes shape (Ok code) = IsProgramFrom from bytes (shaped code shape)
ComesTo from bytes shape (Err fault) = RefusesFile from bytes shape fault

-- ---- bytes of a program

data Read (bytes : List ℕ) (shape : AppShape) : Result Program AppFault → Type 0 where
  accepted : (code : Program) → IsProgramOf bytes (shaped code shape) → Read bytes shape (Ok code)
  no_flow : (slot : ℕ) (rule : FlowRule) → IsFlowFault bytes (flow.Rule slot rule)
      → HasOneVerdict bytes → Read bytes shape (Err (app.Program (Flow (flow.Rule slot rule))))
  refused : (slot : ℕ) (rule : VerifierRule) → IsRefusedProgram bytes shape (refusal.Rule slot rule)
      → Read bytes shape (Err (app.Program (Verify (refusal.Rule slot rule))))

read : (bytes : List ℕ) (shape : AppShape) (file : List ℕ) (r : Result Program AppFault)
    → ComesTo (source.Program file) bytes shape r → r ≢ Err app.Memory → Read bytes shape r
read bytes shape file (Ok code) h known = accepted code h
read bytes shape file (Err (app.Program (Flow (flow.Rule slot rule)))) h known =
    no_flow slot rule h.0.0 h.0.1
read bytes shape file (Err (app.Program (Flow flow.Memory))) h known = absurd cc
read bytes shape file (Err (app.Program (Verify (refusal.Rule slot rule)))) h known =
    refused slot rule h.0
read bytes shape file (Err (app.Program (Verify refusal.Memory))) h known = absurd cc
read bytes shape file (Err app.Memory) h known = absurd (known refl)
read bytes shape file (Err app.File) h known = absurd h
read bytes shape file (Err (app.Rule fault)) h known = absurd h

module _ (judged : (p : Program) (shape : AppShape) → verify.ProgramHasOneVerdict p shape) where
  not_refused : (bytes : List ℕ) (shape : AppShape) (p : Program) (slot : ℕ) (rule : VerifierRule)
      → IsProgramOf bytes (shaped p shape)
      → IsRefusedProgram bytes shape (refusal.Rule slot rule) → ⊥
  not_refused bytes shape p slot rule h k =
      (judged k.code shape).either slot rule
      (subst (λ (x : Program). verify.IsAccepted x shape) (k.are.only p h.are.bytes_are)
      h.accepted) k.refused

  same_read : (bytes : List ℕ) (shape : AppShape) {r s : Result Program AppFault}
      → Read bytes shape r → Read bytes shape s → r ≡ s
  same_read bytes shape (accepted p h) (accepted q k) =
      ap (λ x. Ok x) (sym (h.are.only q k.are.bytes_are))
  same_read bytes shape (accepted p h) (no_flow t rule k one) =
      absurd (one.either p t rule h.are.bytes_are k)
  same_read bytes shape (accepted p h) (refused t rule k) =
      absurd (not_refused bytes shape p t rule h k)
  same_read bytes shape (no_flow s rule h one) (accepted q k) =
      absurd (one.either q s rule k.are.bytes_are h)
  same_read bytes shape (no_flow s rule h one) (no_flow t other k also) =
      let same = one.fault s t rule other h k in cc
  same_read bytes shape (no_flow s rule h one) (refused t other k) =
      absurd (one.either k.code s rule k.are.bytes_are h)
  same_read bytes shape (refused s rule h) (accepted q k) =
      absurd (not_refused bytes shape q s rule k h)
  same_read bytes shape (refused s rule h) (no_flow t other k one) =
      absurd (one.either h.code t other h.are.bytes_are k)
  same_read bytes shape (refused s rule h) (refused t other k) =
      let same = (judged k.code shape).refusal s t rule other
      (subst (λ (x : Program). IsRefusedAt (shaped x shape) s rule)
      (k.are.only h.code h.are.bytes_are) h.refused) k.refused in cc

-- ---- text of a rule

data Spelled (bytes : List ℕ) (shape : AppShape) : Result Program AppFault → Type 0 where
  compiled : (code : Program) (rule : List Statement) → IsTextOf bytes shape rule
      → code ≡ rule_code shape rule → length code ≤ 4096 → Spelled bytes shape (Ok code)
  no_rules : (line : ℕ) (kind : RuleFaultKind) → IsRuleTextFault bytes shape line kind
      → Spelled bytes shape (Err (app.Rule (Text (At line kind))))
  too_long : IsTooLong bytes shape
      → Spelled bytes shape (Err (app.Rule (Compile compile.TooLong)))

spelled : (bytes : List ℕ) (shape : AppShape) (file : List ℕ) (r : Result Program AppFault)
    → ComesTo (source.Rule file) bytes shape r → r ≢ Err app.Memory → Spelled bytes shape r
spelled bytes shape file (Ok code) h known = compiled code h.rule h.text h.code h.flow.short
spelled bytes shape file (Err (app.Rule (Text (At line kind)))) h known = no_rules line kind h.0
spelled bytes shape file (Err (app.Rule (Text rule.Memory))) h known = absurd cc
spelled bytes shape file (Err (app.Rule (Compile compile.TooLong))) h known = too_long h.0
spelled bytes shape file (Err (app.Rule (Compile compile.Memory))) h known = absurd cc
spelled bytes shape file (Err app.Memory) h known = absurd (known refl)
spelled bytes shape file (Err app.File) h known = absurd h
spelled bytes shape file (Err (app.Program fault)) h known = absurd h

-- the parts of a verdict
abbrev rule_in : OrFault (List Statement) → List Statement → List Statement
rule_in (Ok rule) other = rule
rule_in (Err fault) other = other

abbrev line_in : OrFault (List Statement) → ℕ
line_in (Err (At line kind)) = line
line_in verdict = 0

abbrev kind_in : OrFault (List Statement) → RuleFaultKind
kind_in (Err (At line kind)) = kind
kind_in verdict = Token

module _ (told : (shape : AppShape) (text : List ℕ) → rules.RuleHasOneVerdict shape text) where
  same_rule : (bytes : List ℕ) (shape : AppShape) (rule other : List Statement)
      → IsTextOf bytes shape rule → IsTextOf bytes shape other → rule ≡ other
  same_rule bytes shape rule other h k =
      ap (λ (v : OrFault (List Statement)). rule_in v other)
      (told shape bytes (Ok rule) (Ok other) h.spelled k.spelled)

  no_rule_fault : (bytes : List ℕ) (shape : AppShape) (rule : List Statement) {line : ℕ}
      {kind : RuleFaultKind} → IsTextOf bytes shape rule → IsRuleTextFault bytes shape line kind
      → ⊥
  no_rule_fault bytes shape rule h (no_text none) = none h.utf8
  no_rule_fault bytes shape rule h (no_rule {line = line} {kind = kind} utf8 verdict) =
      let same = told shape bytes (Ok rule) (Err (At line kind)) h.spelled verdict in absurd cc

  same_text_fault : (bytes : List ℕ) (shape : AppShape) {line number : ℕ}
      {kind other : RuleFaultKind} → IsRuleTextFault bytes shape line kind
      → IsRuleTextFault bytes shape number other → (line ≡ number) × (kind ≡ other)
  same_text_fault bytes shape (no_text none) (no_text again) = (refl, refl)
  same_text_fault bytes shape (no_text none) (no_rule utf8 verdict) = absurd (none utf8)
  same_text_fault bytes shape (no_rule utf8 verdict) (no_text none) = absurd (none utf8)
  same_text_fault bytes shape (no_rule {line = line} {kind = kind} utf8 verdict)
      (no_rule {line = number} {kind = other} also again) =
      let same = told shape bytes (Err (At line kind)) (Err (At number other)) verdict again in
      (ap line_in same, ap kind_in same)

  not_long : (bytes : List ℕ) (shape : AppShape) (code : Program) (rule : List Statement)
      → IsTextOf bytes shape rule → code ≡ rule_code shape rule → length code ≤ 4096
      → IsTooLong bytes shape → ⊥
  not_long bytes shape code rule h is short long =
      let same = same_rule bytes shape rule long.rule h long.text in
      let size : length code ≡ length (rule_code shape long.rule) =
      ap length is ∙ ap (λ (r : List Statement). length (rule_code shape r)) same in
      omega (arith, size, short, long.slots)

  same_spelled : (bytes : List ℕ) (shape : AppShape) {r s : Result Program AppFault}
      → Spelled bytes shape r → Spelled bytes shape s → r ≡ s
  same_spelled bytes shape (compiled p rule h is short) (compiled q other k are also) =
      let same = same_rule bytes shape rule other h k in
      ap (λ x. Ok x) (is ∙ ap (λ (r : List Statement). rule_code shape r) same ∙ sym are)
  same_spelled bytes shape (compiled p rule h is short) (no_rules line kind k) =
      absurd (no_rule_fault bytes shape rule h k)
  same_spelled bytes shape (compiled p rule h is short) (too_long k) =
      absurd (not_long bytes shape p rule h is short k)
  same_spelled bytes shape (no_rules line kind h) (compiled q other k are also) =
      absurd (no_rule_fault bytes shape other k h)
  same_spelled bytes shape (no_rules line kind h) (no_rules number other k) =
      let same = same_text_fault bytes shape h k in cc
  same_spelled bytes shape (no_rules line kind h) (too_long k) =
      absurd (no_rule_fault bytes shape k.rule k.text h)
  same_spelled bytes shape (too_long h) (compiled q other k are also) =
      absurd (not_long bytes shape q other k are also h)
  same_spelled bytes shape (too_long h) (no_rules number other k) =
      absurd (no_rule_fault bytes shape h.rule h.text k)
  same_spelled bytes shape (too_long h) (too_long k) = refl

-- ---- either source

module _ (judged : (p : Program) (shape : AppShape) → verify.ProgramHasOneVerdict p shape)
    (told : (shape : AppShape) (text : List ℕ) → rules.RuleHasOneVerdict shape text) where
  pub same_program : (from : ProgramSource) (bytes : List ℕ) (shape : AppShape)
      (r s : Result Program AppFault) → ComesTo from bytes shape r
      → ComesTo from bytes shape s → r ≢ Err app.Memory → s ≢ Err app.Memory → r ≡ s
  same_program (source.Program file) bytes shape r s h k known also =
      same_read judged bytes shape (read bytes shape file r h known)
      (read bytes shape file s k also)
  same_program (source.Rule file) bytes shape r s h k known also =
      same_spelled told bytes shape (spelled bytes shape file r h known)
      (spelled bytes shape file s k also)
