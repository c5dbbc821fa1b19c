-- The text `otherwise none;` is accepted under each shape, and its program chooses none.
use Rattle.std.proofs.Common.{◌≡◌, ℕ, ◌<◌, List, [], ◌∷◌, Ok, Err, IsUtf8, refl, sym}
use Rattle.std.proofs.Common.{ap, subst, arith, ◌∙◌}
use lib.Utf8.{encode}
use Rattle.acceptance.specs.Rule.{IsProgramOfRule, no_rule, no_text}
use Rattle.acceptance.specs.declared.program_fault.RuleTextFault.TheVariants.{Text, Compile}
use Rattle.bpf_insn.specs.Program.{Program}
use Rattle.bpf_semantics.specs.Program.{ShapedProgram}
use Rattle.bpf_semantics.specs.Run.{AlwaysEnds, last, more}
use Rattle.cells.specs.Arrays.{AppShape}
use Rattle.load.specs.Source.{RefusesText}
use Rattle.load.specs.declared.load_fault.AppFault.{AppFault}
use Rattle.load.specs.declared.load_fault.AppFault.TheVariants as app
use Rattle.manifest.specs.declared.app.ProgramSource.TheVariants as source
use Rattle.rule_compile.specs.Code.{rule_code}
use Rattle.rule_compile.specs.declared.compile_fault.CompileFault.TheVariants as compile
use Rattle.rule_lang.specs.Cost.{cost}
use Rattle.rule_lang.specs.Grammar.{otherwise}
use Rattle.rule_lang.specs.Lexed.{Placed, on, tokens_in}
use Rattle.rule_lang.specs.Tokens.{Text as Bytes}
use Rattle.rule_lang.specs.Verdicts.{IsVerdict, RuleHasOneVerdict, a_rule}
use Rattle.rule_lang.specs.Words.{keyword_named}
use Rattle.rule_lang.specs.declared.rule_fault.RuleFault.TheVariants as rule
use Rattle.rule_lang.specs.declared.keyword.Keyword.TheVariants as keyword
use Rattle.rule_lang.specs.declared.rule.Statement.{Statement}
use Rattle.rule_lang.specs.declared.token.Token.TheVariants as token
use Rattle.stage_rules.specs.Halts.{Halts, halted_rule}
use Rattle.stage_rules.proofs.Runs.{chooses_none}

-- ---- the text is the rule without a statement

abbrev none_tokens : List Placed
none_tokens =
    on 1 (token.Keyword keyword.Otherwise) ∷ on 1 (token.Keyword keyword.None)
    ∷ on 1 token.Semicolon ∷ on 2 token.End ∷ []

none_lexed : tokens_in halted_rule ≡ Ok none_tokens
unfolding keyword_named
none_lexed = refl

none_utf8 : IsUtf8 halted_rule
unfolding encode
none_utf8 = (halted_rule, (refl, refl))

none_verdict : (s : AppShape) → IsVerdict s halted_rule (Ok [])
none_verdict s = a_rule (omega arith) none_lexed (otherwise {rest = []} refl)

module _ (one : (s : AppShape) (text : Bytes) → RuleHasOneVerdict s text) where
  no_statement : (s : AppShape) (r : List Statement) → IsVerdict s halted_rule (Ok r) → r ≡ []
  no_statement s r is = let same = one s halted_rule (Ok r) (Ok []) is (none_verdict s) in cc

  -- ---- it is accepted

  accepted : (s : AppShape) (fault : AppFault) → RefusesText halted_rule s fault
      → fault ≡ app.Memory
  accepted s (app.Rule (Text (rule.At line kind))) (no_text other, memory) =
      absurd (other none_utf8)
  accepted s (app.Rule (Text (rule.At line kind))) (no_rule utf8 is, memory) =
      let same = one s halted_rule (Err (rule.At line kind)) (Ok []) is (none_verdict s) in
      absurd cc
  accepted s (app.Rule (Text rule.Memory)) (refused, memory) = absurd cc
  accepted s (app.Rule (Compile compile.TooLong)) (long, memory) =
      let none = no_statement s long.rule long.text.spelled in
      absurd (omega (arith, subst (λ (r : List Statement). 4096 < cost r) none long.cost_is))
  accepted s (app.Rule (Compile compile.Memory)) (refused, memory) = absurd cc
  accepted s app.Memory refused = refl
  accepted s fault refused = absurd refused

  -- ---- it chooses none

  none_ends : (s : AppShape) → AlwaysEnds (rule_code s []) 0 5
  none_ends s = λ a shape. more refl (more refl (more refl (more refl (last refl refl))))

  code_of : (p : ShapedProgram) → IsProgramOfRule halted_rule p → p.code ≡ rule_code p.shape []
  code_of p is =
      is.code ∙ ap (rule_code p.shape) (no_statement p.shape is.rule is.text.spelled)

  pub rule_halts : (file : List ℕ) → Halts (source.Rule file) halted_rule
  rule_halts file = record {
    accepted = accepted;
    none = λ p is. chooses_none p.code 5
        (subst (λ (code : Program). AlwaysEnds code 0 5) (sym (code_of p is)) (none_ends p.shape));
  }
