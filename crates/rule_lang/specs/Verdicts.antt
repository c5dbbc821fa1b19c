-- The verdict on a text: the rule that its tokens spell, or the fault that counts. A text over
-- 65536 bytes is L4 at line 1 before anything else. Next are the first place without a token (L1),
-- and the first token with which no rule continues (L2). Last is the first unknown name (L3) or
-- number out of range (L4).
use Rattle.std.specs.Prelude.{◌≡◌, ◌⊎◌, ◌<◌, ◌≤◌, List, [], ◌∷◌, ◌++◌, length, Ok, Err}
use Rattle.cells.specs.Arrays.{AppShape}
use Rattle.rule_lang.specs.declared.rule_fault.RuleFault.{RuleFault}
use Rattle.rule_lang.specs.declared.rule_fault.RuleFault.TheVariants.{At, Memory}
use Rattle.rule_lang.specs.declared.rule_fault.RuleFaultKind.TheVariants.{Range}
use Rattle.rule_lang.specs.declared.rule.Statement.{Statement}
use Rattle.rule_lang.specs.Grammar.{IsRule, Begins}
use Rattle.rule_lang.specs.Lexed.{Placed, tokens_in}
use Rattle.rule_lang.specs.Parts.{OrFault}
use Rattle.rule_lang.specs.Phrases.{misplaced}
use Rattle.rule_lang.specs.Values.{rule_value}
use Rattle.rule_lang.specs.Tokens.{Text}

-- the rule that a text spells, or the fault that counts
pub data IsVerdict (s : AppShape) (text : Text) : OrFault (List Statement) → Type 0 where
  too_long : 65536 < length text → IsVerdict s text (Err (At 1 Range))
  no_token : {e : RuleFault} → length text ≤ 65536 → tokens_in text ≡ Err e
      → IsVerdict s text (Err e)
  -- the tokens before p begin some rule, and those up to p don't
  no_rule : (before after : List Placed) (p : Placed) → length text ≤ 65536
      → tokens_in text ≡ Ok (before ++ (p ∷ after)) → Begins before
      → (Begins (before ++ (p ∷ [])) → ⊥) → IsVerdict s text (Err (misplaced p.line))
  a_rule : {ts : List Placed} → length text ≤ 65536 → tokens_in text ≡ Ok ts → (r : IsRule ts)
      → IsVerdict s text (rule_value s r)

-- the fault that counts, or a failed allocation
abbrev pub IsRuleFault : AppShape → Text → RuleFault → Type 0
IsRuleFault s text e = (e ≡ Memory) ⊎ IsVerdict s text (Err e)

-- each text has a verdict
abbrev pub HasVerdict : AppShape → Text → Type 0
HasVerdict s text = (v : OrFault (List Statement)) × IsVerdict s text v

-- no text has two verdicts
abbrev pub RuleHasOneVerdict : AppShape → Text → Type 0
RuleHasOneVerdict s text = (v w : OrFault (List Statement)) → IsVerdict s text v
    → IsVerdict s text w
    → v ≡ w
