-- Reading a rule's tokens phrase by phrase: the effect of each phrase on the draft, and the tokens
-- that are accepted.
use Rattle.std.specs.Prelude.{◌≡◌, ℕ, List, [], ◌∷◌, ◌++◌, Option, Some, None, Ok, Err}
use Rattle.std.specs.Prelude.{Bool, true, false, not, nat_lt}
use Rattle.cells.specs.Arrays.{AppShape}
use Rattle.rule_lang.specs.declared.condition.Step.TheVariants as step
use Rattle.rule_lang.specs.declared.draft.Mode.{Mode}
use Rattle.rule_lang.specs.declared.draft.Mode.TheVariants as mode
use Rattle.rule_lang.specs.declared.rule_fault.RuleFault.{RuleFault}
use Rattle.rule_lang.specs.declared.keyword.Keyword.TheVariants as keyword
use Rattle.rule_lang.specs.declared.rule.Statement.{Statement}
use Rattle.rule_lang.specs.declared.rule.Statement.TheVariants.{When}
use Rattle.rule_lang.specs.declared.test.Test.{Test}
use Rattle.rule_lang.specs.declared.test_table.TestKind.{TestKind}
use Rattle.rule_lang.specs.declared.token.Token.TheVariants as token
use Rattle.rule_lang.specs.Reader.Drafts.{Pending, begin, denied, opened, tested, joined, parted}
use Rattle.rule_lang.specs.Reader.Drafts.{closed, term_done, is_empty}
use Rattle.rule_lang.specs.Lexed.{Placed}
use Rattle.rule_lang.specs.Parts.{OrFault, ◌>>?◌, part, release, out_of_range}
use Rattle.rule_lang.specs.Phrases.{tokens_after, misplaced, count_phrase, offer_phrase}
use Rattle.rule_lang.specs.Phrases.{otherwise_phrase}
use Rattle.rule_lang.specs.Values.{count_of}
use Rattle.rule_lang.specs.Tests.{row, test_phrase, kind_of}
use Rattle.rule_lang.specs.Tokens.{Token}

-- the rule so far, and the first L3 or L4
pub record Draft : Type 0 where
  pub mode : Mode
  pub statements : List Statement
  pub condition : Pending
  pub noted : Option RuleFault

abbrev pub first_draft : Draft
first_draft = record { mode = mode.Statement; statements = []; condition = begin; noted = None }

abbrev pub first_of : Option RuleFault → RuleFault → Option RuleFault
first_of (Some e) later = Some e
first_of None later = Some later

-- ---- changes

abbrev pub with_fault : RuleFault → Draft → Draft
with_fault e d = record {
  mode = d.mode;
  statements = d.statements;
  condition = d.condition;
  noted = first_of d.noted e;
}

abbrev pub with_fault_if : Bool → RuleFault → Draft → Draft
with_fault_if true e d = with_fault e d
with_fault_if false e d = d

abbrev pub in_mode : Mode → Draft → Draft
in_mode m d = record {
  mode = m;
  statements = d.statements;
  condition = d.condition;
  noted = d.noted;
}

abbrev pub with_condition : Pending → Draft → Draft
with_condition p d = record {
  mode = d.mode;
  statements = d.statements;
  condition = p;
  noted = d.noted;
}

abbrev pub with_statement : Statement → Draft → Draft
with_statement s d = record {
  mode = d.mode;
  statements = d.statements ++ (s ∷ []);
  condition = d.condition;
  noted = d.noted;
}

abbrev pub emptied : Pending → Pending
emptied p = record { steps = []; below = p.below; top = p.top; depth = p.depth }

abbrev pub unless_noted : Option RuleFault → Statement → Draft → Draft
unless_noted None s d = with_statement s d
unless_noted (Some e) s d = d

-- the condition ends and becomes a statement, unless a fault is noted; its steps are removed
abbrev pub with_when : (release : ℕ) → Draft → Draft
with_when k d = unless_noted d.noted (When d.condition.steps k) (with_condition (emptied
    d.condition) d)

-- ---- statements

abbrev pub Next : Type 0
Next = OrFault (Draft × List Placed)

abbrev pub counted : OrFault Statement → Draft → Draft
counted (Ok statement) d = with_statement statement d
counted (Err e) d = with_fault e d

abbrev pub statement_next : AppShape → Draft → Token → (line : ℕ) → (ts after : List Placed)
    → Next
statement_next s d (token.Keyword keyword.Count) line ts after =
    tokens_after count_phrase ts >>? λ rest. Ok (counted (count_of s ts) d, rest)
statement_next s d (token.Keyword keyword.When) line ts after =
    Ok (in_mode mode.Fact (with_condition begin d), after)
statement_next s d (token.Keyword keyword.Otherwise) line ts after =
    tokens_after otherwise_phrase ts >>? λ rest. Ok (in_mode mode.Done d, rest)
statement_next s d t line ts after = Err (misplaced line)

-- ---- conditions

-- the 33rd open `not` or parenthesis is too deep
abbrev pub too_deep : Draft → Bool
too_deep d = not (nat_lt d.condition.depth 32)

abbrev pub with_test : (line : ℕ) → OrFault Test → Draft → Draft
with_test line (Ok t) d = with_condition (tested (step.Test line t) d.condition) d
with_test line (Err e) d = with_fault e d

abbrev pub test_next : AppShape → Draft → (line : ℕ) → Option TestKind → List Placed → Next
test_next s d line None ts = Err (misplaced line)
test_next s d line (Some k) ts =
    tokens_after (test_phrase k) ts >>? λ rest.
    Ok (in_mode mode.Operator (with_test line ((row k).spelled s ts) d), rest)

abbrev pub fact_next : AppShape → Draft → Token → Placed → (ts after : List Placed) → Next
fact_next s d (token.Keyword keyword.Not) p ts after =
    let noted = with_fault_if (too_deep d) (out_of_range p) d in
    Ok (with_condition (denied noted.condition) noted, after)
fact_next s d token.Open p ts after =
    let noted = with_fault_if (too_deep d) (out_of_range p) d in
    Ok (with_condition (opened noted.condition) noted, after)
fact_next s d t p ts after = test_next s d p.line (kind_of t) ts

abbrev pub closed_next : Option Pending → Draft → (line : ℕ) → List Placed → Next
closed_next None d line after = Err (misplaced line)
closed_next (Some p) d line after = Ok (with_condition p d, after)

abbrev pub offered : OrFault ℕ → Draft → Draft
offered (Ok k) d = with_when k d
offered (Err e) d = with_fault e d

abbrev pub offer_next : AppShape → Draft → Bool → (line : ℕ) → List Placed → Next
offer_next s d false line ts = Err (misplaced line)
offer_next s d true line ts =
    tokens_after offer_phrase ts >>? λ rest.
    Ok (
      in_mode mode.Statement (offered (release s (part ts 1)) (with_condition (term_done
          d.condition) d)),
      rest,
    )

abbrev pub operator_next : AppShape → Draft → Token → (line : ℕ) → (ts after : List Placed) → Next
operator_next s d (token.Keyword keyword.And) line ts after =
    Ok (in_mode mode.Fact (with_condition (joined d.condition) d), after)
operator_next s d (token.Keyword keyword.Or) line ts after =
    Ok (in_mode mode.Fact (with_condition (parted d.condition) d), after)
operator_next s d token.Close line ts after = closed_next (closed d.condition) d line after
operator_next s d (token.Keyword keyword.Offer) line ts after =
    offer_next s d (is_empty d.condition.below) line ts
operator_next s d t line ts after = Err (misplaced line)

-- ---- the whole

abbrev pub next_in : AppShape → Draft → Mode → Placed → (ts after : List Placed) → Next
next_in s d mode.Statement p ts after = statement_next s d p.token p.line ts after
next_in s d mode.Fact p ts after = fact_next s d p.token p ts after
next_in s d mode.Operator p ts after = operator_next s d p.token p.line ts after
next_in s d mode.Done p ts after = Err (misplaced p.line)

-- the draft after the phrase at the front, and the tokens after that phrase
unfoldable pub next : AppShape → Draft → List Placed → Next
next s d [] = Err (misplaced 0)
next s d (p ∷ after) = next_in s d d.mode p (p ∷ after) after

abbrev pub is_done : Mode → Bool
is_done mode.Done = true
is_done m = false

abbrev pub verdict : Draft → Option RuleFault → OrFault (List Statement)
verdict d None = Ok d.statements
verdict d (Some e) = Err e

-- from this draft, the tokens lead to this verdict
pub data Reads (s : AppShape) : Draft → List Placed → OrFault (List Statement) → Type 0 where
  ended : {d : Draft} {ts : List Placed} → d.mode ≡ mode.Done → Reads s d ts (verdict d d.noted)
  refused : {d : Draft} {ts : List Placed} {e : RuleFault} → is_done d.mode ≡ false
      → next s d ts ≡ Err e → Reads s d ts (Err e)
  goes_on : {d e : Draft} {ts rest : List Placed} {v : OrFault (List Statement)}
      → is_done d.mode ≡ false → next s d ts ≡ Ok (e, rest) → Reads s e rest v → Reads s d ts v
