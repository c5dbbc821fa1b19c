-- The reader makes the test that its tokens spell.
use Rattle.std.proofs.Common.{◌≡◌, ℕ, List, ◌∷◌, Option, Some}
use Rattle.std.proofs.Common.{None}
use Rattle.std.proofs.Common.{Ok, Err, Bool, true, false, if◌then◌else◌, refl, ap, ◌∙◌}
use Rattle.cells.specs.Arrays.{AppShape}
use Rattle.rule_lang.specs.declared.draft.Mode.{Mode}
use Rattle.rule_lang.specs.declared.draft.Mode.TheVariants as mode
use Rattle.rule_lang.specs.declared.rule_fault.RuleFault.{RuleFault}
use Rattle.rule_lang.specs.declared.phrase.Want.{Want}
use Rattle.rule_lang.specs.declared.phrase.Want.TheVariants as want
use Rattle.rule_lang.specs.declared.rule.Statement.{Statement}
use Rattle.rule_lang.specs.declared.test.Test.{Test}
use Rattle.rule_lang.specs.declared.test_table.TestKind.{TestKind}
use Rattle.rule_lang.specs.declared.test_table.TestKind.TheVariants as the_kind
use Rattle.rule_lang.specs.declared.token.Token.TheVariants as token
use Rattle.rule_lang.specs.Grammar as g
use Rattle.rule_lang.specs.Lexed.{Placed}
use Rattle.rule_lang.specs.Parts.{OrFault, ◌>>?◌}
use Rattle.rule_lang.specs.Phrases.{Phrase, Needs, tokens_after, misplaced, takes}
use Rattle.rule_lang.specs.Reader.Reading.{Draft, first_of, with_fault_if, in_mode}
use Rattle.rule_lang.specs.Reader.Reading.{with_test, test_next, fact_next}
use Rattle.rule_lang.specs.Reader.Reading.{next_in, next, is_done, Reads, goes_on}
use Rattle.rule_lang.specs.Values as spelled
use Rattle.rule_lang.specs.Tests.{row, rest_phrase}
use Rattle.rule_lang.specs.Tokens.{Token}
use Rattle.rule_lang.specs.Trees.{Tree, Leaf}
use Rattle.rule_lang.proofs.Takes.{token_is}
use Rattle.rule_lang.proofs.Keeping.{no_ok}
use Rattle.rule_lang.proofs.Noted.{Adds, Noted}
use Rattle.rule_lang.proofs.Adds.{AddsFact}

-- ---- one phrase

pub going_on : (s : AppShape) (d : Draft) (m : Mode) (p : Placed) (after : List Placed)
    (q : Draft × List Placed) (w : OrFault (List Statement)) → d.mode ≡ m → is_done m ≡ false
    → next_in s d m p (p ∷ after) after ≡ Ok q → Reads s q.0 q.1 w → Reads s d (p ∷ after) w
unfolding next
going_on s d m p after q w is going h r =
    goes_on {e = q.0} {rest = q.1} (ap is_done is ∙ going) (ap (λ (k : Mode). next_in s d k p (p ∷
    after) after) is ∙ h) r

-- the draft after a part of a condition whose value is a tree or a fault
pub record Reached (s : AppShape) (d : Draft) (ts : List Placed) (v : OrFault Tree) (adds : Adds)
    (rest : List Placed) : Type 0 where
  pub last : Draft
  pub place : last.mode ≡ mode.Operator
  pub below : last.condition.below ≡ d.condition.below
  pub statements : last.statements ≡ d.statements
  pub noted : Noted d.noted v adds last
  pub back : (w : OrFault (List Statement)) → Reads s last rest w → Reads s d ts w

pub statements_noted : (b : Bool) (e : RuleFault) (d : Draft)
    → (with_fault_if b e d).statements ≡ d.statements
statements_noted true e d = refl
statements_noted false e d = refl

-- ---- tests

pub first_taken : (w : Want) (ws : Phrase) (p : Placed) (ts rest : List Placed)
    → tokens_after (Needs w ws) (p ∷ ts) ≡ Ok rest → takes w p.token ≡ true
first_taken w ws p ts rest h = by_test (takes w p.token) refl h
  where
    by_test : (b : Bool) → takes w p.token ≡ b
        → (if b then tokens_after ws ts else Err (misplaced p.line)) ≡ Ok rest
        → takes w p.token ≡ true
    by_test true e k = e
    by_test false e k = absurd (no_ok (misplaced p.line) rest k)

abbrev pub after_test : (d : Draft) (line : ℕ) → OrFault Test → Draft
after_test d line o = in_mode mode.Operator (with_test line o d)

-- a test that begins with a word
kind_next : (s : AppShape) (d : Draft) (k : TestKind) (p : Placed) (ts : List Placed)
    → fact_next s d (token.Keyword (row k).word) p (p ∷ ts) ts
    ≡ test_next s d p.line (Some k) (p ∷ ts)
kind_next s d the_kind.Version p ts = refl
kind_next s d k p ts = refl

pub test_read : (s : AppShape) (d : Draft) (p : Placed) (ts rest : List Placed)
    → (t : g.IsTest (p ∷ ts) rest)
    → fact_next s d p.token p (p ∷ ts) ts ≡ Ok (after_test d p.line (spelled.test_value s t), rest)
test_read s d p ts rest (g.of k h) =
    let word = want.Keyword (row k).word in
    let is = token_is (row k).word p.token (first_taken word (rest_phrase k) p ts rest h) in
    ap (λ (t : Token). fact_next s d t p (p ∷ ts) ts) is
    ∙ kind_next s d k p ts
    ∙ ap (λ (x : OrFault (List Placed)). x >>? λ us. Ok (
      after_test d p.line ((row k).spelled s (p ∷ ts)),
      us,
    )) h

pub asked_noted : (d : Draft) (line : ℕ) (v : OrFault Test) (o : Option RuleFault) → d.noted ≡ o
    → Noted o (v >>? λ x. Ok (Leaf line x)) (AddsFact d.condition) (after_test d line v)
asked_noted d line (Ok x) (Some y) is = is
asked_noted d line (Ok x) None is = (is, record { steps = refl; top = refl; depth = refl })
asked_noted d line (Err e) (Some y) is = ap (λ (o : Option RuleFault). first_of o e) is
asked_noted d line (Err e) None is = ap (λ (o : Option RuleFault). first_of o e) is

pub below_tested : (line : ℕ) (o : OrFault Test) (d : Draft)
    → (with_test line o d).condition.below ≡ d.condition.below
below_tested line (Ok t) d = refl
below_tested line (Err e) d = refl

pub statements_tested : (line : ℕ) (o : OrFault Test) (d : Draft)
    → (with_test line o d).statements ≡ d.statements
statements_tested line (Ok t) d = refl
statements_tested line (Err e) d = refl
