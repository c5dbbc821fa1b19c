-- In each mode of the reader, the machine takes a phrase that the reader reads, or stops.
use Rattle.std.proofs.Common.{◌≡◌, ℕ, zero, suc, ◌-◌, List, [], ◌∷◌, ◌++◌, length}
use Rattle.std.proofs.Common.{Option, Some, None, Ok, Err, Bool, true, false}
use Rattle.std.proofs.Common.{refl, ap, ◌∙◌}
use Rattle.cells.specs.Arrays.{AppShape}
use Rattle.rule_lang.specs.declared.draft.Mode.{Mode}
use Rattle.rule_lang.specs.declared.draft.Mode.TheVariants as mode
use Rattle.rule_lang.specs.declared.rule_fault.RuleFault.{RuleFault}
use Rattle.rule_lang.specs.declared.frame.Frame.{Frame}
use Rattle.rule_lang.specs.declared.keyword.Keyword.TheVariants as keyword
use Rattle.rule_lang.specs.declared.test.Test.{Test}
use Rattle.rule_lang.specs.declared.test_table.TestKind.{TestKind}
use Rattle.rule_lang.specs.declared.test_table.TestKind.TheVariants as the_kind
use Rattle.rule_lang.specs.declared.token.Token.TheVariants as token
use Rattle.rule_lang.specs.Reader.Drafts.{Pending, begin, denied, opened, joined, parted, closed_to}
use Rattle.rule_lang.specs.Reader.Drafts.{fact_done, term_done, is_empty, or_step}
use Rattle.rule_lang.specs.Lexed.{Placed}
use Rattle.rule_lang.specs.Parts.{OrFault, part, out_of_range, release}
use Rattle.rule_lang.specs.Phrases.{Ends, count_phrase, offer_phrase, otherwise_phrase}
use Rattle.rule_lang.specs.Reader.Reading.{Draft, with_fault_if, in_mode, with_condition}
use Rattle.rule_lang.specs.Reader.Reading.{counted}
use Rattle.rule_lang.specs.Reader.Reading.{statement_next, too_deep, with_test, test_next}
use Rattle.rule_lang.specs.Reader.Reading.{fact_next}
use Rattle.rule_lang.specs.Reader.Reading.{closed_next, offered, offer_next, operator_next}
use Rattle.rule_lang.specs.Reader.Reading.{next_in, next}
use Rattle.rule_lang.specs.Reader.Reading.{is_done}
use Rattle.rule_lang.specs.Values.{count_of}
use Rattle.rule_lang.specs.Tests.{row, rest_phrase, kind_of}
use Rattle.rule_lang.specs.Tokens.{Token}
use Rattle.rule_lang.proofs.Keeping.{mode_counted, mode_noted}
use Rattle.rule_lang.proofs.Machine.{AtStatement, AtFact, AtOperator, AtEnd}
use Rattle.rule_lang.proofs.Machine.{state, tail, test_step, place_step}
use Rattle.rule_lang.proofs.Led.{place_of, state_of, HasEnd, Led, ends_well}
use Rattle.rule_lang.proofs.Led.{phrase_led, token_led, stopped_at}
use Rattle.rule_lang.proofs.StepsBack.{kind_word, word_step}

-- ---- the modes

state_is : (e : Draft) (m : Mode) (fs : List Frame) → e.mode ≡ m → e.condition.below ≡ fs
    → state_of e ≡ state Ends (place_of m (length fs))
state_is e m fs in_mode below =
    ap (λ (k : Mode). state Ends (place_of k (length e.condition.below))) in_mode
    ∙ ap (λ (gs : List Frame). state Ends (place_of m (length gs))) below

statement_led : (s : AppShape) (d : Draft) (t : Token) (p : Placed) (after : List Placed)
    → p.token ≡ t → d.mode ≡ mode.Statement → HasEnd (p ∷ after)
    → Led (state Ends AtStatement) (p ∷ after) (statement_next s d t p.line (p ∷ after) after)
statement_led s d (token.Keyword keyword.Count) p after is m h =
    let e = counted (count_of s (p ∷ after)) d in
    let stays = mode_counted (count_of s (p ∷ after)) d ∙ m in
    let there = state_is e mode.Statement e.condition.below stays refl in
    phrase_led keyword.Count (tail count_phrase) AtStatement AtStatement p after e is refl there
    refl h
statement_led s d (token.Keyword keyword.When) p after is m h =
    token_led (token.Keyword keyword.When) AtStatement (AtFact 0) p after (in_mode mode.Fact
    (with_condition begin d)) is refl refl refl h
statement_led s d (token.Keyword keyword.Otherwise) p after is m h =
    let e = in_mode mode.Done d in
    phrase_led keyword.Otherwise (tail otherwise_phrase) AtStatement AtEnd p after e is refl refl
    refl h
statement_led s d t p after is m h = stopped_at t AtStatement p after is refl

below_tested : (line : ℕ) (o : OrFault Test) (d : Draft)
    → (with_test line o d).condition.below ≡ d.condition.below
below_tested line (Ok t) d = refl
below_tested line (Err e) d = refl

pub condition_noted : (b : Bool) (e : RuleFault) (d : Draft)
    → (with_fault_if b e d).condition ≡ d.condition
condition_noted true e d = refl
condition_noted false e d = refl

-- a test that begins with a word
kind_well : (k : TestKind) → ends_well false (rest_phrase k) ≡ true
kind_well the_kind.Version = refl
kind_well k = refl

test_led : (s : AppShape) (d : Draft) (k : TestKind) (p : Placed) (after : List Placed)
    → p.token ≡ token.Keyword (row k).word → HasEnd (p ∷ after)
    → Led (state Ends (AtFact (length d.condition.below))) (p ∷ after) (test_next s d p.line (Some
    k) (p ∷ after))
test_led s d k p after is h =
    let n = length d.condition.below in
    let said = (row k).spelled s (p ∷ after) in
    let e = in_mode mode.Operator (with_test p.line said d) in
    let there = state_is e mode.Operator d.condition.below refl (below_tested p.line said d) in
    phrase_led (row k).word (rest_phrase k) (AtFact n) (AtOperator n) p after e is (word_step n k)
    there (kind_well k) h

-- a test, or a token that begins none
kind_led : (s : AppShape) (d : Draft) (t : Token) (o : Option TestKind) (p : Placed)
    (after : List Placed) → kind_of t ≡ o → p.token ≡ t
    → place_step (AtFact (length d.condition.below)) t ≡ test_step (length d.condition.below) o
    → HasEnd (p ∷ after) → Led (state Ends (AtFact (length d.condition.below))) (p ∷ after)
    (test_next s d p.line o (p ∷ after))
kind_led s d t None p after kind is goes h =
    stopped_at t (AtFact (length d.condition.below)) p after is goes
kind_led s d t (Some k) p after kind is goes h =
    test_led s d k p after (is ∙ kind_word t k kind) h

fact_led : (s : AppShape) (d : Draft) (t : Token) (p : Placed) (after : List Placed)
    → p.token ≡ t → d.mode ≡ mode.Fact → HasEnd (p ∷ after)
    → Led (state Ends (AtFact (length d.condition.below))) (p ∷ after) (fact_next s d t p (p ∷
    after) after)
fact_led s d (token.Keyword keyword.Not) p after is m h =
    let n = length d.condition.below in
    let noted = with_fault_if (too_deep d) (out_of_range p) d in
    let e = with_condition (denied noted.condition) noted in
    token_led (token.Keyword keyword.Not) (AtFact n) (AtFact n) p after e is refl (state_is e
    mode.Fact d.condition.below (mode_noted (too_deep d) (out_of_range p) d ∙ m) (ap (λ (c :
    Pending). c.below) (condition_noted (too_deep d) (out_of_range p) d))) refl h
fact_led s d token.Open p after is m h =
    let n = length d.condition.below in
    let noted = with_fault_if (too_deep d) (out_of_range p) d in
    let e = with_condition (opened noted.condition) noted in
    token_led token.Open (AtFact n) (AtFact (suc n)) p after e is refl (state_is e
    mode.Fact (d.condition.top ∷ d.condition.below) (mode_noted (too_deep d) (out_of_range p) d ∙ m)
    (ap (λ (c : Pending). c.top ∷ c.below) (condition_noted (too_deep d) (out_of_range p) d))) refl
    h
fact_led s d t p after is m h = kind_led s d t (kind_of t) p after refl is refl h

close_led : (d : Draft) (fs : List Frame) (p : Placed) (after : List Placed)
    → p.token ≡ token.Close → d.mode ≡ mode.Operator → HasEnd (p ∷ after)
    → Led (state Ends (AtOperator (length fs))) (p ∷ after) (closed_next (closed_to d.condition
    fs) d p.line after)
close_led d [] p after is m h = stopped_at token.Close (AtOperator 0) p after is refl
close_led d (f ∷ fs) p after is m h =
    let e = with_condition (fact_done (record {
      steps = d.condition.steps ++ or_step d.condition.top;
      below = fs;
      top = f;
      depth = d.condition.depth - 1;
    })) d in
    token_led token.Close (AtOperator (suc (length fs))) (AtOperator (length fs)) p after e is refl
    (state_is e mode.Operator fs m refl) refl h

offer_led : (s : AppShape) (d : Draft) (fs : List Frame) (p : Placed) (after : List Placed)
    → p.token ≡ token.Keyword keyword.Offer → HasEnd (p ∷ after)
    → Led (state Ends (AtOperator (length fs))) (p ∷ after) (offer_next s d (is_empty fs) p.line
    (p ∷ after))
offer_led s d [] p after is h =
    let ended = with_condition (term_done d.condition) d in
    let e = in_mode mode.Statement (offered (release s (part (p ∷ after) 1)) ended) in
    phrase_led keyword.Offer (tail offer_phrase) (AtOperator 0) AtStatement p after e is refl refl
    refl h
offer_led s d (f ∷ fs) p after is h =
    stopped_at (token.Keyword keyword.Offer) (AtOperator (suc (length fs))) p after is refl

operator_led : (s : AppShape) (d : Draft) (t : Token) (p : Placed) (after : List Placed)
    → p.token ≡ t → d.mode ≡ mode.Operator → HasEnd (p ∷ after)
    → Led (state Ends (AtOperator (length d.condition.below))) (p ∷ after) (operator_next s d t
    p.line (p ∷ after) after)
operator_led s d (token.Keyword keyword.And) p after is m h =
    let n = length d.condition.below in
    token_led (token.Keyword keyword.And) (AtOperator n) (AtFact n) p after (in_mode mode.Fact
    (with_condition (joined d.condition) d)) is refl refl refl h
operator_led s d (token.Keyword keyword.Or) p after is m h =
    let n = length d.condition.below in
    token_led (token.Keyword keyword.Or) (AtOperator n) (AtFact n) p after (in_mode mode.Fact
    (with_condition (parted d.condition) d)) is refl refl refl h
operator_led s d token.Close p after is m h = close_led d d.condition.below p after is m h
operator_led s d (token.Keyword keyword.Offer) p after is m h =
    offer_led s d d.condition.below p after is h
operator_led s d t p after is m h = stopped_at t (AtOperator (length
    d.condition.below)) p after is (none_else (length d.condition.below))
  where
    none_else : (n : ℕ) → place_step (AtOperator n) t ≡ None
    none_else zero = refl
    none_else (suc n) = refl

mode_led : (s : AppShape) (d : Draft) (m : Mode) (p : Placed) (after : List Placed) → d.mode ≡ m
    → is_done m ≡ false → HasEnd (p ∷ after)
    → Led (state Ends (place_of m (length d.condition.below))) (p ∷ after) (next_in s d m p (p ∷
    after) after)
mode_led s d mode.Statement p after m going h = statement_led s d p.token p after refl m h
mode_led s d mode.Fact p after m going h = fact_led s d p.token p after refl m h
mode_led s d mode.Operator p after m going h = operator_led s d p.token p after refl m h
mode_led s d mode.Done p after m going h = absurd cc

pub next_led : (s : AppShape) (d : Draft) (ts : List Placed) → is_done d.mode ≡ false → HasEnd ts
    → Led (state_of d) ts (next s d ts)
unfolding next
next_led s d [] going h = absurd h
next_led s d (p ∷ after) going h = mode_led s d d.mode p after refl going h
