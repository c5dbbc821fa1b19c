-- Each text has a verdict: reading a phrase leaves fewer tokens, so reading ends.
use Rattle.std.proofs.Common.{◌≡◌, ◌⊎◌, ◌≤◌, ◌<◌, ℕ, zero, suc, List, [], ◌∷◌, length, Option, Some}
use Rattle.std.proofs.Common.{None, Ok, Err, Bool, true, false, inl, inr, refl, ap, arith, subst}
use Rattle.std.proofs.Math.Dec.{leb}
use Rattle.std.proofs.lemmas.Bool.Decides.{leb_tells}
use Rattle.cells.specs.Arrays.{AppShape}
use Rattle.rule_lang.specs.declared.draft.Mode.{Mode}
use Rattle.rule_lang.specs.declared.draft.Mode.TheVariants as mode
use Rattle.rule_lang.specs.declared.rule_fault.RuleFault.TheVariants.{At}
use Rattle.rule_lang.specs.declared.rule_fault.RuleFaultKind.TheVariants.{Range}
use Rattle.rule_lang.specs.declared.keyword.Keyword.TheVariants as keyword
use Rattle.rule_lang.specs.declared.phrase.Want.{Want}
use Rattle.rule_lang.specs.declared.phrase.Want.TheVariants as want
use Rattle.rule_lang.specs.declared.test_table.TestKind.{TestKind}
use Rattle.rule_lang.specs.declared.rule.Statement.{Statement}
use Rattle.rule_lang.specs.declared.token.Token.TheVariants as token
use Rattle.rule_lang.specs.Lexed.{Placed, Lexed, tokens_in}
use Rattle.rule_lang.specs.Parts.{OrFault, ◌>>?◌, part, out_of_range, release}
use Rattle.rule_lang.specs.Phrases.{Phrase, Needs, tokens_after, misplaced}
use Rattle.rule_lang.specs.Phrases.{count_phrase, offer_phrase, otherwise_phrase}
use Rattle.rule_lang.specs.Reader.Drafts.{Pending, begin, denied, opened, joined}
use Rattle.rule_lang.specs.Reader.Drafts.{parted, closed, term_done, is_empty}
use Rattle.rule_lang.specs.Reader.Reading.{Draft, Next, first_draft, with_fault_if, in_mode}
use Rattle.rule_lang.specs.Reader.Reading.{with_condition, counted, statement_next, too_deep}
use Rattle.rule_lang.specs.Reader.Reading.{with_test, test_next, fact_next, closed_next}
use Rattle.rule_lang.specs.Reader.Reading.{offered, offer_next, operator_next, next_in, next}
use Rattle.rule_lang.specs.Reader.Reading.{is_done, verdict, Reads, ended, refused, goes_on}
use Rattle.rule_lang.specs.Values.{count_of}
use Rattle.rule_lang.specs.Tests.{row, rest_phrase, kind_of}
use Rattle.rule_lang.specs.Tokens.{Text, Token}
use Rattle.rule_lang.specs.Verdicts.{HasVerdict, too_long, no_token}
use Rattle.rule_lang.proofs.Keeping.{same_ok, no_ok, bound, fewer, behind_rest}
use Rattle.rule_lang.proofs.Verdicts.{spelled}
use Rattle.rule_lang.proofs.Machine.{tail}
use Rattle.rule_lang.proofs.ReadOn.{done_is}
use Rattle.rule_lang.proofs.Takes.{one_taken}

-- ---- tokens after a phrase

abbrev Fewer : List Placed → Draft × List Placed → Type 0
Fewer ts q = length q.1 < length ts

fewer_left : (ts : List Placed) (p q : Draft × List Placed) → ◌≡◌ {A = Next} (Ok p) (Ok q)
    → Fewer ts p → Fewer ts q
fewer_left ts p q h k = subst (λ (r : Draft × List Placed). Fewer ts r) (same_ok p q h) k

phrase_fewer : (w : Want) (ws : Phrase) (ts : List Placed) (d : Draft)
    (q : Draft × List Placed) → (tokens_after (Needs w ws) ts >>? λ rest. Ok (d, rest)) ≡ Ok q
    → Fewer ts q
phrase_fewer w ws ts d q h =
    let b = bound (tokens_after (Needs w ws) ts) (λ rest. Ok (d, rest)) q h in
    let t = one_taken w ws ts b.value b.first in
    let left = fewer b.value t.after (behind_rest ws t.after b.value t.more) in
    let whole : length ts ≡ length (t.first ∷ t.after) =
    ap (λ (us : List Placed). length us) t.is in
    fewer_left ts (d, b.value) q b.after (omega (arith, left, whole))

statement_fewer : (s : AppShape) (d : Draft) (t : Token) (line : ℕ) (ts after : List Placed)
    (q : Draft × List Placed) → length after < length ts
    → statement_next s d t line ts after ≡ Ok q → Fewer ts q
statement_fewer s d (token.Keyword keyword.Count) line ts after q less h =
    let e = counted (count_of s ts) d in
    phrase_fewer (want.Keyword keyword.Count) (tail count_phrase) ts e q h
statement_fewer s d (token.Keyword keyword.When) line ts after q less h =
    fewer_left ts (in_mode mode.Fact (with_condition begin d), after) q h less
statement_fewer s d (token.Keyword keyword.Otherwise) line ts after q less h =
    let e = in_mode mode.Done d in
    phrase_fewer (want.Keyword keyword.Otherwise) (tail otherwise_phrase) ts e q h
statement_fewer s d t line ts after q less h = absurd (no_ok (misplaced line) q h)

test_fewer : (s : AppShape) (d : Draft) (line : ℕ) (o : Option TestKind) (ts : List Placed)
    (q : Draft × List Placed) → test_next s d line o ts ≡ Ok q → Fewer ts q
test_fewer s d line None ts q h = absurd (no_ok (misplaced line) q h)
test_fewer s d line (Some k) ts q h =
    phrase_fewer (want.Keyword (row k).word) (rest_phrase k) ts (in_mode mode.Operator (with_test
    line ((row k).spelled s ts) d)) q h

fact_fewer : (s : AppShape) (d : Draft) (t : Token) (p : Placed) (ts after : List Placed)
    (q : Draft × List Placed) → length after < length ts
    → fact_next s d t p ts after ≡ Ok q → Fewer ts q
fact_fewer s d (token.Keyword keyword.Not) p ts after q less h =
    let noted = with_fault_if (too_deep d) (out_of_range p) d in
    fewer_left ts (with_condition (denied noted.condition) noted, after) q h less
fact_fewer s d token.Open p ts after q less h =
    let noted = with_fault_if (too_deep d) (out_of_range p) d in
    fewer_left ts (with_condition (opened noted.condition) noted, after) q h less
fact_fewer s d t p ts after q less h =
    test_fewer s d p.line (kind_of t) ts q h

closed_fewer : (o : Option Pending) (d : Draft) (line : ℕ) (ts after : List Placed)
    (q : Draft × List Placed) → length after < length ts → closed_next o d line after ≡ Ok q
    → Fewer ts q
closed_fewer None d line ts after q less h = absurd (no_ok (misplaced line) q h)
closed_fewer (Some p) d line ts after q less h =
    fewer_left ts (with_condition p d, after) q h less

offer_fewer : (s : AppShape) (d : Draft) (b : Bool) (line : ℕ) (ts : List Placed)
    (q : Draft × List Placed) → offer_next s d b line ts ≡ Ok q → Fewer ts q
offer_fewer s d false line ts q h = absurd (no_ok (misplaced line) q h)
offer_fewer s d true line ts q h =
    let done = with_condition (term_done d.condition) d in
    let e = in_mode mode.Statement (offered (release s (part ts 1)) done) in
    phrase_fewer (want.Keyword keyword.Offer) (tail offer_phrase) ts e q h

operator_fewer : (s : AppShape) (d : Draft) (t : Token) (line : ℕ) (ts after : List Placed)
    (q : Draft × List Placed) → length after < length ts
    → operator_next s d t line ts after ≡ Ok q → Fewer ts q
operator_fewer s d (token.Keyword keyword.And) line ts after q less h =
    fewer_left ts (in_mode mode.Fact (with_condition (joined d.condition) d), after) q h less
operator_fewer s d (token.Keyword keyword.Or) line ts after q less h =
    fewer_left ts (in_mode mode.Fact (with_condition (parted d.condition) d), after) q h less
operator_fewer s d token.Close line ts after q less h =
    closed_fewer (closed d.condition) d line ts after q less h
operator_fewer s d (token.Keyword keyword.Offer) line ts after q less h =
    offer_fewer s d (is_empty d.condition.below) line ts q h
operator_fewer s d t line ts after q less h = absurd (no_ok (misplaced line) q h)

mode_fewer : (s : AppShape) (d : Draft) (m : Mode) (p : Placed) (ts after : List Placed)
    (q : Draft × List Placed) → length after < length ts → next_in s d m p ts after ≡ Ok q
    → Fewer ts q
mode_fewer s d mode.Statement p ts after q less h =
    statement_fewer s d p.token p.line ts after q less h
mode_fewer s d mode.Fact p ts after q less h = fact_fewer s d p.token p ts after q less h
mode_fewer s d mode.Operator p ts after q less h =
    operator_fewer s d p.token p.line ts after q less h
mode_fewer s d mode.Done p ts after q less h = absurd (no_ok (misplaced p.line) q h)

next_fewer : (s : AppShape) (d : Draft) (ts : List Placed) (q : Draft × List Placed)
    → next s d ts ≡ Ok q → Fewer ts q
unfolding next
next_fewer s d [] q h = absurd (no_ok (misplaced 0) q h)
next_fewer s d (p ∷ after) q h = mode_fewer s d d.mode p (p ∷ after) after q (omega arith) h

-- ---- reading ends

abbrev IsRead : AppShape → Draft → List Placed → Type 0
IsRead s d ts = (v : OrFault (List Statement)) × Reads s d ts v

read_by : (s : AppShape) (d : Draft) (ts : List Placed)
    → ((q : Draft × List Placed) → next s d ts ≡ Ok q → IsRead s q.0 q.1) → IsRead s d ts
read_by s d ts later = by_mode (is_done d.mode) refl
  where
    by_next : is_done d.mode ≡ false → (o : Next) → next s d ts ≡ o → IsRead s d ts
    by_next going (Err e) is = (Err e, refused going is)
    by_next going (Ok q) is =
        let r = later q is in (r.0, goes_on {e = q.0} {rest = q.1} going is r.1)

    by_mode : (b : Bool) → is_done d.mode ≡ b → IsRead s d ts
    by_mode true is = (verdict d d.noted, ended (done_is d.mode is))
    by_mode false is = by_next is (next s d ts) refl

is_read : (s : AppShape) (n : ℕ) (d : Draft) (ts : List Placed) → length ts < n → IsRead s d ts
is_read s zero d ts h = absurd (omega (arith, h))
is_read s (suc n) d ts h = read_by s d ts (λ q is.
    let less = next_fewer s d ts q is in is_read s n q.0 q.1 (omega (arith, h, less)))

-- ---- the verdict

pub verdict_some : (s : AppShape) (text : Text) → HasVerdict s text
verdict_some s text = by_length (leb_tells (length text) 65536)
  where
    by_tokens : length text ≤ 65536 → (o : Lexed) → tokens_in text ≡ o → HasVerdict s text
    by_tokens short (Err e) is = (Err e, no_token short is)
    by_tokens short (Ok ts) is =
        let r = is_read s (suc (length ts)) first_draft ts (omega arith) in
        (r.0, spelled s text ts r.0 short is r.1)

    by_length : ((leb (length text) 65536 ≡ true) × (length text ≤ 65536)) ⊎
        ((leb (length text) 65536 ≡ false) × (65536 < length text)) → HasVerdict s text
    by_length (inl h) = by_tokens h.1 (tokens_in text) refl
    by_length (inr h) = (Err (At 1 Range), too_long h.1)
