-- Each phrase adds to a draft only what fits the shape.
use Rattle.std.proofs.Common.{◌≡◌, ℕ, ◌-◌, List, [], ◌∷◌, ◌++◌, Option, Some, None, Ok, Bool, true}
use Rattle.std.proofs.Common.{false, refl, ap, ◌∙◌, subst}
use Rattle.std.specs.List.{list_all}
use Rattle.cells.specs.Arrays.{AppShape}
use Rattle.rule_lang.specs.declared.draft.Mode.{Mode}
use Rattle.rule_lang.specs.declared.draft.Mode.TheVariants as mode
use Rattle.rule_lang.specs.declared.rule_fault.RuleFault.{RuleFault}
use Rattle.rule_lang.specs.declared.frame.Frame.{Frame}
use Rattle.rule_lang.specs.declared.keyword.Keyword.TheVariants as keyword
use Rattle.rule_lang.specs.declared.test_table.TestKind.{TestKind}
use Rattle.rule_lang.specs.declared.rule.Statement.{Statement}
use Rattle.rule_lang.specs.declared.token.Token.TheVariants as token
use Rattle.rule_lang.specs.Reader.Drafts.{Pending, begin, denied, opened, joined, parted, fact_done}
use Rattle.rule_lang.specs.Reader.Drafts.{term_done, or_step, closed_to, is_empty}
use Rattle.rule_lang.specs.Fits.{step_fits, statement_fits, fits}
use Rattle.rule_lang.specs.Lexed.{Placed}
use Rattle.rule_lang.specs.Parts.{OrFault, ◌>>?◌, part, release, out_of_range}
use Rattle.rule_lang.specs.Phrases.{Phrase, tokens_after, misplaced, count_phrase}
use Rattle.rule_lang.specs.Phrases.{offer_phrase, otherwise_phrase}
use Rattle.rule_lang.specs.Reader.Reading.{Draft, Next, with_fault_if, in_mode, with_condition}
use Rattle.rule_lang.specs.Reader.Reading.{counted, statement_next, too_deep, with_test, test_next}
use Rattle.rule_lang.specs.Reader.Reading.{fact_next, closed_next, offered, offer_next}
use Rattle.rule_lang.specs.Reader.Reading.{operator_next, next_in, next, first_draft, verdict}
use Rattle.rule_lang.specs.Reader.Reading.{Reads, ended, refused, goes_on}
use Rattle.rule_lang.specs.Values.{count_of}
use Rattle.rule_lang.specs.Tests.{row, test_phrase, kind_of}
use Rattle.rule_lang.specs.Tokens.{Token}
use Rattle.rule_lang.proofs.Keeping.{same_ok, no_ok, bound}
use Rattle.rule_lang.proofs.FittingParts.{IfRead, count_fits, by_kind}
use Rattle.rule_lang.proofs.Fitting.{Fitting, StepsFit, counted_fits, fact_fits, fault_fits}
use Rattle.rule_lang.proofs.Fitting.{offered_fits, release_fits, term_fits, tested_fits}

-- ---- each phrase

kept : (s : AppShape) (p q : Draft × List Placed) → ◌≡◌ {A = Next} (Ok p) (Ok q) → Fitting s p.0
    → Fitting s q.0
kept s p q h k = subst (λ (r : Draft × List Placed). Fitting s r.0) (same_ok p q h) k

phrase_kept : (s : AppShape) (ws : Phrase) (ts : List Placed) (d : Draft) (q : Draft × List
    Placed) → (tokens_after ws ts >>? λ rest. Ok (d, rest)) ≡ Ok q → Fitting s d → Fitting s q.0
phrase_kept s ws ts d q h k =
    let b = bound (tokens_after ws ts) (λ rest. Ok (d, rest)) q h in
    kept s (d, b.value) q b.after k

again : (s : AppShape) (d e : Draft) → e.statements ≡ d.statements
    → e.condition.steps ≡ d.condition.steps → Fitting s d → Fitting s e
again s d e same_statements same_steps h = record {
  statements = ap (list_all (statement_fits s)) same_statements ∙ h.statements;
  steps = ap (list_all (step_fits s)) same_steps ∙ h.steps;
}

-- with unchanged statements
anew : (s : AppShape) (d e : Draft) → e.statements ≡ d.statements → StepsFit s e.condition
    → Fitting s d → Fitting s e
anew s d e same_statements steps h = record {
  statements = ap (list_all (statement_fits s)) same_statements ∙ h.statements;
  steps = steps;
}

statement_kept : (s : AppShape) (d : Draft) (t : Token) (line : ℕ) (ts after : List Placed) (q :
    Draft × List Placed) → Fitting s d → statement_next s d t line ts after ≡ Ok q → Fitting s q.0
statement_kept s d (token.Keyword keyword.Count) line ts after q f h =
    let fit = counted_fits s (count_of s ts) d (count_fits s ts) f in
    phrase_kept s count_phrase ts (counted (count_of s ts) d) q h fit
statement_kept s d (token.Keyword keyword.When) line ts after q f h =
    let e = in_mode mode.Fact (with_condition begin d) in
    kept s (e, after) q h (anew s d e refl refl f)
statement_kept s d (token.Keyword keyword.Otherwise) line ts after q f h =
    let e = in_mode mode.Done d in
    phrase_kept s otherwise_phrase ts e q h (again s d e refl refl f)
statement_kept s d t line ts after q f h = absurd (no_ok (misplaced line) q h)

test_kept : (s : AppShape) (d : Draft) (line : ℕ) (o : Option TestKind) (ts : List Placed)
    (q : Draft × List Placed) → Fitting s d → test_next s d line o ts ≡ Ok q → Fitting s q.0
test_kept s d line None ts q f h = absurd (no_ok (misplaced line) q h)
test_kept s d line (Some k) ts q f h =
    let said = (row k).spelled s ts in
    let e = with_test line said d in
    let fit = tested_fits s line said d (by_kind s ts k) f in
    phrase_kept s (test_phrase k) ts (in_mode mode.Operator e) q h (again s e (in_mode
    mode.Operator e) refl refl fit)

fact_kept : (s : AppShape) (d : Draft) (t : Token) (p : Placed) (ts after : List Placed) (q :
    Draft × List Placed) → Fitting s d → fact_next s d t p ts after ≡ Ok q → Fitting s q.0
fact_kept s d (token.Keyword keyword.Not) p ts after q f h =
    let noted = with_fault_if (too_deep d) (out_of_range p) d in
    let e = with_condition (denied noted.condition) noted in
    kept s (e, after) q h (again s noted e refl refl (fault_fits s (too_deep d) (out_of_range p) d
    f))
fact_kept s d token.Open p ts after q f h =
    let noted = with_fault_if (too_deep d) (out_of_range p) d in
    let e = with_condition (opened noted.condition) noted in
    kept s (e, after) q h (again s noted e refl refl (fault_fits s (too_deep d) (out_of_range p) d
    f))
fact_kept s d t p ts after q f h = test_kept s d p.line (kind_of t) ts q f h

closed_kept : (s : AppShape) (d : Draft) (fs : List Frame) (line : ℕ) (ts after : List Placed) (q
    : Draft × List Placed) → Fitting s d
    → closed_next (closed_to d.condition fs) d line after ≡ Ok q → Fitting s q.0
closed_kept s d [] line ts after q f h = absurd (no_ok (misplaced line) q h)
closed_kept s d (g ∷ gs) line ts after q f h =
    let outer : Pending = record {
      steps = d.condition.steps ++ or_step d.condition.top;
      below = gs;
      top = g;
      depth = d.condition.depth - 1;
    } in
    let e = with_condition (fact_done outer) d in
    kept s (e, after) q h (anew s d e refl (fact_fits s outer (term_fits s d.condition f.steps)) f)

offer_kept : (s : AppShape) (d : Draft) (b : Bool) (line : ℕ) (ts : List Placed) (q : Draft ×
    List Placed) → Fitting s d → offer_next s d b line ts ≡ Ok q → Fitting s q.0
offer_kept s d false line ts q f h = absurd (no_ok (misplaced line) q h)
offer_kept s d true line ts q f h =
    let ended = with_condition (term_done d.condition) d in
    let given = offered (release s (part ts 1)) ended in
    let fit = offered_fits s (release s (part ts 1)) ended (release_fits s (part ts 1)) (anew s d
    ended refl (term_fits s d.condition f.steps) f) in
    let e = in_mode mode.Statement given in
    phrase_kept s offer_phrase ts e q h (again s given e refl refl fit)

operator_kept : (s : AppShape) (d : Draft) (t : Token) (line : ℕ) (ts after : List Placed) (q :
    Draft × List Placed) → Fitting s d → operator_next s d t line ts after ≡ Ok q → Fitting s q.0
operator_kept s d (token.Keyword keyword.And) line ts after q f h =
    let e = in_mode mode.Fact (with_condition (joined d.condition) d) in
    kept s (e, after) q h (again s d e refl refl f)
operator_kept s d (token.Keyword keyword.Or) line ts after q f h =
    let e = in_mode mode.Fact (with_condition (parted d.condition) d) in
    kept s (e, after) q h (anew s d e refl (term_fits s d.condition f.steps) f)
operator_kept s d token.Close line ts after q f h =
    closed_kept s d d.condition.below line ts after q f h
operator_kept s d (token.Keyword keyword.Offer) line ts after q f h =
    offer_kept s d (is_empty d.condition.below) line ts q f h
operator_kept s d t line ts after q f h = absurd (no_ok (misplaced line) q h)

-- ---- the whole

mode_kept : (s : AppShape) (d : Draft) (m : Mode) (p : Placed) (ts after : List Placed) (q :
    Draft × List Placed) → Fitting s d → next_in s d m p ts after ≡ Ok q → Fitting s q.0
mode_kept s d mode.Statement p ts after q f h = statement_kept s d p.token p.line ts after q f h
mode_kept s d mode.Fact p ts after q f h = fact_kept s d p.token p ts after q f h
mode_kept s d mode.Operator p ts after q f h = operator_kept s d p.token p.line ts after q f h
mode_kept s d mode.Done p ts after q f h = absurd (no_ok (misplaced p.line) q h)

next_fits : (s : AppShape) (d : Draft) (ts : List Placed) (q : Draft × List Placed)
    → Fitting s d → next s d ts ≡ Ok q → Fitting s q.0
unfolding next
next_fits s d [] q f h = absurd (no_ok (misplaced 0) q h)
next_fits s d (p ∷ after) q f h = mode_kept s d d.mode p (p ∷ after) after q f h

verdict_fits : (s : AppShape) (d : Draft) (o : Option RuleFault) → Fitting s d
    → IfRead (fits s) (verdict d o)
verdict_fits s d None f = f.statements
verdict_fits s d (Some e) f = tt

reads_fit : (s : AppShape) (d : Draft) (ts : List Placed) (v : OrFault (List Statement))
    → Fitting s d → Reads s d ts v → IfRead (fits s) v
reads_fit s d ts v f (ended done) = verdict_fits s d d.noted f
reads_fit s d ts v f (refused going h) = tt
reads_fit s d ts v f (goes_on {e = e} {rest = rest} going h later) =
    reads_fit s e rest v (next_fits s d ts (e, rest) f h) later

pub rule_fits : (s : AppShape) (ts : List Placed) (rule : List Statement)
    → Reads s first_draft ts (Ok rule) → fits s rule ≡ true
rule_fits s ts rule r = reads_fit s first_draft ts (Ok rule) (record {
  statements = refl;
  steps = refl;
}) r
