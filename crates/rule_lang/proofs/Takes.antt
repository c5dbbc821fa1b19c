-- The machine takes every rule to its end.
use Rattle.std.proofs.Common.{◌≡◌, ℕ, suc, List, [], ◌∷◌, ◌++◌, Some, None, Ok, Err}
use Rattle.std.proofs.Common.{Bool, true, false, if◌then◌else◌, refl, sym, ap, ◌∙◌}
use Rattle.std.specs.Option.{option_and_then}
use Rattle.rule_lang.specs.declared.keyword.Keyword.{Keyword}
use Rattle.rule_lang.specs.declared.keyword.Keyword.TheVariants as keyword
use Rattle.rule_lang.specs.declared.phrase.Want.{Want}
use Rattle.rule_lang.specs.declared.phrase.Want.TheVariants as want
use Rattle.rule_lang.specs.declared.token.Token.TheVariants as token
use Rattle.rule_lang.specs.Grammar as g
use Rattle.rule_lang.specs.Lexed.{Placed}
use Rattle.rule_lang.specs.Phrases.{Phrase, Ends, Needs, Maybe, takes, tokens_after, misplaced}
use Rattle.rule_lang.specs.Phrases.{count_phrase, offer_phrase, otherwise_phrase}
use Rattle.rule_lang.specs.Tests.{row, rest_phrase}
use Rattle.rule_lang.specs.Tokens.{Token}
use Rattle.rule_lang.proofs.Keeping.{same_ok, no_ok}
use Rattle.rule_lang.proofs.Machine.{Place, AtStatement, AtFact, AtOperator, AtEnd}
use Rattle.rule_lang.proofs.Machine.{State}
use Rattle.rule_lang.proofs.Machine.{state, tail, place_step, wants_step, step, runs, start}
use Rattle.rule_lang.proofs.Machine.{runs_append}
use Rattle.rule_lang.proofs.StepsBack.{one_word, word_step, given_or}

-- ---- the machine takes rules

pub record IsTaken (w : Want) (ws : Phrase) (ts rest : List Placed) : Type 0 where
  pub first : Placed
  pub after : List Placed
  pub is : ts ≡ first ∷ after
  pub fits : takes w first.token ≡ true
  pub more : tokens_after ws after ≡ Ok rest

pub one_taken : (w : Want) (ws : Phrase) (ts rest : List Placed) → tokens_after (Needs w ws) ts
    ≡ Ok rest
    → IsTaken w ws ts rest
one_taken w ws [] rest h = absurd (no_ok (misplaced 0) rest h)
one_taken w ws (p ∷ ts) rest h = by_test (takes w p.token) refl
  where
    by_test : (b : Bool) → takes w p.token ≡ b → IsTaken w ws (p ∷ ts) rest
    by_test true e = record {
      first = p;
      after = ts;
      is = refl;
      fits = e;
      more = sym (ap (λ (b : Bool). if b then tokens_after ws ts else Err (misplaced p.line)) e)
          ∙ h;
    }
    by_test false e = absurd (no_ok (misplaced p.line) rest (sym (ap (λ (b : Bool). if b then
        tokens_after ws ts else Err (misplaced p.line)) e) ∙ h))

-- with an optional part
given_runs : (b : Bool) (w : Want) (given without : Phrase) (l : Place) (p : Placed)
    (ts rest : List Placed) → takes w p.token ≡ b
    → (tokens_after given ts ≡ Ok rest → runs (state given l) ts ≡ runs (state Ends l) rest)
    → (tokens_after without (p ∷ ts) ≡ Ok rest
    → runs (state without l) (p ∷ ts) ≡ runs (state Ends l) rest)
    → given_or b given without p ts ≡ Ok rest
    → option_and_then (λ y. runs y ts) (if b then Some (state given l) else wants_step without l
    p.token) ≡ runs (state Ends l) rest
given_runs true w given without l p ts rest e there left h = there h
given_runs false w given without l p ts rest e there left h = left h

phrase_runs : (ws : Phrase) (l : Place) (ts rest : List Placed) → tokens_after ws ts ≡ Ok rest
    → runs (state ws l) ts ≡ runs (state Ends l) rest
phrase_runs Ends l ts rest h = ap (runs (state Ends l)) (same_ok ts rest h)
phrase_runs (Needs w ws) l ts rest h =
    let t = one_taken w ws ts rest h in
    ap (runs (state (Needs w ws) l)) t.is
    ∙ ap (λ (b : Bool). option_and_then (λ y. runs y t.after) (if b then Some (state ws l) else
    None)) t.fits
    ∙ phrase_runs ws l t.after rest t.more
phrase_runs (Maybe w given without) l [] rest h = absurd (no_ok (misplaced 0) rest h)
phrase_runs (Maybe w given without) l (p ∷ ts) rest h =
    given_runs (takes w p.token) w given without l p ts rest refl (λ k. phrase_runs given l ts rest
    k) (λ k. phrase_runs without l (p ∷ ts) rest k) h

one_runs : (l : Place) (x : State) (p : Placed) (ts : List Placed)
    → place_step l p.token ≡ Some x → runs (state Ends l) (p ∷ ts) ≡ runs x ts
one_runs l x p ts is = ap (option_and_then (λ y. runs y ts)) is

-- a phrase whose first token the machine takes in this state
first_runs : (w : Want) (ws us : Phrase) (l m : Place) (ts rest : List Placed)
    → ((t : Token) → takes w t ≡ true → place_step l t ≡ Some (state us m))
    → tokens_after (Needs w ws) ts ≡ Ok rest
    → ((after : List Placed) → tokens_after ws after ≡ Ok rest
    → runs (state us m) after ≡ runs (state Ends m) rest)
    → runs (state Ends l) ts ≡ runs (state Ends m) rest
first_runs w ws us l m ts rest fits h go =
    let t = one_taken w ws ts rest h in
    ap (runs (state Ends l)) t.is
    ∙ one_runs l (state us m) t.first t.after (fits t.first.token t.fits)
    ∙ go t.after t.more

pub token_is : (k : Keyword) (t : Token) → takes (want.Keyword k) t ≡ true → t ≡ token.Keyword k
token_is k (token.Keyword l) h = ap (λ (m : Keyword). token.Keyword m) (sym (one_word k l h))
token_is k t h = absurd cc

-- a phrase that begins with a word
word_runs : (k : Keyword) (ws : Phrase) (l m : Place) (ts rest : List Placed)
    → place_step l (token.Keyword k) ≡ Some (state ws m)
    → tokens_after (Needs (want.Keyword k) ws) ts ≡ Ok rest
    → runs (state Ends l) ts ≡ runs (state Ends m) rest
word_runs k ws l m ts rest is h =
    first_runs (want.Keyword k) ws ws l m ts rest (λ t e. ap (place_step l) (token_is k t e) ∙ is) h
    (λ after more. phrase_runs ws m after rest more)

test_runs : (n : ℕ) {ts rest : List Placed} → g.IsTest ts rest
    → runs (state Ends (AtFact n)) ts ≡ runs (state Ends (AtOperator n)) rest
test_runs n (g.of k {ts = ts} {rest = rest} h) =
    word_runs (row k).word (rest_phrase k) (AtFact n) (AtOperator n) ts rest (word_step n k) h

mutual
  fact_runs : (n : ℕ) {ts rest : List Placed} → g.IsFact ts rest
      → runs (state Ends (AtFact n)) ts ≡ runs (state Ends (AtOperator n)) rest
  fact_runs n (g.denied {p = p} {ts = ts} is f) =
      one_runs (AtFact n) (state Ends (AtFact n)) p ts (ap (place_step (AtFact n)) is)
      ∙ fact_runs n f
  fact_runs n (g.enclosed {p = p} {q = q} {ts = ts} {rest = rest} is c closes) =
      one_runs (AtFact n) (state Ends (AtFact (suc n))) p ts (ap (place_step (AtFact n)) is)
      ∙ cond_runs (suc n) c
      ∙ one_runs (AtOperator (suc n)) (state Ends (AtOperator n)) q rest (ap (place_step (AtOperator
      (suc n))) closes)
  fact_runs n (g.leaf t) = test_runs n t

  term_runs : (n : ℕ) {ts rest : List Placed} → g.IsTerm ts rest
      → runs (state Ends (AtFact n)) ts ≡ runs (state Ends (AtOperator n)) rest
  term_runs n (g.fact f) = fact_runs n f
  term_runs n (g.and_fact {p = p} {mid = mid} t is f) =
      term_runs n t
      ∙ one_runs (AtOperator n) (state Ends (AtFact n)) p mid (ap (place_step (AtOperator n)) is)
      ∙ fact_runs n f

  cond_runs : (n : ℕ) {ts rest : List Placed} → g.IsCond ts rest
      → runs (state Ends (AtFact n)) ts ≡ runs (state Ends (AtOperator n)) rest
  cond_runs n (g.term t) = term_runs n t
  cond_runs n (g.or_term {p = p} {mid = mid} c is t) =
      cond_runs n c
      ∙ one_runs (AtOperator n) (state Ends (AtFact n)) p mid (ap (place_step (AtOperator n)) is)
      ∙ term_runs n t

statement_runs : {ts rest : List Placed} → g.IsStatement ts rest → runs start ts ≡ runs start rest
statement_runs (g.count {ts = ts} {rest = rest} h) =
    word_runs keyword.Count (tail count_phrase) AtStatement AtStatement ts rest refl h
statement_runs (g.when {p = p} {ts = ts} {mid = mid} {rest = rest} is c h) =
    one_runs AtStatement (state Ends (AtFact 0)) p ts (ap (place_step AtStatement) is)
    ∙ cond_runs 0 c
    ∙ word_runs keyword.Offer (tail offer_phrase) (AtOperator 0) AtStatement mid rest refl h

end_runs : (ts : List Placed) → runs (state Ends AtEnd) ts ≡ Some (state Ends AtEnd)
end_runs [] = refl
end_runs (p ∷ ts) = end_runs ts

rule_runs : {ts : List Placed} → g.IsRule ts → runs start ts ≡ Some (state Ends AtEnd)
rule_runs (g.otherwise {ts = ts} {rest = rest} h) =
    word_runs keyword.Otherwise (tail otherwise_phrase) AtStatement AtEnd ts rest refl h
    ∙ end_runs rest
rule_runs (g.stmt x r) = statement_runs x ∙ rule_runs r

-- if the machine stops, no rule continues
pub stuck : (before : List Placed) (p : Placed) (x : State) → runs start before ≡ Some x
    → step x p.token ≡ None → g.Begins (before ++ (p ∷ [])) → ⊥
stuck before p x so_far stop (more, rule) =
    let here_stops : runs start (before ++ (p ∷ [])) ≡ None = runs_append start before (p ∷ [])
    ∙ ap (option_and_then (λ y. runs y (p ∷ []))) so_far
    ∙ ap (option_and_then (λ y. runs y [])) stop in
    let stops : runs start ((before ++ (p ∷ [])) ++ more) ≡ None = runs_append start (before ++
    (p ∷ [])) more ∙ ap (option_and_then (λ y. runs y more)) here_stops in
    let goes = rule_runs rule in
    cc
