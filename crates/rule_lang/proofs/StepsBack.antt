-- If tokens complete a rule after a step of the machine, the step's token and these complete it
-- before the step.
use Rattle.std.proofs.Common.{◌≡◌, ℕ, zero, suc, List, [], ◌∷◌, ◌++◌, Option, Some, None, Ok, Err}
use Rattle.std.proofs.Common.{Bool, true, false, if◌then◌else◌, refl, sym, ap, ◌∙◌, subst}
use Rattle.std.specs.Prelude.{◌==◌}
use Rattle.std.specs.Option.{option_and_then}
use Rattle.std.proofs.lemmas.Bool.Decides.{Decides-eqb}
use Rattle.rule_lang.specs.declared.keyword.Keyword.{Keyword}
use Rattle.rule_lang.specs.declared.keyword.Keyword.TheVariants as keyword
use Rattle.rule_lang.specs.declared.phrase.Want.{Want}
use Rattle.rule_lang.specs.declared.phrase.Want.TheVariants as want
use Rattle.rule_lang.specs.declared.token.Token.TheVariants as token
use Rattle.rule_lang.specs.Grammar as g
use Rattle.rule_lang.specs.Lexed.{Placed}
use Rattle.rule_lang.specs.Parts.{OrFault}
use Rattle.rule_lang.specs.declared.test_table.TestKind.{TestKind}
use Rattle.rule_lang.specs.declared.test_table.TestKind.TheVariants as the_kind
use Rattle.rule_lang.specs.Phrases.{Phrase, Ends, Needs, Maybe, takes, tokens_after, misplaced}
use Rattle.rule_lang.specs.Phrases.{count_phrase, offer_phrase, otherwise_phrase}
use Rattle.rule_lang.specs.Tests.{row, rest_phrase, kind_of}
use Rattle.rule_lang.specs.Tokens.{Token}
use Rattle.rule_lang.specs.Words.{keyword_number, same_keyword}
use Rattle.rule_lang.proofs.Keeping.{same_ok}
use Rattle.rule_lang.proofs.Machine.{Place, AtStatement, AtFact, AtOperator, AtEnd}
use Rattle.rule_lang.proofs.Machine.{State, state, tail, test_step, place_step, wants_step, step}
use Rattle.rule_lang.proofs.Machine.{runs, IsRestOfCond, IsOffered, IsClosed, closed, Follows}
use Rattle.rule_lang.proofs.Machine.{IsFactAhead, GoesOn, Completes, CompletesIf}

-- ---- words

keyword_at : ℕ → Keyword
keyword_at n =
    if n == 0 then keyword.Otherwise else if n == 1 then keyword.None
    else if n == 2 then keyword.Count else if n == 3 then keyword.When
    else if n == 4 then keyword.Offer else if n == 5 then keyword.Or
    else if n == 6 then keyword.And else if n == 7 then keyword.Not
    else if n == 8 then keyword.Version else if n == 9 then keyword.Bucket
    else if n == 10 then keyword.Today else if n == 11 then keyword.Installed
    else if n == 12 then keyword.Flag else if n == 13 then keyword.Attr
    else if n == 14 then keyword.Is else keyword.Take

numbered : (k : Keyword) → keyword_at (keyword_number k) ≡ k
unfolding keyword_at
numbered keyword.Otherwise = refl
numbered k = refl

pub same_word : (k : Keyword) → same_keyword k k ≡ true
same_word k = (Decides-eqb (keyword_number k) (keyword_number k)).1 refl

pub one_word : (k l : Keyword) → same_keyword k l ≡ true → k ≡ l
one_word k l h = sym (numbered k) ∙ ap keyword_at ((Decides-eqb (keyword_number k) (keyword_number
    l)).0 h) ∙ numbered l

-- ---- kinds of tests

abbrev word_if : Option TestKind → Keyword
word_if None = keyword.Not
word_if (Some k) = (row k).word

abbrev pub word_token : Option TestKind → Token
word_token o = token.Keyword (word_if o)

-- a token that begins a test is the first word of its kind
pub kind_word : (t : Token) (k : TestKind) → kind_of t ≡ Some k → t ≡ token.Keyword (row k).word
kind_word (token.Keyword keyword.Version) k h = ap word_token h
kind_word (token.Keyword keyword.Bucket) k h = ap word_token h
kind_word (token.Keyword keyword.Today) k h = ap word_token h
kind_word (token.Keyword keyword.Installed) k h = ap word_token h
kind_word (token.Keyword keyword.Flag) k h = ap word_token h
kind_word (token.Keyword keyword.Attr) k h = ap word_token h
kind_word (token.Keyword keyword.Take) k h = ap word_token h
kind_word t k h = absurd cc

-- the machine continues after it
pub word_step : (n : ℕ) (k : TestKind)
    → place_step (AtFact n) (token.Keyword (row k).word)
    ≡ Some (state (rest_phrase k) (AtOperator n))
word_step n the_kind.Version = refl
word_step n k = refl

-- ---- one step back

taken : (w : Want) (ws : Phrase) (p : Placed) (ts rest : List Placed) → takes w p.token ≡ true
    → tokens_after ws ts ≡ Ok rest → tokens_after (Needs w ws) (p ∷ ts) ≡ Ok rest
taken w ws p ts rest is h =
    ap (λ (b : Bool). if b then tokens_after ws ts else Err (misplaced p.line)) is ∙ h

-- a word as a phrase's first token
pub worded : (k : Keyword) (ws : Phrase) (p : Placed) (ts rest : List Placed)
    → p.token ≡ token.Keyword k → tokens_after ws ts ≡ Ok rest
    → tokens_after (Needs (want.Keyword k) ws) (p ∷ ts) ≡ Ok rest
worded k ws p ts rest is h =
    taken (want.Keyword k) ws p ts rest (ap (takes (want.Keyword k)) is ∙ same_word k) h

pub here : (l : Place) (ts : List Placed) → Completes (state Ends l) ts → GoesOn l ts
here l ts h = subst (λ (us : List Placed). GoesOn l us) (sym (same_ok ts h.rest h.phrase)) h.more

joined : (Then : List Placed → Type 0) (p : Placed) (ts rest : List Placed)
    → p.token ≡ token.Keyword keyword.And → g.IsFact ts rest → IsRestOfCond Then rest
    → IsRestOfCond Then (p ∷ ts)
joined Then p ts rest is f c = record {
  mid = c.mid;
  end = c.end;
  terms = λ front t. c.terms front (g.and_fact t is f);
  conds = c.conds;
  more = c.more;
}

parted : (Then : List Placed → Type 0) (p : Placed) (ts rest : List Placed)
    → p.token ≡ token.Keyword keyword.Or → g.IsFact ts rest → IsRestOfCond Then rest
    → IsRestOfCond Then (p ∷ ts)
parted Then p ts rest is f c = record {
  mid = p ∷ ts;
  end = c.end;
  terms = λ front t. t;
  conds = λ front d. c.conds front (g.or_term d is (c.terms ts (g.fact f)));
  more = c.more;
}

-- the condition ends here
pub whole : (Then : List Placed → Type 0) (ts : List Placed) → Then ts → IsRestOfCond Then ts
whole Then ts h = record {
  mid = ts;
  end = ts;
  terms = λ front t. t;
  conds = λ front c. c;
  more = h;
}

cond_of : (Then : List Placed → Type 0) (ts rest : List Placed) → g.IsFact ts rest
    → (c : IsRestOfCond Then rest) → g.IsCond ts c.end
cond_of Then ts rest f c = c.conds ts (g.term (c.terms ts (g.fact f)))

and_ahead : (n : ℕ) (p : Placed) (ts : List Placed) → p.token ≡ token.Keyword keyword.And
    → IsFactAhead n ts → Follows n (p ∷ ts)
and_ahead zero p ts is f = joined IsOffered p ts f.rest is f.fact f.more
and_ahead (suc n) p ts is f =
    joined (λ us. IsClosed (λ vs. Follows n vs) us) p ts f.rest is f.fact f.more

or_ahead : (n : ℕ) (p : Placed) (ts : List Placed) → p.token ≡ token.Keyword keyword.Or
    → IsFactAhead n ts → Follows n (p ∷ ts)
or_ahead zero p ts is f = parted IsOffered p ts f.rest is f.fact f.more
or_ahead (suc n) p ts is f =
    parted (λ us. IsClosed (λ vs. Follows n vs) us) p ts f.rest is f.fact f.more

enclose : (n : ℕ) (p : Placed) (ts end : List Placed) → p.token ≡ token.Open → g.IsCond ts end
    → IsClosed (λ vs. Follows n vs) end → IsFactAhead n (p ∷ ts)
enclose n p ts end is c (closed {ts = us} closes more) = record {
  rest = us;
  fact = g.enclosed is c closes;
  more = more;
}

offered : (p : Placed) (ts : List Placed) → p.token ≡ token.Keyword keyword.When → IsFactAhead 0 ts
    → g.IsRule (p ∷ ts)
offered p ts is f =
    let c : IsRestOfCond IsOffered f.rest = f.more in
    g.stmt (g.when is (cond_of IsOffered ts f.rest f.fact c) c.more.offer) c.more.rule

-- a test that begins with a word
tested : (n : ℕ) (k : TestKind) (p : Placed) (ts : List Placed)
    → p.token ≡ token.Keyword (row k).word → Completes (state (rest_phrase k) (AtOperator n)) ts
    → IsFactAhead n (p ∷ ts)
tested n k p ts is h = record {
  rest = h.rest;
  fact = g.leaf (g.of k (worded (row k).word (rest_phrase k) p ts h.rest is h.phrase));
  more = h.more;
}

kind_back : (n : ℕ) (t : Token) (o : Option TestKind) (p : Placed) (ts : List Placed)
    → kind_of t ≡ o → p.token ≡ t → CompletesIf (test_step n o) ts → IsFactAhead n (p ∷ ts)
kind_back n t None p ts kind is h = absurd h
kind_back n t (Some k) p ts kind is h = tested n k p ts (is ∙ kind_word t k kind) h

denied : (n : ℕ) (p : Placed) (ts : List Placed) → p.token ≡ token.Keyword keyword.Not
    → IsFactAhead n ts → IsFactAhead n (p ∷ ts)
denied n p ts is f = record { rest = f.rest; fact = g.denied is f.fact; more = f.more }

in_parentheses : (n : ℕ) (p : Placed) (ts : List Placed) → p.token ≡ token.Open
    → IsFactAhead (suc n) ts → IsFactAhead n (p ∷ ts)
in_parentheses n p ts is f =
    let Then = λ (us : List Placed). IsClosed (λ (vs : List Placed). Follows n vs) us in
    let c : IsRestOfCond Then f.rest = f.more in
    enclose n p ts c.end is (cond_of Then ts f.rest f.fact c) c.more

statement_back : (t : Token) (p : Placed) (ts : List Placed) → p.token ≡ t
    → CompletesIf (place_step AtStatement t) ts → g.IsRule (p ∷ ts)
statement_back (token.Keyword keyword.Count) p ts is h =
    g.stmt (g.count (worded keyword.Count (tail count_phrase) p ts h.rest is h.phrase)) h.more
statement_back (token.Keyword keyword.When) p ts is h = offered p ts is (here (AtFact 0) ts h)
statement_back (token.Keyword keyword.Otherwise) p ts is h =
    g.otherwise (worded keyword.Otherwise (tail otherwise_phrase) p ts h.rest is h.phrase)
statement_back t p ts is h = absurd h

fact_back : (n : ℕ) (t : Token) (p : Placed) (ts : List Placed) → p.token ≡ t
    → CompletesIf (place_step (AtFact n) t) ts → IsFactAhead n (p ∷ ts)
fact_back n (token.Keyword keyword.Not) p ts is h = denied n p ts is (here (AtFact n) ts h)
fact_back n token.Open p ts is h = in_parentheses n p ts is (here (AtFact (suc n)) ts h)
fact_back n t p ts is h = kind_back n t (kind_of t) p ts refl is h

operator_back : (n : ℕ) (t : Token) (p : Placed) (ts : List Placed) → p.token ≡ t
    → CompletesIf (place_step (AtOperator n) t) ts → Follows n (p ∷ ts)
operator_back n (token.Keyword keyword.And) p ts is h = and_ahead n p ts is (here (AtFact n) ts h)
operator_back n (token.Keyword keyword.Or) p ts is h = or_ahead n p ts is (here (AtFact n) ts h)
operator_back (suc n) token.Close p ts is h =
    whole (λ us. IsClosed (λ vs. Follows n vs) us) (p ∷ ts) (closed is (here (AtOperator n) ts h))
operator_back zero (token.Keyword keyword.Offer) p ts is h = whole IsOffered (p ∷ ts) (record {
  rest = h.rest;
  offer = worded keyword.Offer (tail offer_phrase) p ts h.rest is h.phrase;
  rule = h.more;
})
operator_back n t p ts is h = absurd h

place_back : (l : Place) (p : Placed) (ts : List Placed) → CompletesIf (place_step l p.token) ts
    → GoesOn l (p ∷ ts)
place_back AtStatement p ts h = statement_back p.token p ts refl h
place_back (AtFact n) p ts h = fact_back n p.token p ts refl h
place_back (AtOperator n) p ts h = operator_back n p.token p ts refl h
place_back AtEnd p ts h = tt

needs_back : (b : Bool) (w : Want) (ws : Phrase) (l : Place) (p : Placed) (ts : List Placed)
    → takes w p.token ≡ b → CompletesIf (if b then Some (state ws l) else None) ts
    → Completes (state (Needs w ws) l) (p ∷ ts)
needs_back true w ws l p ts e h = record {
  rest = h.rest;
  phrase = taken w ws p ts h.rest e h.phrase;
  more = h.more;
}
needs_back false w ws l p ts e h = absurd h

-- what follows an optional part
abbrev pub given_or : Bool → (given without : Phrase) → Placed → List Placed
    → OrFault (List Placed)
given_or b given without p ts = if b then tokens_after given ts else tokens_after without (p ∷ ts)

maybe_back : (b : Bool) (w : Want) (given without : Phrase) (l : Place) (p : Placed)
    (ts : List Placed) → takes w p.token ≡ b
    → (CompletesIf (wants_step without l p.token) ts → Completes (state without l) (p ∷ ts))
    → CompletesIf (if b then Some (state given l) else wants_step without l p.token) ts
    → Completes (state (Maybe w given without) l) (p ∷ ts)
maybe_back true w given without l p ts e go h = record {
  rest = h.rest;
  phrase = ap (λ (b : Bool). given_or b given without p ts) e ∙ h.phrase;
  more = h.more;
}
maybe_back false w given without l p ts e go h =
    let c = go h in
    record {
      rest = c.rest;
      phrase = ap (λ (b : Bool). given_or b given without p ts) e ∙ c.phrase;
      more = c.more;
    }

wants_back : (ws : Phrase) (l : Place) (p : Placed) (ts : List Placed)
    → CompletesIf (wants_step ws l p.token) ts → Completes (state ws l) (p ∷ ts)
wants_back Ends l p ts h = record { rest = p ∷ ts; phrase = refl; more = place_back l p ts h }
wants_back (Needs w ws) l p ts h = needs_back (takes w p.token) w ws l p ts refl h
wants_back (Maybe w given without) l p ts h =
    maybe_back (takes w p.token) w given without l p ts refl (λ k. wants_back without l p ts k) h

back_by : (o : Option State) (q ts : List Placed) → ((y : State) → CompletesIf (runs y q) ts
    → Completes y (q ++ ts)) → CompletesIf (option_and_then (λ y. runs y q) o) ts
    → CompletesIf o (q ++ ts)
back_by None q ts go h = h
back_by (Some y) q ts go h = go y h

pub runs_back : (x : State) (q ts : List Placed) → CompletesIf (runs x q) ts
    → Completes x (q ++ ts)
runs_back x [] ts h = h
runs_back x (p ∷ q) ts h =
    wants_back x.wants x.place p (q ++ ts) (back_by (step x p.token) q ts (λ y k. runs_back y q ts
    k) h)
