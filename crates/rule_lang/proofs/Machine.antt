-- A machine that takes the tokens of a rule one by one: which tokens may come next, and how the
-- grammar continues from there.
use Rattle.std.proofs.Common.{◌≡◌, ℕ, zero, suc, List, [], ◌∷◌, ◌++◌, Option, Some, None, Ok}
use Rattle.std.proofs.Common.{if◌then◌else◌, refl}
use Rattle.std.specs.Option.{option_and_then}
use Rattle.rule_lang.specs.declared.keyword.Keyword.TheVariants as keyword
use Rattle.rule_lang.specs.declared.test_table.TestKind.{TestKind}
use Rattle.rule_lang.specs.declared.token.Token.TheVariants as token
use Rattle.rule_lang.specs.Grammar as g
use Rattle.rule_lang.specs.Lexed.{Placed}
use Rattle.rule_lang.specs.Phrases.{Phrase, Ends, Needs, Maybe, takes, tokens_after}
use Rattle.rule_lang.specs.Phrases.{count_phrase, offer_phrase, otherwise_phrase}
use Rattle.rule_lang.specs.Tests.{rest_phrase, kind_of}
use Rattle.rule_lang.specs.Tokens.{Token}

-- ---- the machine

-- the number of open parentheses
pub data Place : Type 0 where
  AtStatement : Place
  AtFact : (parentheses : ℕ) → Place
  AtOperator : (parentheses : ℕ) → Place
  AtEnd : Place

-- within a phrase: the rest of the phrase, and the place after it
pub record State : Type 0 where
  pub wants : Phrase
  pub place : Place

abbrev pub state : Phrase → Place → State
state ws l = record { wants = ws; place = l }

abbrev pub at : Place → Option State
at l = Some (state Ends l)

abbrev pub tail : Phrase → Phrase
tail (Needs w ws) = ws
tail ws = ws

abbrev pub phrase : Phrase → Place → Option State
phrase ws l = Some (state (tail ws) l)

-- after the first word of a test
abbrev pub test_step : (parentheses : ℕ) → Option TestKind → Option State
test_step n None = None
test_step n (Some k) = Some (state (rest_phrase k) (AtOperator n))

abbrev pub place_step : Place → Token → Option State
place_step AtStatement (token.Keyword keyword.Count) = phrase count_phrase AtStatement
place_step AtStatement (token.Keyword keyword.When) = at (AtFact 0)
place_step AtStatement (token.Keyword keyword.Otherwise) = phrase otherwise_phrase AtEnd
place_step (AtFact n) (token.Keyword keyword.Not) = at (AtFact n)
place_step (AtFact n) token.Open = at (AtFact (suc n))
place_step (AtFact n) t = test_step n (kind_of t)
place_step (AtOperator n) (token.Keyword keyword.And) = at (AtFact n)
place_step (AtOperator n) (token.Keyword keyword.Or) = at (AtFact n)
place_step (AtOperator (suc n)) token.Close = at (AtOperator n)
place_step (AtOperator zero) (token.Keyword keyword.Offer) = phrase offer_phrase AtStatement
place_step AtEnd t = at AtEnd
place_step l t = None

abbrev pub wants_step : Phrase → Place → Token → Option State
wants_step Ends l t = place_step l t
wants_step (Needs w ws) l t = if takes w t then Some (state ws l) else None
wants_step (Maybe w given without) l t =
    if takes w t then Some (state given l) else wants_step without l t

abbrev pub step : State → Token → Option State
step x t = wants_step x.wants x.place t

abbrev pub runs : State → List Placed → Option State
runs x [] = Some x
runs x (p ∷ ts) = option_and_then (λ y. runs y ts) (step x p.token)

abbrev pub start : State
start = state Ends AtStatement

runs_by : (o : Option State) (xs ys : List Placed) → ((y : State) → runs y (xs ++ ys)
    ≡ option_and_then (λ z. runs z ys) (runs y xs)) → option_and_then (λ y. runs y (xs ++ ys)) o
    ≡ option_and_then (λ z. runs z ys) (option_and_then (λ y. runs y xs) o)
runs_by None xs ys h = refl
runs_by (Some y) xs ys h = h y

pub runs_append : (x : State) (xs ys : List Placed)
    → runs x (xs ++ ys) ≡ option_and_then (λ y. runs y ys) (runs x xs)
runs_append x [] ys = refl
runs_append x (p ∷ xs) ys = runs_by (step x p.token) xs ys (λ y. runs_append y xs ys)

-- ---- continuations of a place

-- the rest of a term, or of a condition, after every prefix
abbrev pub TermGoesOn : List Placed → List Placed → Type 0
TermGoesOn ts rest = (front : List Placed) → g.IsTerm front ts → g.IsTerm front rest

abbrev pub CondGoesOn : List Placed → List Placed → Type 0
CondGoesOn ts rest = (front : List Placed) → g.IsCond front ts → g.IsCond front rest

-- the rest of a condition, and what follows it
pub record IsRestOfCond (Then : List Placed → Type 0) (ts : List Placed) : Type 0 where
  pub mid : List Placed
  pub end : List Placed
  pub terms : TermGoesOn ts mid
  pub conds : CondGoesOn mid end
  pub more : Then end

pub record IsOffered (ts : List Placed) : Type 0 where
  pub rest : List Placed
  pub offer : g.IsPhrase offer_phrase ts rest
  pub rule : g.IsRule rest

pub data IsClosed (Then : List Placed → Type 0) : List Placed → Type 0 where
  closed : {p : Placed} {ts : List Placed} → p.token ≡ token.Close → Then ts
      → IsClosed Then (p ∷ ts)

-- after a fact inside n parentheses
abbrev pub Follows : ℕ → List Placed → Type 0
Follows zero ts = IsRestOfCond IsOffered ts
Follows (suc n) ts = IsRestOfCond (λ us. IsClosed (λ vs. Follows n vs) us) ts

pub record IsFactAhead (n : ℕ) (ts : List Placed) : Type 0 where
  pub rest : List Placed
  pub fact : g.IsFact ts rest
  pub more : Follows n rest

abbrev pub GoesOn : Place → List Placed → Type 0
GoesOn AtStatement ts = g.IsRule ts
GoesOn (AtFact n) ts = IsFactAhead n ts
GoesOn (AtOperator n) ts = Follows n ts
GoesOn AtEnd ts = Unit {0}

pub record Completes (x : State) (ts : List Placed) : Type 0 where
  pub rest : List Placed
  pub phrase : tokens_after x.wants ts ≡ Ok rest
  pub more : GoesOn x.place rest

abbrev pub CompletesIf : Option State → List Placed → Type 0
CompletesIf None ts = ⊥
CompletesIf (Some x) ts = Completes x ts
