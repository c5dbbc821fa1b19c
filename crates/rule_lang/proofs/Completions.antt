-- In each state of the machine some tokens complete a rule.
use Rattle.std.proofs.Common.{◌≡◌, ℕ, zero, suc, List, [], ◌∷◌, ◌++◌, Option, Some, Ok, Err}
use Rattle.std.proofs.Common.{Bool, true, if◌then◌else◌, refl, sym, ap, ◌∙◌, subst}
use Rattle.rule_lang.specs.declared.phrase.Want.{Want}
use Rattle.rule_lang.specs.declared.phrase.Want.TheVariants as want
use Rattle.rule_lang.specs.declared.test.Comparison.TheVariants as comparison
use Rattle.rule_lang.specs.declared.token.Token.TheVariants as token
use Rattle.rule_lang.specs.Grammar as g
use Rattle.rule_lang.specs.Lexed.{Placed, on}
use Rattle.rule_lang.specs.Phrases.{Phrase, Ends, Needs, Maybe, takes, tokens_after}
use Rattle.rule_lang.specs.Phrases.{misplaced, offer_phrase, otherwise_phrase}
use Rattle.rule_lang.specs.declared.test_table.TestKind.TheVariants as the_kind
use Rattle.rule_lang.specs.Tests.{test_phrase}
use Rattle.rule_lang.specs.Tokens.{Token}
use Rattle.rule_lang.specs.Words.{modulus_word}
use Rattle.rule_lang.proofs.Machine.{Place, AtStatement, AtFact, AtOperator, AtEnd}
use Rattle.rule_lang.proofs.Machine.{State}
use Rattle.rule_lang.proofs.Machine.{runs, start}
use Rattle.rule_lang.proofs.Machine.{Completes, CompletesIf, Follows, GoesOn, IsClosed, closed}
use Rattle.rule_lang.proofs.Machine.{IsOffered}
use Rattle.rule_lang.proofs.StepsBack.{same_word, given_or, whole, here, runs_back}

-- ---- completions

filler : Want → Token
filler (want.Keyword k) = token.Keyword k
filler want.Name = token.Name []
filler want.Attribute = token.Name []
filler want.Number = token.Number []
filler want.Version = token.Number []
filler want.Text = token.Text []
filler want.Comparison = token.Comparison comparison.Lt
filler want.Salt = token.Open
filler want.Modulus = token.Name modulus_word
filler want.Semicolon = token.Semicolon
filler want.Comma = token.Comma
filler want.OpenBracket = token.OpenBracket
filler want.CloseBracket = token.CloseBracket
filler want.Open = token.Open
filler want.Close = token.Close
filler want.End = token.End

taken_filler : (w : Want) → takes w (filler w) ≡ true
unfolding filler
taken_filler (want.Keyword k) = same_word k
taken_filler w = refl

-- with each optional part
abbrev fill : Phrase → List Placed → List Placed
fill Ends ts = ts
fill (Needs w ws) ts = on 0 (filler w) ∷ fill ws ts
fill (Maybe w given without) ts = on 0 (filler w) ∷ fill given ts

filled : (ws : Phrase) (ts : List Placed) → tokens_after ws (fill ws ts) ≡ Ok ts
filled Ends ts = refl
filled (Needs w ws) ts =
    ap (λ (b : Bool). if b then tokens_after ws (fill ws ts) else Err (misplaced 0))
    (taken_filler w)
    ∙ filled ws ts
filled (Maybe w given without) ts =
    ap (λ (b : Bool). given_or b given without (on 0 (filler w)) (fill given ts)) (taken_filler w)
    ∙ filled given ts

pub record Some_of (P : List Placed → Type 0) : Type 0 where
  pub tokens : List Placed
  pub fits : P tokens

a_rule : Some_of (λ ts. g.IsRule ts)
a_rule =
    record { tokens = fill otherwise_phrase []; fits = g.otherwise (filled otherwise_phrase []) }

closing : (n : ℕ) → Some_of (λ ts. Follows n ts)
closing zero = record {
  tokens = fill offer_phrase a_rule.tokens;
  fits = whole IsOffered (fill offer_phrase a_rule.tokens) (record {
    rest = a_rule.tokens;
    offer = filled offer_phrase a_rule.tokens;
    rule = a_rule.fits;
  });
}
closing (suc n) =
    let inner = closing n in
    let ts = on 0 token.Close ∷ inner.tokens in
    record {
      tokens = ts;
      fits = whole (λ us. IsClosed (λ vs. Follows n vs) us) ts (closed refl inner.fits);
    }

from_place : (l : Place) → Some_of (λ ts. GoesOn l ts)
from_place AtStatement = a_rule
from_place (AtFact n) =
    let rest = closing n in
    record {
      tokens = fill (test_phrase the_kind.Flag) rest.tokens;
      fits = record {
        rest = rest.tokens;
        fact = g.leaf (g.of the_kind.Flag (filled (test_phrase the_kind.Flag) rest.tokens));
        more = rest.fits;
      };
    }
from_place (AtOperator n) = closing n
from_place AtEnd = record { tokens = []; fits = tt }

pub completion : (x : State) → Some_of (λ ts. Completes x ts)
completion x =
    let rest = from_place x.place in
    record {
      tokens = fill x.wants rest.tokens;
      fits = record {
        rest = rest.tokens;
        phrase = filled x.wants rest.tokens;
        more = rest.fits;
      };
    }

-- if the machine takes all tokens so far, they begin a rule
pub begun : (before : List Placed) (x : State) → runs start before ≡ Some x → g.Begins before
begun before x is =
    let c = completion x in
    let completes : CompletesIf (runs start before) c.tokens = subst (λ (o : Option State).
    CompletesIf o c.tokens) (sym is) c.fits in
    (c.tokens, here AtStatement (before ++ c.tokens) (runs_back start before c.tokens completes))
