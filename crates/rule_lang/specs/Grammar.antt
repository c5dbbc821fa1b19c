-- The grammar of rules over a text's tokens, production by production. `IsFact ts rest` says that
-- the tokens ts begin with a fact and that rest follows it; the other relations are alike.
--
--   rule = { stmt } "otherwise" "none" ";"
--   stmt = "count" name "[" num "]" ";" | "when" cond "offer" num ";"
--   cond = term { "or" term }
--   term = fact { "and" fact }
--   fact = "not" fact | "(" cond ")" | test
--   test = "version" rel ver | "bucket" [ "(" num ")" ] [ "mod" num ] rel num
--        | "today" rel num | "installed" rel num | "flag" name
--        | "attr" name "is" text | "take" "(" name "," num ")"
--
-- The words of the grammar aren't names, except `version` after `attr`. `mod` is a name wherever
-- names are allowed.
use Rattle.std.specs.Prelude.{◌≡◌, List, ◌∷◌, ◌++◌, Ok}
use Rattle.rule_lang.specs.declared.keyword.Keyword.TheVariants as keyword
use Rattle.rule_lang.specs.declared.test_table.TestKind.{TestKind}
use Rattle.rule_lang.specs.declared.token.Token.TheVariants as token
use Rattle.rule_lang.specs.Lexed.{Placed}
use Rattle.rule_lang.specs.Phrases.{Phrase, tokens_after, count_phrase, offer_phrase}
use Rattle.rule_lang.specs.Phrases.{otherwise_phrase}
use Rattle.rule_lang.specs.Tests.{test_phrase}

-- a phrase: one token for each of its places, in order
abbrev pub IsPhrase : Phrase → List Placed → List Placed → Type 0
IsPhrase p ts rest = tokens_after p ts ≡ Ok rest

-- a test of some kind, by the table of tests
pub data IsTest : List Placed → List Placed → Type 0 where
  of : (k : TestKind) → {ts rest : List Placed} → IsPhrase (test_phrase k) ts rest
      → IsTest ts rest

mutual
  pub data IsFact : List Placed → List Placed → Type 0 where
    denied : {p : Placed} {ts rest : List Placed} → p.token ≡ token.Keyword keyword.Not
        → IsFact ts rest → IsFact (p ∷ ts) rest
    enclosed : {p q : Placed} {ts rest : List Placed} → p.token ≡ token.Open
        → IsCond ts (q ∷ rest) → q.token ≡ token.Close → IsFact (p ∷ ts) rest
    leaf : {p : Placed} {ts rest : List Placed} → IsTest (p ∷ ts) rest → IsFact (p ∷ ts) rest

  pub data IsTerm : List Placed → List Placed → Type 0 where
    fact : {ts rest : List Placed} → IsFact ts rest → IsTerm ts rest
    and_fact : {p : Placed} {ts mid rest : List Placed} → IsTerm ts (p ∷ mid)
        → p.token ≡ token.Keyword keyword.And → IsFact mid rest → IsTerm ts rest

  pub data IsCond : List Placed → List Placed → Type 0 where
    term : {ts rest : List Placed} → IsTerm ts rest → IsCond ts rest
    or_term : {p : Placed} {ts mid rest : List Placed} → IsCond ts (p ∷ mid)
        → p.token ≡ token.Keyword keyword.Or → IsTerm mid rest → IsCond ts rest

pub data IsStatement : List Placed → List Placed → Type 0 where
  count : {ts rest : List Placed} → IsPhrase count_phrase ts rest → IsStatement ts rest
  when : {p : Placed} {ts mid rest : List Placed} → p.token ≡ token.Keyword keyword.When
      → IsCond ts mid → IsPhrase offer_phrase mid rest → IsStatement (p ∷ ts) rest

-- the last phrase includes the text's end, which is the last token
pub data IsRule : List Placed → Type 0 where
  otherwise : {ts rest : List Placed} → IsPhrase otherwise_phrase ts rest → IsRule ts
  stmt : {ts rest : List Placed} → IsStatement ts rest → IsRule rest → IsRule ts

-- some tokens after these complete a rule
abbrev pub Begins : List Placed → Type 0
Begins ts = (more : List Placed) × IsRule (ts ++ more)
