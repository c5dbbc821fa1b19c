-- The verdict on a text, from its tokens.
use Rattle.std.proofs.Common.{◌≡◌, ◌≤◌, inl, inr, List, length, Result, Ok, Err, IfOk, IfErr}
use Rattle.cells.specs.Arrays.{AppShape}
use Rattle.rule_lang.specs.declared.rule_fault.RuleFault.{RuleFault}
use Rattle.rule_lang.specs.Lexed.{Placed, tokens_in, IsTokenFault}
use Rattle.rule_lang.specs.Reader.Results.{IsReadFault}
use Rattle.rule_lang.specs.Tokens.{Text}
use Rattle.rule_lang.specs.Verdicts.{IsRuleFault, no_token}
use Rattle.rule_lang.proofs.Verdicts.{spelled}

pub token_fault : (s : AppShape) (text : Text) (e : RuleFault) → length text ≤ 65536
    → IsTokenFault text e → IsRuleFault s text e
token_fault s text e short (inl m) = inl m
token_fault s text e short (inr h) = inr (no_token short h)

pub read_fault : (s : AppShape) (text : Text) (ts : List Placed) (e : RuleFault)
    → length text ≤ 65536 → tokens_in text ≡ Ok ts → IsReadFault s ts e → IsRuleFault s text e
read_fault s text ts e short lexed (inl m) = inl m
read_fault s text ts e short lexed (inr h) = inr (spelled s text ts (Err e) short lexed h)

pub ok_then : {A E : Type 0} (r : Result A E) (P Q : A → Type 0) → ((a : A) → P a → Q a)
    → IfOk r P → IfOk r Q
ok_then (Ok a) P Q f h = f a h
ok_then (Err e) P Q f h = tt

pub err_then : {A E : Type 0} (r : Result A E) (P Q : E → Type 0) → ((e : E) → P e → Q e)
    → IfErr r P → IfErr r Q
err_then (Ok a) P Q f h = tt
err_then (Err e) P Q f h = f e h
