use Rattle.std.proofs.Common.{rules, arith, ◌≡◌, ◌<◌, ◌≤◌, length, List, Ok, inr, true}
use Rattle.rule_lang.specs.declared.rule_fault.RuleFault.{RuleFault}
use Rattle.rule_lang.specs.declared.rule.Statement.{Statement}
use Rattle.rule_lang.specs.Lexed.{Lexed, tokens_in}
use Rattle.rule_lang.specs.Named.{placed_all}
use Rattle.rule_lang.specs.Reader.Reading.{Reads, first_draft}
use Rattle.rule_lang.specs.Reader.Results.{IsReadFault}
use Rattle.rule_lang.specs.Verdicts.{IsVerdict, IsRuleFault, too_long}
use Rattle.rule_lang.proofs.Verdicts.{spelled}
use Rattle.rule_lang.specs.Fits.{fits}
use Rattle.rule_lang.proofs.PhraseFitting.{rule_fits}
use Rattle.rule_lang.proofs.Parsing.{token_fault, read_fault, ok_then, err_then}
use Rattle.rule_lang.proofs.parser.parse.Goals as goal

pub returns-then-text-gt-MOST_RULE-clause-fault : goal.returns-then-text-gt-MOST_RULE-clause-fault
returns-then-text-gt-MOST_RULE-clause-fault c =
    let long : 65536 < length c.args.text.now = search (rules, arith) in
    inr (too_long long)

pub returns-in-Ok-clause-rule : goal.returns-in-Ok-clause-rule
returns-in-Ok-clause-rule c =
    let s = c.args.shape.now in
    let text = c.args.text.now in
    let ts = placed_all c.as_slice.result.now in
    let short : length text ≤ 65536 = search (rules, arith) in
    let lexed : ◌≡◌ {A = Lexed} (tokens_in text) (Ok ts) = search rules in
    ok_then c.read.result (λ (r : List Statement). Reads s first_draft ts (Ok r)) (λ (r : List
    Statement). IsVerdict s text (Ok r)) (λ r h. spelled s text ts (Ok r) short lexed h)
    c.read.ensures.rule

pub returns-in-Ok-clause-fault : goal.returns-in-Ok-clause-fault
returns-in-Ok-clause-fault c =
    let s = c.args.shape.now in
    let text = c.args.text.now in
    let ts = placed_all c.as_slice.result.now in
    let short : length text ≤ 65536 = search (rules, arith) in
    let lexed : ◌≡◌ {A = Lexed} (tokens_in text) (Ok ts) = search rules in
    err_then c.read.result (λ (e : RuleFault). IsReadFault s ts e) (λ (e : RuleFault).
    IsRuleFault s text e) (λ e h. read_fault s text ts e short lexed h) c.read.ensures.fault

pub returns-in-Err-clause-fault : goal.returns-in-Err-clause-fault
returns-in-Err-clause-fault c =
    let short : length c.args.text.now ≤ 65536 = search (rules, arith) in
    token_fault c.args.shape.now c.args.text.now c.in-Err.fault short (search rules)

pub returns-in-Ok-clause-fits : goal.returns-in-Ok-clause-fits
returns-in-Ok-clause-fits c =
    let s = c.args.shape.now in
    let ts = placed_all c.as_slice.result.now in
    ok_then c.read.result (λ (r : List Statement). Reads s first_draft ts (Ok r)) (λ (r : List
    Statement). fits s r ≡ true) (λ r h. rule_fits s ts r h) c.read.ensures.rule
