use Rattle.std.proofs.Common.{◌≡◌, IfSome, List, Option, false, rules, subst}
use Rattle.std.specs.Prelude.{Ok}
use Rattle.rule_lang.specs.Verdicts.{IsVerdict}
use Rattle.rule_lang.specs.declared.rule.Statement.{Statement}
use Rattle.diff_text.specs.Conditions.{IsMeant, has_comment, offer_if, one_release, tested_sets}
use Rattle.diff_text.proofs.Matched.{reads_so}
use Rattle.diff_text.proofs.read_back.reads_back.Goals as goal

pub returns : goal.returns
returns c = λ x lines is.
    let ds = c.args.dimensions.now in
    let sets = tested_sets ds c.args.sets.now in
    let text = c.args.condition.now in
    let plain : has_comment false text ≡ false = search rules in
    reads_so x ds sets text c.in-Some.rule plain
    (subst (λ (o : Option (List Statement)). IfSome o
    (λ r. IsVerdict one_release (offer_if text) (Ok r))) c.in-Some.is c.in_ok-rule.ensures)
    (subst (IsMeant x ds sets) c.statements.ensures (c.in_ok-ok.ensures x lines is))
