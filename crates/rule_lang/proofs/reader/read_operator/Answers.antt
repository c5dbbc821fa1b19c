use Rattle.std.proofs.Common.{rules, ◌≡◌, List, [], ap, sym, subst}
use Rattle.rule_lang.specs.declared.condition.Step.{Step}
use Rattle.rule_lang.specs.Reader.Drafts.{Pending, term_done}
use Rattle.rule_lang.specs.Named.{pending_as_lists}
use Rattle.rule_lang.specs.Trees.{IsCondition}
use Rattle.rule_lang.proofs.Sounds.{ends_whole}
use Rattle.rule_lang.proofs.reader.read_operator.Goals as goal

pub read_offer-requires : goal.read_offer-requires
read_offer-requires c = λ clean.
    let p = pending_as_lists c.args.draft.now.condition in
    let ended : (p.below ≡ []) × (pending_as_lists c.end.new.pending ≡ term_done p) =
    search rules in
    subst (λ (xs : List Step). IsCondition xs) (sym (ap (λ (q : Pending). q.steps) ended.1))
    (ends_whole p (c.requires.sound clean) ended.0)
