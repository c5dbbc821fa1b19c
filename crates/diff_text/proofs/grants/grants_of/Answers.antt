use Rattle.std.proofs.Common.{◌∙◌, IfSome, Option, ap, arith, map, string_bytes, subst, sym}
use Rattle.std.specs.Prelude.{String}
use Rattle.std.specs.declared.alloc.Global.{Global}
use Rattle.std.proofs.lemmas.List.{map-append}
use Rattle.diff_text.specs.Grants.{IsGrantText}
use Rattle.diff_text.proofs.Texts.{grants_end, grants_on}
use Rattle.diff_text.proofs.grants.grants_of.Goals as goal

pub loop-left-preserved-in_ok-push : goal.loop-left-preserved-in_ok-push
loop-left-preserved-in_ok-push c = λ x lines.
    let old = c.args.old.now in
    let new = c.args.new.now in
    let ds = c.args.dimensions.now in
    let set = c.set-item.result in
    grants_on old new x ds c.args.sets.now c.loop-left.left.now set
    (map string_bytes c.loop-left.texts.items) (map string_bytes c.push.new.self.items)
    (string_bytes c.in-Some.text) (omega arith) c.set-item.is
    (sym c.is_grant.ensures ∙ c.if-is_grant.true) (c.loop-left.invariant x lines)
    (subst (λ (o : Option (String Global)). IfSome o
    (λ t. IsGrantText old new x ds set (string_bytes t))) c.in-Some.is
    (c.in_ok-text.ensures x lines))
    (ap (map string_bytes) c.in_ok-push.ensures.items
    ∙ map-append string_bytes c.loop-left.texts.items _)

pub returns : goal.returns
returns c = λ x lines.
    grants_end c.args.old.now c.args.new.now x c.args.dimensions.now c.args.sets.now
    c.loop-left.left.now (map string_bytes c.loop-left.texts.items) (omega arith)
    (c.loop-left.invariant x lines)
