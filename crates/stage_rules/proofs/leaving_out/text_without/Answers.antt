use Rattle.std.proofs.Common.{rules, string_bytes, subst, sym, List, ℕ}
use Rattle.stage_rules.specs.ReleaseHalts.{IsSoFar, LeavesOut, same}
use Rattle.stage_rules.proofs.leaving_out.text_without.Goals as goal

pub loop-split-init : goal.loop-split-init
loop-split-init c = (search rules, λ next leaves. rw c.new-new.ensures.bytes leaves)

pub loop-split-preserved : goal.loop-split-preserved
loop-split-preserved c =
    let so_far = subst (λ (left : List ℕ). IsSoFar c.args.shape.now c.args.releases.now
    c.args.version.now c.args.text.now left (string_bytes c.loop-split.new))
    c.in-Some.ensures.0 c.loop-split.invariant.1 in
    (search rules, c.in_ok-push_part.ensures c.args.text.now c.in-Some.split.rest.now so_far)

pub returns : goal.returns
returns c =
    subst (λ (whole : List ℕ). LeavesOut c.args.shape.now c.args.releases.now c.args.version.now
    c.args.text.now whole) (sym c.in_ok-push_str.ensures.bytes)
    (c.loop-split.invariant.1 c.loop-split.left.now same)
