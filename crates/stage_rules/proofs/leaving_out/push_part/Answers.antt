use Rattle.std.proofs.Common.{string_bytes}
use Rattle.stage_rules.proofs.LeavingOut.{added, ends_added}
use Rattle.stage_rules.proofs.leaving_out.push_part.Goals as goal

pub returns-then-branch : goal.returns-then-branch
returns-then-branch c =
    ends_added c.args.shape.now c.args.releases.now c.args.version.now c.args.part.now
    (string_bytes c.args.new.now) _ (c.in_ok-is_offer_text.ensures c.if-branch.true)
    c.in_ok-push_line_ends.ensures

pub returns : goal.returns
returns c =
    added c.args.shape.now c.args.releases.now c.args.version.now c.args.part.now
    (string_bytes c.args.new.now) _ c.in_ok-push_str.ensures.bytes
