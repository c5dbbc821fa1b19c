use Rattle.std.proofs.Common.{rules, string_bytes}
use Rattle.stage_rules.proofs.LeavingOut.{changed, unchanged}
use Rattle.stage_rules.proofs.release_halt.without_of.Goals as goal

pub returns-then-not-is_offered-clause-without : goal.returns-then-not-is_offered-clause-without
returns-then-not-is_offered-clause-without c =
    unchanged c.args.shape.now c.args.releases.now c.args.version.now c.args.text.now
    (string_bytes c.in_ok-from_str.field-0) c.args.rule.now c.in_ok-from_str.ensures.ok
    c.requires.released c.requires.was (search rules)

pub returns-then-branch-clause-without : goal.returns-then-branch-clause-without
returns-then-branch-clause-without c =
    changed c.args.shape.now c.args.releases.now c.args.version.now c.args.text.now
    (string_bytes c.in_ok-new.new) c.args.rule.now c.requires.released c.requires.was
    c.in_ok-new.ensures
    (rw c.as_str.ensures.value at (c.in_ok-reads_without.ensures c.if-branch.true))
