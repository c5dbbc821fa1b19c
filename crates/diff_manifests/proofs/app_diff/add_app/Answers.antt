use Rattle.std.proofs.Common.{rules, ◌≡◌, true, option_copied}
use Rattle.diff_manifests.specs.Reports.{is_reported}
use Rattle.diff_manifests.proofs.Reported.{adds_one}
use Rattle.diff_manifests.proofs.app_diff.add_app.Goals as goal

pub returns : goal.returns
returns c =
    let reported : is_reported (option_copied c.args.only) c.args.appid.now ≡ true = search rules in
    adds_one c.args.both.now c.args.within.now.from_day c.args.within.now.used.now
    (option_copied c.args.only) c.args.appid.now c.args.diffs.now.items c.push.new.self.items
    c.in_ok-diff.diff c.in_ok-push.ensures.items reported c.in_ok-diff.ensures.appid
    c.in_ok-diff.ensures.diff
