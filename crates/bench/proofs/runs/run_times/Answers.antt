use Rattle.std.proofs.Common.{ℕ, ◌+◌, ◌%◌, ◌<◌, length, map, ap, rules, arith}
use Rattle.bench.specs.declared.runs.RunTotals.{RunTotals}
use Rattle.bench.specs.Runs as runs
use Rattle.bench.proofs.Apps.{app_at, run_added}
use Rattle.bench.proofs.runs.run_times.Goals as goal

pub loop-n-init : goal.loop-n-init
loop-n-init c =
    record { zero = search rules; runs = rw c.fnv1a.ensures runs.none; bound = omega arith }

pub loop-n-preserved : goal.loop-n-preserved
loop-n-preserved c =
    let within : c.loop-n.n % 10 < length c.args.apps.now = omega arith in
    let app =
    app_at (λ a. a.value) c.args.apps.now (c.loop-n.n % 10)
    c.index-apps-n.result within c.index-apps-n.is in
    let tally : ℕ → RunTotals = λ h. record {
      instructions = c.loop-n.tally.instructions + c.in_ok-choice.count;
      choices = h;
    } in
    record {
      zero = c.loop-n.invariant.zero;
      runs = run_added c.args.program.now.value (map (λ a. a.value) c.args.apps.now)
          c.in-Ok.pass c.loop-n.pass c.run_once.new.pass
          c.loop-n.n c.in_ok-choice.choice c.in_ok-choice.count
          c.loop-n.tally (tally c.hash_more.result) c.index-apps-n.result.value
          c.loop-n.invariant.runs app c.in_ok-choice.ensures.runs (ap tally c.hash_more.ensures);
      bound = omega (arith, c.in_ok-choice.ensures.short);
    }
