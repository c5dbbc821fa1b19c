use Rattle.std.proofs.Common.{◌∙◌, length, length-append, refl, sym, ap, arith, rules}
use Rattle.load.proofs.Failing.{failed_more, none_failed}
use Rattle.load.proofs.Gathers.{read_all, read_enough, read_more, read_none}
use Rattle.load.proofs.Slices.{none_left}
use Rattle.load.proofs.sources.collect_apps.Goals as goal

pub loop-entry-init : goal.loop-entry-init
loop-entry-init g c =
    let gives = c.into_iter-entry-iterator.ensures.into_iter_gives in
    let empty = c.new-apps.ensures.items in (
      refl,
      read_none _ _ _ _ _ _ gives.0 empty,
      omega (arith, c.len-count.ensures, c.args.entries.ok.0, ap length gives.0, ap length empty),
      gives.1 ∙ c.args.entries.ok.0 ∙ ap length (sym gives.0),
      none_failed _ _ empty,
    )

pub returns-then-long-gt-MOST_LONG-clause-known : goal.returns-then-long-gt-MOST_LONG-clause-known
returns-then-long-gt-MOST_LONG-clause-known g c = c.loop-entry.invariant.0

pub returns-then-long-gt-MOST_LONG-clause-apps : goal.returns-then-long-gt-MOST_LONG-clause-apps
returns-then-long-gt-MOST_LONG-clause-apps g c =
    let i = c.loop-entry.invariant in
    read_enough _ _ _ _ _ _ _ i.1 _ c.if-long-gt-MOST_LONG.true (search rules)

pub returns-then-long-gt-MOST_LONG-clause-count : goal.returns-then-long-gt-MOST_LONG-clause-count
returns-then-long-gt-MOST_LONG-clause-count g c = c.loop-entry.invariant.4

pub loop-entry-preserved : goal.loop-entry-preserved
loop-entry-preserved g c =
    let i = c.loop-entry.invariant in
    let left = c.in-Some.ensures.steps.0 in
    let more = c.in-Ok-push.ensures.items in (
      c.collect_app.ensures.known ∙ i.0,
      read_more _ _ _ _ _ _ _ i.1 c.in-Some.entry _ c.in-Ok.app _ _ left
          (omega (arith, c.if-long-gt-MOST_LONG.false)) (rw i.0 at c.in-Ok.ensures.app) more
          (omega (arith, c.long_count-long.ensures.count)),
      omega (arith, i.2, ap length left, ap length more ∙ length-append c.loop-entry.apps.items _),
      search rules,
      failed_more _ _ _ _ _ c.in-Ok.app i.4 c.in-Ok.ensures.count more,
    )

pub returns-clause-known : goal.returns-clause-known
returns-clause-known g c = c.loop-entry.invariant.0

pub returns-clause-apps : goal.returns-clause-apps
returns-clause-apps g c =
    let i = c.loop-entry.invariant in
    read_all _ _ _ _ _ _ _ i.1
    (none_left _ (omega (arith, i.3, c.in-None.ensures.steps.0)))

pub returns-clause-count : goal.returns-clause-count
returns-clause-count g c = c.loop-entry.invariant.4
