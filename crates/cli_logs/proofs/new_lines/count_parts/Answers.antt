use Rattle.std.proofs.Common.{◌≡◌, ◌∙◌, refl, sym, true, false}
use Rattle.cli_logs.proofs.Logs.{more_logs, no_logs}
use Rattle.cli_logs.proofs.new_lines.count_parts.Goals as goal
use Rattle.cli_logs.proofs.new_lines.count_parts.Goals.{then-is_read, else-is_read}

pub loop-path-init : goal.loop-path-init
loop-path-init g c = (
  no_logs c.args.window.now c.args.report.now,
  c.keeping_is_transitive.ensures.none c.args.old.items,
  λ none. refl,
)

pub loop-path-preserved : goal.loop-path-preserved
loop-path-preserved g c = (
  more_logs c.args.window.now c.loop-path.path-index 1 c.args.report.now c.loop-path.report
      c.count_part.new.report c.loop-path.invariant.0 c.in-Ok.ensures.counts,
  c.keeping_is_transitive.ensures.both c.args.old.items c.loop-path.places.items
      c.in-Ok.more.places.items c.loop-path.invariant.1 c.in-Ok.ensures.keeps,
  elim c.if-is_read.branch [
    | then-is_read w ↦ λ e.
        let b : true ≡ false = sym w.if-is_read.true ∙ sym w.is_read-is ∙ e in cc
    | else-is_read w ↦ λ e. c.in-Ok.ensures.same (sym w.is_read-is ∙ e)
        ∙ c.loop-path.invariant.2 w.if-is_read.false
  ],
)
