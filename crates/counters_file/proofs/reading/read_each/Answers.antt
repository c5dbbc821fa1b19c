use Rattle.std.proofs.Common.{◌∙◌, ap, refl, Bool, Some, None}
use Rattle.std.specs.Prelude.{if◌then◌else◌}
use Rattle.counters_file.specs.Lines.{Counters}
use Rattle.counters_file.proofs.ReadOn.{ends, read_one, stops, runs_out, of_line}
use Rattle.counters_file.proofs.reading.read_each.Goals as goal

pub returns-then-is_over-clause-read : goal.returns-then-is_over-clause-read
returns-then-is_over-clause-read c =
    ends (λ line. line.now) c.loop-left.left.now _ _ c.in-len1-up.len_at_least refl
    c.loop-left.invariant _ c.is_over.ensures c.if-is_over.true

pub returns-in-Ok-false-clause-damaged : goal.returns-in-Ok-false-clause-damaged
returns-in-Ok-false-clause-damaged c line same =
    let new : Counters = record {
      arrays = c.add_line.new.directory;
      values = c.add_line.new.values;
    } in
    of_line _ c.loop-left.number line
    (stops (λ line. line.now) c.loop-left.left.now _ _ c.in-len1-up.len_at_least refl
    c.loop-left.invariant _ c.is_over.ensures c.if-is_over.false
    (c.in-Ok-false.ensures.added
    ∙ ap (λ (b : Bool). if b then Some new else None) c.in-Ok-false.field-0-test)) cc

pub loop-left-preserved : goal.loop-left-preserved
loop-left-preserved c =
    let new : Counters = record {
      arrays = c.add_line.new.directory;
      values = c.add_line.new.values;
    } in
    read_one (λ line. line.now) c.loop-left.left.now _ _ c.in-len1-up.len_at_least refl
    c.loop-left.invariant _ c.is_over.ensures c.if-is_over.false new
    (c.in-Ok-true.ensures.added
    ∙ ap (λ (b : Bool). if b then Some new else None) c.in-Ok-true.field-0-test)
    c.in-Ok-true.ensures.cells

pub returns-clause-damaged : goal.returns-clause-damaged
returns-clause-damaged c line same =
    of_line _ c.loop-left.number line
    (runs_out (λ line. line.now) c.loop-left.left.now c.in_default.len_below
    c.loop-left.invariant) cc
