use Rattle.std.proofs.Common.{List, ℕ, [], ◌++◌, rules, sym, subst, take}
use Rattle.std.specs.Io.KnownBytes.{Consumes, IsAtEnd}
use Rattle.report.specs.Lines.{lines_after}
use Rattle.report.specs.Reading.{CountsLines, ReadsBlock}
use Rattle.report.proofs.Read.{at_none, at_some, consumes_both, consumes_none, log_read}
use Rattle.report.proofs.Read.{reads_both, reads_none}
use Rattle.report.proofs.log_lines.count_by_blocks.Goals as goal

pub loop-init : goal.loop-init
loop-init g c = record {
  seen = [];
  known = consumes_none (g.R.Read.remaining c.args.reader.now);
  reads = subst (λ (b : List ℕ). ReadsBlock c.args.window.now [] [] c.args.report.now b
      c.args.report.now) (sym c.new-begun.ensures.items)
      (reads_none c.args.window.now [] c.args.report.now);
  room = search rules;
}

pub returns-in-None : goal.returns-in-None
returns-in-None g c =
    log_read c.args.window.now _ _ c.loop.invariant.seen c.loop.begun.items c.args.report.now
    c.loop.report c.count_last.new.report c.loop.invariant.known
    (at_none _ (IsAtEnd (g.R.Read.remaining c.loop.reader)) c.in-None.is
    c.in_ok-read.ensures.end)
    c.loop.invariant.reads
    (subst (λ (b : List ℕ). CountsLines c.args.window.now (lines_after b []) c.loop.report
    c.count_last.new.report) c.as_slice.ensures.value c.in_ok-count_last-in-None.ensures)

pub loop-preserved : goal.loop-preserved
loop-preserved g c = record {
  seen = c.loop.invariant.seen ++ take c.in-Some.count c.read_some.new.block;
  known = consumes_both _ _ _ _ _ c.loop.invariant.known
      (at_some _ c.in-Some.count (λ n. Consumes (g.R.Read.remaining c.loop.reader)
      (g.R.Read.remaining c.read_some.new.reader) (take n c.read_some.new.block)) c.in-Some.is
      c.in_ok-read.ensures.some);
  reads = reads_both c.args.window.now _ _ _ _ _ _ _ _ c.loop.invariant.reads
      c.in_ok-count_block-in-Some.ensures;
  room = search rules;
}
