use Rattle.std.proofs.Common.{rules}
use Rattle.bpf_text.specs.Names.{line_named}
use Rattle.bpf_text.proofs.Passes.{next_line}
use Rattle.bpf_text.proofs.assembler.read_text.Goals as goal

pub loop-rest-preserved : goal.loop-rest-preserved
loop-rest-preserved c = record {
  so_far = next_line c.args.text.now c.loop-rest.rest.now c.split_line.result.0.now
      c.split_line.result.1.now c.loop-rest.reading c.add_line.new.reading
      (line_named c.in_ok-line.line) c.split_line.ensures.lines c.in_ok-line.ensures
      c.loop-rest.invariant.so_far c.in_ok-add_line.ensures.on;
  room = search rules;
  small = search rules;
}
