use Rattle.std.proofs.Common.{refl}
use Rattle.bpf_text.proofs.Splitting.{line_first, line_last}
use Rattle.bpf_text.proofs.line.split_line.Goals as goal

pub returns-then-n-text-clause-lines : goal.returns-then-n-text-clause-lines
returns-then-n-text-clause-lines c = rw c.without_return.ensures (line_first c.args.text.now _
    c.line_length-n.result c.line_length-n.ensures.is c.if-n-text.true refl)

pub returns-else-n-text-clause-lines : goal.returns-else-n-text-clause-lines
returns-else-n-text-clause-lines c = line_last c.args.text.now _ c.line_length-n.result
    c.line_length-n.ensures.is c.if-n-text.false c.requires refl
