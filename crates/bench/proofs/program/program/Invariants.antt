use Rattle.std.proofs.Common.{◌≡◌, ◌++◌}
use Rattle.bpf_insn.specs.Program.{encodings}
use Rattle.bench.specs.Patterns.{opening, blocks}
use Rattle.bench.proofs.program.program.Given as goal

abbrev pub invariant-loop-k : goal.invariant-loop-k
invariant-loop-k l = l.bytes.items ≡ encodings (opening ++ blocks l.pattern l.count l.k)
