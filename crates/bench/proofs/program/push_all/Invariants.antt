use Rattle.std.proofs.Common.{◌≡◌, ◌++◌, take}
use Rattle.bpf_insn.specs.Program.{encodings}
use Rattle.bench.proofs.program.push_all.Given as goal

abbrev pub invariant-loop-insn : goal.invariant-loop-insn
invariant-loop-insn l = l.bytes.items ≡ l.fn.bytes.items ++ encodings (take l.insn-index l.insns)
