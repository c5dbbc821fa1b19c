use Rattle.std.proofs.Common.{rules}
use Rattle.bpf_insn.proofs.Bytes.{split_is}
use Rattle.bpf_insn.proofs.layout.split_fields.Goals as goal

pub returns-clause-bytes : goal.returns-clause-bytes
returns-clause-bytes c = split_is c.args.bytes.now c.from_le_bytes.result c.from_le_bytes-2.result
    (search rules) (search rules) c.from_le_bytes.ensures c.from_le_bytes-2.ensures
