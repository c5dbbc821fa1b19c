use Rattle.std.specs.Vec.{vec_items}
use Rattle.bpf_text.proofs.Exact.{bytes_by_tables, faults_by_tables}
use Rattle.bpf_text.proofs.assembler.assemble.Goals as goal

pub returns-clause-bytes : goal.returns-clause-bytes
returns-clause-bytes c =
    rw c.as_bytes.ensures.value at (bytes_by_tables vec_items c.as_bytes.result.now
    c.assembled.result c.assembled.ensures.bytes)

pub returns-clause-fault : goal.returns-clause-fault
returns-clause-fault c =
    rw c.as_bytes.ensures.value
    at (faults_by_tables c.as_bytes.result.now c.assembled.result c.assembled.ensures.fault)
