use Rattle.std.specs.Vec.{vec_items}
use Rattle.bpf_text.proofs.Passes.{text_bytes, text_fault}
use Rattle.bpf_text.proofs.assembler.assembled.Goals as goal

pub returns-clause-bytes : goal.returns-clause-bytes
returns-clause-bytes c =
    text_bytes vec_items c.args.text.now c.in_ok-reading.reading c.write_bytes.result
    c.in_ok-reading.ensures.whole c.write_bytes.ensures.bytes

pub returns-clause-fault : goal.returns-clause-fault
returns-clause-fault c =
    text_fault c.args.text.now c.in_ok-reading.reading c.write_bytes.result
    c.in_ok-reading.ensures.whole c.write_bytes.ensures.fault
