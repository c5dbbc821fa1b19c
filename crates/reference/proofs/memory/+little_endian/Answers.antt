use Rattle.std.proofs.Common.{◌<◌, get_or, arith, rules}
use Rattle.reference.proofs.Bytes.{one_byte_more}
use Rattle.reference.proofs.memory.«+little_endian».Goals as goal

pub overflow_mul-result : goal.overflow_mul-result
overflow_mul-result t c =
    let rest = c.little_endian in
    let fits = one_byte_more _ rest.result 0 (search rules) rest.ensures.in_range (omega arith) in
    omega (arith, fits)

pub overflow_add-result : goal.overflow_add-result
overflow_add-result t c =
    let rest = c.little_endian in
    let first = get_or c.args.bytes.now 0 0 in
    let byte : first < 256 = omega (arith, c.type_inv.bytes 0) in
    let fits = one_byte_more _ rest.result first (search rules) rest.ensures.in_range byte in
    omega (arith, fits)
