use Rattle.std.proofs.Common.{arith}
use Rattle.rule_compile.proofs.Slots.{length_code}
use Rattle.rule_compile.proofs.code.Code.len.Goals as goal

pub returns-clause-length : goal.returns-clause-length
returns-clause-length c =
    let long = length_code c.self.inside.slots.items in
    rw (← c.self.view_is) (omega (arith, long, c.len.ensures, c.self.inside.slots.ok))
