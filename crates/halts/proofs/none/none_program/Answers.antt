use Rattle.std.proofs.Common.{refl}
use Rattle.halts.specs.None.{none_code}
use Rattle.halts.proofs.Accepted.{accepted_as, of_parts, passes}
use Rattle.halts.proofs.none.none_program.Goals as goal

pub proved-requires : goal.proved-requires
proved-requires c =
    accepted_as c.in-Ok.flow c.args.shape.now (c.in-Ok.ensures.only none_code (passes _ refl))

pub returns : goal.returns
returns c =
    of_parts c.in-Ok.flow c.args.shape.now c.proved.result
    (c.in-Ok.ensures.only none_code (passes _ refl)) c.proved.ensures
