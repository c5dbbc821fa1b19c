use Rattle.std.proofs.Common.{IfSome, Option, subst}
use Rattle.diff_text.specs.Tables.{IsTestTable, Table}
use Rattle.diff_text.proofs.Made.{tested_is}
use Rattle.diff_text.proofs.parts.tested.Goals as goal

pub returns : goal.returns
returns c = λ line x lines.
    tested_is x c.args.dimensions.now lines line c.args.test.now c.in-Some.table c.in_ok-part.part
    c.in_ok-part.ensures
    (subst (λ (o : Option Table). IfSome o (IsTestTable c.args.dimensions.now c.args.test.now))
    c.in-Some.is c.in_ok-table.ensures)
