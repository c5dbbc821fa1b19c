use Rattle.std.proofs.Common.{sym, ◌∙◌}
use Rattle.abs_value.proofs.Settled.{joined_same}
use Rattle.abs_value.proofs.number.Number.stays.Goals as goal

pub returns-then-is_same : goal.returns-then-is_same
returns-then-is_same c settled =
    joined_same c.args.self c.args.other (sym c.is_same.ensures ∙ c.if-is_same.true)
    (c.is_settled.ensures settled)
