use Rattle.cli_base.proofs.values.shape_of.Goals as goal

pub returns-in_default-clause-lacking : goal.returns-in_default-clause-lacking
returns-in_default-clause-lacking c fault wrong shape has =
    c.in_default.ensures.lacking shape.releases has.0
