use Rattle.diff_text.proofs.Made.{whole_made}
use Rattle.diff_text.proofs.steps.tables_of.Goals as goal

pub returns : goal.returns
returns c = λ x lines.
    whole_made _ _ x c.args.dimensions.now lines c.args.condition.now c.fold.result c.fold.ensures
