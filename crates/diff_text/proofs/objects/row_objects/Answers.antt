use Rattle.std.proofs.Common.{◌∙◌, List, ap}
use Rattle.serde_json.specs.Data.{Data}
use Rattle.serde_json.specs.View.{items_of}
use Rattle.serde_json.specs.Written.{items_have_float}
use Rattle.diff_text.proofs.Floatless.{rows}
use Rattle.diff_text.proofs.objects.row_objects.Goals as goal

pub returns-clause-floats : goal.returns-clause-floats
returns-clause-floats c =
    ap (λ (vs : List Data). items_have_float (items_of vs)) c.in_ok-values.ensures
    ∙ rows c.deref.result.now
