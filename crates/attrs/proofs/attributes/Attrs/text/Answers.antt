use Rattle.std.proofs.Common.{[], arith}
use Rattle.std.proofs.lemmas.Grind.{common_steps}
use Rattle.std.proofs.lemmas.Option.{unwrap_or-slice_get}
use Rattle.attrs.proofs.attributes.Attrs.text.Goals as goal

pub returns-in-None : goal.returns-in-None
returns-in-None c =
    let default = unwrap_or-slice_get c.args.self.now.texts c.args.number [] in
    grind (arith, common_steps, default)
