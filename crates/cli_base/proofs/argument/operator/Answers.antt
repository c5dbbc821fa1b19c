use Rattle.std.proofs.Common.{◌∙◌, ap, [], ◌∷◌, ◌++◌, codes}
use Rattle.std.proofs.lemmas.Result.{IfOk-weaker}
use Rattle.clap.specs.Words.{Rule}
use Rattle.cli_base.proofs.Aliased.{stays_local, with_alias}
use Rattle.cli_base.proofs.argument.operator.Goals as goal

pub returns : goal.returns
returns c = record {
  rule = IfOk-weaker _ _ _ (λ arg adds. with_alias c.number.result arg _ adds
      ∙ ap (λ (r : Rule). record r { aliases = r.aliases ++ codes "operator-port" ∷ [] })
      c.number.ensures.rule) c.alias.ensures;
  local = IfOk-weaker _ _ _ (λ arg adds.
      stays_local c.number.result arg _ adds c.number.ensures.local) c.alias.ensures;
}
