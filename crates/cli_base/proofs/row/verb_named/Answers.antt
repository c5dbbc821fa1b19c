use Rattle.std.proofs.Common.{◌≡◌, ◌∙◌, subst, sym, arith, false}
use Rattle.std.specs.Str.{bytes_eq}
use Rattle.cli_base.specs.declared.row.CommandRow.{CommandRow}
use Rattle.cli_base.proofs.Found.{passed}
use Rattle.cli_base.proofs.row.verb_named.Goals as goal

pub loop-left-preserved : goal.loop-left-preserved
loop-left-preserved g c =
    let name = c.args.name.now in
    passed name c.loop-left.left.now c.args.rows.now c.row-item.result (omega arith)
    (subst (λ (row : CommandRow _). bytes_eq name row.name.now ≡ false) c.row-item.is
    (sym c.is_named.ensures ∙ c.if-is_named.false)) c.loop-left.invariant
