use Rattle.std.proofs.Common.{◌≡◌, ◌∙◌, ap, subst, sym, ℕ, List, Option, Some}
use Rattle.std.specs.Option.{option_copied}
use Rattle.cli_manifests.specs.Simulations.{HasReport}
use Rattle.cli_manifests.proofs.simulating.output_of_files.Goals as goal

pub returns-in-Ok-output_against-clause-output : goal.returns-in-Ok-output_against-clause-output
returns-in-Ok-output_against-clause-output g c =
    let known = g.D.Disk.known c.args.disk.now in
    let options = c.args.options.now in
    let against : option_copied options.against ≡ Some c.in-Some.path.now =
    ap option_copied c.in-Some.is in
    let has = sym c.lacks_app.ensures ∙ c.if-lacks_app.false in
    let output = c.in-Ok-output_against.output in
    subst (λ (other : Option (List ℕ)). HasReport known other c.args.client.now options output)
    (sym against) (
      c.in-Ok.rules,
      (c.in-Ok.ensures.rules, has),
      c.in-Ok-load_alone.serving,
      c.in-Ok-load_alone.ensures.rules,
      c.in-Ok-output_against.ensures,
    )
