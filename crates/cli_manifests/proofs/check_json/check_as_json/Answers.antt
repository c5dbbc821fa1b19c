use Rattle.cli_manifests.proofs.CheckFloatless.{of_checks}
use Rattle.cli_manifests.proofs.check_json.check_as_json.Goals as goal

pub json_line-line-requires : goal.json_line-line-requires
json_line-line-requires g c = rw c.in_ok-value.ensures
    (of_checks _ c.args.strict c.args.allowed.now c.args.paths.now _ _ c.in_ok-objects.ensures)
