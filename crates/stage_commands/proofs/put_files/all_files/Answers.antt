use Rattle.stage_commands.proofs.Put.{files_of}
use Rattle.stage_commands.proofs.put_files.all_files.Goals as goal

pub returns : goal.returns
returns g c =
    files_of _ c.args.manifest.now c.args.apps.now c.in_ok-files.files.items _
    c.in_ok-files.ensures c.in_ok-add_file.ensures
