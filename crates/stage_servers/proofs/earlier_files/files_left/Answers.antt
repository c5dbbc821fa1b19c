use Rattle.stage_servers.proofs.Earlier.{all_at}
use Rattle.stage_servers.proofs.earlier_files.files_left.Goals as goal

pub returns : goal.returns
returns c =
    all_at c.args.steps.now c.args.first c.args.count _ _ _ _ _ _ _ _ c.parts_at.ensures.before
    c.parts_at.ensures.after c.parts_at-2.ensures.before c.parts_at-2.ensures.after
    c.new-files.ensures.items c.in_ok-add_all_left.ensures c.in_ok-add_found.ensures
    c.in_ok-add_left.ensures
