use Rattle.std.proofs.Common.{rules}
use Rattle.stage_folder.proofs.Reading.{all_recorded}
use Rattle.stage_folder.proofs.records.recorded_steps.Goals as goal

pub returns : goal.returns
returns g c =
    all_recorded (g.F.StageFolder.records c.args.folder.now) _
    c.in_order-sorted.result.items c.each_once-numbers.result.items c.as_slice.result.now
    c.read_records.result c.in_ok-record_numbers.ensures c.in_order-sorted.ensures.all
    c.each_once-numbers.ensures.all c.each_once-numbers.ensures.rising (search rules)
    c.read_records.ensures
