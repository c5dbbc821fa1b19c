use Rattle.std.proofs.Common.{◌≡◌, Some, false, rules}
use Rattle.std.specs.Prelude.{slice_index_or}
use Rattle.flow_check.specs.Edges.{target_of}
use Rattle.block_order.proofs.Marks.{no_cycle}
use Rattle.block_order.proofs.disorder.closes_cycle.Goals as goal

pub returns-clause-no : goal.returns-clause-no
returns-clause-no c = λ none.
    let lands : target_of c.args.slot c.args.insn ≡ Some c.in-Some.target = search rules in
    let unmarked : slice_index_or c.in_ok-marks.marks.items c.args.slot false ≡ false =
    search rules in
    no_cycle c.args.code.now c.in_ok-marks.marks.items c.args.slot c.in-Some.target c.args.insn
    c.in_ok-marks.ensures c.requires.at lands unmarked
