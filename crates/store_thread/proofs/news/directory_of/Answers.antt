use Rattle.std.proofs.Common.{◌<◌, length, sym, subst, arith}
use Rattle.std.proofs.lemmas.List.Elements.{All-get_or}
use Rattle.cells.specs.Arrays.{HasRanges}
use Rattle.cells.specs.declared.array.CellArray.{CellArray}
use Rattle.store_thread.proofs.news.directory_of.Goals as goal

pub declare_one-requires : goal.declare_one-requires
declare_one-requires c =
    let arrays = c.args.arrays.now in
    let one = c.index-arrays-place.result in
    let some : c.loop-place.place < length arrays = omega arith in
    let P = λ (a : CellArray). HasRanges a.width a.length a.quota in
    subst P (sym c.index-arrays-place.is)
    (All-get_or P arrays c.loop-place.place one some c.requires.ranges)
