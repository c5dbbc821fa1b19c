use Rattle.std.proofs.Common.{refl, rules, length}
use Rattle.std.proofs.lemmas.Option.{slice_get_read}
use Rattle.cells.proofs.directory.number_of.Goals as goal

pub returns-then-eq-clause-found : goal.returns-then-eq-clause-found
returns-then-eq-clause-found c =
    let arrays = c.args.arrays.now in
    let a = c.index-arrays-number.result in
    let at = slice_get_read arrays (length arrays) c.loop-number.number a refl
    c.loop-number-test.true c.index-arrays-number.is in
    (a, at, search rules)
