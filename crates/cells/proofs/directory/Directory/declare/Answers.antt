use Rattle.std.proofs.Common.{rules}
use Rattle.cells.specs.Directory.{declaration}
use Rattle.cells.proofs.Directories.{stands_again, stands_otherwise}
use Rattle.cells.proofs.directory.Directory.declare.Goals as goal

pub returns-then-is_as_declared-clause-declares : goal.returns-then-is_as_declared-clause-declares
returns-then-is_as_declared-clause-declares c =
    let d = declaration c.args.name.now c.args.width c.args.length c.args.quota in
    stands_again d c.args.self.now c.in-Some.number c.index.result.now (search rules)
    (search rules) (search rules)

pub returns-in-Some-clause-refused : goal.returns-in-Some-clause-refused
returns-in-Some-clause-refused c =
    let d = declaration c.args.name.now c.args.width c.args.length c.args.quota in
    stands_otherwise d c.args.self.now c.in-Some.number c.index.result.now (search rules)
    (search rules) (search rules)
