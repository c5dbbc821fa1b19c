use Rattle.std.proofs.Common.{◌≡◌, ◌+◌, rules}
use Rattle.cells.specs.Directory.{declaration, next_cell, IsDirectoryState}
use Rattle.cells.proofs.Directories.{appended, kept_wide, kept_narrow, declared}
use Rattle.cells.proofs.directory.Directory.add.Goals as goal

pub invariant_of-self-in-Bits64 : goal.invariant_of-self-in-Bits64
invariant_of-self-in-Bits64 c =
    let d = declaration c.args.name c.args.width c.args.length c.args.quota in
    let old = c.args.self.now in
    let base : c.first_cell.result + c.taken.result ≡ next_cell c.args.width old = search rules in
    let is = appended d old c.push.new.self.items (c.first_cell.result + c.taken.result) base
    (search rules) in
    let kept : IsDirectoryState old c.self.inside.taken_64 c.self.inside.taken_32 = search rules in
    kept_wide d old c.push.new.self.items c.self.inside.taken_64 c.self.inside.taken_32
    c.requires.declaration kept c.requires.new c.requires.cells_fit is c.in-Bits64.is

pub invariant_of-self-in-Bits32 : goal.invariant_of-self-in-Bits32
invariant_of-self-in-Bits32 c =
    let d = declaration c.args.name c.args.width c.args.length c.args.quota in
    let old = c.args.self.now in
    let base : c.first_cell.result + c.taken.result ≡ next_cell c.args.width old = search rules in
    let is = appended d old c.push.new.self.items (c.first_cell.result + c.taken.result) base
    (search rules) in
    let kept : IsDirectoryState old c.self.inside.taken_64 c.self.inside.taken_32 = search rules in
    kept_narrow d old c.push.new.self.items c.self.inside.taken_64 c.self.inside.taken_32
    c.requires.declaration kept c.requires.new c.requires.cells_fit is c.in-Bits32.is

pub returns-in-Bits64-clause-declares : goal.returns-in-Bits64-clause-declares
returns-in-Bits64-clause-declares c =
    let d = declaration c.args.name c.args.width c.args.length c.args.quota in
    let old = c.args.self.now in
    let base : c.first_cell.result + c.taken.result ≡ next_cell c.args.width old = search rules in
    declared d old c.push.new.self.items c.len-number.result
    (search rules) c.requires.new c.requires.cells_fit
    (appended d old c.push.new.self.items (c.first_cell.result + c.taken.result) base
    (search rules))

pub returns-in-Bits32-clause-declares : goal.returns-in-Bits32-clause-declares
returns-in-Bits32-clause-declares c =
    let d = declaration c.args.name c.args.width c.args.length c.args.quota in
    let old = c.args.self.now in
    let base : c.first_cell.result + c.taken.result ≡ next_cell c.args.width old = search rules in
    declared d old c.push.new.self.items c.len-number.result
    (search rules) c.requires.new c.requires.cells_fit
    (appended d old c.push.new.self.items (c.first_cell.result + c.taken.result) base
    (search rules))
