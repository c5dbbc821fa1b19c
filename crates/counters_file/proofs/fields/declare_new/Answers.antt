use Rattle.std.proofs.Common.{◌≡◌, false}
use Rattle.counters_file.specs.Lines.{has_name}
use Rattle.counters_file.proofs.NewArrays.{as_declared, as_refused, declared_anew, not_redefined}
use Rattle.counters_file.proofs.fields.declare_new.Goals as goal

pub returns-in-Ok : goal.returns-in-Ok
returns-in-Ok c =
    let none : has_name c.args.directory.now c.args.declaration.now.name ≡ false = cc in
    let d = c.args.declaration.now in
    declared_anew d c.args.directory.now none
    (as_declared {d = d} c.name-2.ensures c.width.ensures c.length.ensures c.quota.ensures
    c.in-Ok.ensures.declares)

pub returns-in-Err-Redefined : goal.returns-in-Err-Redefined
returns-in-Err-Redefined c =
    let none : has_name c.args.directory.now c.args.declaration.now.name ≡ false = cc in
    let d = c.args.declaration.now in
    not_redefined d c.args.directory.now none
    (as_refused {d = d} c.args.directory.now c.name-2.ensures c.width.ensures c.length.ensures
    c.quota.ensures c.in-Err-Redefined.field-0-is c.in-Err-Redefined.ensures.refused)
