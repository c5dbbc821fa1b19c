use Rattle.std.proofs.Common.{map, string_bytes, ap, ◌∙◌, rules, tests}
use Rattle.std.specs.Prelude.{IsSome}
use Rattle.halts.specs.Halts.{halting}
use Rattle.ruleset.specs.Rules.{app_of}
use Rattle.operator.proofs.Halted.{halts_newly, is_free, was_halted}
use Rattle.operator.proofs.control.Control.halt.Goals as goal

pub returns-then-is_halted-clause-done : goal.returns-then-is_halted-clause-done
returns-then-is_halted-clause-done g c =
    was_halted c.args.self.now c.args.appid.now _ c.halted.ensures c.is_halted.result
    c.is_halted.ensures c.generation.result c.generation.ensures c.if-is_halted.true

pub returns-clause-done : goal.returns-clause-done
returns-clause-done g c =
    let old = c.args.self.now in
    let appid = c.args.appid.now in
    let free = is_free old appid _ c.halted.ensures c.is_halted.result c.is_halted.ensures
    c.if-is_halted.false in
    let known : IsSome (app_of old.last.rules appid) = search (rules, tests) in
    halts_newly old c.install.new.self appid (map string_bytes c.in-Ok.halted.items)
    c.install.result c.install.ensures.done
    (c.in-Ok.ensures ∙ ap (halting appid) c.halted-2.ensures)
    (record { free = free; known = known })
