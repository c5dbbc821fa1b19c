use Rattle.std.proofs.Common.{map, string_bytes, ap, ◌∙◌, rules, tests}
use Rattle.std.specs.Prelude.{IsSome}
use Rattle.halts.specs.Halts.{without}
use Rattle.ruleset.specs.Rules.{app_of}
use Rattle.operator.proofs.Halted.{is_free, is_halted, lifts_halt, was_free}
use Rattle.operator.proofs.control.Control.resume.Goals as goal

pub returns-then-is_halted-clause-done : goal.returns-then-is_halted-clause-done
returns-then-is_halted-clause-done g c =
    let old = c.args.self.now in
    let appid = c.args.appid.now in
    lifts_halt old c.install.new.self appid (map string_bytes c.in-Ok.halted.items)
    c.install.result c.install.ensures.done
    (c.in-Ok.ensures ∙ ap (without appid) c.halted-then-is_halted.ensures)
    (is_halted old appid _ c.halted.ensures c.is_halted.result c.is_halted.ensures
    c.if-is_halted.true)

pub returns-clause-done : goal.returns-clause-done
returns-clause-done g c =
    let old = c.args.self.now in
    let appid = c.args.appid.now in
    let known : IsSome (app_of old.last.rules appid) = search (rules, tests) in
    was_free old appid c.generation.result c.generation.ensures (record {
      free = is_free old appid _ c.halted.ensures c.is_halted.result c.is_halted.ensures
          c.if-is_halted.false;
      known = known;
    })
