use Rattle.std.proofs.Common.{rules, ◌≡◌, Err, length, refl, sym, ◌∙◌}
use Rattle.std.proofs.lemmas.List.{length-map}
use Rattle.std.specs.Arc.{arc_value}
use Rattle.world.proofs.Opening.{inside_of}
use Rattle.world.proofs.Worlds.{busy, unopened, opened}
use Rattle.world.proofs.world.World.start.Goals as goal

pub returns-then-is_taken-clause-happens : goal.returns-then-is_taken-clause-happens
returns-then-is_taken-clause-happens c =
    rw (← c.self.view_is)
    (busy (inside_of c.self.inside) c.args.worker c.args.attrs.now c.index.result.now (search rules)
    c.index.ensures (c.if-is_taken.ensures.taken refl))

pub returns-in_err-run-clause-happens : goal.returns-in_err-run-clause-happens
returns-in_err-run-clause-happens c =
    let answered : c.from_residual.result ≡ Err c.in_err-run.field-0.0 = search rules in
    rw (answered, ← c.self.view_is)
    (unopened (inside_of c.self.inside) c.args.worker c.args.attrs.now c.newest.result.now
    c.index.result.now c.in_err-run.field-0.0 (search rules) c.index.ensures
    (c.if-is_taken.ensures.empty refl)
    (rw (← c.self.view_is) at c.newest.ensures) c.in_err-run.ensures)

pub returns : goal.returns
returns c =
    let number : c.len-number.result ≡ length c.self.inside.rulesets.items = search rules in
    rw (← c.self.view_is) (record {
      happens = (opened (inside_of c.self.inside) c.args.worker c.len-number.result c.args.attrs.now
          c.newest.result.now c.index.result.now c.in_ok-run.run' (search rules) c.index.ensures
          (c.if-is_taken.ensures.empty refl)
          (rw (← c.self.view_is) at c.newest.ensures)
          (number ∙ sym (length-map c.self.inside.rulesets.items (λ r. arc_value r)))
          c.in_ok-run.ensures);
      same = tt;
    })
