use Rattle.std.proofs.Common.{rules, ◌≡◌, None, refl, ap}
use Rattle.bpf_machine.specs.Represents.{Held}
use Rattle.world.proofs.Seats.{goes_on, ends_now}
use Rattle.world.proofs.seat.Seat.step.Goals as goal

pub returns-in-Going-clause-steps : goal.returns-in-Going-clause-steps
returns-in-Going-clause-steps c =
    let none : c.in-Taken-default-default-None.choice ≡ None = search rules in
    goes_on c.args.pass.now c.step.new.pass c.args.self.now c.in-Taken-default-default-None.run'
    c.step.new.self
    c.in-Taken-default-default-None.number c.in-Taken-default-default-None.choice
    c.in-Taken-default-default-None.is none c.in-Going.ensures.step c.step.ensures.program

pub returns-in-Done-clause-steps : goal.returns-in-Done-clause-steps
returns-in-Done-clause-steps c =
    let none : c.in-Taken-default-default-None.choice ≡ None = search rules in
    ends_now c.args.pass.now c.step.new.pass c.args.self.now c.in-Taken-default-default-None.run'
    c.step.new.self
    c.in-Taken-default-default-None.number c.in-Done.chosen c.in-Taken-default-default-None.choice
    c.in-Taken-default-default-None.is none c.in-Done.ensures.step c.step.ensures.program
    c.step.ensures.attributes
    (ap (λ (h : Held). h.count) (c.in-Done.ensures.kept c.in-Done.chosen refl))
