use Rattle.load.proofs.judging.too_long.Goals as goal

pub returns-in-Program : goal.returns-in-Program
returns-in-Program c = rw c.in-Program.is (λ bytes shape longer.
    c.long_program.ensures bytes shape longer.0)

pub returns-in-Rule : goal.returns-in-Rule
returns-in-Rule c = rw c.in-Rule.is (λ bytes shape longer.
    c.long_rule.ensures bytes shape longer.0 longer.1)
