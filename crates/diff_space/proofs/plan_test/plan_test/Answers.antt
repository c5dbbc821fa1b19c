use Rattle.diff_space.specs.Scopes.{scope_of}
use Rattle.diff_space.proofs.plan_test.plan_test.Goals as goal

pub returns-in_default-test : goal.returns-in_default-test
returns-in_default-test c =
    c.compares_at.ensures (scope_of c.args.bounds.now) c.args.shape.now c.requires
