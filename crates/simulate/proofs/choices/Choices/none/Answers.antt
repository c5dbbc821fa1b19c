use Rattle.std.proofs.Common.{ℕ, arith}
use Rattle.std.proofs.lemmas.List.{length-replicate}
use Rattle.std.proofs.lemmas.List.Elements.{All-replicate}
use Rattle.simulate.proofs.Courses.{few}
use Rattle.simulate.proofs.choices.Choices.none.Goals as goal

pub invariant_of-result : goal.invariant_of-result
invariant_of-result c =
    rw (c.in_ok-choices.ensures.items_if_clones_equal (λ y same. same)) (record {
      all = length-replicate {A = ℕ} 10000 0;
      releases = All-replicate few 10000 0 (omega arith);
    })
