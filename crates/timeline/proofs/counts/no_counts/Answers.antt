use Rattle.timeline.proofs.counts.no_counts.Goals as goal

pub returns-clause-zeros : goal.returns-clause-zeros
returns-clause-zeros c = c.in_ok-zeros.ensures.items_if_clones_equal (λ y same. same)
