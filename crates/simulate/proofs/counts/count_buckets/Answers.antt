use Rattle.std.proofs.Common.{◌<◌, ◌==◌, ◌∙◌, ℕ, length, get_or, refl, rules, arith}
use Rattle.std.proofs.lemmas.List.{get_or-replicate, length-replicate, length-set}
use Rattle.simulate.proofs.Counted.{choice_counted, few_counted, all_choices, few_choices}
use Rattle.simulate.proofs.counts.count_buckets.Goals as goal

pub loop-bucket-init : goal.loop-bucket-init
loop-bucket-init c = (
  (λ k few. get_or-replicate 65 k 0 0 (omega (arith, few))),
  length-replicate {A = ℕ} 65 0,
)

pub overflow_add-counts : goal.overflow_add-counts
overflow_add-counts c =
    let within : c.loop-bucket.bucket < length c.as_slice-choices.result.now = search rules in
    let long = c.as_slice-choices.ensures.all.all in
    let low = c.as_slice-choices.ensures.all.releases c.loop-bucket.bucket 0 within in
    let few = few_counted c.as_slice-choices.result.now
    (get_or c.loop-bucket.counts (get_or c.as_slice-choices.result.now c.loop-bucket.bucket 0) 0)
    c.loop-bucket.bucket
    (λ own. own == get_or c.as_slice-choices.result.now c.loop-bucket.bucket 0)
    (c.loop-bucket.invariant.0
    (get_or c.as_slice-choices.result.now c.loop-bucket.bucket 0) low) in
    omega (arith, few, within, long)

pub loop-bucket-preserved : goal.loop-bucket-preserved
loop-bucket-preserved c =
    let within : c.loop-bucket.bucket < length c.as_slice-choices.result.now = search rules in (
      choice_counted c.as_slice-choices.result.now c.loop-bucket.bucket c.loop-bucket.counts
          (get_or c.as_slice-choices.result.now c.loop-bucket.bucket 0) within
          c.loop-bucket.invariant.1
          (c.as_slice-choices.ensures.all.releases c.loop-bucket.bucket 0 within) refl
          c.loop-bucket.invariant.0,
      length-set c.loop-bucket.counts _ _ ∙ c.loop-bucket.invariant.1,
    )

pub returns-clause-counts : goal.returns-clause-counts
returns-clause-counts c = λ release low. rw (← c.as_slice-choices.ensures.value)
    (all_choices c.as_slice-choices.result.now c.loop-bucket.bucket c.loop-bucket.counts release
    c.as_slice-choices.ensures.all.all (search rules) (c.loop-bucket.invariant.0 release low))

pub returns-clause-limit : goal.returns-clause-limit
returns-clause-limit c = λ release low. few_choices c.as_slice-choices.result.now
    (get_or c.loop-bucket.counts release 0) release c.as_slice-choices.ensures.all.all
    (all_choices c.as_slice-choices.result.now c.loop-bucket.bucket c.loop-bucket.counts release
    c.as_slice-choices.ensures.all.all (search rules) (c.loop-bucket.invariant.0 release low))
