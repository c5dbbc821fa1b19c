use Rattle.std.proofs.Common.{◌≡◌, ◌+◌, ◌*◌, ◌<◌, ◌∙◌, ℕ, length, get_or, rules, arith}
use Rattle.std.proofs.lemmas.List.{get_or-replicate, length-replicate, length-set}
use Rattle.std.proofs.lemmas.Grind.{get_or_default_zero}
use Rattle.std.proofs.lemmas.Slice.Zip.{length-zip}
use Rattle.std.specs.List.{zip}
use Rattle.simulate.proofs.Counted.{all_moves, move_counted, moves_at, few_counted, is_move}
use Rattle.simulate.proofs.counts.count_moves.Goals as goal

pub loop-bucket-init : goal.loop-bucket-init
loop-bucket-init c =
    let zeros = c.in_ok-table.ensures.items_if_clones_equal (λ y same. same) in
    rw zeros (
      (λ from to from_low to_low.
          get_or-replicate 4225 (65 * from + to) 0 0 (omega (arith, from_low, to_low))),
      length-replicate {A = ℕ} 4225 0,
    )

pub overflow_add-count : goal.overflow_add-count
overflow_add-count c =
    let now = c.as_slice-now.ensures.all in
    let next = c.as_slice-next.ensures.all in
    let within : c.loop-bucket.bucket < length c.as_slice-now.result.now = search rules in
    let first = now.all in
    let second = next.all in
    let low = now.releases c.loop-bucket.bucket 0 within in
    let also = next.releases c.loop-bucket.bucket 0 (omega (arith, within, first, second)) in
    let few = few_counted (zip c.as_slice-now.result.now c.as_slice-next.result.now)
    (get_or c.loop-bucket.table.items (65 * get_or c.as_slice-now.result.now c.loop-bucket.bucket 0
    + get_or c.as_slice-next.result.now c.loop-bucket.bucket 0) 0) c.loop-bucket.bucket
    (is_move (get_or c.as_slice-now.result.now c.loop-bucket.bucket 0)
    (get_or c.as_slice-next.result.now c.loop-bucket.bucket 0))
    (c.loop-bucket.invariant.0 (get_or c.as_slice-now.result.now c.loop-bucket.bucket 0)
    (get_or c.as_slice-next.result.now c.loop-bucket.bucket 0) low also) in
    let room = c.loop-bucket.invariant.1 in
    let below : 65 * get_or c.as_slice-now.result.now c.loop-bucket.bucket 0
    + get_or c.as_slice-next.result.now c.loop-bucket.bucket 0
    < length c.loop-bucket.table.items = omega (arith, low, also, room) in
    let value : c.index-count.result.now ≡ get_or c.loop-bucket.table.items
    (65 * get_or c.as_slice-now.result.now c.loop-bucket.bucket 0
    + get_or c.as_slice-next.result.now c.loop-bucket.bucket 0) 0 =
    search (rules, get_or_default_zero, below) in
    omega (arith, few, within, first, value)

pub loop-bucket-preserved : goal.loop-bucket-preserved
loop-bucket-preserved c =
    let now = c.as_slice-now.ensures.all in
    let next = c.as_slice-next.ensures.all in
    let within : c.loop-bucket.bucket < length c.as_slice-now.result.now = search rules in
    let first = now.all in
    let second = next.all in
    let long = length-zip c.as_slice-now.result.now c.as_slice-next.result.now in
    let low = now.releases c.loop-bucket.bucket 0 within in
    let also = next.releases c.loop-bucket.bucket 0 (omega (arith, within, first, second)) in
    let room = c.loop-bucket.invariant.1 in
    let below : 65 * get_or c.as_slice-now.result.now c.loop-bucket.bucket 0
    + get_or c.as_slice-next.result.now c.loop-bucket.bucket 0
    < length c.loop-bucket.table.items = omega (arith, low, also, room) in
    let value : c.index-count.result.now ≡ get_or c.loop-bucket.table.items
    (65 * get_or c.as_slice-now.result.now c.loop-bucket.bucket 0
    + get_or c.as_slice-next.result.now c.loop-bucket.bucket 0) 0 =
    search (rules, get_or_default_zero, below) in (
      rw value (move_counted (zip c.as_slice-now.result.now c.as_slice-next.result.now)
          c.loop-bucket.bucket c.loop-bucket.table.items
          (get_or c.as_slice-now.result.now c.loop-bucket.bucket 0)
          (get_or c.as_slice-next.result.now c.loop-bucket.bucket 0)
          (omega (arith, within, first, second, long)) c.loop-bucket.invariant.1 low also
          (moves_at c.as_slice-now.result.now c.as_slice-next.result.now c.loop-bucket.bucket
          10000 within first second) c.loop-bucket.invariant.0),
      length-set c.loop-bucket.table.items _ _ ∙ c.loop-bucket.invariant.1,
    )

pub returns-clause-moves : goal.returns-clause-moves
returns-clause-moves c = λ from to from_low to_low.
    rw (← c.as_slice-now.ensures.value, ← c.as_slice-next.ensures.value)
    (all_moves c.as_slice-now.result.now c.as_slice-next.result.now c.loop-bucket.bucket
    c.loop-bucket.table.items from to c.as_slice-now.ensures.all.all
    c.as_slice-next.ensures.all.all (search rules)
    (c.loop-bucket.invariant.0 from to from_low to_low))
