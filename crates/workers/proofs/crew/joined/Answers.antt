use Rattle.std.proofs.Common.{List, length, sym, ap, subst, ◌∙◌, arith}
use Rattle.std.specs.List.{AllZip}
use Rattle.std.specs.declared.thread.PromisedHandle.{PromisedHandle}
use Rattle.workers.proofs.InPlace.{all_have, one_more}
use Rattle.workers.proofs.crew.joined.Goals as goal

pub push_reserved-requires : goal.push_reserved-requires
push_reserved-requires g c =
    let room = c.loop-thread.invariant.room in
    let last = c.in-Some.ensures.steps.1 in
    omega (arith, room, last)

pub loop-thread-preserved : goal.loop-thread-preserved
loop-thread-preserved g c =
    let i = c.loop-thread.invariant in
    let steps = c.in-Some.ensures.steps in
    let long = ap (λ ts. length ts) steps.0 in
    let last = steps.1 in
    let before = i.left in
    let room = i.room in
    let more = c.push_reserved.ensures.len in
    let same = c.push_reserved.ensures.capacity in
    record {
      given = one_more _ _ _ _ _ c.in-Some.thread _ _ c.join.result i.given steps.0
          c.push_reserved.ensures.items c.join.ensures;
      room = omega (arith, room, last, more, same);
      left = omega (arith, long, last, before);
    }

pub returns : goal.returns
returns g c =
    let i = c.loop-thread.invariant in
    let gives = c.into_iter-thread-iterator.ensures.into_iter_gives in
    let T = g.row.T.Denot in
    let K = PromisedHandle T g.row.P.Denot in
    subst (λ (ts : List K). AllZip (λ (thread : K) (back : T).
    g.P.Promise.kept_by thread.promise back) ts c.loop-thread.room.items) gives.0
    (all_have _ _ _ _ _ i.given (sym i.left ∙ c.in-None.ensures.steps.0))
