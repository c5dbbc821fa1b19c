use Rattle.std.proofs.Common.{length, ap, ◌∙◌, arith}
use Rattle.std.proofs.lemmas.List.{length_push}
use Rattle.serving.proofs.Staffing.{one_worker, one_less}
use Rattle.serving.proofs.worker_list.worker_list.Goals as goal

pub loop-pass-preserved : goal.loop-pass-preserved
loop-pass-preserved c =
    let before = c.loop-pass.invariant in
    let split = c.in-Some.ensures.items in
    let grown = c.in-Ok-push.ensures.items in
    let less = ap (λ l. length l) split ∙ length_push c.pop.new.self.items c.in-Some.pass in
    let same = one_less _ _ _ _ _ _ split grown in
    let places = c.in-Ok.ensures.places in
    let all = before.all in
    let room = before.places in
    record {
      all = same ∙ all;
      places = omega (arith, less, places, room);
      each = λ table new. one_worker table _ _ _ _ _ _ _ split grown
          (c.in-Ok.ensures.watches ∙ before.known) (before.each table new);
      known = c.in-Ok.ensures.known ∙ before.known;
      latest = c.in-Ok.ensures.latest ∙ before.latest;
    }

pub loop-pass-smaller : goal.loop-pass-smaller
loop-pass-smaller c =
    let split = c.in-Some.ensures.items in
    let less = ap (λ l. length l) split ∙ length_push c.pop.new.self.items c.in-Some.pass in
    omega (arith, less)
