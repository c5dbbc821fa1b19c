use Rattle.std.proofs.Common.{◌≡◌, List, [], ◌∷◌, ◌++◌, Some, length, vec_len, sym, ap, ◌∙◌, arith}
use Rattle.std.proofs.lemmas.List.{length_push}
use Rattle.std.proofs.lemmas.List.Elements.{All-nil, All-pop, All-push, All-same}
use Rattle.shared_cells.specs.Passes.{PassView, IsPassOf}
use Rattle.serving.specs.Ended.{IsOfServer}
use Rattle.serving.proofs.Closing.{all_gathered, all_are_prefixes, one_gathered, one_more_has}
use Rattle.serving.proofs.Closing.{turned}
use Rattle.serving.proofs.Staffing.{one_less}
use Rattle.serving.proofs.ended.close_cells.Goals as goal

pub push_reserved-requires : goal.push_reserved-requires
push_reserved-requires c =
    let none : vec_len c.args.room ≡ 0 =
    c.args.room.ok.0 ∙ ap (λ (ps : List PassView). length ps) c.requires.empty in
    let enough = c.requires.enough in
    omega (arith, none, enough)

pub loop-worker-init : goal.loop-worker-init
loop-worker-init c =
    let put = c.push_reserved.ensures in
    let first : c.push_reserved.new.self.items ≡ [] ++ c.args.back.operator ∷ [] =
    put.items ∙ ap (λ (ps : List PassView). ps ++ c.into_pass.result ∷ []) c.requires.empty
    ∙ ap (λ (p : PassView). [] ++ p ∷ []) c.into_pass.ensures in
    let one : length c.push_reserved.new.self.items ≡ 1 =
    ap (λ (ps : List PassView). length ps) first in
    let none : vec_len c.args.room ≡ 0 =
    c.args.room.ok.0 ∙ ap (λ (ps : List PassView). length ps) c.requires.empty in
    let all = c.requires.all in
    let enough = c.requires.enough in
    let more = put.len in
    let same = put.capacity in
    record {
      all = omega (arith, one, all);
      enough = omega (arith, none, enough, more, same);
      each = c.requires.workers;
      own = All-same (IsPassOf c.args.cells) c.push_reserved.new.self.items
          (c.args.back.operator ∷ []) first
          (All-push (IsPassOf c.args.cells) [] c.args.back.operator
          (All-nil (IsPassOf c.args.cells)) c.requires.operator);
      gathered = ap (λ (ps : List PassView). ps ++ turned c.args.back.workers.items) first;
      prefix = λ known all. all;
    }

pub pass_of-pass-requires-clause-publisher : goal.pass_of-pass-requires-clause-publisher
pass_of-pass-requires-clause-publisher c =
    (All-pop (IsOfServer c.args.cells c.args.back.published.publisher) c.loop-worker.workers.items
    c.pop.new.self.items (Some c.in-Some.worker) c.in-Some.ensures.items
    c.loop-worker.invariant.each).1.watcher

pub push_reserved-requires-in-Some : goal.push_reserved-requires-in-Some
push_reserved-requires-in-Some c =
    let enough = c.loop-worker.invariant.enough in
    let less = ap (λ l. length l) c.in-Some.ensures.items
    ∙ length_push c.pop.new.self.items c.in-Some.worker in
    omega (arith, enough, less)

pub loop-worker-preserved : goal.loop-worker-preserved
loop-worker-preserved c =
    let before = c.loop-worker.invariant in
    let split = c.in-Some.ensures.items in
    let pushed = c.push_reserved-in-Some.ensures in
    let grown = pushed.items in
    let more = pushed.len in
    let same = pushed.capacity in
    let less = ap (λ l. length l) split ∙ length_push c.pop.new.self.items c.in-Some.worker in
    let enough = before.enough in
    let popped = All-pop (IsOfServer c.args.cells c.args.back.published.publisher)
    c.loop-worker.workers.items c.pop.new.self.items (Some c.in-Some.worker) split before.each in
    let returned = c.pass_of-pass.ensures in
    let P = IsPassOf c.args.cells in
    record {
      all = one_less _ _ _ _ _ _ split grown ∙ before.all;
      enough = omega (arith, enough, less, more, same);
      each = popped.0;
      own = All-same P c.push_reserved-in-Some.new.self.items
          (c.loop-worker.room.items ++ c.pass_of-pass.result.0 ∷ []) grown
          (All-push P c.loop-worker.room.items c.pass_of-pass.result.0 before.own
          (ap (λ (pass : PassView). pass.table) returned.same ∙ popped.1.pass));
      gathered = one_gathered c.loop-worker.room.items c.push_reserved-in-Some.new.self.items
          c.loop-worker.workers.items c.pop.new.self.items c.in-Some.worker
          c.pass_of-pass.result.0 _ split grown returned.same before.gathered;
      prefix = λ known. one_more_has c.args.back.published.rulesets c.loop-worker.workers.items
          c.pop.new.self.items c.in-Some.worker c.args.back.workers.items split
          (returned.prefix (c.both-is_known.ensures.second known))
          (before.prefix (c.both-is_known.ensures.first known));
    }

pub close-requires-clause-all : goal.close-requires-clause-all
close-requires-clause-all c =
    let before = c.loop-worker.invariant.all in
    let none = sym c.loop-worker.workers.ok.0 ∙ c.in_default.ensures.cases.0 in
    omega (arith, before, none)

pub close-requires-clause-own : goal.close-requires-clause-own
close-requires-clause-own c = c.loop-worker.invariant.own

pub returns-clause-passes : goal.returns-clause-passes
returns-clause-passes c =
    let none = sym c.loop-worker.workers.ok.0 ∙ c.in_default.ensures.cases.0 in
    c.in-Ok.ensures.passes
    ∙ all_gathered c.loop-worker.room.items c.loop-worker.workers.items _ none
    c.loop-worker.invariant.gathered

pub returns-clause-prefix : goal.returns-clause-prefix
returns-clause-prefix c = λ known.
    let none = sym c.loop-worker.workers.ok.0 ∙ c.in_default.ensures.cases.0 in
    all_are_prefixes c.args.back.published.rulesets c.loop-worker.workers.items
    c.args.back.workers.items none (c.loop-worker.invariant.prefix known)
