use Rattle.std.proofs.Common.{◌≡◌, ◌∙◌, length, ap, sym}
use Rattle.std.specs.Arc.{arc_value}
use Rattle.hot_swap.specs.Published.{IsLatest}
use Rattle.answering.specs.Answer.{unowned, sent}
use Rattle.answering.proofs.Grown.{grows_none, grows_all, finds_length}
use Rattle.answering.proofs.Replies.{is_broken_off, is_replied, is_withheld}
use Rattle.answering.proofs.replying.reply_to.Goals as goal

pub returns-in_default-clause-replies : goal.returns-in_default-clause-replies
returns-in_default-clause-replies g c =
    grows_none (g.C.CellSteps.grew) _ _ (rw c.no_place.ensures (sent unowned))

pub returns-in_default-run_apps-clause-replies : goal.returns-in_default-run_apps-clause-replies
returns-in_default-run_apps-clause-replies g c =
    let rules' = c.deref-rules.result.now in
    let same : rules' ≡ arc_value c.in-Ok.current.1 = cc in
    let newest : IsLatest c.current.new.self c.in-Ok.current.0 rules' =
    rw same c.in-Ok.ensures.newest in
    rw c.of_omaha.ensures
    (is_broken_off _ (g.C.CellSteps.grew) c.args.request.now _ _ _ _ c.in-Ok.current.0 rules'
    newest (rw c.begin-mark.ensures.same at c.in_default-run_apps.ensures.finds))

pub returns-in_default-settle-clause-replies : goal.returns-in_default-settle-clause-replies
returns-in_default-settle-clause-replies g c =
    let rules' = c.deref-rules.result.now in
    let same : rules' ≡ arc_value c.in-Ok.current.1 = cc in
    let newest : IsLatest c.current.new.self c.in-Ok.current.0 rules' =
    rw same c.in-Ok.ensures.newest in
    rw (c.uncovered.ensures, c.settle.ensures.same)
    (is_withheld _ (g.C.CellSteps.grew) c.args.request.now _ _ _ _ c.in-Ok.current.0 rules'
    c.in-Ok-run_apps.found.items c.in_default-settle.ensures.none newest
    (rw c.begin-mark.ensures.same at c.in-Ok-run_apps.ensures.finds))

pub found_text-requires : goal.found_text-requires
found_text-requires g c =
    ap length c.as_slice-answers.ensures.value
    ∙ finds_length _ _ _ c.in-Ok-run_apps.ensures.finds.of ∙ ap length (sym c.apps.ensures)

pub returns-in-Ok-found_text-clause-replies : goal.returns-in-Ok-found_text-clause-replies
returns-in-Ok-found_text-clause-replies g c =
    let rules' = c.deref-rules.result.now in
    let same : rules' ≡ arc_value c.in-Ok.current.1 = cc in
    let newest : IsLatest c.current.new.self c.in-Ok.current.0 rules' =
    rw same c.in-Ok.ensures.newest in
    let text = rw c.apps.ensures at c.in-Ok-found_text.ensures in
    rw c.settle.ensures.same
    (is_replied _ (g.C.CellSteps.grew) c.args.request.now _ c.args.turn.now.moment.now _ _
    c.in-Ok.current.0 rules' c.in-Ok-run_apps.found.items c.as_slice-answers.result.now
    c.server.result.now _ newest c.server.ensures c.as_slice-answers.ensures.value text
    (rw c.begin-mark.ensures.same at c.in-Ok-run_apps.ensures.finds))

pub returns-clause-replies : goal.returns-clause-replies
returns-clause-replies g c =
    let rules' = c.deref-rules.result.now in
    let same : rules' ≡ arc_value c.in-Ok.current.1 = cc in
    let newest : IsLatest c.current.new.self c.in-Ok.current.0 rules' =
    rw same c.in-Ok.ensures.newest in
    rw (c.of_omaha-in-Err.ensures, c.settle.ensures.same)
    (is_broken_off _ (g.C.CellSteps.grew) c.args.request.now _ _ _ _ c.in-Ok.current.0 rules'
    newest
    (grows_all (g.C.CellSteps.grew) _ _ _ _ _ _ _
    (rw c.begin-mark.ensures.same at c.in-Ok-run_apps.ensures.finds)))
