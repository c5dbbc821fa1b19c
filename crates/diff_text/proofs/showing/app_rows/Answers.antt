use Rattle.std.proofs.Common.{◌≡◌, rules, subst, sym, All}
use Rattle.diff_space.specs.Lines.{IsLine}
use Rattle.diff_text.proofs.Texts.{lost_in, shown_same}
use Rattle.diff_text.proofs.showing.app_rows.Goals as goal

pub returns-clause-shown : goal.returns-clause-shown
returns-clause-shown c = λ x lines.
    let same : c.deref.result.now ≡ c.args.diff.now.space.dimensions = search rules in
    let rows : c.deref-2.result.now ≡ c.args.diff.now.rows.items = search rules in
    shown_same x c.deref.result.now c.args.diff.now.space.dimensions c.sources_of-from.result _
    c.deref-2.result.now c.args.diff.now.rows.items c.in_ok-shown.shown same
    c.sources_of-from.ensures rows
    (c.in_ok-shown.ensures x (subst (All (IsLine x)) (sym same) lines))

pub returns-clause-lost : goal.returns-clause-lost
returns-clause-lost c = λ x lines.
    let same : c.deref.result.now ≡ c.args.diff.now.space.dimensions = search rules in
    let rows : c.deref-2.result.now ≡ c.args.diff.now.rows.items = search rules in
    lost_in x c.args.diff.now.space.dimensions _ c.args.diff.now.rows.items c.in_ok-shown.shown
    (shown_same x c.deref.result.now c.args.diff.now.space.dimensions c.sources_of-from.result _
    c.deref-2.result.now c.args.diff.now.rows.items c.in_ok-shown.shown same
    c.sources_of-from.ensures rows
    (c.in_ok-shown.ensures x (subst (All (IsLine x)) (sym same) lines)))
