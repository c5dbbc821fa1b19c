use Rattle.std.proofs.Common.{◌≡◌, sym, subst, ℕ, List, [], ◌∷◌, rules, string_bytes}
use Rattle.report.specs.Tallies.{Rows}
use Rattle.report_state.specs.Courses.{AddsRow, AddsRows}
use Rattle.report_state.proofs.Added.{more_rows, no_rows}
use Rattle.report_state.proofs.course.add_rows.Goals as goal

pub loop-name-init : goal.loop-name-init
loop-name-init c = λ last adds.
    let all : c.into_iter-name-iterator.result ≡ c.args.rows.now.entries = search rules in
    subst (λ (rows : Rows). AddsRows c.args.from rows c.args.sum.now last) all adds

pub loop-name-preserved : goal.loop-name-preserved
loop-name-preserved c = λ last others.
    let items : c.loop-name.name-iterator
    ≡ (c.in-Some.name.now, c.in-Some.n.now) ∷ c.next.new.self = search rules in
    let named : c.as_str.result.now ≡ string_bytes c.in-Some.name.now = search rules in
    let first : AddsRow c.args.from (string_bytes c.in-Some.name.now) c.in-Some.n.now
    c.loop-name.sum c.add_row.new.sum =
    subst (λ (row : List ℕ). AddsRow c.args.from row c.in-Some.n.now c.loop-name.sum
    c.add_row.new.sum) named c.in_ok-add_row.ensures in
    c.loop-name.invariant last (subst (λ (rows : Rows). AddsRows c.args.from rows
    c.loop-name.sum last) (sym items) (more_rows c.args.from c.in-Some.name.now
    c.in-Some.n.now c.next.new.self c.loop-name.sum c.add_row.new.sum last first others))

pub returns : goal.returns
returns c =
    let none : c.loop-name.name-iterator ≡ [] = search rules in
    c.loop-name.invariant c.loop-name.sum (subst (λ (rows : Rows). AddsRows c.args.from rows
    c.loop-name.sum c.loop-name.sum) (sym none) (no_rows c.args.from c.loop-name.sum))
