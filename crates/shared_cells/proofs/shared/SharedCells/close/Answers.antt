use Rattle.std.proofs.Common.{◌≡◌, List, ◌++◌, Some, sym, ap, ◌∙◌, arith}
use Rattle.std.specs.Prelude.{Vec}
use Rattle.std.specs.Slots.{slots_items}
use Rattle.std.specs.declared.alloc.Global.{Global}
use Rattle.std.proofs.lemmas.List.Elements.{All-pop}
use Rattle.atomic_table.specs.Table.{Me}
use Rattle.shared_cells.specs.declared.rule.Account.{Account}
use Rattle.shared_cells.specs.Words.{stored_values}
use Rattle.shared_cells.specs.Rule.{events_known}
use Rattle.shared_cells.specs.Passes.{PassView, lists_of, AreLeftBy}
use Rattle.shared_cells.proofs.Cutting.{joins}
use Rattle.shared_cells.proofs.Gathered.{absorbed, none_left, closes}
use Rattle.shared_cells.proofs.Counting.{exact}
use Rattle.shared_cells.proofs.shared.SharedCells.close.Goals as goal
use Rattle.shared_cells.proofs.shared.SharedCells.close.Goals.{After-drop-passes}

pub join_seat-requires : goal.join_seat-requires
join_seat-requires c =
    let P : PassView → Type 0 = λ p. p.table ≡ c.self.inside.table.shared.table_id in
    let popped = All-pop P c.loop-pass.passes.items c.pop-in-loop-pass.new.self.items
    (Some c.in-Some-pop.pass) c.in-Some-pop.ensures.items c.loop-pass.invariant.own in (
      c.loop-pass.invariant.same,
      c.into_seat.ensures.table ∙ popped.1,
      c.into_seat.ensures.none,
      omega (arith, c.self.invariant.0),
      joins c.self.inside.table.shared.key.values.value.items c.self.inside.table.shared.key.passes
          c.loop-pass.seat.id c.loop-pass.seat.me.0
          c.into_seat.result.id c.into_seat.result.me.0,
    )

pub loop-pass-preserved : goal.loop-pass-preserved
loop-pass-preserved c =
    let P : PassView → Type 0 = λ p. p.table ≡ c.self.inside.table.shared.table_id in
    let split = c.in-Some-pop.ensures.items in
    let popped = All-pop P c.loop-pass.passes.items c.pop-in-loop-pass.new.self.items
    (Some c.in-Some-pop.pass) split c.loop-pass.invariant.own in
    let e = c.join_seat.ensures in record {
      same = e.0 ∙ c.loop-pass.invariant.same;
      empty = ap (λ (m : Me (Unit {0}) (List Account)). m.1) e.2 ∙ c.loop-pass.invariant.empty;
      known = ap (λ (m : Me (Unit {0}) (List Account)). lists_of c.pop-in-loop-pass.new.self.items
          ++ events_known m.0) e.2
          ∙ absorbed c.loop-pass.passes.items c.pop-in-loop-pass.new.self.items c.in-Some-pop.pass
          c.into_seat.result.me.0 c.loop-pass.seat.me.0
          (lists_of c.args.passes.items) split c.into_seat.ensures.events
          c.loop-pass.invariant.known;
      own = popped.0;
    }

left_by : (c : After-drop-passes)
    → AreLeftBy c.self.inside.table.shared.key.values.value.items c.args.passes.items
    (stored_values 0 c.close_with-table.result.words.items)
left_by c =
    let none = none_left c.loop-pass.passes.items
    (sym c.loop-pass.passes.ok.0 ∙ c.in_default-pop.ensures.cases.0) in
    let known : events_known c.loop-pass.seat.me.0 ≡ lists_of c.args.passes.items =
    ap (λ (l : List PassView). lists_of l ++ events_known c.loop-pass.seat.me.0) (sym none)
    ∙ c.loop-pass.invariant.known in
    closes c.self.inside.table.shared.key.values.value.items c.self.inside.table.shared.key.passes
    c.loop-pass.seat.id c.loop-pass.seat.me.0
    c.args.passes.items
    (slots_items c.close_with-table.result.words) (slots_items c.close_with-table.result.slots)
    (c.requires.all ∙ sym (ap (λ s. s.passes) c.self.view_is)) known
    c.close_with-table.ensures.values.2

-- the passes of the closed cells are those that were passed in
agrees : (c : After-drop-passes) → c.of-all.result.value.items ≡ c.args.passes.items
agrees c = ap (λ (v : Vec PassView Global). v.items) c.of-all.ensures

pub returns-clause-passes : goal.returns-clause-passes
returns-clause-passes c = agrees c

pub returns-clause-history : goal.returns-clause-history
returns-clause-history c =
    let opening = ap (λ s. s.opening) c.self.view_is in rw (agrees c, sym opening) (left_by c)

pub returns-clause-quotas : goal.returns-clause-quotas
returns-clause-quotas c =
    let opening = ap (λ s. s.opening) c.self.view_is in
    rw (agrees c, sym opening)
    (exact c.self.inside.table.shared.key.values.value.items c.args.passes.items
    (stored_values 0 c.close_with-table.result.words.items) (left_by c))
