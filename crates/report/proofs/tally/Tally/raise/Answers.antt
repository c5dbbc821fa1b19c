use Rattle.std.proofs.Common.{◌≡◌, ◌∙◌, Some, ap, arith, refl, rules, sym}
use Rattle.std.specs.BTreeMap.{get_by_text}
use Rattle.std.specs.Option.{option_copied_mut}
use Rattle.std.proofs.lemmas.Map.Text.{btree_map_updates_text}
use Rattle.report.proofs.Tallied.{goes_up, len_after}
use Rattle.report.proofs.tally.Tally.raise.Goals as goal

pub returns-in-Some-clause-counted : goal.returns-in-Some-clause-counted
returns-in-Some-clause-counted c = λ _.
    let count = c.saturating_add.result in
    let had : get_by_text c.args.self.now.rows c.args.name.now ≡ Some c.in-Some.count.now =
    sym c.get_mut.ensures.value ∙ ap option_copied_mut c.in-Some.is in
    let written = c.get_mut.follows.holds count in
    goes_up c.args.times c.args.self.now _ c.args.name.now c.in-Some.count.now count
    c.requires.some had c.saturating_add.ensures (record {
      row = btree_map_updates_text c.args.name.now c.args.self.now.rows
          (c.get_mut.follows.lender count) _ (written.3 (search rules));
      len = len_after _ _ (Some c.in-Some.count.now) _ (sym had) (omega (arith, written.2));
      others = refl;
      limit = refl;
    })
