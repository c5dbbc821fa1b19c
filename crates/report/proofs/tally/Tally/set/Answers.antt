use Rattle.std.proofs.Common.{refl, string_bytes}
use Rattle.std.proofs.lemmas.Map.Text.{btree_map_updates_text}
use Rattle.report.proofs.Tallied.{len_after}
use Rattle.report.proofs.tally.Tally.set.Goals as goal

pub returns : goal.returns
returns c = record {
  row = btree_map_updates_text (string_bytes c.args.name) c.args.self.now.rows c.insert.new.self
      _ c.in_ok-insert.ensures.updates;
  len = len_after _ _ _ _ c.in_ok-insert.ensures.old c.in_ok-insert.ensures.len;
  others = refl;
  limit = refl;
}
