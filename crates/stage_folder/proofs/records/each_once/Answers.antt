use Rattle.std.proofs.Common.{eqb}
use Rattle.std.proofs.lemmas.List.Filters.{dedup_is}
use Rattle.stage_folder.proofs.Reading.{each_kept, rises}
use Rattle.stage_folder.proofs.records.each_once.Goals as goal

pub returns-clause-all : goal.returns-clause-all
returns-clause-all c =
    each_kept c.args.numbers.items c.dedup.new.self.items
    (dedup_is eqb c.args.numbers.items c.dedup.new.self.items c.dedup.ensures.filtered)

pub returns-clause-rising : goal.returns-clause-rising
returns-clause-rising c =
    rises c.args.numbers.items c.dedup.new.self.items c.requires
    (dedup_is eqb c.args.numbers.items c.dedup.new.self.items c.dedup.ensures.filtered)
