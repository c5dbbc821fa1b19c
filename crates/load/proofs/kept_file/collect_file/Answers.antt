use Rattle.load.proofs.Keeping.{kept_from, kept_unread}
use Rattle.load.proofs.kept_file.collect_file.Goals as goal

pub returns-in-Ok-clause-sources : goal.returns-in-Ok-clause-sources
returns-in-Ok-clause-sources g c =
    kept_from _ c.args.source.now _ _ c.in-Ok.kept c.file.ensures c.most_of.ensures
    c.in-Ok.ensures.read

pub returns-in-Err-File-clause-sources : goal.returns-in-Err-File-clause-sources
returns-in-Err-File-clause-sources g c =
    kept_unread _ c.args.source.now _ c.file.ensures
    (rw c.in-Err-File.field-0-is at c.in-Err-File.ensures.read)
