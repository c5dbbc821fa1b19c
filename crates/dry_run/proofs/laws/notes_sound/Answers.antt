use Rattle.dry_run.proofs.MembersNoted.{members_are_noted}
use Rattle.dry_run.proofs.Written.{read_members_are_explained}
use Rattle.dry_run.proofs.laws.notes_sound.Goals as goal

pub returns-clause-members : goal.returns-clause-members
returns-clause-members c = members_are_noted

pub returns-clause-read : goal.returns-clause-read
returns-clause-read c = read_members_are_explained
