use Rattle.std.proofs.Common.{◌≡◌, [], map}
use Rattle.clap.specs.Kinds.{HasKind, Kinds}
use Rattle.cli_base.specs.Grammar.{app_of_rows}
use Rattle.cli_base.proofs.Parsed.{by_faults, rows_are, same_kind}
use Rattle.cli_base.proofs.matches.read_matches.Goals as goal

pub returns-in-Ok-try_get_matches_from-clause-rows :
    goal.returns-in-Ok-try_get_matches_from-clause-rows
returns-in-Ok-try_get_matches_from-clause-rows g c =
    rows_are _ (app_of_rows c.args.rows.now) (map g.S.AsStr.text c.args.words.now) _
    c.in-Ok.ensures c.requires c.in-Ok-try_get_matches_from.ensures.matches

pub returns-in-Ok-try_get_matches_from-clause-fits :
    goal.returns-in-Ok-try_get_matches_from-clause-fits
returns-in-Ok-try_get_matches_from-clause-fits g c =
    by_faults (λ (kinds : Kinds). kinds ≡ []) _ (app_of_rows c.args.rows.now)
    (map g.S.AsStr.text c.args.words.now) c.in-Ok.ensures c.requires
    c.in-Ok-try_get_matches_from.ensures.kinds

pub returns-in-Err-clause-fault : goal.returns-in-Err-clause-fault
returns-in-Err-clause-fault g c =
    let app = app_of_rows c.args.rows.now in
    let words = map g.S.AsStr.text c.args.words.now in
    c.words_fault.ensures app words
    (same_kind app words c.in-Err.error c.error_shown.result c.error_shown.ensures
    (by_faults (λ (kinds : Kinds). HasKind kinds c.in-Err.error) _ app words c.in-Ok.ensures
    c.requires c.in-Err.ensures.kinds))
