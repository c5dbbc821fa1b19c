use Rattle.cli_logs.proofs.log_part.begin_part.Goals as goal

pub returns-in_default : goal.returns-in_default
returns-in_default g c = c.keeping_is_transitive.ensures.none c.args.places.items
