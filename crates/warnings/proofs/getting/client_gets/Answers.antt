use Rattle.warnings.proofs.getting.client_gets.Goals as goal

pub returns : goal.returns
returns c = rw c.in_ok-app.ensures at c.app_gets-got.ensures
