use Rattle.std.proofs.Common.{All, take}
use Rattle.ruleset.specs.Rules.{IsApp}
use Rattle.ruleset.proofs.ruleset.are_apps.Given as goal

abbrev pub invariant-loop-app : goal.invariant-loop-app
invariant-loop-app l = All IsApp (take l.app-index l.apps)
