-- What is known of an app's file says whether it offers a version.
use Rattle.std.proofs.Common.{◌≡◌, ◌∙◌, ap, sym, subst, ℕ, List, Bool, true, false, not, ◌&&◌}
use Rattle.std.proofs.Common.{bytes_eq, Ok, Some}
use Rattle.std.specs.Prelude.{is_some}
use Rattle.std.specs.List.{list_any}
use Rattle.load.specs.Kept.{whole_file}
use Rattle.load.specs.declared.sources.AppSources.{AppSources}
use Rattle.manifest.specs.declared.app.ProgramSource.TheVariants.{Program, Rule}
use Rattle.rule_lang.specs.Verdicts.{IsVerdict}
use Rattle.rule_lang.specs.declared.rule.Statement.{Statement}
use Rattle.stage_rules.specs.Halts.{halting_file}
use Rattle.stage_rules.specs.InForce.{has_bytes}
use Rattle.stage_rules.specs.Lifting.{IsKnown, halted, program, rule}
use Rattle.stage_rules.specs.ReleaseHalts.{offers}

pub known_halted : (app : AppSources) (version bytes : List ℕ)
    → Some bytes ≡ whole_file app.kept → bytes_eq bytes (halting_file app.entry.source) ≡ true
    → IsKnown app version false
known_halted app version bytes whole equal =
    halted (ap (λ o. has_bytes o (halting_file app.entry.source)) (sym whole) ∙ equal)

pub known_program : (app : AppSources) (version bytes file : List ℕ)
    → app.entry.source ≡ Program file → Some bytes ≡ whole_file app.kept
    → bytes_eq bytes (halting_file app.entry.source) ≡ false → IsKnown app version true
known_program app version bytes file is whole other =
    program file is
    (ap (λ o. is_some o && not (has_bytes o (halting_file app.entry.source))) (sym whole)
    ∙ ap not other)

pub known_rule : (app : AppSources) (version bytes file : List ℕ) (statements : List Statement)
    (offered : Bool) → app.entry.source ≡ Rule file → whole_file app.kept ≡ Some bytes
    → IsVerdict app.shape bytes (Ok statements)
    → offered ≡ list_any (offers app.entry.releases version) statements
    → IsKnown app version offered
known_rule app version bytes file statements offered is whole verdict found =
    subst (λ (b : Bool). IsKnown app version b) (sym found)
    (rule file bytes statements is whole verdict)
