-- Arguments that are malformed.
use Rattle.std.proofs.Common.{◌≡◌, ◌∙◌, sym, ap, List, Option, Some, None}
use Rattle.std.specs.Prelude.{is_some}
use Rattle.clap.specs.Words.{Row, Text}
use Rattle.cli_base.specs.AppOptions.{HasApp}
use Rattle.cli_base.specs.declared.app_args.AppArgs.{AppArgs}
use Rattle.moments.specs.declared.moment.NamedTime.{NamedTime}
use Rattle.moments.specs.declared.moment.NamedTime.TheVariants.{Ago, At}
use Rattle.cli_tool_words.specs.ReportWords.{IsNamedTime, LacksNamedTime}
use Rattle.cli_tool_words.specs.SimulateWords.{IsAnyones, LacksAnyone}

pub no_value : {A : Type 0} (o : Option A) (a : A) → o ≡ None → o ≡ Some a → ⊥
no_value o a none some = let bad : Some a ≡ None = sym some ∙ none in cc

pub no_moment : (text : Option Text) (moment : Option NamedTime) → LacksNamedTime text
    → IsNamedTime text moment → ⊥
no_moment None moment lacks is = lacks
no_moment (Some text) (Some (Ago seconds)) lacks is =
    let bad : Some seconds ≡ None = sym is ∙ lacks.0 in cc
no_moment (Some text) (Some (At time)) lacks is = no_value _ _ lacks.1 is.1
no_moment (Some text) None lacks is = is

-- the options describe one app, and it names a client
pub one_client : (rows : List Row) (app : AppArgs) → HasApp rows app → ¬ IsAnyones app
    → LacksAnyone rows
one_client rows app has named other anyone = named (
  ap is_some (has.attributes.appid ∙ sym anyone.app_is.attributes.appid) ∙ anyone.anyones.0,
  ap is_some (has.attributes.cohort ∙ sym anyone.app_is.attributes.cohort) ∙ anyone.anyones.1,
)
