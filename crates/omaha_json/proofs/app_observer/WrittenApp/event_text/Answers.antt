use Rattle.std.proofs.Common.{◌≡◌, ◌≤◌, ℕ, List, Option, Some, false, subst}
use Rattle.serde_json.specs.Data.{Data, depth}
use Rattle.serde_json.specs.Read.{read, max_depth}
use Rattle.serde_json.specs.Written.{compact_text, has_float}
use Rattle.omaha_json.specs.Event.{IsEventText}
use Rattle.omaha_json.proofs.app_observer.WrittenApp.event_text.Goals as goal

is_told : (o : Option Data) (d : Data) (text : List ℕ) → Some d ≡ o
    → (depth d ≤ max_depth → read text ≡ Some d) → (has_float d ≡ false → text ≡ compact_text d)
    → IsEventText o (Some text)
is_told o d text is back compact =
    subst (λ (p : Option Data). IsEventText p (Some text)) is
    (record { reads_back = back; compact = compact })

pub returns-in_ok-to_string-in-Some : goal.returns-in_ok-to_string-in-Some
returns-in_ok-to_string-in-Some c =
    is_told _ _ _ c.in-Some.ensures c.in_ok-to_string-in-Some.ensures.reads_back
    c.in_ok-to_string-in-Some.ensures.text
