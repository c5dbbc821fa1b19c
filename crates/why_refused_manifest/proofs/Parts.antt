-- A name is judged part by part.
use Rattle.std.proofs.Common.{◌≡◌, ℕ, List, ◌∷◌, true, false, ◌||◌, ap, ◌∙◌}
use Rattle.std.specs.List.{list_any}
use Rattle.why_refused_manifest.specs.Inside.{leads_out}

pub leaves : (before after : List (List ℕ)) (part : List ℕ) → before ≡ part ∷ after
    → leads_out part ≡ true → list_any leads_out before ≡ true
leaves before after part is out =
    ap (list_any leads_out) is ∙ ap (λ b. b || list_any leads_out after) out

pub goes_on : (before after : List (List ℕ)) (part : List ℕ) → before ≡ part ∷ after
    → leads_out part ≡ false → list_any leads_out before ≡ list_any leads_out after
goes_on before after part is stays =
    ap (list_any leads_out) is ∙ ap (λ b. b || list_any leads_out after) stays
