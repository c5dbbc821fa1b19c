-- The bytes of a writer that has written a value after the guard.
use Rattle.std.proofs.Common.{◌≡◌, ℕ, List, [], ◌++◌, ap, ap₂, ◌∙◌}
use Rattle.json.specs.Print.{print}
use Rattle.json.specs.Written.{Written}
use Rattle.serde_json.specs.Data.{Data}
use Rattle.serde_json.specs.Written.{compact_text}
use Rattle.serde_json.proofs.Texts.{print-outline}
use Rattle.omaha_json.specs.Tokens.{Adds, tokens_of}

pub text_is : (text guard : List ℕ) (old new : Written) (d : Data)
    → old.before ≡ guard → old.tokens ≡ [] → Adds old new (tokens_of d)
    → text ≡ new.before ++ print new.tokens → text ≡ guard ++ compact_text d
text_is text guard old new d before none adds is =
    is ∙ ap₂ (λ b ts. b ++ print ts) (adds.before ∙ before)
    (adds.tokens ∙ ap (λ ts. ts ++ tokens_of d) none)
    ∙ ap (λ s. guard ++ s) (print-outline d)
