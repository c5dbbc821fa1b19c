-- One more text.
use Rattle.std.proofs.Common.{◌≡◌, ◌∙◌, ap, ℕ, List, [], ◌∷◌, ◌++◌, append_assoc}
use Rattle.std.proofs.Common.{String, map, string_bytes}
use Rattle.std.proofs.lemmas.List.{map-append}
use Rattle.std.specs.declared.alloc.Global.{Global}

pub text_further : (items : List (String Global)) (text : String Global) (rest : List (List ℕ))
    → map string_bytes (items ++ text ∷ []) ++ rest
    ≡ map string_bytes items ++ (string_bytes text ∷ rest)
text_further items text rest =
    ap (λ (l : List (List ℕ)). l ++ rest) (map-append string_bytes items (text ∷ []))
    ∙ append_assoc (map string_bytes items) (string_bytes text ∷ []) rest
