-- Rows with another name are skipped.
use Rattle.std.proofs.Common.{◌≡◌, ◌∙◌, ap, sym, arith, ◌<◌, ◌-◌, Bool, false, List, [], ◌∷◌}
use Rattle.std.proofs.Common.{length, take, drop, get_or, Some}
use Rattle.std.proofs.lemmas.List.{take_rest}
use Rattle.std.specs.Prelude.{cond, option_map}
use Rattle.std.specs.List.{find}
use Rattle.std.specs.Str.{bytes_eq}
use Rattle.clap.specs.Words.{Text}
use Rattle.cli_base.specs.Grammar.{names_of, verb_in}
use Rattle.cli_base.specs.declared.row.CommandRow.{CommandRow}

passed_first : {V : Type 0} (name : Text) (row : CommandRow V) (rest : List (CommandRow V))
    → bytes_eq name row.name.now ≡ false
    → verb_in name (names_of (row ∷ rest)) ≡ verb_in name (names_of rest)
passed_first name row rest other =
    ap (λ (b : Bool). option_map (λ r. r.1) (cond b (Some (row.name.now, row.verb))
    (find (λ r. bytes_eq name r.0) (names_of rest)))) other

pub passed : {V : Type 0} (name : Text) (left rows : List (CommandRow V)) (d : CommandRow V)
    → 0 < length left → bytes_eq name (get_or left 0 d).name.now ≡ false
    → verb_in name (names_of left) ≡ verb_in name (names_of rows)
    → verb_in name (names_of (take (length left - 1) (drop 1 left)))
    ≡ verb_in name (names_of rows)
passed name [] rows d some other so_far = absurd (omega (arith, some))
passed {V} name (first ∷ rest) rows d some other so_far =
    ap (λ (l : List (CommandRow V)). verb_in name (names_of l)) (take_rest (first ∷ rest) 1)
    ∙ sym (passed_first name first rest other) ∙ so_far
