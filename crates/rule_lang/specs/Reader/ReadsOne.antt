-- Reading one more phrase, by places among the tokens.
use Rattle.std.specs.Prelude.{◌≡◌, ◌⊎◌, ℕ, List, drop, Result, Ok, Err}
use Rattle.cells.specs.Arrays.{AppShape}
use Rattle.rule_lang.specs.declared.rule_fault.RuleFault.{RuleFault}
use Rattle.rule_lang.specs.declared.rule_fault.RuleFault.TheVariants.{Memory}
use Rattle.rule_lang.specs.Lexed.{Placed}
use Rattle.rule_lang.specs.Reader.Reading.{Draft, next}

abbrev pub ReadsOne : Result ℕ RuleFault → AppShape → Draft → Draft → List Placed → ℕ → Type 0
ReadsOne (Ok after) s old new ts place = next s old (drop place ts)
    ≡ Ok (new, drop after ts)
ReadsOne (Err e) s old new ts place = (e ≡ Memory) ⊎ (next s old (drop place ts) ≡ Err e)
