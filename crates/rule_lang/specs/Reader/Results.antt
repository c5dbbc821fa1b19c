-- Results of calls that may also run out of memory.
use Rattle.std.specs.Prelude.{◌≡◌, ◌⊎◌, ℕ, List, Result, Ok, Err}
use Rattle.std.specs.Borrow.{Bor}
use Rattle.cells.specs.Arrays.{AppShape}
use Rattle.rule_lang.specs.declared.rule_fault.RuleFault.{RuleFault}
use Rattle.rule_lang.specs.declared.rule_fault.RuleFault.TheVariants.{Memory}
use Rattle.rule_lang.specs.declared.lexer.Placed as the_placed
use Rattle.rule_lang.specs.Named.{placed_all}
use Rattle.rule_lang.specs.Lexed.{Placed}
use Rattle.rule_lang.specs.Reader.Reading.{Draft, Next, Reads, first_draft}

abbrev pub IsFaultOf : {A : Type 0} → Result A RuleFault → RuleFault → Type 0
IsFaultOf verdict e = (e ≡ Memory) ⊎ (verdict ≡ Err e)

-- the new value that a call gives to what it borrows, unless it runs out of memory
abbrev pub Makes : {A : Type 0} → Result (Unit {0}) RuleFault → A → A → Type 0
Makes (Ok x) new want = new ≡ want
Makes (Err e) new want = e ≡ Memory

-- the draft after a phrase, and the tokens after that phrase
abbrev pub ReadsTo : Result (Bor (List (the_placed.Placed (Bor (List ℕ))))) RuleFault → Draft
    → Next → Type 0
ReadsTo (Ok rest) new next = next ≡ Ok (new, placed_all rest.now)
ReadsTo (Err e) new next = (e ≡ Memory) ⊎ (next ≡ Err e)

-- the fault of the tokens, or out of memory
abbrev pub IsReadFault : AppShape → List Placed → RuleFault → Type 0
IsReadFault s ts e = (e ≡ Memory) ⊎ Reads s first_draft ts (Err e)
