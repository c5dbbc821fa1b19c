-- The texts of a publisher's faults.
use Rattle.std.specs.Prelude.{ℕ, List, codes}
use Rattle.hot_swap.specs.declared.swap_fault.SwapFault.{SwapFault}
use Rattle.hot_swap.specs.declared.swap_fault.SwapFault.TheVariants.{Memory, NoPlace, Exhausted}
use Rattle.ruleset.specs.Texts.{line}

abbrev pub swap_text : SwapFault → List ℕ
swap_text Memory = codes "H1 Memory"
swap_text NoPlace = codes "H2 NoPlace"
swap_text Exhausted = codes "H3 Exhausted"

-- as it is sent to a client
abbrev pub swap_line : SwapFault → List ℕ
swap_line fault = line (swap_text fault)
