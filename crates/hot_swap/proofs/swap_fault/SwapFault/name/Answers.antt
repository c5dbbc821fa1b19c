use Rattle.std.proofs.Common.{◌≡◌, ◌∙◌, ℕ, ◌-◌, List, length, take, refl, ap}
use Rattle.hot_swap.specs.Texts.{swap_line, swap_text}
use Rattle.hot_swap.specs.declared.swap_fault.SwapFault.{SwapFault}
use Rattle.hot_swap.specs.declared.swap_fault.SwapFault.TheVariants.{Memory, NoPlace, Exhausted}
use Rattle.hot_swap.proofs.swap_fault.SwapFault.name.Goals as goal

unended : (fault : SwapFault)
    → take (length (swap_line fault) - 1) (swap_line fault) ≡ swap_text fault
unended Memory = refl
unended NoPlace = refl
unended Exhausted = refl

pub without_line_feed-requires : goal.without_line_feed-requires
without_line_feed-requires c = (swap_text c.args.self, c.line.ensures)

pub returns : goal.returns
returns c =
    c.without_line_feed.ensures
    ∙ ap (λ (sent : List ℕ). take (length sent - 1) sent) c.line.ensures ∙ unended c.args.self
