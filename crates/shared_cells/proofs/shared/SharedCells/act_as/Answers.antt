-- Each step does to the word what the operation does to the value.
use Rattle.std.proofs.Common.{◌+◌, ◌%◌, ◌^◌, refl, sym, ◌∙◌, bit_and, bit_or}
use Rattle.std.specs.Prelude.{bit_xor, ◌==◌}
use prog.Atomic.{either}
use Rattle.shared_cells.proofs.Steps.{allowed, allowed_store}
use Rattle.shared_cells.proofs.Words.{adds, ors, ands, xors, exchanges}
use Rattle.shared_cells.proofs.shared.SharedCells.act_as.Goals as goal

pub load-found-requires : goal.load-found-requires
load-found-requires g c =
    let at = c.index-at.result in
    allowed c.pass.inside.seat.me at c.self.view_is c.pass.view_is c.requires.belongs
    c.self.invariant.0 c.index-at.ensures.in_range c.pass.invariant.0
    (c.requires.cell ∙ sym c.index-at.ensures.value)
    (λ n. n) (c.requires.op ∙ c.in-Load.is)
    (λ v. refl)

pub store-requires : goal.store-requires
store-requires g c =
    let at = c.index-at.result in
    allowed_store c.pass.inside.seat.me at c.self.view_is c.pass.view_is c.requires.belongs
    c.self.invariant.0 c.index-at.ensures.in_range c.pass.invariant.0
    (c.requires.cell ∙ sym c.index-at.ensures.value)
    c.in-Store.new (c.requires.op ∙ c.in-Store.is) c.to_word.ensures

pub fetch_add-found-requires : goal.fetch_add-found-requires
fetch_add-found-requires g c =
    let at = c.index-at.result in
    allowed c.pass.inside.seat.me at c.self.view_is c.pass.view_is c.requires.belongs
    c.self.invariant.0 c.index-at.ensures.in_range c.pass.invariant.0
    (c.requires.cell ∙ sym c.index-at.ensures.value)
    (λ n. (n + c.to_word-in-Add.result) % 2 ^ 64) (c.requires.op ∙ c.in-Add.is)
    (λ v. adds at c.in-Add.by v _ c.to_word-in-Add.ensures)

pub fetch_or-found-requires : goal.fetch_or-found-requires
fetch_or-found-requires g c =
    let at = c.index-at.result in
    allowed c.pass.inside.seat.me at c.self.view_is c.pass.view_is c.requires.belongs
    c.self.invariant.0 c.index-at.ensures.in_range c.pass.invariant.0
    (c.requires.cell ∙ sym c.index-at.ensures.value)
    (λ n. bit_or n c.to_word-in-Or.result) (c.requires.op ∙ c.in-Or.is)
    (λ v. ors at c.in-Or.bits v _ c.to_word-in-Or.ensures)

pub fetch_and-found-requires : goal.fetch_and-found-requires
fetch_and-found-requires g c =
    let at = c.index-at.result in
    allowed c.pass.inside.seat.me at c.self.view_is c.pass.view_is c.requires.belongs
    c.self.invariant.0 c.index-at.ensures.in_range c.pass.invariant.0
    (c.requires.cell ∙ sym c.index-at.ensures.value)
    (λ n. bit_and n c.to_word-in-And.result) (c.requires.op ∙ c.in-And.is)
    (λ v. ands at c.in-And.bits v _ c.to_word-in-And.ensures)

pub fetch_xor-found-requires : goal.fetch_xor-found-requires
fetch_xor-found-requires g c =
    let at = c.index-at.result in
    allowed c.pass.inside.seat.me at c.self.view_is c.pass.view_is c.requires.belongs
    c.self.invariant.0 c.index-at.ensures.in_range c.pass.invariant.0
    (c.requires.cell ∙ sym c.index-at.ensures.value)
    (λ n. bit_xor n c.to_word-in-Xor.result) (c.requires.op ∙ c.in-Xor.is)
    (λ v. xors at c.in-Xor.bits v _ c.to_word-in-Xor.ensures)

pub swap-found-requires : goal.swap-found-requires
swap-found-requires g c =
    let at = c.index-at.result in
    allowed c.pass.inside.seat.me at c.self.view_is c.pass.view_is c.requires.belongs
    c.self.invariant.0 c.index-at.ensures.in_range c.pass.invariant.0
    (c.requires.cell ∙ sym c.index-at.ensures.value)
    (λ _. c.to_word-in-Swap.result) (c.requires.op ∙ c.in-Swap.is)
    (λ v. c.to_word-in-Swap.ensures)

pub compare_exchange-found-requires : goal.compare_exchange-found-requires
compare_exchange-found-requires g c =
    let at = c.index-at.result in
    allowed c.pass.inside.seat.me at c.self.view_is c.pass.view_is c.requires.belongs
    c.self.invariant.0 c.index-at.ensures.in_range c.pass.invariant.0
    (c.requires.cell ∙ sym c.index-at.ensures.value)
    (λ n. either (n == c.to_word-expected.result) c.to_word-new.result n)
    (c.requires.op ∙ c.in-CompareExchange.is)
    (λ v. exchanges at c.in-CompareExchange.expected c.in-CompareExchange.new v _ _
    c.to_word-expected.ensures c.to_word-new.ensures)
