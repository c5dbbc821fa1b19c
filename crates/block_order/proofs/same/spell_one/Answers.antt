use Rattle.std.proofs.Common.{ℕ, List, sym, subst, ◌∙◌}
use Rattle.bpf_insn.specs.Spelling.{Spells}
use Rattle.block_order.proofs.Straight.{same_insn}
use Rattle.block_order.proofs.same.spell_one.Goals as goal

pub returns : goal.returns
returns c = same_insn c.args.insn c.args.other
    (sym (c.decode_at.ensures.only c.args.insn c.requires.first)
    ∙ c.decode_at.ensures.only c.args.other
    (subst (λ (l : List ℕ). Spells l 0 c.args.other) (sym c.requires.same) c.requires.second))
