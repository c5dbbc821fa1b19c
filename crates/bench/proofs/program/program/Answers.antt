use Rattle.std.proofs.Common.{◌≡◌, ℕ, List, ◌++◌, arith, ap, subst, ◌∙◌}
use Rattle.bpf_insn.specs.declared.insn.Insn.{Insn}
use Rattle.bpf_insn.specs.Program.{encodings}
use Rattle.bench.specs.Patterns.{opening, closing, blocks}
use Rattle.bench.proofs.Building.{joined, block_added}
use Rattle.bench.proofs.program.program.Goals as goal

pub loop-k-preserved : goal.loop-k-preserved
loop-k-preserved c =
    c.in_ok-push_all-2.ensures
    ∙ ap (λ (is : List Insn). c.loop-k.bytes.items ++ encodings is) c.block.ensures
    ∙ block_added opening c.args.pattern c.args.count c.loop-k.k c.loop-k.bytes.items
    c.loop-k.invariant

pub returns : goal.returns
returns c =
    let all : c.loop-k.k ≡ c.args.count = omega arith in
    let read = subst (λ (k : ℕ). c.loop-k.bytes.items
    ≡ encodings (opening ++ blocks c.args.pattern c.args.count k)) all c.loop-k.invariant in
    let last = ap (λ (is : List Insn). c.loop-k.bytes.items ++ encodings is) c.closing.ensures in
    c.in_ok-push_all-3.ensures ∙ last ∙ joined opening
    (blocks c.args.pattern c.args.count c.args.count) closing c.loop-k.bytes.items read
