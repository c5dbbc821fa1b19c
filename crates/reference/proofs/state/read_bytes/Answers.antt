use Rattle.std.proofs.Common.{◌≡◌, ℕ, rules, sym, ◌∙◌, ap, length}
use Rattle.bpf_semantics.specs.Memory.{set_bytes}
use Rattle.reference.specs.Marks.{mark_at}
use Rattle.reference.proofs.Bytes.{all_set, one_unset}
use Rattle.reference.proofs.state.read_bytes.Goals as goal

pub returns-in-None : goal.returns-in-None
returns-in-None c =
    one_unset (mark_at c.args.marks.now) c.args.place (length c.args.into.now) c.loop-k.k
    (search rules) (search rules)

pub returns : goal.returns
returns c =
    let memory = mark_at c.args.marks.now in
    let size : length c.args.into.now ≡ length c.loop-k.into = sym c.loop-k.invariant.size in
    ap (λ (n : ℕ). set_bytes memory c.args.place n) size
    ∙ all_set memory c.args.place c.loop-k.into
    (λ i within. c.loop-k.invariant.bytes i (search rules))
