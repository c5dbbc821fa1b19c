use Rattle.std.proofs.Common.{◌/◌, rules, ◌∙◌, ap}
use Rattle.reference.specs.Marks.{mark_at}
use Rattle.reference.proofs.Bytes.{one_more, next_rest}
use Rattle.reference.proofs.state.put_bytes.Goals as goal

pub loop-k-preserved : goal.loop-k-preserved
loop-k-preserved c = record {
  size = search rules;
  rest = ap (λ n. n / 256) c.loop-k.invariant.rest ∙ next_rest c.args.value c.loop-k.k;
  bytes = λ j. one_more (mark_at c.args.marks.now) c.loop-k.marks c.args.place c.loop-k.k
      c.args.value c.loop-k.rest j
      (search rules) c.loop-k.invariant.rest c.loop-k.invariant.bytes;
}
