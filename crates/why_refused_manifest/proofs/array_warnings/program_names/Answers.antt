use Rattle.std.proofs.Common.{arith}
use Rattle.why_refused_manifest.specs.ArrayWarnings.{place_names}
use Rattle.why_refused_manifest.proofs.Slots.{named, passed}
use Rattle.why_refused_manifest.proofs.array_warnings.program_names.Goals as goal

pub returns-then-place_names : goal.returns-then-place_names
returns-then-place_names c =
    named c.args.program.now.code c.loop-slot.slot (place_names c.args.number) c.at.result
    c.place_names.result (omega arith) c.at.ensures c.place_names.ensures c.if-place_names.true
    c.loop-slot.invariant.left

pub loop-slot-preserved : goal.loop-slot-preserved
loop-slot-preserved c = record {
  within = omega arith;
  left = passed c.args.program.now.code c.loop-slot.slot (place_names c.args.number) c.at.result
      c.place_names.result (omega arith) c.at.ensures c.place_names.ensures
      c.if-place_names.false c.loop-slot.invariant.left;
}
