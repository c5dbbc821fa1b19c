use Rattle.std.proofs.Common.{None, List, ℕ, ◌++◌, ◌∙◌, ap, refl, arith, codes, string_bytes}
use Rattle.bpf_text.specs.Listing.{bare_line}
use Rattle.bpf_semantics.specs.Program.{shaped}
use Rattle.why_refused_program.proofs.Texts.{bare_gathered}
use Rattle.why_refused_program.proofs.Walking.{place_there, parts_next}
use Rattle.why_refused_program.proofs.Walking.{explains_next, explains_whole}
use Rattle.why_refused_program.proofs.explained.push_rest.Goals as goal

pub insn-insn-requires : goal.insn-insn-requires
insn-insn-requires c =
    place_there c.args.flow.now c.loop-slot.slot c.loop-slot.invariant.0
    (omega (arith, c.loop-slot-test.true, c.len.ensures))

pub loop-slot-preserved : goal.loop-slot-preserved
loop-slot-preserved c =
    rw (c.slots-slot.ensures.slots, c.width.ensures) (
      parts_next c.args.flow.now c.loop-slot.slot c.loop-slot.invariant.0 c.insn-insn.result.now
          c.insn-insn.ensures,
      λ shape why so_far. explains_next (shaped c.args.flow.now shape) why None c.loop-slot.slot
          c.insn-insn.result.now (string_bytes c.loop-slot.text) (string_bytes c.push_str.new.self)
          (c.loop-slot.invariant.1 shape why so_far) c.insn-insn.ensures
          (record { skipped = refl; plain = refl })
          (c.in_ok-push_str.ensures.bytes
          ∙ ap (λ (t : List ℕ). t ++ codes "\n") c.in_ok-push_bare_line.ensures
          ∙ bare_gathered (string_bytes c.loop-slot.text) (bare_line c.insn-insn.result.now)),
    )

pub returns : goal.returns
returns c = λ shape why so_far.
    explains_whole (shaped c.args.flow.now shape) why None c.loop-slot.slot
    (string_bytes c.loop-slot.text) (c.loop-slot.invariant.1 shape why so_far)
    (omega (arith, c.loop-slot-test.false, c.len.ensures))
