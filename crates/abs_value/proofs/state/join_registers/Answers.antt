use Rattle.std.proofs.Common.{rules, arith, ◌∙◌}
use Rattle.std.proofs.lemmas.List.FromFn.{fill_by_all}
use Rattle.std.proofs.lemmas.List.{length-set}
use Rattle.abs_value.specs.declared.value.Abs.TheVariants.{Unusable}
use Rattle.abs_value.specs.Values.{join_values}
use Rattle.abs_value.specs.States.{register_at, join_registers}
use Rattle.abs_value.proofs.Lists.{put_more, stands_more, put_before}
use Rattle.abs_value.proofs.state.join_registers.Goals as goal
use Rattle.abs_value.proofs.state.join_registers.Goals.{then-not-stays, else-not-stays}

pub loop-r-preserved : goal.loop-r-preserved
loop-r-preserved c =
    let here = c.loop-r.invariant.rest c.loop-r.r (omega arith) in
    elim c.if-not-stays.branch [
      | then-not-stays w ↦ rw w.registers-is (record {
        all = length-set c.loop-r.registers c.loop-r.r w.join.result ∙ c.loop-r.invariant.all;
        joined = put_more c.loop-r.registers c.loop-r.r w.join.result Unusable
            (λ k. join_values (register_at c.args.registers.now k)
            (register_at c.args.other.now k))
            (omega arith) (search (rules, here, w.join.ensures)) c.loop-r.invariant.joined;
        rest = put_before c.loop-r.registers c.args.registers.now c.loop-r.r w.join.result
            Unusable c.loop-r.invariant.rest;
      })
      | else-not-stays w ↦
          let stays = c.stays.ensures w.if-not-stays.false in
          rw w.registers-is (record {
            all = c.loop-r.invariant.all;
            joined = stands_more c.loop-r.registers c.loop-r.r Unusable
                (λ k. join_values (register_at c.args.registers.now k)
                (register_at c.args.other.now k))
                (search (rules, here, stays)) c.loop-r.invariant.joined;
            rest = λ k le. c.loop-r.invariant.rest k (omega (arith, le));
          })
    ]

pub returns : goal.returns
unfolding join_registers
returns c =
    fill_by_all (λ k. join_values (register_at c.args.registers.now k)
    (register_at c.args.other.now k)) c.loop-r.registers 11 Unusable
    c.loop-r.invariant.all (λ k lt. c.loop-r.invariant.joined k (omega arith))
