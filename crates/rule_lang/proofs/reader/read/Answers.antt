use Rattle.std.proofs.Common.{rules, arith, ◌≡◌, Ok, Err, Some, None, Option, true, false, drop}
use Rattle.std.proofs.Common.{sym, subst, inr}
use Rattle.rule_lang.specs.declared.rule_fault.RuleFault.{RuleFault}
use Rattle.rule_lang.specs.Named.{draft_as_lists, placed_all}
use Rattle.rule_lang.specs.Reader.Reading.{Draft, Next, next, Reads, goes_on, first_draft, is_done}
use Rattle.rule_lang.specs.Reader.Sound.{IsSound}
use Rattle.rule_lang.proofs.ReadOn.{sound_next, ended_ok, ended_err, fault_read}
use Rattle.rule_lang.proofs.reader.read.Goals as goal

pub loop-alloc-init : goal.loop-alloc-init
loop-alloc-init c =
    let is = c.first_draft-draft.ensures in
    record {
      so_far = λ v r. subst (λ (d : Draft). Reads c.args.shape.now d (placed_all
          c.args.tokens.now) v) is r;
      sound = subst (λ (d : Draft). IsSound d) (sym is) (λ clean. tt);
      within = omega arith;
    }

pub loop-alloc-preserved : goal.loop-alloc-preserved
loop-alloc-preserved c =
    let ts = placed_all c.args.tokens.now in
    let old = draft_as_lists c.loop-alloc.draft in
    let new = draft_as_lists c.advance.new.draft in
    let step : ◌≡◌ {A = Next} (next c.args.shape.now old (drop c.loop-alloc.place ts)) (Ok (
      new,
      drop c.in-Ok.after ts,
    )) = search rules in
    let going : is_done c.loop-alloc.draft.mode ≡ false = search rules in
    record {
      so_far = λ v r. c.loop-alloc.invariant.so_far v (goes_on going step r);
      sound = sound_next c.args.shape.now old new (drop c.loop-alloc.place ts) (drop
          c.in-Ok.after ts) c.loop-alloc.invariant.sound step;
      within = search rules;
    }

pub returns-in-Err-clause-fault : goal.returns-in-Err-clause-fault
returns-in-Err-clause-fault c =
    let ts = placed_all c.args.tokens.now in
    let going : is_done c.loop-alloc.draft.mode ≡ false = search rules in
    fault_read c.args.shape.now first_draft (draft_as_lists c.loop-alloc.draft) ts (drop
    c.loop-alloc.place ts) c.in-Err.fault going c.loop-alloc.invariant.so_far (search rules)

pub returns-in-Some-clause-fault : goal.returns-in-Some-clause-fault
returns-in-Some-clause-fault c =
    let ts = placed_all c.args.tokens.now in
    let done : is_done c.loop-alloc.draft.mode ≡ true = search rules in
    let noted : c.loop-alloc.draft.noted ≡ Some c.in-Some.fault = search rules in
    inr (c.loop-alloc.invariant.so_far (Err c.in-Some.fault) (ended_err c.args.shape.now
    (draft_as_lists c.loop-alloc.draft) (drop c.loop-alloc.place ts) c.in-Some.fault done noted))

pub returns-in-None-clause-rule : goal.returns-in-None-clause-rule
returns-in-None-clause-rule c =
    let ts = placed_all c.args.tokens.now in
    let done : is_done c.loop-alloc.draft.mode ≡ true = search rules in
    let clean : ◌≡◌ {A = Option RuleFault} c.loop-alloc.draft.noted None = search rules in
    let read = c.loop-alloc.invariant.so_far (Ok c.loop-alloc.draft.statements.items) (ended_ok
    c.args.shape.now (draft_as_lists c.loop-alloc.draft) (drop c.loop-alloc.place ts) done clean)
    in
    search (rules, read)
