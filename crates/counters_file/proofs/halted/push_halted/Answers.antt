use Rattle.std.proofs.Common.{◌∙◌, ◌++◌, List, ℕ, ap, map, refl, string_bytes, subst, sym}
use Rattle.counters_file.specs.Halts.{IsText, halted_line}
use Rattle.counters_file.specs.Text.{ended}
use Rattle.counters_file.proofs.HaltsPushed.{halt_pushed, halt_seen, none_left}
use Rattle.counters_file.proofs.halted.push_halted.Goals as goal

pub loop-left-preserved : goal.loop-left-preserved
loop-left-preserved c =
    let left = c.loop-left.left.now in
    let a = c.appid-item.result in
    let value = c.as_str.ensures.value in (
      halt_pushed left a a _ _ _ _ c.in-len1-up.len_at_least refl (sym c.appid-item.is)
          c.loop-left.invariant.0
          (c.in_ok-push_one.ensures.text
          ∙ ap (λ (bs : List ℕ). string_bytes c.loop-left.text ++ ended (halted_line bs)) value),
      halt_seen IsText left (map string_bytes c.args.halted.now) a a _
          c.in-len1-up.len_at_least refl
          (sym c.appid-item.is) c.loop-left.invariant.1
          (subst IsText value c.in_ok-push_one.ensures.is_text),
    )

pub returns-clause-texts : goal.returns-clause-texts
returns-clause-texts c =
    c.loop-left.invariant.1 (none_left IsText c.loop-left.left.now c.in_default.len_below)
