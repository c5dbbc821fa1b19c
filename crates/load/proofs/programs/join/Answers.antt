use Rattle.std.proofs.Common.{List, sym, ap, ◌∙◌, refl, length, arith}
use Rattle.std.proofs.lemmas.List.Elements.{All-push, All-same}
use Rattle.load.specs.declared.judged.AppProgram.{AppProgram}
use Rattle.load.specs.declared.sources.AppSources.{AppSources}
use Rattle.load.specs.JudgedApps.{IsJudgedApp}
use Rattle.load.proofs.InTurn.{joined, joined_more, never_short, program_head, program_tail}
use Rattle.load.proofs.programs.join.Goals as goal

pub unreachable-requires : goal.unreachable-requires
unreachable-requires c =
    let i = c.loop-sources.invariant in
    never_short _ _ _ c.in-Some.sources c.in-Some.ensures.steps.0
    (sym i.behind ∙ c.in_default.ensures.cases.0) i.left

pub loop-sources-preserved : goal.loop-sources-preserved
loop-sources-preserved c =
    let i = c.loop-sources.invariant in
    let apps = c.in-Some.ensures.steps.0 in
    let programs = c.in-Some-next.ensures.items in
    let one = program_head _ _ _ _ c.in-Some.sources c.in-Some-next.judged apps programs i.left in
    let put = c.push_reserved.ensures in
    let long = ap (λ (l : List AppSources). length l) apps in
    let last = c.in-Some.ensures.steps.1 in
    let before = i.count in
    let shorter = ap (λ (l : List AppProgram). length l) programs in
    let fewer = c.in-Some-next.ensures.len in
    let behind = i.behind in
    let room = i.room in
    let more = put.len in
    let same = put.capacity in
    record {
      so_far = joined_more _ _ _ _ _ c.in-Some.sources _ i.so_far apps put.items refl;
      judged = All-same IsJudgedApp _ _ put.items
          (All-push IsJudgedApp _ _ i.judged (joined c.in-Some.sources c.in-Some-next.judged one));
      left = program_tail _ _ _ _ c.in-Some.sources c.in-Some-next.judged apps programs i.left;
      room = omega (arith, room, last, more, same);
      count = omega (arith, long, last, before);
      behind = omega (arith, shorter, fewer, behind);
    }
