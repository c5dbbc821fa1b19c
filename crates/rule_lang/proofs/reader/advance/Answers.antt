use Rattle.std.proofs.Common.{rules, ◌≡◌, Ok}
use Rattle.rule_lang.specs.Named.{draft_as_lists, placed_all}
use Rattle.rule_lang.specs.Reader.Reading.{Next, next}
use Rattle.rule_lang.proofs.ReadOn.{next_place}
use Rattle.rule_lang.proofs.reader.advance.Goals as goal

pub returns-clause-next : goal.returns-clause-next
returns-clause-next c =
    let rest = c.split_at.result.1.now in
    let back = c.in_ok-left.left.now in
    let read : ◌≡◌ {A = Next} (next c.args.shape.now (draft_as_lists c.args.draft.now) (placed_all
    rest)) (Ok (draft_as_lists c.read_next.new.draft, placed_all back)) = search rules in
    next_place c.args.shape.now (draft_as_lists c.args.draft.now)
    (draft_as_lists c.read_next.new.draft)
    c.args.tokens.now rest back c.args.place c.requires.sound c.split_at.ensures.back read
