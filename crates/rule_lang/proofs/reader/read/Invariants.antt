use Rattle.std.proofs.Common.{◌-◌, ◌≤◌, length, List, drop}
use Rattle.rule_lang.specs.declared.rule.Statement.{Statement}
use Rattle.rule_lang.specs.Named.{draft_as_lists, placed_all}
use Rattle.rule_lang.specs.Parts.{OrFault}
use Rattle.rule_lang.specs.Reader.Reading.{Reads, first_draft}
use Rattle.rule_lang.specs.Reader.Sound.{IsSound}
use Rattle.rule_lang.proofs.reader.read.Given as goal

abbrev pub invariant-loop-alloc : goal.invariant-loop-alloc
invariant-loop-alloc l = record {
  so_far : (v : OrFault (List Statement)) → Reads l.shape (draft_as_lists l.draft) (drop l.place
      (placed_all l.tokens)) v → Reads l.shape first_draft (placed_all l.tokens) v;
  sound : IsSound (draft_as_lists l.draft);
  within : l.place ≤ length l.tokens;
}

abbrev pub decreases-loop-alloc : goal.decreases-loop-alloc
decreases-loop-alloc l = length l.tokens - l.place
