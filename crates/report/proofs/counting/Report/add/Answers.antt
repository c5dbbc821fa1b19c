use Rattle.std.proofs.Common.{ℕ, ◌∙◌, ap, max, refl, subst}
use Rattle.report.specs.Counts.{GoesUp}
use Rattle.report.proofs.Counted.{stays}
use Rattle.report.proofs.counting.Report.add.Goals as goal

pub returns : goal.returns
returns c = record {
  lines_counted = c.raised-self.ensures;
  foreign = stays c.args.self.now.foreign;
  lost = subst (λ (k : ℕ). GoesUp c.args.self.now.lost c.raised-self-2.result k)
      c.lost_in-lost.ensures c.raised-self-2.ensures;
  left_out = subst (λ (k : ℕ). GoesUp c.args.self.now.left_out c.raised-self-3.result k)
      c.left_out_in-left_out.ensures c.raised-self-3.ensures;
  offers_left_out =
      subst (λ (k : ℕ). GoesUp c.args.self.now.offers_left_out c.raised-self-4.result k)
      c.offers_left_out_in-offers.ensures c.raised-self-4.ensures;
  longest_wait =
      c.max-self.ensures
      ∙ ap (λ (k : ℕ). max c.args.self.now.longest_wait k)
      c.longest_wait_in-longest_wait.ensures;
  drawn = refl;
  tallies = c.in_ok-note_questions.ensures;
}
