-- What the operator's thread did for one connection, and for one more after others.
use Rattle.std.proofs.Common.{◌≡◌, ℕ, ◌+◌, ◌-◌, ◌^◌, ◌<◌, ◌≤◌, min, List, [], ◌∷◌, ◌++◌, length}
use Rattle.std.proofs.Common.{Option, Some, None, refl, sym, subst, arith}
use Rattle.std.specs.Prelude.{IfSome, IfNone}
use Rattle.std.proofs.lemmas.List.{length_push}
use Rattle.cells.specs.Grown.{GrewBy, Grows, GrowsByAppend}
use Rattle.cells.specs.declared.event.CellEvent.{CellEvent}
use Rattle.operator.specs.Control.{Controlled, Loading}
use Rattle.operator.specs.Leading.{AnsweredLine, LinesLead, stays, goes}
use Rattle.operator.specs.Perform.{AnswersLine}
use Rattle.operator.specs.declared.reply.OperatorReply.{OperatorReply}
use Rattle.workers.proofs.Counts.{counts_on}
use Rattle.workers.specs.Back.{OperatorBack}
use Rattle.workers.specs.declared.accept.OperatorEnd.{OperatorEnd}

-- the end that the thread would have now
abbrev pub end_now : ℕ → Controlled → OperatorEnd
end_now accepted control =
    record { accepted = accepted; is_requested = control.is_stopping }

module _ {F P : Type 0} (loads : Loading F) (grew : P → CellEvent → P → Type 0) where
  -- the reply is that to a line with these bytes, if they are known
  abbrev pub Answered : Option (List ℕ) → P → Controlled → P → Controlled → OperatorReply F → Type 0
  Answered known m c q d reply =
      Grows grew m q (λ events. AnswersLine loads known c events reply d)

  -- then it is that to some line
  pub of_some_line : (known : Option (List ℕ)) (m : P) (c : Controlled) (q : P) (d : Controlled)
      (reply : OperatorReply F) → Answered known m c q d reply → Answered None m c q d reply
  of_some_line known m c q d reply did = record {
    events = did.events;
    grown = did.grown;
    of = record {
      line_request = did.of.line_request;
      line_request_is = tt;
      performs =
          did.of.performs;
    };
  }

  module _ (belongs : P → Type 0) where
    -- before any connection
    pub no_line : (accepted : ℕ) (p : P) (c : Controlled) → belongs p
        → OperatorBack belongs grew loads (end_now accepted c) (p, c) (p, c)
    no_line accepted p c here = record {
      belongs_yet = here;
      lines = [];
      reads = [];
      led = stays;
      grown = refl;
      at_most_one = λ few. omega arith;
      stop_is = refl;
    }

    module _ (append : GrowsByAppend grew) (taken more : ℕ)
        (counts : more ≡ min (taken + 1) (2 ^ 64 - 1))
        (p : P) (c : Controlled) (m : P) (d : Controlled) (q : P) (e : Controlled)
        (old : OperatorBack belongs grew loads (end_now taken d) (p, c) (m, d))
        (here : belongs q) where
      with_line : (reply : OperatorReply F) → Answered None m d q e reply
          → OperatorBack belongs grew loads (end_now more e) (p, c) (q, e)
      with_line reply did =
          let line : AnsweredLine F = record { request = did.of.line_request; reply = reply } in
          let size = length_push old.lines line in
          record {
            belongs_yet = here;
            lines = old.lines ++ line ∷ [];
            reads = old.reads ++ did.events;
            led = goes {lines = old.lines} {before = old.reads} old.led did.of.performs;
            grown = append p old.reads m did.events q old.grown did.grown;
            at_most_one = counts_on taken more (length old.lines) (length (old.lines ++ line ∷ []))
                counts old.at_most_one (omega (arith, size));
            stop_is = refl;
          }

      without_line : (e ≡ d) × (q ≡ m)
          → OperatorBack belongs grew loads (end_now more e) (p, c) (q, e)
      without_line same = record {
        belongs_yet = here;
        lines = old.lines;
        reads = old.reads;
        led = subst (λ (x : Controlled). LinesLead loads c old.lines old.reads x) (sym same.0)
            old.led;
        grown = subst (λ (x : P). GrewBy grew p old.reads x) (sym same.1) old.grown;
        at_most_one = counts_on taken more (length old.lines) (length old.lines) counts
            old.at_most_one (omega arith);
        stop_is = refl;
      }

      -- after one more connection
      pub one_more : (result : Option (OperatorReply F)) → IfSome result (Answered None m d q e)
          → IfNone result ((e ≡ d) × (q ≡ m))
          → OperatorBack belongs grew loads (end_now more e) (p, c) (q, e)
      one_more (Some reply) did same = with_line reply did
      one_more None did same = without_line same

    -- at its end
    pub at_end : (end : OperatorEnd) (accepted : ℕ) (old : P × Controlled) (q : P) (e : Controlled)
        → end.accepted ≡ accepted → end.is_requested ≡ e.is_stopping
        → OperatorBack belongs grew loads (end_now accepted e) old (q, e)
        → OperatorBack belongs grew loads end old (q, e)
    at_end end accepted old q e same requested back = record {
      belongs_yet = back.belongs_yet;
      lines = back.lines;
      reads = back.reads;
      led = back.led;
      grown = back.grown;
      at_most_one = subst (λ (n : ℕ). n < 2 ^ 64 - 1 → length back.lines ≤ n) (sym same)
          back.at_most_one;
      stop_is = requested;
    }

    -- and as it is returned
    pub returned_by : (old : P × Controlled) (q back : P) (e : Controlled) (end ended : OperatorEnd)
        → back ≡ q → ended ≡ end → OperatorBack belongs grew loads end old (q, e)
        → OperatorBack belongs grew loads ended old (back, e)
    returned_by old q back e end ended same so is =
        subst (λ (x : OperatorEnd). OperatorBack belongs grew loads x old (back, e)) (sym so)
        (subst (λ (x : P). OperatorBack belongs grew loads end old (x, e)) (sym same) is)
