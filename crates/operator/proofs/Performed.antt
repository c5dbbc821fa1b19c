-- What a request does, by the result of the function that does it.
use Rattle.std.proofs.Common.{◌≡◌, ◌∙◌, ℕ, List, [], All, Result, Ok, Err, Some, sym, subst, ap}
use Rattle.std.specs.Prelude.{IfOk, IfErr, OnErr}
use Rattle.std.specs.Borrow.{Bor}
use Rattle.std.specs.String.{string_bytes}
use Rattle.std.specs.declared.alloc.AllocError.{AllocError}
use Rattle.std.specs.declared.alloc.Global.{Global}
use Rattle.std.specs.declared.string.String.{String}
use Rattle.cells.specs.Grown.{Grows}
use Rattle.cells.specs.declared.array.CellArray.{CellArray}
use Rattle.cells.specs.declared.event.CellEvent.{CellEvent}
use Rattle.hot_swap.specs.Latest.{latest}
use Rattle.operator.specs.Control.{Controlled, Loading, IsInstalled, IsRefusedLoad}
use Rattle.operator.specs.Control.{Halts, Resumes, IsRefusedHalt}
use Rattle.operator.specs.Counters.{IsLoad, ReadsArrays}
use Rattle.operator.specs.Perform.{Performs, served_reply, lines_reply, loaded, not_loaded}
use Rattle.operator.specs.Perform.{halted, not_halted, resumed, not_resumed}
use Rattle.operator.specs.Perform.{shown, unshown, stated, unstated, counted, uncounted}
use Rattle.operator.specs.Texts.{ruleset_text, state_text}
use Rattle.operator.specs.declared.reply.OperatorRefusal.{OperatorRefusal}
use Rattle.operator_request.specs.declared.request.OperatorRequest.TheVariants as sent
use Rattle.ruleset.specs.Rules.{Rules}

module _ {F : Type 0} (loads : Loading F) (old new : Controlled) where
  pub of_load : (path : Bor (List ℕ)) (done : Result ℕ (OperatorRefusal F))
      → IfOk done (λ n. IsInstalled loads path.now old n new)
      → IfErr done (IsRefusedLoad loads path.now old) → OnErr done (new ≡ old)
      → Performs loads (Some (sent.Load path)) old [] (served_reply done) new
  of_load path (Ok n) is fault same = loaded path is
  of_load path (Err refused) is fault same =
      subst (Performs loads (Some (sent.Load path)) old [] (served_reply (Err refused)))
      (sym same) (not_loaded path fault)

  pub of_halt : (appid : Bor (List ℕ)) (done : Result ℕ (OperatorRefusal F))
      → IfOk done (λ n. Halts appid.now old n new)
      → IfErr done (IsRefusedHalt appid.now old) → OnErr done (new ≡ old)
      → Performs loads (Some (sent.Halt appid)) old [] (served_reply done) new
  of_halt appid (Ok n) is fault same = halted appid is
  of_halt appid (Err refused) is fault same =
      subst (Performs loads (Some (sent.Halt appid)) old [] (served_reply (Err refused)))
      (sym same) (not_halted appid fault)

  pub of_resume : (appid : Bor (List ℕ)) (done : Result ℕ (OperatorRefusal F))
      → IfOk done (λ n. Resumes appid.now old n new)
      → IfErr done (IsRefusedHalt appid.now old) → OnErr done (new ≡ old)
      → Performs loads (Some (sent.Resume appid)) old [] (served_reply done) new
  of_resume appid (Ok n) is fault same = resumed appid is
  of_resume appid (Err refused) is fault same =
      subst (Performs loads (Some (sent.Resume appid)) old [] (served_reply (Err refused)))
      (sym same) (not_resumed appid fault)

module _ {F : Type 0} (loads : Loading F) (old : Controlled) where
  pub of_show : (generation : ℕ) (rules : Rules) (lines : Result (String Global) AllocError)
      → generation ≡ old.publishing.latest.generation → rules ≡ old.publishing.latest.rules
      → IfOk lines (λ text. string_bytes text ≡ ruleset_text (latest generation rules))
      → Performs loads (Some sent.Show) old [] (lines_reply lines) old
  of_show n rules (Ok lines) number same is =
      shown lines (is ∙ ap (λ (m : ℕ). ruleset_text (latest m rules)) number
      ∙ ap (λ (r : Rules). ruleset_text (latest old.publishing.latest.generation r)) same)
  of_show n rules (Err error) number same is = unshown

  pub of_state : (lines : Result (String Global) AllocError)
      → IfOk lines (λ text. string_bytes text ≡ state_text old)
      → Performs loads (Some sent.State) old [] (lines_reply lines) old
  of_state (Ok lines) is = stated lines is
  of_state (Err error) is = unstated

  pub of_cells : {P : Type 0} (grew : P → CellEvent → P → Type 0) (p q : P)
      (arrays : List CellArray) (lines : Result (String Global) AllocError)
      → arrays ≡ old.arrays
      → IfOk lines (λ text. Grows grew p q
      (λ events. ReadsArrays arrays events (string_bytes text)))
      → OnErr lines (Grows grew p q (All IsLoad))
      → Grows grew p q
      (λ events. Performs loads (Some sent.Cells) old events (lines_reply lines) old)
  of_cells grew p q arrays (Ok lines) same read unread = record {
    events = read.events;
    grown = read.grown;
    of = counted lines
        (subst (λ (a : List CellArray). ReadsArrays a read.events (string_bytes lines)) same
        read.of);
  }
  of_cells grew p q arrays (Err error) same read unread = record {
    events = unread.events;
    grown = unread.grown;
    of = uncounted unread.of;
  }
