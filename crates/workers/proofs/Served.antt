-- What one connection did, and one more after others; and a worker whose thread promised to return
-- it.
use Rattle.std.proofs.Common.{◌≡◌, ℕ, ◌+◌, ◌-◌, ◌^◌, min, List, [], ◌∷◌, ◌++◌}
use Rattle.std.proofs.Common.{length, refl, sym, subst, append-nil, arith, length-append}
use Rattle.std.proofs.lemmas.List.Elements.{All-cons, All-nil}
use Rattle.std.specs.List.{AllZip}
use Rattle.std.specs.Prelude.{Bool, ℤ, Option, None, Result, Ok, Err, IfOk, IfErr}
use Rattle.std.specs.declared.thread.PromisedHandle.{PromisedHandle}
use Rattle.std.proofs.lemmas.Grind.{flat_map-append}
use Rattle.answering.specs.Answer.{RepliesByRuns, RepliesTo, WritesNothing, taken, rejected}
use Rattle.answering.specs.Answer.{Sends, sent, withheld}
use Rattle.answering.specs.Reply.{HttpReply}
use Rattle.answering.specs.declared.answering.AnswerFault.{AnswerFault}
use Rattle.answering.specs.declared.answering.AnswerFault.TheVariants.{Ended, Reading, Writing}
use Rattle.cells.specs.Grown.{GrewBy, GrowsByAppend}
use Rattle.cells.specs.declared.event.CellEvent.{CellEvent}
use Rattle.hot_swap.specs.Published.{KnownPrefix, Extends}
use Rattle.workers.proofs.Counts.{counts_on}
use Rattle.workers.proofs.InPlace.{zip_through}
use Rattle.workers.proofs.Onwards.{goes_nowhere}
use Rattle.workers.proofs.Turns.{turns_join}
use Rattle.workers.specs.Answers.{WorkerAnswer, made_in_turn}
use Rattle.workers.specs.Back.{WorkerBack, ConnectionBack, ConnectionsBack, MomentBack}
use Rattle.workers.specs.Back.{WorkersBack}
use Rattle.workers.specs.Promised.{IsPromiseOf}
use Rattle.workers.specs.declared.promise.WorkerPromise.{WorkerPromise}

-- ---- one connection

-- a reply to some bytes is also one without known bytes
unknown_input : (input : Option (List ℕ)) (w : KnownPrefix) (moment : ℤ) (events : List CellEvent)
    (reply : HttpReply) → RepliesTo input w moment events reply
    → RepliesTo None w moment events reply
unknown_input input w moment events reply (taken body is replies) = taken body tt replies
unknown_input input w moment events reply (rejected fault status is code) =
    rejected fault status tt code

sent_to_unknown : (withholds : Bool) (input : Option (List ℕ)) (w : KnownPrefix) (moment : ℤ)
    (events : List CellEvent) (reply : HttpReply)
    → Sends withholds (RepliesTo input w moment) events reply
    → Sends withholds (RepliesTo None w moment) events reply
sent_to_unknown withholds input w moment events reply (sent replies) =
    sent (unknown_input input w moment events reply replies)
sent_to_unknown withholds input w moment events reply (withheld may replies) =
    withheld may (unknown_input input w moment events _ replies)

abbrev IsAt : {withholds : Bool} → ℤ → WorkerAnswer withholds → Type 0
IsAt moment answer = answer.moment ≡ moment

module _ {P : Type 0} (withholds : Bool) (belongs : P → Type 0)
    (grew : P → CellEvent → P → Type 0)
    (input : Option (List ℕ)) (v w : KnownPrefix) (moment : ℤ) (p q : P) (here : belongs q)
    (goes : Extends v w) where
  by_reply : (reply : HttpReply) → RepliesByRuns withholds grew input w moment p q reply
      → MomentBack withholds belongs grew moment (p, v) (q, w)
  by_reply reply is =
      let answer : WorkerAnswer withholds = record {
        known = w;
        moment = moment;
        events = is.events;
        reply = reply;
        replies = sent_to_unknown withholds input w moment is.events reply is.of;
      } in
      let back : WorkerBack withholds belongs grew (p, v) (q, w) = record {
        belongs_yet = here;
        answers = answer ∷ [];
        in_turn = (goes, goes_nowhere w);
        grown = subst (λ (es : List CellEvent). GrewBy grew p es q) (sym (append-nil is.events))
            is.grown;
      } in
      record {
        connection = record { back = back; once = omega arith };
        moments_are = All-cons (IsAt moment) answer [] refl (All-nil (IsAt moment));
      }

  did_nothing : q ≡ p → MomentBack withholds belongs grew moment (p, v) (q, w)
  did_nothing same =
      let back : WorkerBack withholds belongs grew (p, v) (q, w) =
      record { belongs_yet = here; answers = []; in_turn = goes; grown = same } in
      record {
        connection = record { back = back; once = omega arith };
        moments_are = All-nil (IsAt moment);
      }

  -- for each outcome of `answer`
  pub by_answer : {S : Type 0} (outcome : Result S AnswerFault) (X Y Z : S → HttpReply → Type 0)
      (U V : ℕ → HttpReply → Type 0) (T : Type 0)
      → IfOk outcome (λ out. (reply : HttpReply) × X out reply × Y out reply
      × RepliesByRuns withholds grew input w moment p q reply × Z out reply)
      → ((n : ℕ) → outcome ≡ Err (Writing n)
      → (reply : HttpReply) × U n reply
      × RepliesByRuns withholds grew input w moment p q reply × V n reply)
      → IfErr outcome (λ e. WritesNothing e → (q ≡ p) × T)
      → MomentBack withholds belongs grew moment (p, v) (q, w)
  by_answer (Ok out) X Y Z U V T replied begun unread = by_reply replied.0 replied.3
  by_answer (Err (Writing n)) X Y Z U V T replied begun unread =
      let some = begun n refl in by_reply some.0 some.2
  by_answer (Err Ended) X Y Z U V T replied begun unread = did_nothing (unread tt).0
  by_answer (Err Reading) X Y Z U V T replied begun unread = did_nothing (unread tt).0

-- ---- one after the other

module _ {P : Type 0} (withholds : Bool) (belongs : P → Type 0)
    (grew : P → CellEvent → P → Type 0) where
  pub back_at_once : (p : P) (w : KnownPrefix) → belongs p
      → WorkerBack withholds belongs grew (p, w) (p, w)
  back_at_once p w here = record {
    belongs_yet = here;
    answers = [];
    in_turn = goes_nowhere w;
    grown = refl;
  }

  pub unread : (moment : ℤ) (p : P) (w : KnownPrefix) → belongs p
      → MomentBack withholds belongs grew moment (p, w) (p, w)
  unfolding back_at_once
  unread moment p w here = record {
    connection = record { back = back_at_once p w here; once = omega arith };
    moments_are = All-nil (IsAt moment);
  }

  pub back_later : GrowsByAppend grew → (a b c : P × KnownPrefix)
      → WorkerBack withholds belongs grew a b → WorkerBack withholds belongs grew b c
      → WorkerBack withholds belongs grew a c
  back_later join a b c first last =
      let early = first.answers in
      let late = last.answers in
      record {
        belongs_yet = last.belongs_yet;
        answers = early ++ late;
        in_turn = turns_join a.1 b.1 c.1 early late first.in_turn last.in_turn;
        grown = subst (λ (es : List CellEvent). GrewBy grew a.0 es c.0)
            (sym (flat_map-append (λ (x : WorkerAnswer withholds). x.events) early late))
            (join a.0 (made_in_turn early) b.0 (made_in_turn late) c.0 first.grown last.grown);
      }

  -- before any connection is taken
  pub none_taken : (calls : ℕ) (p : P) (w : KnownPrefix) → belongs p
      → ConnectionsBack withholds belongs grew calls (p, w) (p, w)
  unfolding back_at_once
  none_taken calls p w here = record {
    back = back_at_once p w here;
    at_most_one = λ few. omega arith;
  }

  -- one connection more
  pub one_taken : GrowsByAppend grew → (calls more : ℕ) → more ≡ min (calls + 1) (2 ^ 64 - 1)
      → (a b c : P × KnownPrefix) → ConnectionsBack withholds belongs grew calls a b
      → ConnectionBack withholds belongs grew b c
      → ConnectionsBack withholds belongs grew more a c
  unfolding back_later
  one_taken join calls more counts a b c old one =
      let early = old.back.answers in
      let late = one.back.answers in
      let size = length-append early late in
      let once = one.once in
      record {
        back = back_later join a b c old.back one.back;
        at_most_one = counts_on calls more (length early) (length (early ++ late)) counts
            old.at_most_one (omega (arith, size, once));
      }

-- the same, if the cells are equal
pub one_on : {X P : Type 0} (withholds : Bool) (belongs : X → P → Type 0)
    (grew : P → CellEvent → P → Type 0) → GrowsByAppend grew
    → (first later : X) → later ≡ first → (calls more : ℕ)
    → more ≡ min (calls + 1) (2 ^ 64 - 1) → (a b c : P × KnownPrefix)
    → ConnectionsBack withholds (belongs first) grew calls a b
    → ConnectionBack withholds (belongs later) grew b c
    → ConnectionsBack withholds (belongs first) grew more a c
one_on withholds belongs grew join first later same calls more counts a b c old one =
    one_taken withholds (belongs first) grew join calls more counts a b c old
    (subst (λ x. ConnectionBack withholds (belongs x) grew b c) same one)

-- ---- workers whose threads promised to return them

abbrev WorkerThread : (X Y P : Type 0) → Type 0
WorkerThread X Y P = PromisedHandle (P × KnownPrefix) (WorkerPromise X Y P)

-- what is kept for a promise's own cells, cover and worker is kept for the equal ones
kept_of : {X Y W : Type 0} (Kept : X → Y → W → Type 0) (cells x : X) (cover y : Y) (given w : W)
    → x ≡ cells → y ≡ cover → w ≡ given → Kept x y w → Kept cells cover given
kept_of Kept cells x cover y given w over by is kept =
    subst (λ it. Kept cells cover it) is
    (subst (λ it. Kept cells it w) by (subst (λ it. Kept it y w) over kept))

module _ {X Y P : Type 0} (withholds : Y → Bool) (belongs : X → P → Type 0)
    (grew : P → CellEvent → P → Type 0) (cells : X) (cover : Y) where
  is_back : (worker : P × KnownPrefix) (promise : WorkerPromise X Y P) (back : P × KnownPrefix)
      → IsPromiseOf cells cover worker promise
      → WorkerBack (withholds promise.cover.value) (belongs promise.cells.value) grew
      promise.given.value back
      → WorkerBack (withholds cover) (belongs cells) grew worker back
  is_back worker promise back is =
      kept_of
      (λ (x : X) (y : Y) (w : P × KnownPrefix). WorkerBack (withholds y) (belongs x) grew w back)
      cells promise.cells.value cover promise.cover.value worker promise.given.value
      is.cells_are is.cover_is is.worker_is

  pub all_back : (workers : List (P × KnownPrefix)) (threads : List (WorkerThread X Y P))
      (back : List (P × KnownPrefix))
      → AllZip (λ (worker : P × KnownPrefix) (thread : WorkerThread X Y P).
      IsPromiseOf cells cover worker thread.promise) workers threads
      → AllZip (λ (thread : WorkerThread X Y P) (new : P × KnownPrefix).
      WorkerBack (withholds thread.promise.cover.value) (belongs thread.promise.cells.value) grew
      thread.promise.given.value new)
      threads back
      → WorkersBack (withholds cover) (belongs cells) grew workers back
  all_back = zip_through
      (λ (worker : P × KnownPrefix) (thread : WorkerThread X Y P).
      IsPromiseOf cells cover worker thread.promise)
      (λ (thread : WorkerThread X Y P) (new : P × KnownPrefix).
      WorkerBack (withholds thread.promise.cover.value) (belongs thread.promise.cells.value) grew
      thread.promise.given.value new)
      (WorkerBack (withholds cover) (belongs cells) grew)
      (λ worker thread new is kept. is_back worker thread.promise new is kept)
