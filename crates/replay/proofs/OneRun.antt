-- Lines that are played in order are one run of the world.
use Rattle.std.proofs.Common.{◌≡◌, suc, ◌-◌, ◌<◌, List, [], ◌∷◌, ◌++◌, length, get_or}
use Rattle.std.proofs.Common.{take, drop, append_assoc, append-nil, refl, sym, ap, ◌∙◌, arith}
use Rattle.std.proofs.Math.Seq.{take-length}
use Rattle.world.specs.Batches.{BatchesJoin}
use Rattle.world.specs.Happens.{Answer, Plays}
use Rattle.world.specs.Represents.{Parts}
use Rattle.world.specs.World.{WorldState}
use Rattle.world.specs.declared.event.Event.{Event}
use Rattle.replay.specs.Played.{repeated, IsLineReplied, AreRepliesFrom}
use Rattle.event_script.specs.declared.script_line.EventLine.{EventLine}
use Rattle.replay.specs.declared.reply.Reply.{Reply}

-- ---- one line before others

-- each event has a result
as_many : (w v : WorldState) (es : List Event) (rs : List Answer) → Plays w es rs v
    → length rs ≡ length es
as_many w v [] [] plays = refl
as_many w v (e ∷ es) (r ∷ rs) plays = ap (λ n. suc n) (as_many plays.0 v es rs plays.2)
as_many w v [] (r ∷ rs) plays = absurd plays
as_many w v (e ∷ es) [] plays = absurd plays

told_first : BatchesJoin → (before between : Parts) (requested : EventLine) (lines : List EventLine)
    (e : Event) (events : List Event) (reply : Reply) (replies : List Reply)
    → IsLineReplied before requested e reply between → AreRepliesFrom between lines events replies
    → AreRepliesFrom before (requested ∷ lines) (e ∷ events) (reply ∷ replies)
told_first join before between requested lines e events reply replies own others w represents =
    let played = own.played w represents in
    let more = others played.0 played.2 in record {
      answers = own.answers ∷ more.answers;
      after = more.after;
      run = join w more.after (repeated requested e) _ own.answers _
          (record { between = played.0; first = played.1; second = more.run });
      lines_replied = (
        as_many w played.0 (repeated requested e) own.answers played.1,
        own.reply_is,
        more.lines_replied,
      );
    }

-- ---- the lines so far

-- the replies for the lines that are left, after those so far, are the replies for all lines
pub record Leads (before now : Parts) (lines left : List EventLine) (events behind : List Event)
    (done : List Reply) : Type 0 where
  pub tells : (more : List Reply) → AreRepliesFrom now left behind more
      → AreRepliesFrom before lines events (done ++ more)

pub begins : (before : Parts) (lines : List EventLine) (events : List Event)
    → Leads before before lines lines events events []
begins before lines events = record { tells = λ more lines_replied. lines_replied }

first_rest : {X : Type 0} (xs : List X) (x : X) → 0 < length xs → x ≡ get_or xs 0 x
    → xs ≡ x ∷ take (length xs - 1) (drop 1 xs)
first_rest [] x some is = absurd (omega (arith, some))
first_rest (y ∷ ys) x some is =
    let n : length (y ∷ ys) - 1 ≡ length ys = omega arith in
    ap (λ z. z ∷ ys) (sym is) ∙ ap (λ t. x ∷ t) (sym (ap (λ m. take m ys) n ∙ take-length ys))

-- the first line that is left, with the first event
pub goes_on : BatchesJoin → (before now after : Parts) (lines left : List EventLine)
    (requested : EventLine) (events behind : List Event) (e : Event) (done longer : List Reply)
    (reply : Reply) → 0 < length left → requested ≡ get_or left 0 requested → 0 < length behind
    → e ≡ get_or behind 0 e → longer ≡ done ++ reply ∷ []
    → Leads before now lines left events behind done
    → IsLineReplied now requested e reply after
    → Leads before after lines (take (length left - 1) (drop 1 left)) events
    (take (length behind - 1) (drop 1 behind)) longer
goes_on join before now after lines left requested events behind e done longer reply some found
    event_there event_found grown so_far own =
    let others = take (length left - 1) (drop 1 left) in
    let later = take (length behind - 1) (drop 1 behind) in
    let here = rw (
      first_rest left requested some found,
      first_rest behind e event_there event_found,
    ) at so_far in record {
      tells = λ more lines_replied.
          rw (grown, append_assoc done (reply ∷ []) more)
          (here.tells (reply ∷ more)
          (told_first join now after requested others e later reply more own lines_replied));
    }

none_left : {X : Type 0} (xs : List X) → length xs < 1 → xs ≡ []
none_left [] few = refl
none_left (x ∷ xs) few = absurd (omega (arith, few))

-- no line is left
pub ends : (before now : Parts) (lines left : List EventLine) (events behind : List Event)
    (replies : List Reply) → length left < 1 → length behind < 1
    → Leads before now lines left events behind replies
    → AreRepliesFrom before lines events replies
ends before now lines left events behind replies no_line no_event so_far =
    let here = rw (none_left left no_line, none_left behind no_event) at so_far in
    rw (append-nil replies) at
    (here.tells []
    (λ w represents. record { answers = []; after = w; run = refl; lines_replied = tt }))
