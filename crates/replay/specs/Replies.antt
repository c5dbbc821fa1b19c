-- The reply for the results of a line's events, and how it is printed.
use Rattle.std.specs.Prelude.{ℕ, ◌+◌, List, [], ◌++◌, codes, Ok, Err, Bool, if◌then◌else◌}
use Rattle.std.specs.List.{fold}
use Rattle.std.specs.Fmt.{decimal}
use Rattle.replay.specs.declared.reply.Reply.{Reply}
use Rattle.world.specs.Happens.{Answer}
use Rattle.world.specs.Texts.{fault_text}
use Rattle.world.specs.declared.event.Effect.{Effect}
use Rattle.world.specs.declared.event.Effect.TheVariants as effect

-- ---- the reply

-- nothing is done
abbrev pub opening_reply : Bool → Reply
opening_reply counted = record { answer = Ok effect.Stepped; done = 0; counted = counted }

abbrev pub joined_answer : Reply → (before answer : Answer) → Reply
joined_answer reply (Err fault) answer = reply
joined_answer reply (Ok e) (Ok f) = record reply { answer = Ok f; done = reply.done + 1 }
joined_answer reply (Ok e) (Err fault) = record reply { answer = Err fault }

-- one more result; those after a refusal don't count
abbrev pub with_answer : Reply → Answer → Reply
with_answer reply answer = joined_answer reply reply.answer answer

-- the reply for the results of a line, up to the first refusal
abbrev pub reply_to : (counted : Bool) → List Answer → Reply
reply_to counted answers = fold with_answer (opening_reply counted) answers

-- ---- its text

abbrev pub effect_text : ℕ → Effect → List ℕ
effect_text done effect.Started = codes "started"
effect_text done effect.Stepped = codes "stepped " ++ decimal done
effect_text done (effect.Ended choice) = codes "stepped " ++ decimal done
effect_text done (effect.Finished choice instructions number) =
    codes "finished " ++ decimal choice ++ codes " after " ++ decimal instructions
    ++ codes " under " ++ decimal number
effect_text done (effect.Swapped number) = codes "swapped " ++ decimal number

abbrev pub answer_text : ℕ → Bool → Answer → List ℕ
answer_text done counted (Ok e) = effect_text done e
answer_text done counted (Err fault) =
    codes "refused " ++ fault_text fault
    ++ (if counted then codes " after " ++ decimal done else [])

-- the printed text of a reply
abbrev pub reply_text : Reply → List ℕ
reply_text reply = answer_text reply.done reply.counted reply.answer
