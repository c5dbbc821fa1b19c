-- A reply that isn't a refusal, and the faults of a reply.
use Rattle.std.proofs.Common.{◌≡◌, ◌∙◌, refl, sym, ap, subst, ℕ, List, ◌++◌, length, take, drop}
use Rattle.std.proofs.Common.{Bool, true, false, ◌&&◌, ◌||◌}
use Rattle.std.proofs.lemmas.List.{take-append-drop}
use Rattle.std.specs.Prelude.{IsTrue, codes, nat_eq}
use Rattle.std.specs.List.{starts_with, ends_with}
use Rattle.std.specs.Str.Pattern.{LacksTextAt}
use Rattle.std.specs.Cmp.Lexicographic.{same_text}
use Rattle.operator.specs.Done.{IsRequestRefusal, IsDoneAs}
use Rattle.operator.specs.Replies.{IsReplyTo, is_answer}
use Rattle.operator_request.specs.declared.request.OperatorRequest.{OperatorRequest}
use Rattle.operator.specs.declared.server_reply.RequestFault.{RequestFault}
use Rattle.operator.specs.declared.server_reply.RequestFault.TheVariants as ask
use Rattle.operator_request.specs.Requests.{IsSendable}

lacks_word : (word bytes : List ℕ) (r : Bool) → r ≡ starts_with nat_eq bytes word
    → LacksTextAt word bytes 0 → r ≡ false
lacks_word word bytes false is lacks = refl
lacks_word word bytes true is lacks =
    let after = drop (length word) bytes in
    absurd (lacks after (sym (take-append-drop (length word) bytes)
    ∙ ap (λ (l : List ℕ). l ++ after) (sym (same_text word (take (length word) bytes) is))))

pub done : (request : OperatorRequest) (bytes : List ℕ) → LacksTextAt (codes "refused ") bytes 0
    → IsReplyTo request bytes → IsDoneAs request bytes
done request bytes lacks reply = record {
  sent = reply.sent;
  answered = subst (λ (r : Bool). IsTrue ((r && ends_with nat_eq bytes (codes "\n"))
      || is_answer request bytes))
      (lacks_word (codes "refused ") bytes (starts_with nat_eq bytes (codes "refused "))
      refl lacks) reply.replied;
}

pub refuses : (request : OperatorRequest) (fault : RequestFault)
    → (fault ≡ ask.Word → ¬ IsSendable request) → IsRequestRefusal request fault
refuses request ask.Word unsent = unsent refl
refuses request ask.Memory unsent = tt
refuses request ask.Connect unsent = tt
refuses request (ask.Refused words) unsent = tt
