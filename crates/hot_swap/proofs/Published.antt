-- A publish makes visible what its last operation brings.
use Rattle.std.proofs.Common.{◌≡◌, ◌+◌, ◌++◌, [], ◌∷◌, List}
use Rattle.std.proofs.Common.{Bool, true, false, length, fold, ap, sym, ◌∙◌}
use Rattle.std.proofs.Common.{ℕ, length-append, Option, None, Some}
use Rattle.std.proofs.Common.{Result, Ok, Err, MatchResult, MatchBool, IsTrue}
use Rattle.std.proofs.lemmas.List.Sums.{fold-append}
use Rattle.std.specs.Arc.{arc_value}
use Rattle.hot_swap.proofs.Prefixes.{has_last}
use Rattle.hot_swap.specs.Published.{KnownPrefix, IsLatest}
use Rattle.hot_swap.specs.Seats.{NamesPublisher}
use Rattle.hot_swap.specs.declared.publisher_id.PublisherId.{PublisherId}
use Rattle.hot_swap.specs.declared.next.NextInstall.{NextInstall}
use Rattle.hot_swap.specs.declared.next.Stamp.{Stamp}
use Rattle.hot_swap.specs.declared.published_ruleset.PublishedRuleset.{PublishedRuleset}
use Rattle.ruleset.specs.Rules.{Rules}

abbrev pub stamp_of : PublishedRuleset → Stamp
stamp_of x = record {
  generation = x.generation;
  rules = arc_value x.rules;
  publisher = x.known.publisher;
}

abbrev pub brought : NextInstall → Stamp
brought x = record {
  generation = x.generation;
  rules = arc_value x.rules;
  publisher = x.known.publisher;
}

abbrev pub replaced : Stamp → NextInstall → Stamp
replaced s x = brought x

-- the list of waiting operations ends with this one
abbrev pub EndsIn : List NextInstall → List NextInstall → NextInstall → Type 0
EndsIn all waiting next = all ≡ waiting ++ next ∷ []

-- whatever was waiting, the last operation is what is published
pub applied_last : (shown : PublishedRuleset) (waiting all : List NextInstall) (next : NextInstall)
    → EndsIn all waiting next
    → fold replaced (stamp_of shown) all ≡ brought next
applied_last shown waiting all next e =
    ap (fold replaced (stamp_of shown)) e
    ∙ fold-append replaced (stamp_of shown) waiting (next ∷ [])

-- so each value that a publish may make visible has what the operation brings
pub brings : (shown new : PublishedRuleset) (waiting all : List NextInstall) (next : NextInstall)
    → EndsIn all waiting next
    → stamp_of new ≡ fold replaced (stamp_of shown) all → stamp_of new ≡ brought next
brings shown new waiting all next e is = is ∙ applied_last shown waiting all next e

-- the next ruleset is published, and the publish's seat (a ghost token) knows its publisher
abbrev pub IsShown : Option PublisherId → PublishedRuleset → NextInstall → Type 0
IsShown after new next = (after ≡ Some next.known.publisher)
    × (new.generation ≡ next.generation)
    × (arc_value new.rules ≡ arc_value next.rules)
    × (new.known.publisher ≡ next.known.publisher)

-- the result of a publish, put together
pub told : {U E : Type 0} (P Q : Type 0) (r : Result U E) (next : NextInstall)
    (old new : PublishedRuleset)
    (before after : Option PublisherId) (s : Stamp) → s ≡ brought next
    → MatchResult r (λ _. (stamp_of new ≡ s) × P) (λ _. (new ≡ old) × Q)
    → MatchResult r (λ _. NamesPublisher before old new after) (λ _. after ≡ before)
    → MatchResult r (λ _. IsShown after new next) (λ _. (after ≡ before) × (new ≡ old))
told P Q (Ok u) next old new before after s e v t =
    let same : stamp_of new ≡ brought next = v.0 ∙ e in
    let publisher : new.known.publisher ≡ next.known.publisher =
    ap (λ (k : Stamp). k.publisher) same in (
      t.0 ∙ ap Some publisher,
      ap (λ (k : Stamp). k.generation) same,
      ap (λ (k : Stamp). k.rules) same,
      publisher,
    )
told P Q (Err e) next old new before after s is v t = (t, v.0)

-- the appended ruleset ends the list, as the generation of its length
pub is_latest : (P : Type 0) (entered : Bool) (old : List Rules) (new : KnownPrefix) (rules : Rules)
    (generation : ℕ) → generation ≡ length old + 1
    → MatchBool entered (new.rulesets ≡ old ++ rules ∷ []) P → IsTrue entered
    → IsLatest new generation rules
is_latest P true old new rules generation next grown is = record {
  generation_is = next ∙ (sym (length-append old (rules ∷ [])) ∙ sym (ap length grown));
  rules_are = rw grown (has_last None old rules);
}
is_latest P false old new rules generation next grown is = absurd (cc is)
