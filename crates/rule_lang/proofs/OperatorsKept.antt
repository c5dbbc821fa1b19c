-- After a fact, each operator keeps a draft sound, and leaves some of the tokens.
use Rattle.std.proofs.Common.{◌≡◌, ℕ, ◌+◌, ◌-◌, List, [], ◌∷◌, ◌++◌, None, Ok, Bool, true, false}
use Rattle.std.proofs.Common.{refl, sym, ap, arith, subst}
use Rattle.cells.specs.Arrays.{AppShape}
use Rattle.rule_lang.specs.declared.draft.Mode.{Mode}
use Rattle.rule_lang.specs.declared.draft.Mode.TheVariants as mode
use Rattle.rule_lang.specs.declared.frame.Frame.{Frame}
use Rattle.rule_lang.specs.declared.keyword.Keyword.TheVariants as keyword
use Rattle.rule_lang.specs.declared.token.Token.TheVariants as token
use Rattle.rule_lang.specs.Reader.Drafts.{Pending, joined, parted, closed_to, fact_done, term_done}
use Rattle.rule_lang.specs.Reader.Drafts.{is_empty, or_step}
use Rattle.rule_lang.specs.Lexed.{Placed}
use Rattle.rule_lang.specs.Parts.{part, release}
use Rattle.rule_lang.specs.Phrases.{misplaced, offer_phrase}
use Rattle.rule_lang.specs.Reader.Reading.{Draft, in_mode, with_condition, closed_next, offered}
use Rattle.rule_lang.specs.Reader.Reading.{offer_next, operator_next}
use Rattle.rule_lang.specs.Reader.Sound.{HasTrees, one_if, all_waiting, IsSoundAfter, IsSoundIn}
use Rattle.rule_lang.specs.Reader.Sound.{IsSound}
use Rattle.rule_lang.specs.Tokens.{Token}
use Rattle.rule_lang.proofs.Sounds.{recount, or_ended, fact_sound}
use Rattle.rule_lang.proofs.Keeping.{IsRest, Keeps, OperatorSound, kept, no_ok, phrase_keeps}

in_operator : (d : Draft) → d.mode ≡ mode.Operator → IsSound d → OperatorSound d
in_operator d e h = λ clean. subst (λ (m : Mode). IsSoundIn m d.condition) e (h clean)

to_operator : (d : Draft) → d.mode ≡ mode.Operator → OperatorSound d → IsSound d
to_operator d e h = λ clean. subst (λ (m : Mode). IsSoundIn m d.condition) (sym e) (h clean)

joined_trees : (p : Pending) → IsSoundAfter p → HasTrees p.steps (all_waiting ((joined p).top ∷
    p.below))
joined_trees p h =
    let no_and : one_if p.top.and ≡ 0 = ap one_if h.joined in
    let o = one_if p.top.or in
    let w = all_waiting p.below in
    recount p.steps (1 + ((one_if p.top.and + o) + w)) ((1 + o) + w) (omega (arith, no_and)) h.trees

-- the trees after the end of a term
term_trees : (p : Pending) → IsSoundAfter p → HasTrees (p.steps ++ or_step p.top) (1 +
    all_waiting p.below)
term_trees p h =
    let no_and : one_if p.top.and ≡ 0 = ap one_if h.joined in
    let o = one_if p.top.or in
    let w = all_waiting p.below in
    or_ended p.steps p.top.or w (recount p.steps (1 + ((one_if p.top.and + o) + w)) (1 + (o + w))
    (omega (arith, no_and)) h.trees)

parted_trees : (p : Pending) → IsSoundAfter p → HasTrees (p.steps ++ or_step p.top) (all_waiting
    ((parted p).top ∷ p.below))
parted_trees p h =
    let no_and : one_if p.top.and ≡ 0 = ap one_if h.joined in
    let w = all_waiting p.below in
    recount (p.steps ++ or_step p.top) (1 + w) ((one_if p.top.and + 1) + w) (omega (
      arith,
      no_and,
    )) (term_trees p h)

closed_keeps : (d : Draft) (p : Pending) (fs : List Frame) (line : ℕ) (ts after : List Placed) (q
    : Draft × List Placed) → p.below ≡ fs → d.mode ≡ mode.Operator → (d.noted ≡ None
    → IsSoundAfter p) → IsRest after ts → closed_next (closed_to p fs) d line after ≡ Ok q
    → Keeps ts q
closed_keeps d p [] line ts after q e m sound r h = absurd (no_ok (misplaced line) q h)
closed_keeps d p (f ∷ fs) line ts after q e m sound r h =
    let outer : Pending = record {
      steps = p.steps ++ or_step p.top;
      below = fs;
      top = f;
      depth =
          p.depth - 1;
    } in
    let trees : d.noted ≡ None → HasTrees (p.steps ++ or_step p.top) (1 + all_waiting (f ∷ fs)) =
    λ clean. subst (λ (gs : List Frame). HasTrees (p.steps ++ or_step p.top) (1 + all_waiting
    gs)) e (term_trees p (sound clean)) in
    let next : Draft = with_condition (fact_done outer) d in
    kept ts (next, after) q h (record {
      sound = to_operator next m (λ clean. fact_sound outer (trees clean));
      rest = r;
    })

offer_keeps : (s : AppShape) (d : Draft) (b : Bool) (line : ℕ) (ts : List Placed) (q : Draft ×
    List Placed) → offer_next s d b line ts ≡ Ok q → Keeps ts q
offer_keeps s d false line ts q h = absurd (no_ok (misplaced line) q h)
offer_keeps s d true line ts q h =
    let ended = with_condition (term_done d.condition) d in
    let e = in_mode mode.Statement (offered (release s (part ts 1)) ended) in
    phrase_keeps offer_phrase ts e q (λ clean. tt) h

pub operator_keeps : (s : AppShape) (d : Draft) (t : Token) (line : ℕ) (ts after : List Placed) (q :
    Draft × List Placed) → d.mode ≡ mode.Operator → IsSound d → IsRest after ts
    → operator_next s d t line ts after ≡ Ok q → Keeps ts q
operator_keeps s d (token.Keyword keyword.And) line ts after q m sound r h =
    kept ts (in_mode mode.Fact (with_condition (joined d.condition) d), after) q h (record {
      sound = λ clean. joined_trees d.condition (in_operator d m sound clean);
      rest = r;
    })
operator_keeps s d (token.Keyword keyword.Or) line ts after q m sound r h =
    kept ts (in_mode mode.Fact (with_condition (parted d.condition) d), after) q h (record {
      sound = λ clean. parted_trees d.condition (in_operator d m sound clean);
      rest = r;
    })
operator_keeps s d token.Close line ts after q m sound r h =
    closed_keeps d d.condition d.condition.below line ts after q refl m (in_operator d m sound) r h
operator_keeps s d (token.Keyword keyword.Offer) line ts after q m sound r h =
    offer_keeps s d (is_empty d.condition.below) line ts q h
operator_keeps s d t line ts after q m sound r h = absurd (no_ok (misplaced line) q h)
