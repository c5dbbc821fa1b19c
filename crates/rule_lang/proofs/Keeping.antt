-- Each phrase keeps a draft sound, and leaves some of the tokens.
use Rattle.std.proofs.Common.{◌≡◌, ℕ, suc, zero, ◌+◌, ◌-◌, ◌≤◌, List, [], ◌∷◌, ◌++◌, length, drop}
use Rattle.std.proofs.Common.{Option, Some, None, Ok, Err, Bool, true, false, if◌then◌else◌, refl}
use Rattle.std.proofs.Common.{sym, ap, ◌∙◌, arith, subst}
use Rattle.cells.specs.Arrays.{AppShape}
use Rattle.rule_lang.specs.declared.condition.Step.TheVariants as step
use Rattle.rule_lang.specs.declared.draft.Mode.{Mode}
use Rattle.rule_lang.specs.declared.draft.Mode.TheVariants as mode
use Rattle.rule_lang.specs.declared.rule_fault.RuleFault.{RuleFault}
use Rattle.rule_lang.specs.declared.keyword.Keyword.TheVariants as keyword
use Rattle.rule_lang.specs.declared.phrase.Want.{Want}
use Rattle.rule_lang.specs.declared.test_table.TestKind.{TestKind}
use Rattle.rule_lang.specs.declared.rule.Statement.{Statement}
use Rattle.rule_lang.specs.declared.test.Test.{Test}
use Rattle.rule_lang.specs.declared.token.Token.TheVariants as token
use Rattle.rule_lang.specs.Reader.Drafts.{Pending, first_frame, begin, denied, opened}
use Rattle.rule_lang.specs.Lexed.{Placed}
use Rattle.rule_lang.specs.Parts.{OrFault, ◌>>?◌, out_of_range}
use Rattle.rule_lang.specs.Phrases.{Phrase, Ends, Needs, Maybe, tokens_after, misplaced}
use Rattle.rule_lang.specs.Phrases.{takes, count_phrase, otherwise_phrase}
use Rattle.rule_lang.specs.Reader.Reading.{Draft, Next, first_of, with_fault_if, in_mode}
use Rattle.rule_lang.specs.Reader.Reading.{with_condition, counted, statement_next, too_deep}
use Rattle.rule_lang.specs.Reader.Reading.{with_test, test_next, fact_next, next}
use Rattle.rule_lang.specs.Values.{count_of}
use Rattle.rule_lang.specs.Reader.Sound.{HasTrees, all_waiting, IsSoundAfter, IsSoundIn, IsSound}
use Rattle.rule_lang.specs.Tests.{row, test_phrase, kind_of}
use Rattle.rule_lang.specs.Tokens.{Token}
use Rattle.rule_lang.proofs.Sounds.{recount, test_added, fact_sound}

-- ---- results

abbrev pub ok_or : {A : Type 0} → A → OrFault A → A
ok_or d (Ok x) = x
ok_or d (Err e) = d

pub same_ok : {A : Type 0} (a b : A) → ◌≡◌ {A = OrFault A} (Ok a) (Ok b) → a ≡ b
same_ok a b h = ap (ok_or a) h

abbrev pub is_err : {A : Type 0} → OrFault A → Bool
is_err (Ok x) = false
is_err (Err e) = true

no_true : ◌≡◌ {A = Bool} true false → ⊥
no_true h = cc

pub no_ok : {A : Type 0} (e : RuleFault) (a : A) → ◌≡◌ {A = OrFault A} (Err e) (Ok a) → ⊥
no_ok e a h = no_true (ap is_err h)

pub record Bound {A B : Type 0} (o : OrFault A) (f : A → OrFault B) (b : B) : Type 0 where
  pub value : A
  pub first : o ≡ Ok value
  pub after : f value ≡ Ok b

pub bound : {A B : Type 0} (o : OrFault A) (f : A → OrFault B) (b : B) → (o >>? f) ≡ Ok b
    → Bound o f b
bound (Ok a) f b h = record { value = a; first = refl; after = h }
bound (Err e) f b h = absurd (no_ok e b h)

-- ---- tokens that are left

pub data IsRest : List Placed → List Placed → Type 0 where
  all : {ts : List Placed} → IsRest ts ts
  later : {t : Placed} {ts rest : List Placed} → IsRest rest ts → IsRest rest (t ∷ ts)

pub fewer : (rest ts : List Placed) → IsRest rest ts → length rest ≤ length ts
fewer rest ts all = omega arith
fewer rest (t ∷ ts) (later r) = let h = fewer rest ts r in omega (arith, h)

dropped : (rest ts : List Placed) (n : ℕ) → IsRest rest ts → n + length rest ≡ length ts
    → drop n ts ≡ rest
dropped rest ts zero all h = refl
dropped rest ts (suc n) all h = absurd (omega (arith, h))
dropped rest (t ∷ ts) zero (later r) h = let l = fewer rest ts r in absurd (omega (arith, h, l))
dropped rest (t ∷ ts) (suc n) (later r) h = dropped rest ts n r (omega (arith, h))

pub rest_is : (rest ts : List Placed) → IsRest rest ts → drop (length ts - length rest) ts ≡ rest
rest_is rest ts r = let l = fewer rest ts r in dropped rest ts (length ts - length rest) r (omega
    (arith, l))

behind_by : (w : Want) (ws : Phrase) (t : Placed) (ts rest : List Placed) (b : Bool)
    → (if b then tokens_after ws ts else Err (misplaced t.line)) ≡ Ok rest
    → (tokens_after ws ts ≡ Ok rest
    → IsRest rest ts) → IsRest rest (t ∷ ts)
behind_by w ws t ts rest true h next = later (next h)
behind_by w ws t ts rest false h next = absurd (no_ok (misplaced t.line) rest h)

maybe_by : (given without : Phrase) (t : Placed) (ts rest : List Placed) (b : Bool)
    → (if b then tokens_after given ts else tokens_after without (t ∷ ts)) ≡ Ok rest
    → (tokens_after given ts ≡ Ok rest → IsRest rest ts)
    → (tokens_after without (t ∷ ts) ≡ Ok rest → IsRest rest (t ∷ ts)) → IsRest rest (t ∷ ts)
maybe_by given without t ts rest true h there left = later (there h)
maybe_by given without t ts rest false h there left = left h

pub behind_rest : (ws : Phrase) (ts rest : List Placed) → tokens_after ws ts ≡ Ok rest
    → IsRest rest ts
behind_rest Ends ts rest h = subst (λ (us : List Placed). IsRest us ts) (same_ok ts rest h) all
behind_rest (Needs w ws) [] rest h = absurd (no_ok (misplaced 0) rest h)
behind_rest (Needs w ws) (t ∷ ts) rest h =
    behind_by w ws t ts rest (takes w t.token) h (behind_rest ws ts rest)
behind_rest (Maybe w given without) [] rest h = absurd (no_ok (misplaced 0) rest h)
behind_rest (Maybe w given without) (t ∷ ts) rest h =
    maybe_by given without t ts rest (takes w t.token) h (behind_rest given ts rest)
    (behind_rest without (t ∷ ts) rest)

-- ---- the invariant after a phrase

pub record Keeps (ts : List Placed) (q : Draft × List Placed) : Type 0 where
  pub sound : IsSound q.0
  pub rest : IsRest q.1 ts

pub kept : (ts : List Placed) (p q : Draft × List Placed) → ◌≡◌ {A = Next} (Ok p) (Ok q)
    → Keeps ts p
    → Keeps ts q
kept ts p q h k = subst (λ (r : Draft × List Placed). Keeps ts r) (same_ok p q h) k

in_statement : (d : Draft) → d.mode ≡ mode.Statement → IsSound d
in_statement d e = λ clean. subst (λ (m : Mode). IsSoundIn m d.condition) (sym e) tt

pub mode_counted : (o : OrFault Statement) (d : Draft) → (counted o d).mode ≡ d.mode
mode_counted (Ok statement) d = refl
mode_counted (Err e) d = refl

pub phrase_keeps : (ws : Phrase) (ts : List Placed) (d : Draft) (q : Draft × List Placed)
    → IsSound d → (tokens_after ws ts >>? λ rest. Ok (d, rest)) ≡ Ok q → Keeps ts q
phrase_keeps ws ts d q sound h =
    let b = bound (tokens_after ws ts) (λ rest. Ok (d, rest)) q h in
    kept ts (d, b.value) q b.after (record {
      sound = sound;
      rest = behind_rest ws ts b.value
          b.first;
    })

empty_trees : HasTrees [] (all_waiting (first_frame ∷ []))
empty_trees = record { trees = []; made = refl; count = refl }

pub statement_keeps : (s : AppShape) (d : Draft) (t : Token) (line : ℕ)
    (ts after : List Placed) (q :
    Draft × List Placed) → d.mode ≡ mode.Statement → IsRest after ts
    → statement_next s d t line ts after ≡ Ok q → Keeps ts q
statement_keeps s d (token.Keyword keyword.Count) line ts after q m r h =
    let e = counted (count_of s ts) d in
    phrase_keeps count_phrase ts e q (in_statement e (mode_counted (count_of s ts) d ∙ m)) h
statement_keeps s d (token.Keyword keyword.When) line ts after q m r h =
    kept ts (in_mode mode.Fact (with_condition begin d), after) q h (record {
      sound = λ clean.
          empty_trees;
      rest = r;
    })
statement_keeps s d (token.Keyword keyword.Otherwise) line ts after q m r h =
    phrase_keeps otherwise_phrase ts (in_mode mode.Done d) q (λ clean. tt) h
statement_keeps s d t line ts after q m r h = absurd (no_ok (misplaced line) q h)

-- ---- facts

no_fault : (o : Option RuleFault) (e : RuleFault) → first_of o e ≡ None → ⊥
no_fault None e h = cc
no_fault (Some f) e h = cc

abbrev FactSound : Draft → Type 0
FactSound d = d.noted ≡ None → HasTrees d.condition.steps (all_waiting (d.condition.top ∷
    d.condition.below))

opener_sound : (d : Draft) (b : Bool) (e : RuleFault) → FactSound d
    → FactSound (with_fault_if b e d)
opener_sound d true e h = λ clean. absurd (no_fault d.noted e clean)
opener_sound d false e h = h

opened_trees : (p : Pending) → HasTrees p.steps (all_waiting (p.top ∷ p.below))
    → HasTrees (opened p).steps (all_waiting ((opened p).top ∷ (opened p).below))
opened_trees p h = recount p.steps (all_waiting (p.top ∷ p.below)) ((0 + 0) + all_waiting (p.top
    ∷ p.below)) (omega arith) h

test_sound : (d : Draft) (line : ℕ) (o : OrFault Test) → FactSound d
    → IsSound (in_mode mode.Operator (with_test line o d))
test_sound d line (Ok t) h = λ clean.
    fact_sound (record {
      steps = d.condition.steps ++ (step.Test line t ∷ []);
      below =
          d.condition.below;
      top = d.condition.top;
      depth = d.condition.depth;
    })
    (test_added d.condition.steps (all_waiting (d.condition.top ∷ d.condition.below)) line t (h
    clean))
test_sound d line (Err e) h = λ clean. absurd (no_fault d.noted e clean)

test_keeps : (s : AppShape) (d : Draft) (line : ℕ) (o : Option TestKind) (ts : List Placed)
    (q : Draft × List Placed) → FactSound d → test_next s d line o ts ≡ Ok q → Keeps ts q
test_keeps s d line None ts q sound h = absurd (no_ok (misplaced line) q h)
test_keeps s d line (Some k) ts q sound h =
    let said = (row k).spelled s ts in
    phrase_keeps (test_phrase k) ts (in_mode mode.Operator (with_test line said d)) q
    (test_sound d line said sound) h

in_fact : (d : Draft) → d.mode ≡ mode.Fact → IsSound d → FactSound d
in_fact d e h = λ clean. subst (λ (m : Mode). IsSoundIn m d.condition) e (h clean)

to_fact : (d : Draft) → d.mode ≡ mode.Fact → FactSound d → IsSound d
to_fact d e h = λ clean. subst (λ (m : Mode). IsSoundIn m d.condition) (sym e) (h clean)

pub mode_noted : (b : Bool) (e : RuleFault) (d : Draft) → (with_fault_if b e d).mode ≡ d.mode
mode_noted true e d = refl
mode_noted false e d = refl

pub fact_keeps : (s : AppShape) (d : Draft) (t : Token) (p : Placed) (ts after : List Placed) (q :
    Draft × List Placed) → d.mode ≡ mode.Fact → IsSound d → IsRest after ts
    → fact_next s d t p ts after ≡ Ok q → Keeps ts q
fact_keeps s d (token.Keyword keyword.Not) p ts after q m sound r h =
    let noted = with_fault_if (too_deep d) (out_of_range p) d in
    let e = with_condition (denied noted.condition) noted in
    kept ts (e, after) q h (record {
      sound = to_fact e (mode_noted (too_deep d) (out_of_range p) d
          ∙ m) (opener_sound d (too_deep d) (out_of_range p) (in_fact d m sound));
      rest = r;
    })
fact_keeps s d token.Open p ts after q m sound r h =
    let noted = with_fault_if (too_deep d) (out_of_range p) d in
    let e = with_condition (opened noted.condition) noted in
    kept ts (e, after) q h (record {
      sound = to_fact e (mode_noted (too_deep d) (out_of_range p) d
          ∙ m) (λ clean. opened_trees noted.condition (opener_sound d (too_deep d) (out_of_range
          p) (in_fact d m sound) clean));
      rest = r;
    })
fact_keeps s d t p ts after q m sound r h =
    test_keeps s d p.line (kind_of t) ts q (in_fact d m sound) h

-- ---- operators

abbrev pub OperatorSound : Draft → Type 0
OperatorSound d = d.noted ≡ None → IsSoundAfter d.condition
