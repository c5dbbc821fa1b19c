-- The rule at first, and that each step keeps it.
use Rattle.std.proofs.Common.{◌≡◌, ◌≢◌, ℕ, zero, suc, ◌<◌, ◌≤◌, max, Bool, true, false, List, []}
use Rattle.std.proofs.Common.{◌∷◌}
use Rattle.std.proofs.Common.{◌++◌, length, set, refl, sym, ap, ◌∙◌, subst, ⊎_elim, arith}
use Rattle.std.proofs.Common.{append-nil}
use Rattle.std.proofs.Common.{append_assoc, length-set, get_or-set_same, get_or-set_other}
use Rattle.std.specs.Prelude.{◌==◌, if◌then◌else◌, slice_index, slice_set}
use Rattle.std.proofs.lemmas.Bool.Decides.{nat_tests}
use Rattle.std.proofs.lemmas.List.{set-get_or}
use mathlib.Core.List.{IsPrefix}
use mathlib.Core.Logic.{dite, ◌⊎◌}
use mathlib.Core.Option.{some, some-ne-none, some-injective}
use native.Mathlib.Decide.{ℕ_discrete}
use lib.ListN.{get_elem?}
use Rattle.atomic_table.specs.Table.{State, Me, Allows, keeps, opening}
use Rattle.atomic_table.proofs.Lists.{at_set}
use Rattle.ceilings.specs.declared.rule.Known.{Known}
use Rattle.ceilings.specs.declared.rule.Raised.{Raised}
use Rattle.ceilings.specs.Rule.{raised_as, writer_of, raised_in, Looks, Raises, KnowsSome, HasLog}
use Rattle.ceilings.specs.Rule.{CeilingsMonotone}

-- ---- raises

one_more : (a b : ℕ) (same : Bool) → b ≤ (if same then max a b else b)
one_more a b true = omega arith
one_more a b false = omega arith

longer : (c : ℕ) (log more : List Raised) → raised_in c log ≤ raised_in c (log ++ more)
longer c [] more = omega arith
longer c (y ∷ log) more = step (y.cell == c) y.number (longer c log more)
  where
    step : (same : Bool) (n : ℕ) {a b : ℕ} → a ≤ b
        → (if same then max n a else a) ≤ (if same then max n b else b)
    step true n le = omega (arith, le)
    step false n le = le

pub grows : CeilingsMonotone
grows c old new h =
    subst (λ (l : List Raised). raised_in c old ≤ raised_in c l) h.1 (longer c old h.0)

itself : (c : ℕ) → (c == c) ≡ true
itself c = grind (arith, nat_tests)

raised_last : (c n : ℕ) (log : List Raised) → n ≤ raised_in c (log ++ raised_as c n ∷ [])
raised_last c n [] =
    subst (λ (b : Bool). n ≤ (if b then max n 0 else 0)) (sym (itself c)) (omega arith)
raised_last c n (y ∷ log) =
    let rest = raised_last c n log in
    let more = one_more y.number (raised_in c (log ++ raised_as c n ∷ [])) (y.cell == c) in
    omega (arith, rest, more)

-- ---- prefixes

prefix_self : (log : List Raised) → IsPrefix log log
prefix_self log = ([], append-nil log)

prefix_longer : (v log : List Raised) (x : Raised) → IsPrefix v log → IsPrefix v (log ++ x ∷ [])
prefix_longer v log x h =
    (h.0 ++ x ∷ [], sym (append_assoc v h.0 (x ∷ [])) ∙ ap (λ (l : List Raised). l ++ x ∷ []) h.1)

longer_still : (v : Known) (log : List Raised) (x : Raised) → KnowsSome log v
    → KnowsSome (log ++ x ∷ []) v
longer_still v log x knows = record {
  raised = prefix_longer v.raised log x knows.raised;
  joined = prefix_longer v.joined log x knows.joined;
}

pub knows_nothing : (is_writer : Bool) (log : List Raised)
    → KnowsSome log (record { is_writer = is_writer; raised = []; joined = [] })
knows_nothing is_writer log = record { raised = (log, refl); joined = (log, refl) }

-- ---- the rule at first

pub begins : {S : Type 0} (n : ℕ) (ws : List ℕ) → length ws ≡ n
    → ((c : ℕ) → slice_index ws c ≡ 0) → HasLog {S = S} n (opening ws [] (writer_of []))
begins n ws count zeros = record {
  log = [];
  words = count;
  below = λ c lt. let z = zeros c in omega (arith, z);
  seen = λ id v e. subst (KnowsSome []) (here id v e) (knows_nothing true []);
  whole = λ id v e is. ap (λ (k : Known). k.raised) (sym (here id v e));
  one = λ id other v w e f is too. first id v e ∙ sym (first other w f);
}
  where
    here : (id : ℕ) (v : Known) → get_elem? (writer_of [] ∷ []) id ≡ some v → writer_of [] ≡ v
    here zero v e = some-injective (writer_of []) v e
    here (suc id) v e = absurd (some-ne-none v (sym e))

    first : (id : ℕ) (v : Known) → get_elem? (writer_of [] ∷ []) id ≡ some v → id ≡ 0
    first zero v e = refl
    first (suc id) v e = absurd (some-ne-none v (sym e))

-- ---- one writer

-- a seat whose view has changed is the writer's if it was
writer_before : (views : List Known) (id : ℕ) (old new : Known) → get_elem? views id ≡ some old
    → new.is_writer ≡ old.is_writer → (j : ℕ) (v : Known)
    → get_elem? (set views id new) j ≡ some v → v.is_writer ≡ true
    → (u : Known) × (get_elem? views j ≡ some u) × (u.is_writer ≡ true)
writer_before views id old new at same j v e is =
    ⊎_elim
    (λ (t : (j ≡ id) × (new ≡ v)). (
      old,
      subst (λ (k : ℕ). get_elem? views k ≡ some old) (sym t.0) at,
      sym same ∙ ap (λ (u : Known). u.is_writer) t.1 ∙ is,
    ))
    (λ (t : (j ≢ id) × (get_elem? views j ≡ some v)). (v, t.1, is))
    (at_set views id j new v e)

pub one_still : {S : Type 0} (n id : ℕ) (s : State S Known) (old new : Known) → HasLog n s
    → get_elem? s.views id ≡ some old → new.is_writer ≡ old.is_writer
    → (j k : ℕ) (v w : Known) → get_elem? (set s.views id new) j ≡ some v
    → get_elem? (set s.views id new) k ≡ some w → v.is_writer ≡ true → w.is_writer ≡ true → j ≡ k
one_still n id s old new rule at same j k v w e f is too =
    let a = writer_before s.views id old new at same j v e is in
    let b = writer_before s.views id old new at same k w f too in
    rule.one j k a.0 b.0 a.1 b.1 a.2 b.2

-- ---- a look

pub looks : {S : Type 0} (n slots id : ℕ) (me : Me S Known) (c : ℕ) → c < n
    → Allows (HasLog n) slots id me c (λ k. k) (Looks c me)
looks {S} n slots id me c lt s rule homes at small =
    let new : Known = record {
      is_writer = me.0.is_writer;
      raised = rule.log;
      joined = me.0.joined;
    } in
    let words : slice_set s.words c (slice_index s.words c) ≡ s.words = set-get_or s.words c 0 in (
      new,
      keeps,
      tt,
      record {
        log = rule.log;
        words = ap (λ (l : List ℕ). length l) words ∙ rule.words;
        below = λ k less. subst (λ (l : List ℕ). slice_index l k ≤ raised_in k rule.log) (sym words)
            (rule.below k less);
        seen = λ j v e. ⊎_elim
            (λ (t : (j ≡ id) × (new ≡ v)).
            subst (KnowsSome rule.log) t.1 (record {
              raised = prefix_self rule.log;
              joined = (rule.seen id me.0 at).joined;
            }))
            (λ (t : (j ≢ id) × (get_elem? s.views j ≡ some v)). rule.seen j v t.1)
            (at_set s.views id j new v e);
        whole = λ j v e is. ⊎_elim
            (λ (t : (j ≡ id) × (new ≡ v)). ap (λ (u : Known). u.raised) (sym t.1))
            (λ (t : (j ≢ id) × (get_elem? s.views j ≡ some v)). rule.whole j v t.1 is)
            (at_set s.views id j new v e);
        one = one_still n id s me.0 new rule at refl;
      },
      ((rule.seen id me.0 at).raised, rule.below c lt, refl, refl),
    )

-- ---- a raise

raised_below : (n c number : ℕ) (words : List ℕ) (log : List Raised) → length words ≡ n → c < n
    → ((k : ℕ) → k < n → slice_index words k ≤ raised_in k log) → (k : ℕ) → k < n
    → slice_index (slice_set words c number) k ≤ raised_in k (log ++ raised_as c number ∷ [])
raised_below n c number words log count lt below k less =
    dite (ℕ_discrete k c)
    (λ (same : k ≡ c).
    let P : ℕ → Type 0 = λ (j : ℕ). slice_index (slice_set words c number) j ≤ raised_in j
    (log ++ raised_as c number ∷ []) in
    let here : slice_index (slice_set words c number) c ≡ number =
    get_or-set_same words c number 0 (omega arith) in
    let most = raised_last c number log in
    subst P (sym same) (omega (arith, here, most)))
    (λ (ne : k ≢ c).
    let there : slice_index (slice_set words c number) k ≡ slice_index words k =
    get_or-set_other words c k number 0 ne in
    let was = below k less in
    let more = longer k log (raised_as c number ∷ []) in
    omega (arith, there, was, more))

pub raises : {S : Type 0} (n slots id : ℕ) (me : Me S Known) (c number : ℕ) → c < n
    → me.0.is_writer ≡ true
    → Allows (HasLog n) slots id me c (λ _. number) (λ _. Raises c me number)
raises {S} n slots id me c number lt is s rule homes at small =
    let mine : me.0.raised ≡ rule.log = rule.whole id me.0 at is in
    let log : List Raised = rule.log ++ raised_as c number ∷ [] in
    let new : Known = record {
      is_writer = me.0.is_writer;
      raised = me.0.raised ++ raised_as c number ∷ [];
      joined = me.0.joined;
    } in
    let same : new.raised ≡ log = ap (λ (l : List Raised). l ++ raised_as c number ∷ []) mine in (
      new,
      keeps,
      tt,
      record {
        log = log;
        words = length-set s.words c number ∙ rule.words;
        below = raised_below n c number s.words rule.log rule.words lt rule.below;
        seen = λ j v e. ⊎_elim
            (λ (t : (j ≡ id) × (new ≡ v)).
            subst (KnowsSome log) t.1 (record {
              raised = subst (λ (l : List Raised). IsPrefix l log) (sym same) (prefix_self log);
              joined =
                  prefix_longer me.0.joined rule.log (raised_as c number)
                  (rule.seen id me.0 at).joined;
            }))
            (λ (t : (j ≢ id) × (get_elem? s.views j ≡ some v)).
            longer_still v rule.log (raised_as c number) (rule.seen j v t.1))
            (at_set s.views id j new v e);
        whole = λ j v e holds. ⊎_elim
            (λ (t : (j ≡ id) × (new ≡ v)). ap (λ (u : Known). u.raised) (sym t.1) ∙ same)
            (λ (t : (j ≢ id) × (get_elem? s.views j ≡ some v)).
            absurd (t.0 (rule.one j id v me.0 t.1 at holds is)))
            (at_set s.views id j new v e);
        one = one_still n id s me.0 new rule at refl;
      },
      (refl, refl, refl),
    )
