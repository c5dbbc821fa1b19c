-- A reader's seat is made, and joined to the writer's.
use Rattle.std.proofs.Common.{◌≡◌, ◌≢◌, ◌<◌, ℕ, true, false, [], ◌∷◌, ◌++◌}
use Rattle.std.proofs.Common.{set, refl, sym, ap, ◌∙◌, subst, ⊎_elim}
use Rattle.std.specs.Prelude.{slice_index, slice_set}
use Rattle.std.proofs.lemmas.Bool.{false≢true}
use Rattle.std.proofs.lemmas.List.{set-get_or}
use mathlib.Core.List.{IsPrefix}
use mathlib.Core.Logic.{◌⊎◌}
use mathlib.Core.Option.{some}
use lib.ListN.{get_elem?}
use Rattle.atomic_table.specs.Table.{Me, Allows, Enters, Joins, keeps}
use Rattle.atomic_table.proofs.Lists.{at_set, at_snoc, set_again}
use Rattle.ceilings.specs.declared.rule.Known.{Known}
use Rattle.ceilings.specs.Rule.{reader_of, joined_to, Compares, KnowsSome, HasLog}
use Rattle.ceilings.proofs.Steps.{knows_nothing, one_still}

-- a reader that knows nothing
abbrev spent : Known
spent = reader_of []

not_writer : (u : Known) → spent ≡ u → ¬ (u.is_writer ≡ true)
not_writer u same is = false≢true (ap (λ (k : Known). k.is_writer) same ∙ is)

-- ---- a reader is made

pub enters : {S : Type 0} (n slots c : ℕ)
    → Enters (HasLog {S = S} n) slots c (λ found view. Unit {0})
enters {S} n slots c s rule homes small = (
  spent,
  record {
    log = rule.log;
    words = rule.words;
    below = rule.below;
    seen = λ j u e. ⊎_elim
        (λ (t : get_elem? s.views j ≡ some u). rule.seen j u t)
        (λ (t : spent ≡ u). subst (KnowsSome rule.log) t (knows_nothing false rule.log))
        (at_snoc s.views spent u j e);
    whole = λ j u e is. rule.whole j u (old j u e is) is;
    one = λ j k u w e f is too. rule.one j k u w (old j u e is) (old k w f too) is too;
  },
  tt,
)
  where
    old : (j : ℕ) (u : Known) → get_elem? (s.views ++ spent ∷ []) j ≡ some u
        → u.is_writer ≡ true → get_elem? s.views j ≡ some u
    old j u e is = ⊎_elim
        (λ (t : get_elem? s.views j ≡ some u). t)
        (λ (t : spent ≡ u). absurd (not_writer u t is))
        (at_snoc s.views spent u j e)

-- ---- a reader is joined to the writer

pub joins : {S : Type 0} (n id other : ℕ) (v w : Known)
    → Joins (HasLog {S = S} n) id v other w (joined_to v w) spent
joins {S} n id other v w s rule at apart there = record {
  log = rule.log;
  words = rule.words;
  below = rule.below;
  seen = λ j u e. ⊎_elim
      (λ (t : (j ≡ other) × (spent ≡ u)).
      subst (KnowsSome rule.log) t.1 (knows_nothing false rule.log))
      (λ (t : (j ≢ other) × (get_elem? (set s.views id both) j ≡ some u)). seen_within j u t.1)
      (at_set (set s.views id both) other j spent u e);
  whole = λ j u e is. whole_within j u (within j u e is) is;
  one = λ j k u x e f is too.
      one_still n id s v both rule at refl j k u x (within j u e is) (within k x f too) is too;
}
  where
    both : Known
    both = joined_to v w

    was : get_elem? s.views other ≡ some w
    was = ⊎_elim
        (λ (t : (other ≡ id) × (both ≡ w)). absurd (apart t.0))
        (λ (t : (other ≢ id) × (get_elem? s.views other ≡ some w)). t.1)
        (at_set s.views id other both w there)

    seen_within : (j : ℕ) (u : Known) → get_elem? (set s.views id both) j ≡ some u
        → KnowsSome rule.log u
    seen_within j u e = ⊎_elim
        (λ (t : (j ≡ id) × (both ≡ u)).
        subst (KnowsSome rule.log) t.1 (record {
          raised = (rule.seen id v at).raised;
          joined = (rule.seen other w was).raised;
        }))
        (λ (t : (j ≢ id) × (get_elem? s.views j ≡ some u)). rule.seen j u t.1)
        (at_set s.views id j both u e)

    whole_within : (j : ℕ) (u : Known) → get_elem? (set s.views id both) j ≡ some u
        → u.is_writer ≡ true → u.raised ≡ rule.log
    whole_within j u e is = ⊎_elim
        (λ (t : (j ≡ id) × (both ≡ u)).
        sym (ap (λ (k : Known). k.raised) t.1)
        ∙ rule.whole id v at (ap (λ (k : Known). k.is_writer) t.1 ∙ is))
        (λ (t : (j ≢ id) × (get_elem? s.views j ≡ some u)). rule.whole j u t.1 is)
        (at_set s.views id j both u e)

    within : (j : ℕ) (u : Known)
        → get_elem? (set (set s.views id both) other spent) j ≡ some u
        → u.is_writer ≡ true → get_elem? (set s.views id both) j ≡ some u
    within j u e is = ⊎_elim
        (λ (t : (j ≡ other) × (spent ≡ u)). absurd (not_writer u t.1 is))
        (λ (t : (j ≢ other) × (get_elem? (set s.views id both) j ≡ some u)). t.1)
        (at_set (set s.views id both) other j spent u e)

-- ---- the writer is compared with it

pub compares : {S : Type 0} (n slots id : ℕ) (me : Me S Known) (c : ℕ) → c < n
    → me.0.is_writer ≡ true → Allows (HasLog n) slots id me c (λ k. k) (λ _. Compares me)
compares {S} n slots id me c lt is s rule homes at small = (
  me.0,
  keeps,
  tt,
  subst (HasLog n) same rule,
  (
    subst (IsPrefix me.0.joined) (sym (rule.whole id me.0 at is)) (rule.seen id me.0 at).joined,
    refl,
  ),
)
  where
    words : slice_set s.words c (slice_index s.words c) ≡ s.words
    words = set-get_or s.words c 0

    views : set s.views id me.0 ≡ s.views
    views = set_again s.views id me.0 at

    -- the words and the views stay as they are
    same : s ≡ record {
      words = slice_set s.words c (slice_index s.words c);
      homes = s.homes;
      views = set s.views id me.0;
    }
    same i = record { words = sym words i; homes = s.homes; views = sym views i }
