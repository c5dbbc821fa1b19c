-- Each step on what is published keeps the rule on what its seats (ghost tokens) know.
use Rattle.std.proofs.Common.{◌≡◌, ℕ, ◌≢◌, List, set, refl, ap, sym, ◌∙◌, ⊎_elim}
use Rattle.std.proofs.Common.{Option, None, Some}
use mathlib.Core.Option.{some}
use lib.ListN.{get_elem?}
use Rattle.left_right.specs.Register.{Admits, TurnsAt, Forks, Merges}
use Rattle.atomic_table.proofs.Lists.{at_set, at_snoc}
use Rattle.hot_swap.specs.Seats.{KnowOnePublisher, NamesPublisher}
use Rattle.hot_swap.specs.declared.publisher_id.PublisherId.{PublisherId}
use Rattle.hot_swap.specs.declared.published_ruleset.PublishedRuleset.{PublishedRuleset}

abbrev Views : Type 0
Views = List (Option PublisherId)

-- the seat knows this publisher
abbrev KnowsAt : Views → ℕ → PublisherId → Type 0
KnowsAt views seat id = get_elem? views seat ≡ some (Some id)

-- a new reader knows nothing
pub admits : Admits KnowOnePublisher None
admits x views h seat id at =
    ⊎_elim (h seat id) (λ (e : None ≡ Some id). absurd (cc e))
    (at_snoc views None (Some id) seat at)

-- what is published is of the same publisher as before
pub turns : (seat : ℕ) (v : Option PublisherId) (x y : PublishedRuleset)
    → y.known.publisher ≡ x.known.publisher
    → TurnsAt KnowOnePublisher seat v x y NamesPublisher
turns seat v x y same views h at =
    let id = y.known.publisher in (
      Some id,
      (λ j other e. ⊎_elim (λ (t : (j ≡ seat) × (Some id ≡ Some other)). sym (cc (t.1)))
          (λ (t : (j ≢ seat) × KnowsAt views j other). h j other t.1 ∙ sym same)
          (at_set views seat j (Some id) (Some other) e)),
      (refl, (λ other e. h seat other (at ∙ ap some e) ∙ sym same)),
    )

-- what a seat knows may become known at another
pub forks : (seat : ℕ) (v : Option PublisherId) → Forks KnowOnePublisher seat v v v
forks seat v x views h at j id e =
    ⊎_elim (λ (a : KnowsAt (set views seat v) j id).
    ⊎_elim (λ (t : (j ≡ seat) × (v ≡ Some id)). h seat id (at ∙ ap some t.1))
    (λ (t : (j ≢ seat) × KnowsAt views j id). h j id t.1) (at_set views seat j v (Some id) a))
    (λ (same : v ≡ Some id). h seat id (at ∙ ap some same))
    (at_snoc (set views seat v) v (Some id) j e)

-- a seat takes over what another knows; the other knows nothing afterwards
pub merges : (seat : ℕ) (v : Option PublisherId) (other : ℕ) (w : Option PublisherId)
    → Merges KnowOnePublisher seat v other w w None
merges seat v other w x views h at apart there j id e =
    let knows : (id : PublisherId) → w ≡ Some id → id ≡ x.known.publisher =
    λ id same. ⊎_elim (λ (t : (other ≡ seat) × (w ≡ w)). absurd (apart t.0))
    (λ (t : (other ≢ seat) × (get_elem? views other ≡ some w)). h other id (t.1 ∙ ap some same))
    (at_set views seat other w w there) in
    ⊎_elim (λ (t : (j ≡ other) × (None ≡ Some id)). absurd (cc (t.1)))
    (λ (t : (j ≢ other) × KnowsAt (set views seat w) j id).
    ⊎_elim (λ (u : (j ≡ seat) × (w ≡ Some id)). knows id u.1)
    (λ (u : (j ≢ seat) × KnowsAt views j id). h j id u.1)
    (at_set views seat j w (Some id) t.1))
    (at_set (set views seat w) other j None (Some id) e)
