-- A run of the world, one event longer; and two runs that are one.
use Rattle.std.proofs.Common.{◌≡◌, ℕ, ◌+◌, ◌<◌, List, [], ◌∷◌, ◌++◌, length, take, get_or, refl}
use Rattle.std.proofs.Common.{subst, sym, ap, ◌∙◌, add-one}
use Rattle.std.proofs.Math.Seq.{take-suc}
use Rattle.world.specs.World.{WorldState}
use Rattle.world.specs.Happens.{Answer, Happens, Plays}
use Rattle.world.specs.Batches.{BatchesJoin, BatchesPart}
use Rattle.world.specs.declared.event.Event.{Event}

pub plays_on : (w u v : WorldState) (es : List Event) (rs : List Answer) (e : Event) (r : Answer)
    → Plays w es rs u → Happens u e r v → Plays w (es ++ e ∷ []) (rs ++ r ∷ []) v
plays_on w u v [] [] e r plays happens = (v, rw plays at happens, refl)
plays_on w u v (f ∷ es) (q ∷ rs) e r plays happens =
    (plays.0, plays.1, plays_on plays.0 u v es rs e r plays.2 happens)
plays_on w u v [] (q ∷ rs) e r plays happens = absurd plays
plays_on w u v (f ∷ es) [] e r plays happens = absurd plays

pub plays_longer : (w u v : WorldState) (events : List Event) (i : ℕ) (e : Event)
    (before after : List Answer) (r : Answer) → i < length events → e ≡ get_or events i e
    → after ≡ before ++ r ∷ []
    → Plays w (take i events) before u → Happens u e r v → Plays w (take (i + 1) events) after v
plays_longer w u v events i e before after r within found grown plays happens =
    let longer : take (i + 1) events ≡ take i events ++ e ∷ [] =
    rw add-one (take-suc events i e within ∙ ap (λ (x : Event). take i events ++ x ∷ [])
    (sym found)) in
    rw (longer, grown) (plays_on w u v (take i events) before e r plays happens)

plays_in_turn : (w u v : WorldState) (es fs : List Event) (rs qs : List Answer) → Plays w es rs u
    → Plays u fs qs v → Plays w (es ++ fs) (rs ++ qs) v
plays_in_turn w u v [] fs [] qs first second =
    subst (λ (x : WorldState). Plays x fs qs v) first second
plays_in_turn w u v (e ∷ es) fs (r ∷ rs) qs first second =
    (first.0, first.1, plays_in_turn first.0 u v es fs rs qs first.2 second)
plays_in_turn w u v [] fs (r ∷ rs) qs first second = absurd first
plays_in_turn w u v (e ∷ es) fs [] qs first second = absurd first

pub joined : BatchesJoin
joined w v es fs rs qs parts = plays_in_turn w parts.between v es fs rs qs parts.first parts.second

pub parted : BatchesPart
parted w v [] fs rs plays = record { between = w; first = refl; second = plays }
parted w v (e ∷ es) fs (r ∷ rs) plays =
    let rest = parted plays.0 v es fs rs plays.2 in
    record { between = rest.between; first = (plays.0, plays.1, rest.first); second = rest.second }
parted w v (e ∷ es) fs [] plays = absurd plays
