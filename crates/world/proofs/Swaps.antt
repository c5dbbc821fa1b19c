-- A Swap, in what is held and in the worlds that it represents; and that it removes no ruleset.
use Rattle.std.proofs.Common.{◌≡◌, Global, ℕ, List, [], ◌∷◌, ◌++◌, length, Some, Ok, Err, refl}
use Rattle.std.proofs.Common.{sym, ap, map, ◌∙◌}
use Rattle.std.proofs.lemmas.List.{length-map, map_push}
use Rattle.std.specs.Arc.{arc_value}
use Rattle.std.specs.declared.sync.Arc.{Arc}
use Rattle.ruleset.specs.Rules.{Rules, IsRuleset}
use Rattle.world.specs.World.{WorldState, ruleset_at, with_ruleset}
use Rattle.world.specs.Happens.{Answer, Happens}
use Rattle.world.specs.Headline.{IsApplied}
use Rattle.world.specs.Course.{RulesetsPreserved}
use Rattle.world.specs.Seats.{SeatIsOffered}
use Rattle.world.specs.Represents.{Parts, AreSoundParts, parts_of, seat_at}
use Rattle.world.specs.declared.seat.Seat.{Seat}
use Rattle.world.specs.declared.seat.Seat.TheVariants.{Empty, Taken}
use Rattle.world.specs.declared.event.Event.{Event}
use Rattle.world.specs.declared.event.Event.TheVariants.{Start, Step, Finish, Swap}
use Rattle.world.specs.declared.event.Effect.TheVariants as effect
use Rattle.world.proofs.Rulesets.{still_at, some_ruleset, still_offered, still_sound}

abbrev pub with_rules : Parts → Rules → Parts
with_rules parts rules = record parts { rulesets = parts.rulesets ++ rules ∷ [] }

-- the vector has one more
pub held_with : (old new : List (Arc Rules Global)) (pushed sent : Arc Rules Global)
    (cells : List ℕ) (seats : List Seat) → new ≡ old ++ pushed ∷ []
    → arc_value pushed ≡ arc_value sent
    → parts_of new cells seats ≡ with_rules (parts_of old cells seats) (arc_value sent)
held_with old new pushed sent cells seats grown same =
    let values = map (λ (r : Arc Rules Global). arc_value r) in
    ap (λ (rs : List Rules). record { rulesets = rs; cells = cells; seats = seats })
    (ap values grown ∙ map_push (λ (r : Arc Rules Global). arc_value r) old pushed
    ∙ ap (λ (r : Rules). values old ++ r ∷ []) same)

pub as_many : (old new : List (Arc Rules Global)) (pushed sent : Arc Rules Global) (n : ℕ)
    → new ≡ old ++ pushed ∷ [] → arc_value pushed ≡ arc_value sent → n ≡ length new
    → n ≡ length (map (λ (r : Arc Rules Global). arc_value r) old ++ arc_value sent ∷ [])
as_many old new pushed sent n grown same number =
    let many = number ∙ sym (length-map new (λ (r : Arc Rules Global). arc_value r)) in
    many ∙ ap (λ (p : Parts). length p.rulesets) (held_with old new pushed sent [] [] grown same)

pub swapped : (parts : Parts) (rules : Arc Rules Global) (n : ℕ) → IsRuleset (arc_value rules)
    → n ≡ length (parts.rulesets ++ arc_value rules ∷ [])
    → IsApplied parts (Swap rules) (Ok (effect.Swapped n)) (with_rules parts (arc_value rules))
swapped parts rules n sound number w represents =
    let longer = ap (λ (rs : List Rules). rs ++ arc_value rules ∷ []) represents.rulesets in (
      with_ruleset w (arc_value rules),
      record { sound = sound; after = refl; number_is = number ∙ ap length longer },
      record {
        rulesets = longer;
        cells = represents.cells;
        as_many = represents.as_many;
        each = represents.each;
      },
    )

seat_offered : (rulesets : List Rules) (rules : Rules) (seat : Seat) → SeatIsOffered rulesets seat
    → SeatIsOffered (rulesets ++ rules ∷ []) seat
seat_offered rulesets rules Empty offered = tt
seat_offered rulesets rules (Taken run number choice) offered =
    still_offered rulesets rules number _ run.program offered

pub kept_with_rules : (parts : Parts) (rules : Rules) → IsRuleset rules → AreSoundParts parts
    → AreSoundParts (with_rules parts rules)
kept_with_rules parts rules sound kept = record {
  ruled = some_ruleset parts.rulesets rules;
  sound = still_sound parts.rulesets rules kept.sound sound;
  kept = kept.kept;
  offered = λ k. seat_offered parts.rulesets rules (seat_at parts k) (kept.offered k);
}

-- ---- events never change the ruleset of a number

stays_at : (w u : WorldState) (e : Event) (r : Answer) (number : ℕ) (rules : Rules)
    → Happens w e r u
    → ruleset_at w.rulesets number ≡ Some rules → ruleset_at u.rulesets number ≡ Some rules
stays_at w u (Start k attrs) (Ok effect.Started) number rules h is = rw h.after is
stays_at w u (Step k) (Ok effect.Stepped) number rules h is = rw h.after is
stays_at w u (Step k) (Ok (effect.Ended choice)) number rules h is = rw h.after is
stays_at w u (Finish k) (Ok (effect.Finished choice instructions n)) number rules h is =
    rw h.after is
stays_at w u (Swap swapped) (Ok (effect.Swapped n)) number rules h is =
    rw h.after (still_at w.rulesets (arc_value swapped) rules number is)
stays_at w u (Start k attrs) (Err f) number rules h is = rw h.1 is
stays_at w u (Step k) (Err f) number rules h is = rw h.1 is
stays_at w u (Finish k) (Err f) number rules h is = rw h.1 is
stays_at w u (Swap swapped) (Err f) number rules h is = rw h.1 is
stays_at w u e (Ok a) number rules h is = absurd h

pub rulesets_preserved : RulesetsPreserved
rulesets_preserved w v [] [] number rules plays is = rw plays is
rulesets_preserved w v (e ∷ es) (r ∷ rs) number rules plays is =
    rulesets_preserved plays.0 v es rs number rules plays.2
    (stays_at w plays.0 e r number rules plays.1 is)
rulesets_preserved w v [] (r ∷ rs) number rules plays is = absurd plays
rulesets_preserved w v (e ∷ es) [] number rules plays is = absurd plays
