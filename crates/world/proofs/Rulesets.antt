-- With one more ruleset, each number refers to the same one as before, and the newest number to the
-- new one.
use Rattle.std.proofs.Common.{◌≡◌, ℕ, zero, suc, ◌<◌, List, [], ◌∷◌, ◌++◌, length, Option, Some}
use Rattle.std.proofs.Common.{lit<, All, sym, ap, subst, ◌∙◌, arith}
use Rattle.std.proofs.lemmas.List.Elements.{All-append, All-cons, All-contains, All-nil}
use Rattle.std.proofs.lemmas.Option.{get_or_from_slice_get, slice_get_within}
use Rattle.std.specs.Prelude.{slice_get}
use Rattle.bpf_semantics.specs.Program.{ShapedProgram}
use Rattle.ruleset.specs.Rules.{Rules, AppRule, ListsApp, Offers, IsApp, IsRuleset, AlwaysEndsWell}
use Rattle.world.specs.World.{ruleset_at, HasApp, HasProgram}

pub some_rules : (a b : Rules) → ◌≡◌ {A = Option Rules} (Some a) (Some b) → a ≡ b
some_rules a b e = cc

still_there : (rs : List Rules) (r found : Rules) (k : ℕ) → slice_get rs k ≡ Some found
    → slice_get (rs ++ r ∷ []) k ≡ Some found
still_there [] r found k is = absurd cc
still_there (a ∷ rs) r found zero is = is
still_there (a ∷ rs) r found (suc k) is = still_there rs r found k is

pub still_at : (rs : List Rules) (r found : Rules) (number : ℕ) → ruleset_at rs number ≡ Some found
    → ruleset_at (rs ++ r ∷ []) number ≡ Some found
still_at rs r found zero is = absurd cc
still_at rs r found (suc k) is = still_there rs r found k is

pub some_ruleset : (rs : List Rules) (r : Rules) → 0 < length (rs ++ r ∷ [])
some_ruleset [] r = lit< tt
some_ruleset (a ∷ rs) r = omega arith

-- ---- apps and their programs

pub still_offered : (rs : List Rules) (r : Rules) (number : ℕ) (appid : List ℕ)
    (program : ShapedProgram) → HasProgram rs number appid program
    → HasProgram (rs ++ r ∷ []) number appid program
still_offered rs r number appid program offered = record {
  app = offered.app;
  has = record {
    rules = offered.has.rules;
    ruleset_is = still_at rs r offered.has.rules number offered.has.ruleset_is;
    known = offered.has.known;
  };
  program_is = offered.program_is;
}

-- what a ruleset offers, by its number
pub offered_at : (rs : List Rules) (number : ℕ) (rules : Rules) (appid : List ℕ)
    (program : ShapedProgram) → ruleset_at rs number ≡ Some rules → Offers rules appid program
    → HasProgram rs number appid program
offered_at rs number rules appid program is offers = record {
  app = offers.app;
  has = record { rules = rules; ruleset_is = is; known = offers.known };
  program_is = offers.program_is;
}

pub sound_alone : (r : Rules) → IsRuleset r → All IsRuleset (r ∷ [])
sound_alone r sound = All-cons IsRuleset r [] sound (All-nil IsRuleset)

pub still_sound : (rs : List Rules) (r : Rules) → All IsRuleset rs → IsRuleset r
    → All IsRuleset (rs ++ r ∷ [])
still_sound rs r all sound = All-append IsRuleset rs (r ∷ []) all (sound_alone r sound)

-- each ruleset that has a number
sound_at : (rs : List Rules) (number : ℕ) (found : Rules) → All IsRuleset rs
    → ruleset_at rs number ≡ Some found → IsRuleset found
sound_at rs zero found all is = absurd cc
sound_at rs (suc k) found all is =
    subst IsRuleset (get_or_from_slice_get rs k found found is)
    (all k found (slice_get_within rs k found is))

-- each app that its ruleset has
app_at : (rs : List Rules) (number : ℕ) (appid : List ℕ) (app : AppRule) → All IsRuleset rs
    → HasApp rs number appid app → IsApp app
app_at rs number appid app all has =
    All-contains IsApp has.rules.apps app (sound_at rs number has.rules all has.ruleset_is).each
    has.known.listed

pub ends_of : (rs : List Rules) (number : ℕ) (appid : List ℕ) (program : ShapedProgram)
    → All IsRuleset rs → HasProgram rs number appid program → AlwaysEndsWell program
ends_of rs number appid program all offered =
    subst AlwaysEndsWell offered.program_is
    (app_at rs number appid offered.app all offered.has).ends

-- a program's choices are the releases of its app
pub as_many_releases : (rs : List Rules) (number : ℕ) (appid : List ℕ) (program : ShapedProgram)
    → All IsRuleset rs → (offered : HasProgram rs number appid program)
    → length offered.app.releases ≡ program.shape.releases
as_many_releases rs number appid program all offered =
    (app_at rs number appid offered.app all offered.has).all
    ∙ ap (λ (p : ShapedProgram). p.shape.releases) offered.program_is

-- an appid has one app, and so one program
pub one_program : (rs : List Rules) (number : ℕ) (appid : List ℕ) (p q : ShapedProgram)
    → All IsRuleset rs → HasProgram rs number appid p → HasProgram rs number appid q → p ≡ q
one_program rs number appid p q all left right =
    let same = some_rules right.has.rules left.has.rules
    (sym right.has.ruleset_is ∙ left.has.ruleset_is) in
    let sound = sound_at rs number left.has.rules all left.has.ruleset_is in
    let app_is : left.app ≡ right.app = sound.one appid left.app right.app left.has.known
    (subst (λ (r : Rules). ListsApp r appid right.app) same right.has.known) in
    sym left.program_is ∙ ap (λ (a : AppRule). a.program) app_is ∙ right.program_is
