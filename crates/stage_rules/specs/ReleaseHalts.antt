-- A halt of one release: a rule, and its text, without the statements that offer its version.
use Rattle.std.specs.Prelude.{◌≡◌, ℕ, ◌-◌, ◌==◌, List, [], ◌∷◌, ◌++◌, codes, filter, nat_eq}
use Rattle.std.specs.Prelude.{Ok, Err}
use Rattle.std.specs.Prelude.{Bool, true, false, not, if◌then◌else◌, Option, Some, None}
use Rattle.std.specs.List.{ends_with, list_any, slice_get, starts_with}
use Rattle.std.specs.Str.{bytes_eq}
use Rattle.attrs.specs.Attributes.{Attributes}
use Rattle.cells.specs.Arrays.{AppShape}
use Rattle.cells.specs.declared.event.CellEvent.{CellEvent}
use Rattle.releases.specs.Release.{Release}
use Rattle.rule_lang.specs.Meaning.{HasTrace, behaviour}
use Rattle.rule_lang.specs.Verdicts.{IsVerdict}
use Rattle.rule_lang.specs.declared.rule.Statement.{Statement}
use Rattle.rule_lang.specs.declared.rule.Statement.TheVariants.{Count, When}
use Rattle.stage_rules.specs.Halts.{halted_rule}
use Rattle.stage_rules.specs.declared.without_fault.WithoutFault.{WithoutFault}
use Rattle.stage_rules.specs.declared.without_fault.WithoutFault.TheVariants as fault

-- ---- the rule

-- the release that a choice names: the first is 1, and 0 none
abbrev pub release_at : List Release → (choice : ℕ) → Option Release
release_at releases choice = if choice == 0 then None else slice_get releases (choice - 1)

abbrev pub has_version : Option Release → (version : List ℕ) → Bool
has_version None version = false
has_version (Some release) version = bytes_eq release.version version

module _ (releases : List Release) (version : List ℕ) where
  -- a choice names a release of this version
  abbrev pub is_choice : (choice : ℕ) → Bool
  is_choice choice = has_version (release_at releases choice) version

  -- a statement offers such a release
  abbrev pub offers : Statement → Bool
  offers (Count array index) = false
  offers (When condition release) = is_choice release

  -- the rule without these statements
  abbrev pub without : List Statement → List Statement
  without rule = filter (λ statement. not (offers statement)) rule

-- ---- what it then chooses

-- some of the events, in their order
pub data AreSome : (some all : List CellEvent) → Type 0 where
  none : AreSome [] []
  with_one : {some all : List CellEvent} (e : CellEvent) → AreSome some all
      → AreSome (e ∷ some) (e ∷ all)
  but_one : {some all : List CellEvent} (e : CellEvent) → AreSome some all
      → AreSome some (e ∷ all)

module _ (shape : AppShape) (releases : List Release) (version : List ℕ) where
  -- nobody gets a release of this version
  abbrev pub ChoosesNoneOf : (rule : List Statement) → Type 0
  ChoosesNoneOf rule = (a : Attributes) (events : List CellEvent) (choice : ℕ)
      → HasTrace (behaviour a shape rule) events choice
      → is_choice releases version choice ≡ false

  -- who got another release, or none, gets the same, by some of the same events on counters
  abbrev pub KeepsOthers : (old new : List Statement) → Type 0
  KeepsOthers old new = (a : Attributes) (events : List CellEvent) (choice : ℕ)
      → HasTrace (behaviour a shape old) events choice
      → is_choice releases version choice ≡ false
      → (some : List CellEvent) × AreSome some events
      × HasTrace (behaviour a shape new) some choice

  -- ---- its text

  -- a part of a text, from `when` to `;`, that is read separately as a statement of this version
  pub record IsOfferText (part : List ℕ) : Type 0 where
    pub begins : starts_with nat_eq part (codes "when") ≡ true
    pub ends : ends_with nat_eq part (codes ";") ≡ true
    pub statement : Statement
    pub reads : IsVerdict shape (part ++ halted_rule) (Ok (statement ∷ []))
    pub offered : offers releases version statement ≡ true

  -- the same text, but that of some such parts only the line ends stay, so that each line keeps its
  -- number
  pub data LeavesOut : (old new : List ℕ) → Type 0 where
    same : {text : List ℕ} → LeavesOut text text
    kept : (part : List ℕ) {old new : List ℕ} → LeavesOut old new
        → LeavesOut (part ++ old) (part ++ new)
    left_out : (part : List ℕ) {old new : List ℕ} → IsOfferText part → LeavesOut old new
        → LeavesOut (part ++ old) (filter (λ byte. byte == 10) part ++ new)

  -- whatever the rest of a text becomes, the whole becomes the new text so far, and then that
  abbrev pub IsSoFar : (text rest new : List ℕ) → Type 0
  IsSoFar text rest new = (next : List ℕ) → LeavesOut rest next → LeavesOut text (new ++ next)

  -- there is a release of this version; both texts are rules, and the new one is the old one
  -- without the statements that offer it
  pub record IsWithout (old new : List ℕ) : Type 0 where
    pub released : list_any (λ release. bytes_eq release.version version) releases ≡ true
    pub rule : List Statement
    pub was : IsVerdict shape old (Ok rule)
    pub is : IsVerdict shape new (Ok (without releases version rule))
    pub text : LeavesOut old new
    pub none : ChoosesNoneOf (without releases version rule)
    pub others : KeepsOthers rule (without releases version rule)

  -- the text is a rule with a statement of this version
  pub record IsOffering (text : List ℕ) : Type 0 where
    pub rule : List Statement
    pub is : IsVerdict shape text (Ok rule)
    pub offered : list_any (offers releases version) rule ≡ true

  -- why there is none; about a failed allocation nothing is claimed
  abbrev pub IsWithoutFault : (text : List ℕ) → WithoutFault → Type 0
  IsWithoutFault text fault.NoRelease =
      list_any (λ release. bytes_eq release.version version) releases ≡ false
  IsWithoutFault text (fault.NoRule refused) = IsVerdict shape text (Err refused)
  IsWithoutFault text fault.NotFound = IsOffering text
  IsWithoutFault text fault.Memory = Unit {0}
