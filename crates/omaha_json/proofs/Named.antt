-- A value by a name: members that are prepended to others, and values that may be objects.
use Rattle.std.proofs.Common.{◌≡◌, ◌<◌, ℕ, List, [], ◌∷◌, ◌++◌, Bool, true, false, refl, length}
use Rattle.std.proofs.Common.{arith}
use Rattle.std.proofs.Common.{Option, Some, None, option_map, sym, ap, ◌∙◌}
use Rattle.std.proofs.Common.{Ordering, Less, Equal, Greater, nat_cmp, is_eq, bytes_eq}
use Rattle.std.proofs.Common.{string_bytes, String, Global, BTreeMap}
use Rattle.std.specs.Prelude.{if◌then◌else◌}
use Rattle.std.specs.BTreeMap.{is_at}
use Rattle.std.specs.Map.{lookup}
use Rattle.std.specs.Cmp.Lexicographic.{slice_cmp}
use Rattle.std.specs.Ordering.{match_ordering}
use Rattle.std.proofs.lemmas.Map.Text.{is_eq-slice_cmp}
use Rattle.std.proofs.lemmas.Slice.Eq.{bytes_eq-Decides}
use Rattle.serde_json.specs.Data.{Data, null, boolean, number, string, array, object}
use Rattle.serde_json.specs.Data.{Members, member}
use Rattle.serde_json.specs.Find.{get, get_member, as_object}
use Rattle.serde_json.specs.View.{view, members_view}
use Rattle.serde_json.specs.declared.value.Value.{Value}
use Rattle.serde_json.proofs.Views.{view-lookup}

abbrev pub Entry : Type 0
Entry = String Global × Value

-- ---- a member that is prepended to others

either : (o : Ordering) (found before : Option Data) → is_eq o ≡ false
    → match_ordering o before found before ≡ before
either Less found before e = refl
either Equal found before e = cc
either Greater found before e = refl

differ : (xs ys : List ℕ) (b : Bool) → bytes_eq xs ys ≡ b → bytes_eq ys xs ≡ false → b ≡ false
differ xs ys true e f =
    sym ((bytes_eq-Decides ys xs).1 (sym ((bytes_eq-Decides xs ys).0 e))) ∙ f
differ xs ys false e f = refl

-- a member of another name is skipped
pub passed : (wanted name : List ℕ) (d : Data) (ms : Members) → bytes_eq name wanted ≡ false
    → get_member wanted (member name d ms) ≡ get_member wanted ms
passed wanted name d ms other =
    either (slice_cmp nat_cmp wanted name) (Some d) (get_member wanted ms)
    (is_eq-slice_cmp wanted name ∙ differ wanted name (bytes_eq wanted name) refl other)

-- what is true in both cases is true of the chosen one
pub choose : {M : Type 0} (Goal : Option M → Type 0) (b : Bool) (m : M) (rest : Option M)
    → (b ≡ true → Goal (Some m)) → (b ≡ false → Goal rest) → Goal (if b then Some m else rest)
choose Goal true m rest holds fails = holds refl
choose Goal false m rest holds fails = fails refl

pub same : (name wanted : List ℕ) → bytes_eq name wanted ≡ true → wanted ≡ name
same name wanted e = sym ((bytes_eq-Decides name wanted).0 e)

-- if none is left, all are found
pub all_found : (all left done : List Entry) → all ≡ left ++ done → (0 < length left → ⊥)
    → done ≡ all
all_found all [] done is none = sym is
all_found all (e ∷ es) done is none = absurd (none (omega arith))

-- ---- a value that may be an object

pub no_member : (name : List ℕ) (d : Data) → as_object d ≡ None → get name d ≡ None
no_member name null none = refl
no_member name (boolean b) none = refl
no_member name (number n) none = refl
no_member name (string s) none = refl
no_member name (array ds) none = refl
no_member name (object ms) none = cc

pub is_object : (d : Data) (ms : Members) → as_object d ≡ Some ms → d ≡ object ms
is_object null ms is = cc
is_object (boolean b) ms is = cc
is_object (number n) ms is = cc
is_object (string s) ms is = cc
is_object (array ds) ms is = cc
is_object (object ns) ms is = cc

-- a member that is taken out of a map
pub member_found : (name : List ℕ) (d : Data) (es : List Entry) (found : Option Value)
    → Some (members_view es) ≡ as_object d
    → found ≡ lookup (is_at (λ k. slice_cmp nat_cmp name (string_bytes k))) es
    → option_map view found ≡ get name d
member_found name d es found is looked =
    ap (option_map view) looked ∙ view-lookup name es
    ∙ ap (get name) (sym (is_object d (members_view es) (sym is)))

pub member_missing : (name : List ℕ) (d : Data) → None ≡ as_object d → None ≡ get name d
member_missing name d none = sym (no_member name d (sym none))

pub objects : (found : Option (BTreeMap (String Global) Value))
    → option_map (λ m. object (members_view m.entries)) found
    ≡ option_map object (option_map (λ m. members_view m.entries) found)
objects None = refl
objects (Some m) = refl
