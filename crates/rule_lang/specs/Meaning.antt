-- What a rule means: a choice, or additions to cells and a choice by their replies. A condition is
-- evaluated from left to right until it is decided, so its meaning takes two continuations.
use Rattle.std.specs.Prelude.{◌≡◌, ℕ, ◌<◌, ◌^◌, ◌%◌, List, [], ◌∷◌, Option, Some, None}
use Rattle.std.specs.Prelude.{slice_index}
use Rattle.std.specs.Prelude.{Bool, true, false, not, nat_lt, ◌==◌, bit_and, if◌then◌else◌}
use Rattle.std.specs.Ordering.{nat_cmp, ordering_then}
use Rattle.std.specs.declared.cmp.Ordering.{Ordering}
use Rattle.std.specs.declared.cmp.Ordering.TheVariants.{Less, Equal, Greater}
use Rattle.attrs.specs.Attributes.{Attributes}
use Rattle.attrs.specs.Helpers.{attr_is, bucket_of}
use Rattle.attrs.specs.Vocabulary.{flag_bit, attribute_number}
use Rattle.cells.specs.Arrays.{AppShape}
use Rattle.cells.specs.declared.event.CellOp.{CellOp}
use Rattle.cells.specs.declared.event.CellOp.TheVariants.{Add}
use Rattle.cells.specs.declared.event.CellEvent.{CellEvent}
use Rattle.rule_lang.specs.declared.condition.Step.{Step}
use Rattle.rule_lang.specs.declared.rule.Statement.{Statement}
use Rattle.rule_lang.specs.declared.rule.Statement.TheVariants.{Count, When}
use Rattle.rule_lang.specs.declared.test.Comparison.{Comparison}
use Rattle.rule_lang.specs.declared.test.Comparison.TheVariants.{Lt, Le, Eq, Ne, Ge, Gt}
use Rattle.rule_lang.specs.declared.test.Test as the_test
use Rattle.rule_lang.specs.declared.test.Test.TheVariants as test
use Rattle.rule_lang.specs.Shapes.{array_named, cell_of, quota_of}
use Rattle.rule_lang.specs.Trees.{Tree, Leaf, Negated, Both, Either, trees_from}

-- ---- numbers and versions

-- the orderings that a comparison allows
abbrev pub allows : Comparison → Ordering → Bool
allows Lt Less = true
allows Le Less = true
allows Le Equal = true
allows Eq Equal = true
allows Ne Less = true
allows Ne Greater = true
allows Ge Equal = true
allows Ge Greater = true
allows Gt Greater = true
allows r o = false

-- compares the numbers at index k
abbrev pub place_cmp : List ℕ → List ℕ → ℕ → Ordering
place_cmp v w k = nat_cmp (slice_index v k) (slice_index w k)

-- the four numbers are compared in order
abbrev pub version_cmp : List ℕ → List ℕ → Ordering
version_cmp v w =
    ordering_then (place_cmp v w 0)
    (ordering_then (place_cmp v w 1) (ordering_then (place_cmp v w 2) (place_cmp v w 3)))

-- the bucket, or the bucket under a salt
abbrev pub bucket_by : Attributes → (salt : Option ℕ) → ℕ
bucket_by a None = a.context.bucket
bucket_by a (Some salt) = bucket_of a salt

-- the whole number, or its remainder
abbrev pub remainder : (modulus : Option ℕ) → ℕ → ℕ
remainder None n = n
remainder (Some m) n = n % m

-- ---- behaviours

-- it makes a choice, or sends an operation to a cell and continues by the reply
pub data Behaviour : Type 0 where
  Chooses : ℕ → Behaviour
  Operates : (cell : ℕ) → CellOp → (ℕ → Behaviour) → Behaviour

-- it makes exactly these events, given their replies, and then this choice
abbrev pub HasTrace : Behaviour → List CellEvent → ℕ → Type 0
HasTrace (Chooses k) [] choice = k ≡ choice
HasTrace (Chooses k) (e ∷ es) choice = ⊥
HasTrace (Operates cell op next) [] choice = ⊥
HasTrace (Operates cell op next) (e ∷ es) choice =
    (e.cell ≡ cell) × (e.op ≡ op) × (e.reply < 2 ^ 64) × HasTrace (next e.reply) es choice

-- ---- tests and conditions

-- whether a test holds; for a take, by the cell's reply
abbrev pub test_holds : Attributes → AppShape → (reply : ℕ) → the_test.Test → Bool
test_holds a s reply (test.Version r w) = allows r (version_cmp a.context.version w)
test_holds a s reply (test.Bucket salt modulus r n) =
    allows r (nat_cmp (remainder modulus (bucket_by a salt)) n)
test_holds a s reply (test.Today r n) = allows r (nat_cmp a.context.today n)
test_holds a s reply (test.Installed r n) = allows r (nat_cmp a.context.install_day n)
test_holds a s reply (test.Flag f) = not (bit_and a.context.flags (flag_bit f) == 0)
test_holds a s reply (test.Attr n text) = attr_is a (attribute_number n) text == 1
test_holds a s reply (test.Take name index) = nat_lt reply (quota_of (array_named name s.arrays))

-- the cell that a test uses: only a take uses one
abbrev pub cell_used : AppShape → the_test.Test → Option ℕ
cell_used s (test.Take name index) = Some (cell_of (array_named name s.arrays) index)
cell_used s t = None

-- one Add of 1 to the cell, and the continuation on its reply; without a cell the reply is 0
abbrev pub add_one_then : Option ℕ → (ℕ → Behaviour) → Behaviour
add_one_then (Some cell) next = Operates cell (Add 1) next
add_one_then None next = next 0

-- a test with the continuations if it holds and if it fails
abbrev pub test_then : Attributes → AppShape → the_test.Test → Behaviour → Behaviour → Behaviour
test_then a s t met unmet =
    add_one_then (cell_used s t) (λ reply. if test_holds a s reply t then met else unmet)

-- a condition, evaluated from left to right until it is decided, with the continuations if it holds
-- and if it fails
abbrev pub decide : Attributes → AppShape → Tree → Behaviour → Behaviour → Behaviour
decide a s (Leaf line t) met unmet = test_then a s t met unmet
decide a s (Negated c) met unmet = decide a s c unmet met
decide a s (Both b c) met unmet = decide a s b (decide a s c met unmet) unmet
decide a s (Either b c) met unmet = decide a s b met (decide a s c met unmet)

-- the steps of a condition form one tree
abbrev pub decide_one : Attributes → AppShape → Option (List Tree) → Behaviour → Behaviour
    → Behaviour
decide_one a s (Some (c ∷ [])) met unmet = decide a s c met unmet
decide_one a s trees met unmet = unmet

abbrev pub decide_steps : Attributes → AppShape → List Step → Behaviour → Behaviour → Behaviour
decide_steps a s steps met unmet = decide_one a s (trees_from [] steps) met unmet

-- ---- rules

-- the statements in order, and then `otherwise none`, which chooses 0
abbrev pub behaviour : Attributes → AppShape → List Statement → Behaviour
behaviour a s [] = Chooses 0
behaviour a s (Count name index ∷ rest) =
    Operates (cell_of (array_named name s.arrays) index) (Add 1) (λ reply. behaviour a s rest)
behaviour a s (When steps release ∷ rest) =
    decide_steps a s steps (Chooses release) (behaviour a s rest)
