-- What is counted in bytes that are read in pieces.
use Rattle.std.proofs.Common.{◌≡◌, ◌≢◌, ℕ, suc, List, [], ◌∷◌, ◌++◌, refl, sym, ap, ◌∙◌, subst}
use Rattle.std.proofs.Common.{append_assoc, append-nil, length, Bool, true, false, ◌==◌}
use Rattle.std.proofs.Common.{if◌then◌else◌, arith}
use Rattle.std.specs.Io.KnownBytes.{Consumes, IsAtEnd}
use Rattle.std.specs.Prelude.{IfNone, IfSome, Option, None, Some}
use Rattle.report.specs.Counts.{Counts}
use Rattle.report.specs.Lines.{grown, lines_after}
use Rattle.report.specs.Reading.{AddsLines, CountsLines, ReadsLog, ReadsBlock}
use Rattle.report.specs.declared.counting.Report.{Report}
use Rattle.report.specs.declared.window.Window.{Window}

none_added : (window : Window) (r : Report) → AddsLines window [] r r
unfolding AddsLines
none_added window r = refl

pub counts_none : (window : Window) (r : Report) → CountsLines window [] r r
counts_none window r = record {
  adds = none_added window r;
  extends = λ drawn before counted.
      subst (λ (lines : List (List ℕ)). Counts window lines drawn r) (sym (append-nil before))
      counted;
}

both_added : (window : Window) (xs ys : List (List ℕ)) (a b c : Report)
    → AddsLines window xs a b → AddsLines window ys b c → AddsLines window (xs ++ ys) a c
unfolding AddsLines
both_added window [] ys a b c first last =
    subst (λ (r : Report). AddsLines window ys r c) first last
both_added window (x ∷ xs) ys a b c first last =
    (first.0, first.1, both_added window xs ys first.0 b c first.2 last)

pub counts_both : (window : Window) (xs ys : List (List ℕ)) (a b c : Report)
    → CountsLines window xs a b → CountsLines window ys b c → CountsLines window (xs ++ ys) a c
counts_both window xs ys a b c first last = record {
  adds = both_added window xs ys a b c first.adds last.adds;
  extends = λ drawn before counted.
      subst (λ (lines : List (List ℕ)). Counts window lines drawn c) (append_assoc before xs ys)
      (last.extends drawn (before ++ xs) (first.extends drawn before counted));
}

if_true : {A : Type 0} (b : Bool) (x y : A) → b ≡ true → (if b then x else y) ≡ x
if_true b x y holds = rw holds refl

if_false : {A : Type 0} (b : Bool) (x y : A) → b ≡ false → (if b then x else y) ≡ y
if_false b x y fails = rw fails refl

feed_ends : (begun bytes : List ℕ)
    → lines_after begun (10 ∷ bytes) ≡ begun ∷ lines_after [] bytes
unfolding lines_after
feed_ends begun bytes = refl

other_goes_on : (begun : List ℕ) (b : ℕ) (bytes : List ℕ) → (b == 10) ≡ false
    → lines_after begun (b ∷ bytes) ≡ lines_after (grown begun b) bytes
unfolding lines_after
other_goes_on begun b bytes differs = if_false (b == 10) _ _ differs

none_begun : lines_after [] [] ≡ []
unfolding lines_after
none_begun = refl

more_than_none : (n : ℕ) → (suc n == 0) ≡ false
more_than_none n = grind arith

some_begun : (b : ℕ) (line : List ℕ) → lines_after (b ∷ line) [] ≡ (b ∷ line) ∷ []
unfolding lines_after
some_begun b line = if_false (length (b ∷ line) == 0) _ _ (more_than_none (length line))

pub is_zero : (n : ℕ) (b : Bool) → b ≡ (n == 0) → b ≡ true → n ≡ 0
is_zero n b is holds = grind arith

pub no_line : (window : Window) (begun : List ℕ) (r : Report) → length begun ≡ 0
    → CountsLines window (lines_after begun []) r r
no_line window [] r none =
    subst (λ (lines : List (List ℕ)). CountsLines window lines r r) (sym none_begun)
    (counts_none window r)
no_line window (b ∷ line) r none = absurd (omega (arith, none))

pub line_ends : (window : Window) (begun : List ℕ) (old new : Report)
    → CountsLines window (begun ∷ []) old new → ReadsBlock window (10 ∷ []) begun old [] new
line_ends window begun old new counted = record {
  extends = λ bytes last rest.
      subst (λ (lines : List (List ℕ)). CountsLines window lines old last)
      (sym (feed_ends begun bytes))
      (counts_both window (begun ∷ []) (lines_after [] bytes) old new last counted rest);
}

pub line_goes_on : (window : Window) (begun begun_then : List ℕ) (b : ℕ) (r : Report)
    → b ≢ 10 → begun_then ≡ grown begun b → ReadsBlock window (b ∷ []) begun r begun_then r
line_goes_on window begun begun_then b r other grows = record {
  extends = λ bytes last rest.
      subst (λ (lines : List (List ℕ)). CountsLines window lines r last)
      (ap (λ (line : List ℕ). lines_after line bytes) grows
      ∙ sym (other_goes_on begun b bytes (neq_false b 10 other))) rest;
}
  where
    neq_false : (m n : ℕ) → m ≢ n → (m == n) ≡ false
    neq_false m n differs = grind arith

pub reads_none : (window : Window) (begun : List ℕ) (r : Report)
    → ReadsBlock window [] begun r begun r
reads_none window begun r = record { extends = λ bytes last rest. rest }

pub reads_both : (window : Window) (xs ys : List ℕ) (x y z : List ℕ) (a b c : Report)
    → ReadsBlock window xs x a y b → ReadsBlock window ys y b z c
    → ReadsBlock window (xs ++ ys) x a z c
reads_both window xs ys x y z a b c first next = record {
  extends = λ bytes last rest.
      subst (λ (all : List ℕ). CountsLines window (lines_after x all) a last)
      (sym (append_assoc xs ys bytes))
      (first.extends (ys ++ bytes) last (next.extends bytes last rest));
}

-- what is left of a block is read byte by byte
module _ (window : Window) (first block : List ℕ) (start : Report) (begun : List ℕ) (old : Report)
    (left : List ℕ) (so_far : (bytes : List ℕ) (last : Report)
    → CountsLines window (lines_after begun (left ++ bytes)) old last
    → CountsLines window (lines_after first (block ++ bytes)) start last) where
  pub byte_read : (byte : ℕ) (rest next : List ℕ) (new : Report) → left ≡ byte ∷ rest
      → ReadsBlock window (byte ∷ []) begun old next new → (bytes : List ℕ) (last : Report)
      → CountsLines window (lines_after next (rest ++ bytes)) new last
      → CountsLines window (lines_after first (block ++ bytes)) start last
  byte_read byte rest next new left_is reads bytes last counted =
      so_far bytes last
      (subst (λ (l : List ℕ). CountsLines window (lines_after begun (l ++ bytes)) old last)
      (sym left_is) (reads.extends (rest ++ bytes) last counted))

  pub block_read : left ≡ [] → ReadsBlock window block first start begun old
  block_read none = record {
    extends = λ bytes last counted.
        so_far bytes last
        (subst (λ (l : List ℕ). CountsLines window (lines_after begun (l ++ bytes)) old last)
        (sym none) counted);
  }

pub last_line : (window : Window) (begun : List ℕ) (old new : Report)
    → (length begun ≡ 0 → old ≡ new)
    → (length begun ≢ 0 → CountsLines window (begun ∷ []) old new)
    → CountsLines window (lines_after begun []) old new
last_line window [] old new none some =
    subst (λ (lines : List (List ℕ)). CountsLines window lines old new) (sym none_begun)
    (subst (λ (r : Report). CountsLines window [] old r) (none refl) (counts_none window old))
last_line window (b ∷ line) old new none some =
    subst (λ (lines : List (List ℕ)). CountsLines window lines old new) (sym (some_begun b line))
    (some (λ long. absurd (omega (arith, long))))

-- ---- the bytes of a reader

pub consumes_none : (a : Option (List ℕ)) → Consumes a a []
consumes_none None = tt
consumes_none (Some s) = refl

pub consumes_both : (a b c : Option (List ℕ)) (xs ys : List ℕ)
    → Consumes a b xs → Consumes b c ys → Consumes a c (xs ++ ys)
consumes_both None b c xs ys first last = tt
consumes_both (Some s) None c xs ys first last = absurd first
consumes_both (Some s) (Some t) None xs ys first last = absurd last
consumes_both (Some s) (Some t) (Some u) xs ys first last =
    first ∙ ap (λ (z : List ℕ). xs ++ z) last ∙ sym (append_assoc xs ys u)

pub all_consumed : (a b : Option (List ℕ)) (xs : List ℕ) → Consumes a b xs → IsAtEnd b
    → IfSome a (λ all. xs ≡ all)
all_consumed None b xs first last = tt
all_consumed (Some s) None xs first last = absurd first
all_consumed (Some s) (Some t) xs first last =
    sym (first ∙ ap (λ (z : List ℕ). xs ++ z) last ∙ append-nil xs)

pub at_some : {A : Type 0} (o : Option A) (x : A) (P : A → Type 0) → o ≡ Some x → IfSome o P
    → P x
at_some {A} o x P is holds = subst (λ (q : Option A). IfSome q P) is holds

pub at_none : {A : Type 0} (o : Option A) (P : Type 0) → o ≡ None → IfNone o P → P
at_none {A} o P is holds = subst (λ (q : Option A). IfNone q P) is holds

pub log_read : (window : Window) (known last_known : Option (List ℕ)) (seen begun : List ℕ)
    (start old new : Report) → Consumes known last_known seen → IsAtEnd last_known
    → ReadsBlock window seen [] start begun old
    → CountsLines window (lines_after begun []) old new → ReadsLog window known start new
log_read window known last_known seen begun start old new consumed ended reads last = record {
  bytes = seen;
  given = all_consumed known last_known seen consumed ended;
  counted = subst (λ (bytes : List ℕ). CountsLines window (lines_after [] bytes) start new)
      (append-nil seen) (reads.extends [] new last);
}
