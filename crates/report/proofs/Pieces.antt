-- Pieces of lines.
use Rattle.std.proofs.Common.{◌≡◌, ◌≢◌, ◌∙◌, refl, sym, ap, subst, ℕ, suc, ◌+◌, ◌-◌, ◌<◌, ◌≤◌}
use Rattle.std.proofs.Common.{List, [], ◌∷◌, ◌++◌, append_assoc, append-nil, length, take, drop}
use Rattle.std.proofs.Common.{Bool, true, nat_lt, if◌then◌else◌, arith, get_or}
use Rattle.std.proofs.Math.Seq.{take-length}
use Rattle.std.proofs.lemmas.List.{get_or-take, length-append, length-drop, length-take-le}
use Rattle.std.proofs.lemmas.List.{take-append-drop, take_more}
use Rattle.memchr.specs.Find.{NoneBefore, Nowhere, Passes, is_byte}
use Rattle.std.specs.Prelude.{slice_index}
use Rattle.report.specs.Lines.{grown, grown_by, lines_after}
use Rattle.report.specs.Reading.{CountsLines, ReadsBlock}
use Rattle.report.specs.declared.counting.Report.{Report}
use Rattle.report.specs.declared.window.Window.{Window}
use Rattle.report.proofs.Read.{line_goes_on, reads_both, reads_none}

-- ---- appending

grown_short : (line : List ℕ) (b : ℕ) → length line < 65537 → grown line b ≡ line ++ b ∷ []
grown_short line b short = by (nat_lt (length line) 65537) (is_less (length line) short)
  where
    is_less : (n : ℕ) → n < 65537 → nat_lt n 65537 ≡ true
    is_less n less = grind (arith, less)

    by : (is : Bool) → is ≡ true → (if is then line ++ b ∷ [] else line) ≡ line ++ b ∷ []
    by is holds = rw holds refl

pub appended_few : (line bytes : List ℕ) → length line + length bytes ≤ 65537
    → line ++ bytes ≡ grown_by line bytes
appended_few line [] few = append-nil line
appended_few line (b ∷ bytes) few =
    let longer : length (line ++ b ∷ []) ≡ length line + 1 = length-append line (b ∷ []) in
    sym (append_assoc line (b ∷ []) bytes)
    ∙ appended_few (line ++ b ∷ []) bytes (omega (arith, few, longer))
    ∙ ap (λ (l : List ℕ). grown_by l bytes) (sym (grown_short line b (omega (arith, few))))

-- ---- bytes without a line feed

abbrev pub NoFeed : List ℕ → Type 0
NoFeed bytes = (k : ℕ) → k < length bytes → slice_index bytes k ≢ 10

pub piece_goes_on : (window : Window) (begun bytes : List ℕ) (r : Report) → NoFeed bytes
    → ReadsBlock window bytes begun r (grown_by begun bytes) r
piece_goes_on window begun [] r none = reads_none window begun r
piece_goes_on window begun (b ∷ bytes) r none =
    reads_both window (b ∷ []) bytes begun (grown begun b) (grown_by (grown begun b) bytes) r r r
    (line_goes_on window begun (grown begun b) b r (none 0 (omega arith)) refl)
    (piece_goes_on window (grown begun b) bytes r
    (λ k within. none (suc k) (omega (arith, within))))

-- what is left of a block is read piece by piece
module _ (window : Window) (first block : List ℕ) (start : Report) (begun : List ℕ) (old : Report)
    (left : List ℕ) (so_far : (bytes : List ℕ) (last : Report)
    → CountsLines window (lines_after begun (left ++ bytes)) old last
    → CountsLines window (lines_after first (block ++ bytes)) start last) where
  pub piece_read : (n all : ℕ) (next : List ℕ) (new : Report) → all ≡ length left
      → ReadsBlock window (take n left) begun old next new → (bytes : List ℕ) (last : Report)
      → CountsLines window (lines_after next (take (all - n) (drop n left) ++ bytes)) new last
      → CountsLines window (lines_after first (block ++ bytes)) start last
  piece_read n all next new all_is reads bytes last counted =
      let rest_is : take (all - n) (drop n left) ≡ drop n left =
      ap (λ (k : ℕ). take k (drop n left)) (ap (λ (k : ℕ). k - n) all_is
      ∙ sym (length-drop n left)) ∙ take-length (drop n left) in
      so_far bytes last
      (subst (λ (l : List ℕ). CountsLines window (lines_after begun l) old last)
      (sym (append_assoc (take n left) (drop n left) bytes)
      ∙ ap (λ (l : List ℕ). l ++ bytes) (take-append-drop n left))
      (reads.extends (drop n left ++ bytes) last
      (subst (λ (l : List ℕ). CountsLines window (lines_after next (l ++ bytes)) new last) rest_is
      counted)))

-- ---- up to a line feed

is_feed : (b : ℕ) → b ≡ 10 → is_byte 10 b ≡ true
is_feed b same = rw same refl

feed_is : (b : ℕ) → is_byte 10 b ≡ true → b ≡ 10
feed_is b holds = grind arith

none_before : (bytes : List ℕ) (at : ℕ) → Nowhere (Passes (is_byte 10) bytes) 0 at
    → at ≤ length bytes → NoFeed (take at bytes)
none_before bytes at none within k before same =
    let less : k < at = omega (arith, before, length-take-le at bytes within) in
    none k (omega arith) less
    (is_feed (get_or bytes k 0) (sym (get_or-take at bytes k 0 less) ∙ same))

pub piece_ends : (window : Window) (begun begun_then last bytes : List ℕ) (old new : Report)
    (at : ℕ)
    → NoneBefore (Passes (is_byte 10) bytes) 0 (length bytes) at × Passes (is_byte 10) bytes at
    → begun_then ≡ grown_by begun (take at bytes)
    → ReadsBlock window (10 ∷ []) begun_then old last new
    → ReadsBlock window (take (at + 1) bytes) begun old last new
piece_ends window begun begun_then last bytes old new at found grows ends =
    subst (λ (all : List ℕ). ReadsBlock window all begun old last new)
    (sym (take_more bytes at 0 found.0.high ∙ ap (λ (b : ℕ). take at bytes ++ b ∷ [])
    (feed_is (get_or bytes at 0) found.1)))
    (reads_both window (take at bytes) (10 ∷ []) begun begun_then last old old new
    (subst (λ (line : List ℕ). ReadsBlock window (take at bytes) begun old line old) (sym grows)
    (piece_goes_on window begun (take at bytes) old
    (none_before bytes at found.0.before (omega (arith, found.0.high))))) ends)

pub all_goes_on : (window : Window) (begun begun_then bytes : List ℕ) (r : Report)
    → Nowhere (Passes (is_byte 10) bytes) 0 (length bytes) → begun_then ≡ grown_by begun bytes
    → ReadsBlock window (take (length bytes) bytes) begun r begun_then r
all_goes_on window begun begun_then bytes r none grows =
    subst (λ (all : List ℕ). ReadsBlock window all begun r begun_then r) (sym (take-length bytes))
    (subst (λ (line : List ℕ). ReadsBlock window bytes begun r line r) (sym grows)
    (piece_goes_on window begun bytes r
    (λ k within same. none k (omega arith) within (is_feed (get_or bytes k 0) same))))
