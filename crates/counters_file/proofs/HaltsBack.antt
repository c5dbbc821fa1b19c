-- The line of a halted app is read as what was written.
use Rattle.std.proofs.Common.{◌≡◌, ◌≢◌, ℕ, ◌+◌, Bool, true, false, List, [], ◌∷◌, ◌++◌}
use Rattle.std.proofs.Common.{refl, sym, ap, ◌∙◌, arith, rules, append_assoc, append-nil}
use Rattle.std.proofs.Common.{Option, Some, None, Result, map, inl, inr}
use Rattle.std.specs.Prelude.{All, ◌&&◌, if◌then◌else◌}
use Rattle.std.specs.Str.{is_utf8}
use Rattle.std.proofs.lemmas.Bool.{true≢false}
use Rattle.std.proofs.lemmas.List.Elements.{All-nil, All-cons, All-append, All-head, All-tail}
use Rattle.std.proofs.lemmas.Str.{is_utf8-from_IsUtf8}
use Rattle.percent_encoding.specs.AsciiSet.{should_percent_encode}
use Rattle.percent_encoding.specs.Percent.{percent_encode}
use Rattle.percent_encoding.proofs.PercentLemmas.{All-percent_encode, IsEscapeByte, round_trip}
use Rattle.counters_file.specs.Halts.{IsText, CanBeHalted, can_be_halted, appid_in, escapes}
use Rattle.counters_file.specs.Halts.{halted_in, halted_line, halted_word}
use Rattle.counters_file.specs.Lines.{is_line_feed}
use Rattle.counters_file.specs.Text.{Contents, contents_from, counters_from, nothing, with_counters}
use Rattle.counters_file.specs.Text.{when_halted}
use Rattle.counters_file.proofs.Numbers.{is_other}
use Rattle.counters_file.proofs.Splits.{IsLine}

-- ---- one line

pub halted_back : (appid : List ℕ) → IsText appid → CanBeHalted appid
    → halted_in (halted_line appid) ≡ Some appid
halted_back appid is can =
    ap appid_in (round_trip escapes appid refl is.small)
    ∙ ap (λ (b : Bool). if b && can_be_halted appid then Some appid else None)
    (is_utf8-from_IsUtf8 appid is.utf8)
    ∙ ap (λ (b : Bool). if b then Some appid else None) can

line_feed_is_escaped : should_percent_encode escapes 10 ≡ true
unfolding should_percent_encode
line_feed_is_escaped = refl

-- no escape is a line feed, and neither is a byte that is kept
kept_is_line : (b : ℕ) → should_percent_encode escapes b ≡ false → is_line_feed b ≡ false
kept_is_line b kept =
    is_other b 10 (λ same.
    true≢false (sym line_feed_is_escaped ∙ ap (should_percent_encode escapes) (sym same) ∙ kept))

escape_is_line : (b : ℕ) → IsEscapeByte b → is_line_feed b ≡ false
escape_is_line b (inl h) = is_other b 10 (λ same. omega (arith, h, same))
escape_is_line b (inr (inl h)) =
    let low = h.0 in
    is_other b 10 (λ same. omega (arith, low, same))
escape_is_line b (inr (inr h)) =
    let low = h.0 in
    is_other b 10 (λ same. omega (arith, low, same))

pub halted_is_line : (appid : List ℕ) → IsLine (halted_line appid)
halted_is_line appid =
    All-append (λ (b : ℕ). is_line_feed b ≡ false) halted_word (percent_encode escapes appid)
    (search rules)
    (All-percent_encode (λ (b : ℕ). is_line_feed b ≡ false) escapes appid kept_is_line
    escape_is_line)

pub halted_are_lines : (halted : List (List ℕ)) → All IsLine (map halted_line halted)
halted_are_lines [] = All-nil IsLine
halted_are_lines (appid ∷ halted) =
    All-cons IsLine (halted_line appid) (map halted_line halted) (halted_is_line appid)
    (halted_are_lines halted)

-- ---- all lines

pub halted_read : (was_stopped : Bool) (tail : List (List ℕ)) (out : Result Contents ℕ)
    (all : List (List ℕ)) → ((number : ℕ) → contents_from was_stopped number tail all ≡ out)
    → (rest done : List (List ℕ)) → All IsText rest → All CanBeHalted rest → all ≡ done ++ rest
    → (number : ℕ)
    → contents_from was_stopped number (map halted_line rest ++ tail) done ≡ out
halted_read was_stopped tail out all next [] done are can is number =
    ap (λ (l : List (List ℕ)). contents_from was_stopped number tail l)
    (sym (is ∙ append-nil done)) ∙ next number
halted_read was_stopped tail out all next (appid ∷ rest) done are can is number =
    let others = map halted_line rest ++ tail in
    ap (λ (o : Option (List ℕ)). when_halted o
    (λ appid. contents_from was_stopped (number + 1) others (done ++ appid ∷ []))
    (with_counters was_stopped done (counters_from number (halted_line appid ∷ others) nothing)))
    (halted_back appid (All-head IsText appid rest are) (All-head CanBeHalted appid rest can))
    ∙ halted_read was_stopped tail out all next rest (done ++ appid ∷ [])
    (All-tail IsText appid rest are) (All-tail CanBeHalted appid rest can)
    (is ∙ sym (append_assoc done (appid ∷ []) rest)) (number + 1)
