-- A text is read in pieces: its open end, and bytes that can't be text, whatever follows.
use Rattle.std.proofs.Common.{Bool, true, false, ◌&&◌}
use Rattle.std.proofs.Common.{◌≡◌, ℕ, ◌+◌, ◌-◌, ◌<◌, ◌≤◌, List, [], ◌∷◌, ◌++◌, length, take, drop}
use Rattle.std.proofs.Common.{refl, sym, ap, ◌∙◌, subst, arith, append_assoc, append-nil}
use Rattle.std.proofs.Common.{length-append, Vec, Option, Some, None, Result, Ok, Err, IfOk, ◌==◌}
use Rattle.std.specs.Prelude.{◌↔◌, IsUtf8, IsTrue}
use Rattle.std.specs.Char.{len_utf8}
use Rattle.std.specs.Str.{IsValidUpTo}
use Rattle.std.proofs.Math.Utf8.{encode, encodes, scalar, scalars}
use Rattle.std.specs.declared.alloc.Global.{Global}
use Rattle.std.proofs.lemmas.List.{length-drop, take-append-le, take-append-drop}
use Rattle.std.proofs.Math.Seq.{take-add, take-length, take-append_seam, drop-append_seam}
use Rattle.std.proofs.lemmas.Str.{IsUtf8-append, IsUtf8-drop}
use Rattle.std.proofs.lemmas.Str.{IsCharBoundary-from_take, length-encode, len_utf8_bounds}
use Rattle.bounded_files.specs.Kept.{IsOpen, LeavesOpen}

left_of : (a b : Bool) → (a && b) ≡ true → a ≡ true
left_of true b e = refl
left_of false b e = absurd cc

and_true : (a : Bool) → a ≡ true → (a && true) ≡ true
and_true true e = refl
and_true false e = absurd cc

-- a text that isn't empty begins with a character of at most four bytes
begins : (bytes chars : List ℕ) → scalars chars ≡ true → encodes chars ≡ bytes
    → 0 < length bytes → (n : ℕ) × (0 < n) × (n ≤ 4) × IsUtf8 (take n bytes)
begins bytes [] fine spelled some =
    let none : 0 ≡ length bytes = ap length spelled in absurd (omega (arith, none, some))
begins bytes (c ∷ chars) fine spelled some =
    let size : length (encode c) ≡ len_utf8 c = length-encode c in
    let bounds = len_utf8_bounds c in
    let first : take (length (encode c)) bytes ≡ encode c =
    ap (take (length (encode c))) (sym spelled) ∙ take-append_seam (encode c) (encodes chars) in (
      length (encode c),
      omega (arith, size, bounds.0),
      omega (arith, size, bounds.1),
      subst IsUtf8 (sym first) (
        c ∷ [],
        (and_true (scalar c) (left_of (scalar c) (scalars chars) fine), append-nil (encode c)),
      ),
    )

-- the rest of a text after UTF-8 is also text
pub behind_utf8 : (front rest : List ℕ) → IsUtf8 front → IsUtf8 (front ++ rest) → IsUtf8 rest
behind_utf8 front rest first all =
    subst IsUtf8 (drop-append_seam front rest)
    (IsUtf8-drop (front ++ rest) (length front) all
    (IsCharBoundary-from_take (front ++ rest) (length front) all
    (omega (arith, length-append front rest))
    (subst IsUtf8 (sym (take-append_seam front rest)) first)))

-- the bytes after the longest prefix that is UTF-8
pub left_open : (bytes : List ℕ) (n : ℕ) → IsValidUpTo bytes n → IsOpen (drop n bytes)
left_open bytes n valid m some within utf8 =
    valid.longest (n + m) (omega (arith, some))
    (subst IsUtf8 (sym (take-add n m bytes)) (IsUtf8-append _ _ valid.front utf8))

pub none_behind : (bytes : List ℕ) (n : ℕ) → IsValidUpTo bytes n → n + 4 ≤ length bytes
    → (rest : List ℕ) → IsUtf8 (bytes ++ rest) → ⊥
none_behind bytes n valid long rest all =
    let behind = drop n bytes in
    let split : bytes ++ rest ≡ take n bytes ++ (behind ++ rest) =
    ap (λ b. b ++ rest) (sym (take-append-drop n bytes))
    ∙ append_assoc (take n bytes) behind rest in
    let text : IsUtf8 (behind ++ rest) =
    behind_utf8 (take n bytes) (behind ++ rest) valid.front (subst IsUtf8 split all) in
    let size : length behind ≡ length bytes - n = length-drop n bytes in
    let whole : length (behind ++ rest) ≡ length behind + length rest = length-append behind rest in
    let some : 0 < length (behind ++ rest) = omega (arith, long, size, whole) in
    let first = begins (behind ++ rest) text.0 text.1.0 text.1.1 some in
    let same : take first.0 (behind ++ rest) ≡ take first.0 behind =
    take-append-le first.0 behind rest (omega (arith, first.2, long, size)) in
    valid.longest (n + first.0) (omega (arith, first.1))
    (subst IsUtf8 (sym (take-add n first.0 bytes))
    (IsUtf8-append (take n bytes) (take first.0 behind) valid.front
    (subst IsUtf8 same first.3)))

-- ---- piece by piece

pub goes_on : (bytes piece : List ℕ) (left : Vec ℕ Global) (now : Option (Vec ℕ Global))
    → LeavesOpen bytes (Some left) → LeavesOpen (left.items ++ piece) now
    → LeavesOpen (bytes ++ piece) now
goes_on bytes piece left (Some open_bytes) was is = (
  was.0 ++ is.0,
  IsUtf8-append was.0 is.0 was.1 is.1,
  ap (λ b. b ++ piece) was.2 ∙ append_assoc was.0 left.items piece
      ∙ ap (λ b. was.0 ++ b) is.2 ∙ sym (append_assoc was.0 is.0 open_bytes.items),
  is.3,
  is.4,
)
goes_on bytes piece left None was is = λ rest utf8.
    is rest
    (behind_utf8 was.0 ((left.items ++ piece) ++ rest) was.1
    (subst IsUtf8
    (ap (λ b. (b ++ piece) ++ rest) was.2
    ∙ ap (λ b. b ++ rest) (append_assoc was.0 left.items piece)
    ∙ append_assoc was.0 (left.items ++ piece) rest) utf8))

pub stays : (bytes piece : List ℕ) → LeavesOpen bytes None → LeavesOpen (bytes ++ piece) None
stays bytes piece was = λ rest utf8.
    was (piece ++ rest) (subst IsUtf8 (append_assoc bytes piece rest) utf8)

-- ---- at the end

pub closed : (bytes : List ℕ) (left : Vec ℕ Global) → LeavesOpen bytes (Some left)
    → left.items ≡ [] → IsUtf8 bytes
closed bytes left was empty =
    subst IsUtf8
    (sym (was.2 ∙ ap (λ b. was.0 ++ b) empty ∙ append-nil was.0)) was.1

pub not_closed : (bytes : List ℕ) (left : Vec ℕ Global) → LeavesOpen bytes (Some left)
    → 0 < length left.items → IsUtf8 bytes → ⊥
not_closed bytes left was some utf8 =
    was.3 (length left.items) some (omega arith)
    (subst IsUtf8 (sym (take-length left.items))
    (behind_utf8 was.0 left.items was.1 (subst IsUtf8 was.2 utf8)))

-- ---- by the open end

pub leaves : (bytes back : List ℕ) (n : ℕ) (left : Vec ℕ Global) → IsValidUpTo bytes n
    → left.items ≡ back → back ≡ drop n bytes → length back ≤ 3 → LeavesOpen bytes (Some left)
leaves bytes back n left valid same back_is few = let is = same ∙ back_is in (
  take n bytes,
  valid.front,
  sym (take-append-drop n bytes) ∙ ap (λ b. take n bytes ++ b) (sym is),
  subst IsOpen (sym is) (left_open bytes n valid),
  omega (arith, few, ap length same),
)

pub leaves_text : (bytes : List ℕ) (left : Vec ℕ Global) → IsUtf8 bytes → left.items ≡ []
    → LeavesOpen bytes (Some left)
leaves_text bytes left utf8 is = (
  bytes,
  utf8,
  sym (ap (λ b. bytes ++ b) is ∙ append-nil bytes),
  λ n some within text. absurd (omega (arith, some, within, ap length is)),
  omega (arith, ap length is),
)

pub leaves_none : (bytes back : List ℕ) (n : ℕ) → IsValidUpTo bytes n → back ≡ drop n bytes
    → 3 < length back → LeavesOpen bytes None
leaves_none bytes back n valid is long =
    none_behind bytes n valid
    (omega (arith, length-drop n bytes, ap length is, long, valid.short))

pub goes_on_by : {E : Type 0} (r : Result (Option (Vec ℕ Global)) E)
    (left : Option (Vec ℕ Global)) (here : Vec ℕ Global) (all piece : List ℕ)
    → left ≡ Some here → all ≡ here.items ++ piece → IfOk r (LeavesOpen all)
    → IfOk r (λ now. (bytes : List ℕ) → LeavesOpen bytes left → LeavesOpen (bytes ++ piece) now)
goes_on_by (Ok now) left here all piece is all_are h = λ bytes was.
    goes_on bytes piece here now
    (subst (λ (l : Option (Vec ℕ Global)). LeavesOpen bytes l) is was)
    (subst (λ (b : List ℕ). LeavesOpen b now) all_are h)
goes_on_by (Err e) left here all piece is all_are h = tt

pub stays_by : (left : Option (Vec ℕ Global)) (bytes piece : List ℕ) → left ≡ None
    → LeavesOpen bytes left → LeavesOpen (bytes ++ piece) None
stays_by left bytes piece is was =
    stays bytes piece (subst (λ (l : Option (Vec ℕ Global)). LeavesOpen bytes l) is was)

-- ---- whether it is text

is_none : (items : List ℕ) → (length items == 0) ≡ true → items ≡ []
is_none [] e = refl
is_none (b ∷ items) e =
    let some : (length (b ∷ items) == 0) ≡ false = grind arith in
    let both : false ≡ true = sym some ∙ e in absurd cc

none_if : (items : List ℕ) → (0 < length items → ⊥) → (length items == 0) ≡ true
none_if [] none = refl
none_if (b ∷ items) none = absurd (none (omega arith))

pub closed_by : (bytes now : List ℕ) (left : Option (Vec ℕ Global)) (here : Vec ℕ Global)
    (empty : Bool) → left ≡ Some here → now ≡ here.items → empty ≡ (length now == 0)
    → LeavesOpen bytes left → IsTrue empty ↔ IsUtf8 bytes
closed_by bytes now left here empty is same test was =
    let open_is : LeavesOpen bytes (Some here) =
    subst (λ (l : Option (Vec ℕ Global)). LeavesOpen bytes l) is was in (
      λ yes. closed bytes here open_is (sym same ∙ is_none now (sym test ∙ yes)),
      λ utf8. test
          ∙ none_if now (λ some. not_closed bytes here open_is (omega (arith, some, ap length same))
          utf8),
    )

pub never_by : (bytes : List ℕ) (left : Option (Vec ℕ Global)) → left ≡ None
    → LeavesOpen bytes left → IsTrue false ↔ IsUtf8 bytes
never_by bytes left is was =
    let none : LeavesOpen bytes None =
    subst (λ (l : Option (Vec ℕ Global)). LeavesOpen bytes l) is was in
    (λ yes. absurd cc, λ utf8. absurd (none [] (subst IsUtf8 (sym (append-nil bytes)) utf8)))
