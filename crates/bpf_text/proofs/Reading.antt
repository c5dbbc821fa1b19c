-- Reading bytes slot by slot: what has been listed so far, and one more instruction.
use Rattle.std.proofs.Common.{◌≡◌, ℕ, ◌+◌, ◌*◌, ◌<◌, ◌≤◌, List, [], ◌∷◌, ◌++◌}
use Rattle.std.proofs.Common.{length, take, drop, refl, sym, ap, ◌∙◌, subst}
use Rattle.std.proofs.Common.{append_assoc, length-append, length-drop, arith}
use Rattle.std.proofs.lemmas.List.{length-take, append-nil}
use Rattle.std.proofs.Math.Seq.{take-add, take-length}
use Rattle.std.specs.List.{AllByRecursion}
use Rattle.bpf_insn.specs.declared.insn.Insn.{Insn}
use Rattle.bpf_insn.specs.declared.insn.Insn.TheVariants.{Wide}
use Rattle.bpf_insn.specs.Spelling.{IsEncodable, Spells, encoding, width_of, slots_of}
use Rattle.bpf_insn.specs.Program.{encodings, layout, slots}
use Rattle.bpf_text.specs.Listing.{Lists, IsNextLine, listing_of, line_of}

-- ---- one more instruction at the end

pub all_more : (P : Insn → Type 0) (is : List Insn) (i : Insn) → AllByRecursion P is → P i
    → AllByRecursion P (is ++ (i ∷ []))
all_more P [] i all h = (h, tt)
all_more P (j ∷ is) i all h = (all.0, all_more P is i all.1 h)

pub encodings_more : (is : List Insn) (i : Insn)
    → encodings (is ++ (i ∷ [])) ≡ encodings is ++ encoding i
encodings_more [] i = append-nil (encoding i)
encodings_more (j ∷ is) i = ap (λ (bs : List ℕ). encoding j ++ bs) (encodings_more is i)
    ∙ sym (append_assoc (encoding j) (encodings is) (encoding i))

pub listing_more : (is : List Insn) (i : Insn)
    → listing_of (is ++ (i ∷ [])) ≡ listing_of is ++ line_of i
listing_more [] i = append-nil (line_of i)
listing_more (j ∷ is) i = ap (λ (bs : List ℕ). line_of j ++ bs) (listing_more is i)
    ∙ sym (append_assoc (line_of j) (listing_of is) (line_of i))

pub length-slots : (i : Insn) → length (slots i) ≡ slots_of (width_of i)
length-slots (Wide dst value) = refl
length-slots i = refl

pub length-layout_more : (is : List Insn) (i : Insn)
    → length (layout (is ++ (i ∷ []))) ≡ length (layout is) + slots_of (width_of i)
length-layout_more [] i = ap length (append-nil (slots i)) ∙ length-slots i ∙ omega arith
length-layout_more (j ∷ is) i =
    length-append (slots j) (layout (is ++ (i ∷ [])))
    ∙ ap (λ (n : ℕ). length (slots j) + n) (length-layout_more is i)
    ∙ omega (arith, length-append (slots j) (layout is))

pub length-encoding : (i : Insn) → length (encoding i) ≡ 8 * slots_of (width_of i)
length-encoding (Wide dst value) = refl
length-encoding i = refl

pub length-encodings : (is : List Insn) → length (encodings is) ≡ 8 * length (layout is)
length-encodings [] = refl
length-encodings (i ∷ is) =
    let a = length-append (encoding i) (encodings is) in
    let b = length-append (slots i) (layout is) in
    let c = length-encoding i in
    let d = length-slots i in
    let e = length-encodings is in
    omega (arith, a, b, c, d, e)

-- ---- what has been listed

pub record HasListed (bytes : List ℕ) (slot : ℕ) (text : List ℕ) : Type 0 where
  pub is : List Insn
  pub encodable : AllByRecursion IsEncodable is
  pub slot_is : slot ≡ length (layout is)
  pub bytes_are : take (8 * slot) bytes ≡ encodings is
  pub within : 8 * slot ≤ length bytes
  pub text_is : text ≡ listing_of is

spelled_within : (bytes : List ℕ) (slot : ℕ) (i : Insn) → 8 * slot < length bytes
    → Spells bytes slot i → 8 * (slot + slots_of (width_of i)) ≤ length bytes
spelled_within bytes slot i inside p =
    let n = 8 * slots_of (width_of i) in
    let len : length (take n (drop (8 * slot) bytes)) ≡ n =
    ap length p.bytes_are ∙ length-encoding i in
    omega (arith, length-take n (drop (8 * slot) bytes), length-drop (8 * slot) bytes)

pub listed_more : (bytes : List ℕ) (slot : ℕ) (text : List ℕ) (i : Insn)
    → HasListed bytes slot text → 8 * slot < length bytes → Spells bytes slot i
    → HasListed bytes (slot + slots_of (width_of i)) (text ++ line_of i)
listed_more bytes slot text i h inside p = record {
  is = h.is ++ (i ∷ []);
  encodable = all_more IsEncodable h.is i h.encodable p.fits;
  slot_is = ap (λ (n : ℕ). n + slots_of (width_of i)) h.slot_is ∙ sym (length-layout_more h.is i);
  bytes_are =
      let n = 8 * slots_of (width_of i) in
      let e : 8 * (slot + slots_of (width_of i)) ≡ 8 * slot + n = omega arith in
      ap (λ (m : ℕ). take m bytes) e ∙ take-add (8 * slot) n bytes
      ∙ ap (λ (bs : List ℕ). bs ++ take n (drop (8 * slot) bytes)) h.bytes_are
      ∙ ap (λ (bs : List ℕ). encodings h.is ++ bs) p.bytes_are ∙ sym (encodings_more h.is i);
  within = spelled_within bytes slot i inside p;
  text_is = ap (λ (bs : List ℕ). bs ++ line_of i) h.text_is ∙ sym (listing_more h.is i);
}

pub listed_whole : (bytes : List ℕ) (slot : ℕ) (text : List ℕ)
    → HasListed bytes slot text → length bytes ≤ 8 * slot → Lists bytes text
listed_whole bytes slot text h past =
    let e : 8 * slot ≡ length bytes = let w : 8 * slot ≤ length bytes = h.within in omega arith in (
      h.is,
      h.encodable,
      sym (take-length bytes) ∙ ap (λ (m : ℕ). take m bytes) (sym e) ∙ h.bytes_are,
      h.text_is,
    )

pub listed_next : (bytes : List ℕ) (slot : ℕ) (before after : List ℕ) (next : ℕ)
    → HasListed bytes slot before → 8 * slot < length bytes
    → IsNextLine bytes slot before after next
    → HasListed bytes next after
listed_next bytes slot before after next h inside step =
    let more = listed_more bytes slot before step.0 h inside step.1 in
    let P : ℕ → Type 0 = λ n. HasListed bytes n after in
    let Q : List ℕ → Type 0 = λ t. HasListed bytes (slot + slots_of (width_of step.0)) t in
    subst P (sym step.2) (subst Q (sym step.3) more)
