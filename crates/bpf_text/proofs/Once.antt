-- Bytes have one verdict: two readings of them agree, instruction by instruction.
use Rattle.std.proofs.Common.{◌≡◌, ℕ, ◌+◌, ◌*◌, ◌<◌, ◌≤◌, List, [], ◌∷◌, ◌++◌, length, take, drop}
use Rattle.std.proofs.Common.{Option, Some, None, Result, Ok, Err, refl, sym, ap, ◌∙◌}
use Rattle.std.proofs.Common.{subst, append_assoc, length-append, length-drop, arith}
use Rattle.std.proofs.lemmas.List.{length-take, append-nil, drop-drop, take-append-drop}
use Rattle.std.proofs.Math.Seq.{take-append_seam, drop-append_seam}
use Rattle.std.specs.List.{AllByRecursion}
use Rattle.bpf_insn.specs.declared.insn.Insn.{Insn}
use Rattle.bpf_insn.specs.declared.insn.Width.{Width}
use Rattle.bpf_insn.specs.declared.fields.InsnFault.{InsnFault}
use Rattle.bpf_insn.specs.Spelling.{IsEncodable, IsLeastFault, Spells, encoding, width_of, slots_of}
use Rattle.bpf_insn.specs.Program.{encodings, layout, slots}
use Rattle.bpf_text.specs.declared.text_fault.ListFault.{ListFault}
use Rattle.bpf_text.specs.declared.text_fault.ListFault.TheVariants as list_fault
use Rattle.bpf_text.specs.Listing.{HasOneListing, IsListing, listing_of}
use Rattle.bpf_text.proofs.Reading.{length-slots, length-encoding, length-encodings}
use Rattle.bpf_text.proofs.Successes.{same_some}

-- ---- one slot

pub record DecodesOnce (bytes : List ℕ) (slot : ℕ) : Type 0 where
  pub insn : (i j : Insn) → Spells bytes slot i → Spells bytes slot j → i ≡ j
  pub fault : (e f : InsnFault) → IsLeastFault bytes slot e → IsLeastFault bytes slot f → e ≡ f
  pub either : (i : Insn) (e : InsnFault) → Spells bytes slot i → IsLeastFault bytes slot e → ⊥

same_ok : {A E : Type 0} {x y : A} → ◌≡◌ {A = Result A E} (Ok x) (Ok y) → x ≡ y
same_ok h = cc

same_err : {A E : Type 0} {x y : E} → ◌≡◌ {A = Result A E} (Err x) (Err y) → x ≡ y
same_err h = cc

ok_or_err : {A E : Type 0} {x : A} {y : E} → ◌≡◌ {A = Result A E} (Ok x) (Err y) → ⊥
ok_or_err h = cc

pub decodes_once : (bytes : List ℕ) (slot : ℕ) (r : Result (Insn × Width) InsnFault)
    → ((i : Insn) → Spells bytes slot i → r ≡ Ok (i, width_of i))
    → ((e : InsnFault) → IsLeastFault bytes slot e → r ≡ Err e) → DecodesOnce bytes slot
decodes_once bytes slot r only fault_only = record {
  insn = λ i j p q. ap (λ (d : Insn × Width). d.0) (same_ok (sym (only i p) ∙ only j q));
  fault = λ e f p q. same_err (sym (fault_only e p) ∙ fault_only f q);
  either = λ i e p q. ok_or_err (sym (only i p) ∙ fault_only e q);
}

-- ---- a reading from a slot

record Reads (bytes : List ℕ) (slot : ℕ) (is : List Insn) : Type 0 where
  encodable : AllByRecursion IsEncodable is
  rest : List ℕ
  bytes_are : drop (8 * slot) bytes ≡ encodings is ++ rest

-- it stops at the end of the bytes, or with the fault of its slot
Stops : List ℕ → ℕ → Option InsnFault → Type 0
Stops bytes slot None = length bytes ≤ 8 * slot
Stops bytes slot (Some e) = (8 * slot < length bytes) × IsLeastFault bytes slot e

abbrev slots_in : Insn → ℕ
slots_in i = slots_of (width_of i)

part : (bytes : List ℕ) (slot : ℕ) (i : Insn) (is : List Insn) (h : Reads bytes slot (i ∷ is))
    → drop (8 * slot) bytes ≡ encoding i ++ (encodings is ++ h.rest)
part bytes slot i is h = h.bytes_are ∙ append_assoc (encoding i) (encodings is) h.rest

first_spells : (bytes : List ℕ) (slot : ℕ) (i : Insn) (is : List Insn) → Reads bytes slot (i ∷ is)
    → Spells bytes slot i
first_spells bytes slot i is h = record {
  fits = h.encodable.0;
  bytes_are =
      ap (λ (n : ℕ). take n (drop (8 * slot) bytes)) (sym (length-encoding i))
      ∙ ap (take (length (encoding i))) (part bytes slot i is h)
      ∙ take-append_seam (encoding i) (encodings is ++ h.rest);
}

others : (bytes : List ℕ) (slot : ℕ) (i : Insn) (is : List Insn) → Reads bytes slot (i ∷ is)
    → Reads bytes (slot + slots_in i) is
others bytes slot i is h =
    let e : 8 * (slot + slots_in i) ≡ 8 * slot + length (encoding i) =
    omega (arith, length-encoding i) in
    record {
      encodable = h.encodable.1;
      rest = h.rest;
      bytes_are =
          ap (λ (n : ℕ). drop n bytes) e ∙ sym (drop-drop (length (encoding i)) (8 * slot) bytes)
          ∙ ap (drop (length (encoding i))) (part bytes slot i is h)
          ∙ drop-append_seam (encoding i) (encodings is ++ h.rest);
    }

-- an instruction is within the bytes
some_slots : (i : Insn) → 1 ≤ slots_in i
some_slots i = widths (width_of i)
  where
    widths : (w : Width) → 1 ≤ slots_of w
    widths Width.One = omega arith
    widths w = omega arith

inside : (bytes : List ℕ) (slot : ℕ) (i : Insn) → Spells bytes slot i → 8 * slot < length bytes
inside bytes slot i p =
    let n = 8 * slots_in i in
    let len : length (take n (drop (8 * slot) bytes)) ≡ n =
    ap length p.bytes_are ∙ length-encoding i in
    omega (
      arith,
      len,
      some_slots i,
      length-take n (drop (8 * slot) bytes),
      length-drop (8 * slot) bytes,
    )

module _ (bytes : List ℕ) (once : (k : ℕ) → 8 * k < length bytes → DecodesOnce bytes k) where
  not_stopped : (slot : ℕ) (i : Insn) (o : Option InsnFault)
      → Spells bytes slot i → Stops bytes slot o → ⊥
  unfolding Stops
  not_stopped slot i None p h = let e = inside bytes slot i p in omega (arith, e, h)
  not_stopped slot i (Some e) p h = (once slot h.0).either i e p h.1

  same_stop : (slot : ℕ) (o p : Option InsnFault) → Stops bytes slot o → Stops bytes slot p → o ≡ p
  unfolding Stops
  same_stop slot None None h k = refl
  same_stop slot None (Some e) h k = let l = k.0 in absurd (omega (arith, h, l))
  same_stop slot (Some e) None h k = let l = h.0 in absurd (omega (arith, k, l))
  same_stop slot (Some e) (Some f) h k = ap Some ((once slot h.0).fault e f h.1 k.1)

  abbrev After : ℕ → List Insn → Option InsnFault → Type 0
  After slot is o = Reads bytes slot is × Stops bytes (slot + length (layout is)) o

  stop_more : (slot : ℕ) (i : Insn) (is : List Insn) (o : Option InsnFault)
      → Stops bytes (slot + length (layout (i ∷ is))) o
      → Stops bytes ((slot + slots_in i) + length (layout is)) o
  stop_more slot i is o h =
      let e : slot + length (layout (i ∷ is)) ≡ (slot + slots_in i) + length (layout is) =
      omega (arith, length-append (slots i) (layout is), length-slots i) in
      subst (λ (n : ℕ). Stops bytes n o) e h

  stop_here : (slot : ℕ) (o : Option InsnFault) → Stops bytes (slot + 0) o → Stops bytes slot o
  stop_here slot o h =
      let e : slot + 0 ≡ slot = omega arith in subst (λ (n : ℕ). Stops bytes n o) e h

  same_reading : (slot : ℕ) (is js : List Insn) (o p : Option InsnFault)
      → After slot is o → After slot js p → (is ≡ js) × (o ≡ p)
  same_reading slot [] [] o p h k =
      (refl, same_stop slot o p (stop_here slot o h.1) (stop_here slot p k.1))
  same_reading slot [] (j ∷ js) o p h k =
      absurd (not_stopped slot j o (first_spells bytes slot j js k.0) (stop_here slot o h.1))
  same_reading slot (i ∷ is) [] o p h k =
      absurd (not_stopped slot i p (first_spells bytes slot i is h.0) (stop_here slot p k.1))
  same_reading slot (i ∷ is) (j ∷ js) o p h k =
      let a = first_spells bytes slot i is h.0 in
      let b = first_spells bytes slot j js k.0 in
      let e : i ≡ j = (once slot (inside bytes slot i a)).insn i j a b in
      let to : After (slot + slots_in i) js p = subst (λ (l : Insn). After (slot + slots_in l) js p)
      (sym e) (others bytes slot j js k.0, stop_more slot j js p k.1) in
      let more = same_reading (slot + slots_in i) is js o p
      (others bytes slot i is h.0, stop_more slot i is o h.1) to in
      (ap (λ (l : Insn). l ∷ is) e ∙ ap (λ (ls : List Insn). j ∷ ls) more.0, more.1)

-- ---- both verdicts as readings from slot 0

-- what is read, and where the reading stops
abbrev reading_of : Result (List ℕ) ListFault → List Insn → Option InsnFault → Type 0
reading_of (Ok text) is o = (o ≡ None) × (text ≡ listing_of is)
reading_of (Err (list_fault.Insn slot e)) is o = (o ≡ Some e) × (slot ≡ length (layout is))
reading_of (Err list_fault.Memory) is o = ⊥

record IsReadAs (bytes : List ℕ) (a : Result (List ℕ) ListFault) : Type 0 where
  insns : List Insn
  stop : Option InsnFault
  reads : Reads bytes 0 insns
  stops : Stops bytes (0 + length (layout insns)) stop
  verdict : reading_of a insns stop

read_as : (bytes : List ℕ) (a : Result (List ℕ) ListFault) → IsListing bytes a → IsReadAs bytes a
unfolding Stops
read_as bytes (Ok text) h = record {
  insns = h.0;
  stop = None;
  reads = record { encodable = h.1; rest = []; bytes_are = h.2 ∙ sym (append-nil (encodings h.0)) };
  stops = let e = ap length h.2 ∙ length-encodings h.0 in omega (arith, e);
  verdict = (refl, h.3);
}
read_as bytes (Err (list_fault.Insn slot e)) h =
    let at : slot ≡ 0 + length (layout h.0) = h.2 ∙ omega arith in
    record {
      insns = h.0;
      stop = Some e;
      reads = record {
        encodable = h.1;
        rest = drop (8 * slot) bytes;
        bytes_are = sym (take-append-drop (8 * slot) bytes)
            ∙ ap (λ (bs : List ℕ). bs ++ drop (8 * slot) bytes) h.3;
      };
      stops =
          let P : ℕ → Type 0 = λ s. (8 * s < length bytes) × IsLeastFault bytes s e in
          subst P at (h.4, h.5);
      verdict = (refl, h.2);
    }
read_as bytes (Err list_fault.Memory) h = absurd h

some_or_none : {A : Type 0} {x : A} → ◌≡◌ {A = Option A} (Some x) None → ⊥
some_or_none h = cc

same_verdict : (is : List Insn) (o : Option InsnFault) (a b : Result (List ℕ) ListFault)
    → reading_of a is o → reading_of b is o → a ≡ b
same_verdict is o (Ok t) (Ok u) h k = ap Ok (h.1 ∙ sym k.1)
same_verdict is o (Ok t) (Err (list_fault.Insn s e)) h k = absurd (some_or_none (sym k.0 ∙ h.0))
same_verdict is o (Err (list_fault.Insn s e)) (Ok t) h k = absurd (some_or_none (sym h.0 ∙ k.0))
same_verdict is o (Err (list_fault.Insn s e)) (Err (list_fault.Insn t f)) h k =
    ap (λ (n : ℕ). Err (list_fault.Insn n e)) (h.1 ∙ sym k.1)
    ∙ ap (λ (g : InsnFault). Err (list_fault.Insn t g)) (same_some (sym h.0 ∙ k.0))
same_verdict is o (Err list_fault.Memory) b h k = absurd h
same_verdict is o a (Err list_fault.Memory) h k = absurd k

pub one_listing : (bytes : List ℕ) → ((k : ℕ) → 8 * k < length bytes → DecodesOnce bytes k)
    → HasOneListing bytes
one_listing bytes once a b h k =
    let r = read_as bytes a h in
    let s = read_as bytes b k in
    let same =
    same_reading bytes once 0 r.insns s.insns r.stop s.stop (r.reads, r.stops) (s.reads, s.stops) in
    let P : List Insn → Type 0 = λ is. reading_of a is s.stop in
    let Q : Option InsnFault → Type 0 = λ o. reading_of a r.insns o in
    same_verdict s.insns s.stop a b (subst P same.0 (subst Q same.1 r.verdict)) s.verdict
