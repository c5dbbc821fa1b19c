-- One more line: its fault, its label and its instruction.
use Rattle.std.proofs.Common.{◌≡◌, ℕ, ◌+◌, ◌≤◌, List, [], ◌∷◌, ◌++◌, length, map, Option}
use Rattle.std.proofs.Common.{Some, None, is_some, Ok, Err, Bool, true, false, if◌then◌else◌}
use Rattle.std.proofs.Common.{refl, sym, ap, ◌∙◌, subst, append_assoc, length-append, arith}
use Rattle.std.proofs.lemmas.List.{append-nil}
use Rattle.std.proofs.lemmas.Slice.Eq.{bytes_eq-Decides}
use Rattle.std.specs.Bool.{Decides}
use Rattle.std.specs.Str.{bytes_eq}
use Rattle.std.specs.Vec.{vec_items}
use Rattle.bpf_text.specs.declared.text_fault.AsmFaultKind.{AsmFaultKind}
use Rattle.bpf_text.specs.declared.text_fault.AsmFaultKind.TheVariants as kind
use Rattle.bpf_text.specs.declared.scan.Reading as code
use Rattle.bpf_text.specs.Labels.{slot_at, labels_after}
use Rattle.bpf_text.specs.Lines.{Line, Body}
use Rattle.bpf_text.specs.Names.{placed_named}
use Rattle.bpf_text.specs.Reading.{ReadsOn}
use Rattle.bpf_text.specs.Assembly.{slots_of_body, slots_of_word, slots_in, is_label}
use Rattle.bpf_text.specs.Assembly.{label_slot, has_slot, has_label, too_long}
use Rattle.bpf_text.specs.Assembly.{fault_of_body, PlacedStatement, placed, placed_body}

-- ---- one more line at the end

pub slots_more : (ls : List Line) (l : Line)
    → slots_in (ls ++ (l ∷ [])) ≡ slots_in ls + slots_of_body l.body
slots_more [] l = omega arith
slots_more (k ∷ ls) l = let h = slots_more ls l in omega (arith, h)

or_slot : Option ℕ → Option ℕ → Option ℕ
or_slot None y = y
or_slot (Some x) y = Some x

or_none : (x : Option ℕ) → or_slot x None ≡ x
unfolding or_slot
or_none None = refl
or_none (Some x) = refl

or_step : (b : Bool) (s : ℕ) (x y z : Option ℕ) → x ≡ or_slot y z
    → (if b then Some s else x) ≡ or_slot (if b then Some s else y) z
unfolding or_slot
or_step true s x y z e = refl
or_step false s x y z e = e

abbrev slot_if : Bool → ℕ → Option ℕ
slot_if b s = if b then Some s else None

-- the slot of a label among these lines, or on the line after them
label_append : (s : ℕ) (ls : List Line) (l : Line) (q : List ℕ) → label_slot s (ls ++ (l ∷ [])) q
    ≡ or_slot (label_slot s ls q) (slot_if (is_label q l.label) (s + slots_in ls))
unfolding or_slot
label_append s [] l q = let e : s ≡ s + 0 = omega arith in ap (slot_if (is_label q l.label)) e
label_append s (k ∷ ls) l q =
    let n = slots_of_body k.body in
    let e : (s + n) + slots_in ls ≡ s + (n + slots_in ls) = omega arith in
    let h = label_append (s + n) ls l q
    ∙ ap (λ (t : ℕ). or_slot (label_slot (s + n) ls q) (slot_if (is_label q l.label) t)) e in
    or_step (is_label q k.label) s (label_slot (s + n) (ls ++ (l ∷ [])) q) (label_slot (s + n) ls q)
    (slot_if (is_label q l.label) (s + (n + slots_in ls))) h

placed_more : (n s : ℕ) (ls : List Line) (l : Line) → placed n s (ls ++ (l ∷ [])) ≡ placed n s ls
    ++ placed_body (n + length ls) (s + slots_in ls) l.body
placed_more n s [] l =
    let e : n ≡ n + 0 = omega arith in
    let f : s ≡ s + 0 = omega arith in
    append-nil (placed_body n s l.body) ∙ ap (λ (m : ℕ). placed_body m s l.body) e
    ∙ ap (λ (m : ℕ). placed_body (n + 0) m l.body) f
placed_more n s (k ∷ ls) l =
    let w = slots_of_body k.body in
    let e : (n + 1) + length ls ≡ n + length (k ∷ ls) = omega arith in
    let f : (s + w) + slots_in ls ≡ s + (w + slots_in ls) = omega arith in
    ap (λ (ps : List PlacedStatement). placed_body n s k.body ++ ps)
    (placed_more (n + 1) (s + w) ls l
    ∙ ap (λ (m : ℕ). placed (n + 1) (s + w) ls ++ placed_body m ((s + w) + slots_in ls) l.body) e
    ∙ ap (λ (m : ℕ). placed (n + 1) (s + w) ls ++ placed_body (n + length (k ∷ ls)) m l.body) f)
    ∙ sym (append_assoc (placed_body n s k.body) (placed (n + 1) (s + w) ls)
    (placed_body (n + length (k ∷ ls)) (s + (w + slots_in ls)) l.body))

-- ---- a line without a fault

some_is_none : (e : AsmFaultKind) → ◌≡◌ {A = Option AsmFaultKind} (Some e) None → ⊥
some_is_none e h = cc

not_twice : (s : ℕ) (twice : Bool) (body : Body) → fault_of_body s twice body ≡ None → twice ≡ false
not_twice s false body h = refl
not_twice s true (Err kind.Range) h = absurd (some_is_none _ h)
not_twice s true (Err e) h = absurd (some_is_none _ h)
not_twice s true (Ok body) h = absurd (some_is_none _ h)

short_enough : (n : ℕ) → too_long n ≡ None → n ≤ 4096
short_enough n h = grind arith

still_short : (s : ℕ) (twice : Bool) (body : Body) → s ≤ 4096 → fault_of_body s twice body ≡ None
    → s + slots_of_body body ≤ 4096
still_short s twice (Err e) small h = omega arith
still_short s twice (Ok None) small h = omega arith
still_short s false (Ok (Some d)) small h = short_enough (s + slots_of_word d.mnemonic) h
still_short s true (Ok (Some d)) small h = absurd (some_is_none _ h)

same_has_slot : (f g : List ℕ → Option ℕ) → ((q : List ℕ) → f q ≡ g q)
    → (label : Option (List ℕ)) → has_slot f label ≡ has_slot g label
same_has_slot f g h None = refl
same_has_slot f g h (Some name) = ap (λ (o : Option ℕ). is_some o) (h name)

no_slot : (o : Option ℕ) → is_some o ≡ false → o ≡ None
no_slot None h = refl
no_slot (Some n) h = cc

new_label : (f g : List ℕ → Option ℕ) (name : List ℕ) (s t : ℕ) (q : List ℕ) (b : Bool)
    → ((p : List ℕ) → f p ≡ g p) → is_some (f name) ≡ false → s ≡ t → Decides b (name ≡ q)
    → (if b then Some s else f q) ≡ or_slot (g q) (slot_if b t)
unfolding or_slot
new_label f g name s t q false h free e d = h q ∙ sym (or_none (g q))
new_label f g name s t q true h free e d =
    let none : g q ≡ None = ap g (sym (d.0 refl)) ∙ sym (h name) ∙ no_slot (f name) free in
    ap Some e ∙ ap (λ (o : Option ℕ). or_slot o (Some t)) (sym none)

label_after : (f g : List ℕ → Option ℕ) (label : Option (List ℕ)) (s t : ℕ) (q : List ℕ)
    → ((p : List ℕ) → f p ≡ g p) → has_slot f label ≡ false → s ≡ t
    → labels_after f label s q ≡ or_slot (g q) (slot_if (is_label q label) t)
label_after f g None s t q h free e = h q ∙ sym (or_none (g q))
label_after f g (Some name) s t q h free e =
    new_label f g name s t q (bytes_eq name q) h free e (bytes_eq-Decides name q)

pub read_on : (before after : code.Reading) (l : Line) → before.slots ≤ 4096
    → fault_of_body before.slots (has_slot (slot_at before.labels) l.label) l.body ≡ None
    → after.lines ≡ before.lines + 1 → after.slots ≡ before.slots + slots_of_body l.body
    → ((q : List ℕ)
    → slot_at after.labels q ≡ labels_after (slot_at before.labels) l.label before.slots q)
    → map placed_named (vec_items after.placed) ≡ map placed_named (vec_items before.placed)
    ++ placed_body (before.lines + 1) before.slots l.body → ReadsOn before after l
read_on before after l small fine lines slots labels placing ls h =
    let taken = same_has_slot (slot_at before.labels) (label_slot 0 ls) h.labels l.label in
    let free = not_twice before.slots (has_slot (slot_at before.labels) l.label) l.body fine in
    let number : before.lines + 1 ≡ 1 + length ls = omega (arith, h.count) in (
      ap (λ (s : ℕ). fault_of_body s (has_label ls l.label) l.body) (sym h.slots)
          ∙ ap (λ (b : Bool). fault_of_body before.slots b l.body) (sym taken) ∙ fine,
      record {
        count = lines ∙ ap (λ (n : ℕ). n + 1) h.count ∙ sym (length-append ls (l ∷ []));
        slots = slots ∙ ap (λ (n : ℕ). n + slots_of_body l.body) h.slots ∙ sym (slots_more ls l);
        small = subst (λ (n : ℕ). n ≤ 4096) (sym slots)
            (still_short before.slots (has_slot (slot_at before.labels) l.label) l.body small fine);
        labels = λ q. labels q
            ∙ label_after (slot_at before.labels) (label_slot 0 ls) l.label before.slots
            (0 + slots_in ls) q h.labels free (h.slots ∙ omega arith) ∙ sym (label_append 0 ls l q);
        placed_are =
            placing
            ∙ ap (λ (ps : List PlacedStatement). ps ++ placed_body
            (before.lines + 1) before.slots l.body)
            h.placed_are
            ∙ ap (λ (n : ℕ). placed 1 0 ls ++ placed_body n before.slots l.body) number
            ∙ ap (λ (s : ℕ). placed 1 0 ls ++ placed_body (1 + length ls) s l.body)
            (h.slots ∙ omega arith)
            ∙ sym (placed_more 1 0 ls l);
      },
    )
