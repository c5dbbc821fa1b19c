-- Code in front of typed code is typed, and every label stays: first for tests.
use Rattle.std.proofs.Common.{◌≡◌, ℕ, suc, ◌+◌, ◌-◌, ◌*◌, ◌<◌, ◌≤◌, ◌^◌, List, [], ◌∷◌, length}
use Rattle.std.proofs.Common.{Option, Some, None, Bool, true, false, refl, subst, arith}
use Rattle.std.specs.Prelude.{if◌then◌else◌, IfSome}
use Rattle.bpf_insn.specs.declared.insn.Insn.{Insn}
use Rattle.bpf_insn.specs.declared.operand.Condition.{Condition}
use Rattle.bpf_insn.specs.declared.operand.Condition.TheVariants as jump
use Rattle.bpf_insn.specs.declared.operand.LoadKind.{LoadKind}
use Rattle.bpf_insn.specs.declared.operand.LoadKind.TheVariants as load
use Rattle.bpf_insn.specs.declared.reg.Reg.TheVariants.{R0, R1, R2}
use Rattle.bpf_insn.specs.Program.{Program}
use Rattle.bpf_semantics.specs.Reads.{load_count}
use Rattle.cells.specs.Arrays.{AppShape}
use Rattle.abs_value.specs.declared.value.Abs.{Abs}
use Rattle.abs_value.specs.declared.value.Abs.TheVariants.{Unusable, Num}
use Rattle.bpf_verify.specs.Table.{SlotFacts}
use Rattle.rule_compile.specs.Instructions as insn
use Rattle.rule_compile.specs.Blocks as code
use Rattle.rule_compile.proofs.Typed.{IsStep, IsTyped, nothing}
use Rattle.rule_compile.proofs.Entries.{any, none_set, frame, choice, chosen, forgets, Takes}
use Rattle.rule_compile.proofs.InsnSteps.{wide_step, bucket_step}
use Rattle.rule_compile.proofs.FieldSteps.{load_step, mask_step, remainder_step}
use Rattle.rule_compile.proofs.JumpSteps.{jump_step}

-- the first instruction is covered by its entry
pub takes_here : (i : Insn) (q : Program) (d : SlotFacts) (ds : List SlotFacts)
    → Takes (Some i ∷ q) (d ∷ ds) 0 d
takes_here i q d ds = record { place = refl; known = λ f h. h }

pub takes_behind : (i : Insn) (q : Program) (c d : SlotFacts) (ds : List SlotFacts)
    → Takes (None ∷ Some i ∷ q) (c ∷ d ∷ ds) 1 d
takes_behind i q c d ds = record { place = refl; known = λ f h. h }

module _ (shape : AppShape) where
  -- a place at which a piece may begin also covers more knowledge
  pub takes_more : (a b c d e : Abs) (set : ℕ → Bool) (q : Program) (ds : List SlotFacts) (k : ℕ)
      → Takes q ds k (chosen shape) → Takes q ds k (frame a b c d e (choice shape) set)
  takes_more a b c d e set q ds k h =
      record {
        place = h.place;
        known = λ f knows. h.known f (forgets a b c d e (choice shape) set f knows);
      }

  -- ---- labels

  -- a place of the rest, by its distance from the end, at which a piece may begin
  pub record IsLabel (q : Program) (ds : List SlotFacts) (l : ℕ) : Type 0 where
    pub within : l ≤ length q
    pub takes : Takes q ds (length q - l) (chosen shape)

  pub label_more : (x : Option Insn) (q : Program) (d : SlotFacts) (ds : List SlotFacts) (l : ℕ)
      → IsLabel q ds l → IsLabel (x ∷ q) (d ∷ ds) l
  label_more x q d ds l h =
      let within : l ≤ length q = h.within in
      let e : suc (length q - l) ≡ suc (length q) - l = omega (arith, within) in
      record {
        within = omega (arith, within);
        takes = subst (λ (n : ℕ). Takes (x ∷ q) (d ∷ ds) n (chosen shape)) e
            (record { place = h.takes.place; known = h.takes.known });
      }

  -- typed code that may follow a piece
  pub record IsRest (q : Program) (ds : List SlotFacts) : Type 0 where
    pub typed : IsTyped shape q ds
    pub first : Takes q ds 0 (chosen shape)

  pub first_label : (q : Program) (ds : List SlotFacts) → IsRest q ds → IsLabel q ds (length q)
  first_label q ds h = let e : 0 ≡ length q - length q = omega arith in
      record {
        within = omega arith;
        takes = subst (λ (n : ℕ). Takes q ds n (chosen shape)) e h.first;
      }

  -- ---- code in front of code: it is typed, and all labels of the rest stay

  pub record IsTail (q' q : Program) (ds : List SlotFacts) : Type 0 where
    pub entries : List SlotFacts
    pub typed : IsTyped shape q' entries
    pub keeps : (l : ℕ) → IsLabel q ds l → IsLabel q' entries l

  -- also, a piece may begin there
  pub record IsFront (q' q : Program) (ds : List SlotFacts) : Type 0 where
    pub entries : List SlotFacts
    pub rest : IsRest q' entries
    pub keeps : (l : ℕ) → IsLabel q ds l → IsLabel q' entries l

  abbrev pub tail_itself : (q : Program) (ds : List SlotFacts) → IsRest q ds → IsTail q q ds
  tail_itself q ds h = record { entries = ds; typed = h.typed; keeps = λ l x. x }

  abbrev pub tail_of : (q' q : Program) (ds : List SlotFacts) → IsFront q' q ds → IsTail q' q ds
  tail_of q' q ds h = record { entries = h.entries; typed = h.rest.typed; keeps = h.keeps }

  abbrev pub put : (i : Insn) (d : SlotFacts) (q' q : Program) (ds : List SlotFacts)
      (t : IsTail q' q ds)
      → IsStep shape d i q' t.entries → IsTail (Some i ∷ q') q ds
  put i d q' q ds t step = record {
    entries = d ∷ t.entries;
    typed = (step, t.typed);
    keeps = λ l x. label_more (Some i) q' d t.entries l (t.keeps l x);
  }

  abbrev pub put_half : (q' q : Program) (ds : List SlotFacts) → IsTail q' q ds
      → IsTail (None ∷ q') q ds
  put_half q' q ds t = record {
    entries = nothing ∷ t.entries;
    typed = t.typed;
    keeps = λ l x. label_more None q' nothing t.entries l (t.keeps l x);
  }

  pub front_of : (q' q : Program) (ds : List SlotFacts) (t : IsTail q' q ds)
      → Takes q' t.entries 0 (chosen shape) → IsFront q' q ds
  front_of q' q ds t takes = record
      { entries = t.entries; rest = record { typed = t.typed; first = takes }; keeps = t.keeps }

  -- the first instruction of a piece
  pub put_first : (i : Insn) (q' q : Program) (ds : List SlotFacts) (t : IsTail q' q ds)
      → IsStep shape (chosen shape) i q' t.entries → IsFront (Some i ∷ q') q ds
  put_first i q' q ds t step = front_of (Some i ∷ q') q ds (put i (chosen shape) q' q ds t step)
      (takes_here i q' (chosen shape) t.entries)

  pub front_itself : (q : Program) (ds : List SlotFacts) → IsRest q ds → IsFront q q ds
  front_itself q ds h = record { entries = ds; rest = h; keeps = λ l x. x }

  pub front_then : (q'' q' q : Program) (ds : List SlotFacts) (h : IsFront q' q ds)
      → IsFront q'' q' h.entries → IsFront q'' q ds
  front_then q'' q' q ds h g = record
      { entries = g.entries; rest = g.rest; keeps = λ l x. g.keeps l (h.keeps l x) }

  pub label_if : (b : Bool) (q : Program) (ds : List SlotFacts) (k l : ℕ) → IsLabel q ds k
      → IsLabel q ds l → IsLabel q ds (if b then k else l)
  label_if true q ds k l x y = x
  label_if false q ds k l x y = y

  -- ---- a field of the context

  -- R2 has a number, or R0
  abbrev pub tested : SlotFacts
  tested = frame Unusable Unusable (Num any) Unusable Unusable (choice shape) none_set

  abbrev pub asked : (ℕ → Bool) → SlotFacts
  asked set = frame (Num any) Unusable Unusable Unusable Unusable (choice shape) set

  pub tested_takes : (q : Program) (ds : List SlotFacts) (k : ℕ) → Takes q ds k (chosen shape)
      → Takes q ds k tested
  tested_takes q ds k h = takes_more Unusable Unusable (Num any) Unusable Unusable none_set q ds k h

  abbrev jump_tail : (condition : Condition) (n l : ℕ) (q : Program) (ds : List SlotFacts)
      → IsRest q ds
      → IsLabel q ds l → IsTail (code.jump_to (insn.jump_if condition R2 n) l q) q ds
  jump_tail condition n l q ds h label =
      put (insn.jump_if condition R2 n (length q - l)) tested q q ds (tail_itself q ds h)
      (jump_step shape condition R2 n (length q - l) tested q ds refl (tested_takes q ds 0 h.first)
      (tested_takes q ds (length q - l) label.takes))

  pub field_front : (kind : LoadKind) (offset : ℕ) (condition : Condition) (n l : ℕ) (q : Program)
      (ds : List SlotFacts) → offset + load_count kind ≤ 64 → IsRest q ds → IsLabel q ds l
      → IsFront (code.field_code kind offset condition n l q) q ds
  field_front kind offset condition n l q ds within h label =
      let away : Insn = insn.jump_if condition R2 n (length q - l) in
      put_first (insn.load_field kind offset) (Some away ∷ q) q ds
      (jump_tail condition n l q ds h label)
      (load_step shape kind offset (chosen shape) (Some away ∷ q) (tested ∷ ds) refl within
      (takes_here away q tested ds))

  pub flag_front : (mask : ℕ) (sense : Bool) (l : ℕ) (q : Program) (ds : List SlotFacts)
      → IsRest q ds
      → IsLabel q ds l → IsFront (code.flag_code mask sense l q) q ds
  flag_front mask true l q ds h label =
      field_front load.Byte 18 jump.Set mask l q ds (omega arith) h label
  flag_front mask false l q ds h label =
      let away : Insn = insn.jump_if jump.Eq R2 0 (length q - l) in
      let last : Program = Some away ∷ q in
      let masked : IsTail (Some (insn.mask_field mask) ∷ last) q ds =
      put (insn.mask_field mask) tested last q ds (jump_tail jump.Eq 0 l q ds h label)
      (mask_step shape mask tested last (tested ∷ ds) refl (takes_here away q tested ds)) in
      put_first (insn.load_field load.Byte 18) (Some (insn.mask_field mask) ∷ last) q ds masked
      (load_step shape load.Byte 18 (chosen shape)
      (Some (insn.mask_field mask) ∷ last) masked.entries refl (omega arith)
      (takes_here (insn.mask_field mask) last tested (tested ∷ ds)))

  -- ---- versions

  pub equal_front : (k : ℕ) (ns : List ℕ) (sense : Bool) (l : ℕ) (q : Program) (ds : List SlotFacts)
      → k + length ns ≤ 4 → IsRest q ds → IsLabel q ds l
      → IsFront (code.equal_code k ns sense l q) q ds
  equal_front k [] sense l q ds few h label = front_itself q ds h
  equal_front k (n ∷ []) sense l q ds few h label =
      field_front load.Word (4 * k) (insn.turned sense jump.Eq) n l q ds
      (omega (arith, few)) h label
  equal_front k (n ∷ m ∷ ns) sense l q ds few h label =
      let rest : Program = code.equal_code (suc k) (m ∷ ns) sense l q in
      let out : ℕ = if sense then length q else l in
      let behind = equal_front (suc k) (m ∷ ns) sense l q ds (omega (arith, few)) h label in
      front_then (code.word_code k jump.Ne n out rest) rest q ds behind
      (field_front load.Word (4 * k) jump.Ne n out rest behind.entries
      (omega (arith, few)) behind.rest
      (behind.keeps out (label_if sense q ds (length q) l (first_label q ds h) label)))

  -- a word that decides at once, or leaves it to the next words
  word_front : (k : ℕ) (strict : Condition) (n there here : ℕ) (rest : Program)
      (es : List SlotFacts)
      → 4 * k + 4 ≤ 64 → IsRest rest es → IsLabel rest es there → IsLabel rest es here
      → IsFront (code.word_code k strict n there
      (code.jump_to (insn.jump_if jump.Ne R2 n) here rest)) rest es
  word_front k strict n there here rest es within h to off =
      let other : Insn = insn.jump_if jump.Ne R2 n (length rest - here) in
      let differs : Program = Some other ∷ rest in
      let first : Insn = insn.jump_if strict R2 n (length differs - there) in
      let unequal : IsTail differs rest es = jump_tail jump.Ne n here rest es h off in
      let leaves : IsTail (Some first ∷ differs) rest es =
      put first tested differs rest es unequal
      (jump_step shape strict R2 n (length differs - there) tested differs unequal.entries refl
      (takes_here other rest tested es)
      (tested_takes differs unequal.entries (length differs - there)
      (unequal.keeps there to).takes)) in
      put_first (insn.load_field load.Word (4 * k)) (Some first ∷ differs) rest es leaves
      (load_step shape load.Word (4 * k) (chosen shape)
      (Some first ∷ differs) leaves.entries refl within
      (takes_here first differs tested unequal.entries))

  pub order_front : (strict last : Condition) (k : ℕ) (ns : List ℕ) (sense : Bool) (l : ℕ)
      (q : Program) (ds : List SlotFacts) → k + length ns ≤ 4 → IsRest q ds → IsLabel q ds l
      → IsFront (code.order_code strict last k ns sense l q) q ds
  order_front strict last k [] sense l q ds few h label = front_itself q ds h
  order_front strict last k (n ∷ []) sense l q ds few h label =
      field_front load.Word (4 * k) (insn.turned sense last) n l q ds (omega (arith, few)) h label
  order_front strict last k (n ∷ m ∷ ns) sense l q ds few h label =
      let rest : Program = code.order_code strict last (suc k) (m ∷ ns) sense l q in
      let there : ℕ = if sense then l else length q in
      let here : ℕ = if sense then length q else l in
      let behind = order_front strict last (suc k) (m ∷ ns) sense l q ds
      (omega (arith, few)) h label in
      let begin = first_label q ds h in
      front_then (code.word_code k strict n there
      (code.jump_to (insn.jump_if jump.Ne R2 n) here rest)) rest q ds behind
      (word_front k strict n there here rest behind.entries (omega (arith, few)) behind.rest
      (behind.keeps there (label_if sense q ds l (length q) label begin))
      (behind.keeps here (label_if sense q ds (length q) l begin label)))

  -- ---- a jump on the result of a call

  abbrev pub answer_tail : (condition : Condition) (n l : ℕ) (set : ℕ → Bool) (q : Program)
      (ds : List SlotFacts) → IsRest q ds → IsLabel q ds l
      → IsTail (code.jump_to (insn.jump_if condition R0 n) l q) q ds
  answer_tail condition n l set q ds h label =
      put (insn.jump_if condition R0 n (length q - l)) (asked set) q q ds (tail_itself q ds h)
      (jump_step shape condition R0 n (length q - l) (asked set) q ds refl
      (takes_more (Num any) Unusable Unusable Unusable Unusable set q ds 0 h.first)
      (takes_more (Num any) Unusable Unusable Unusable Unusable set q ds
      (length q - l) label.takes))

  -- ---- a bucket

  -- code in front of code, which begins with this knowledge
  record Begins (q' q : Program) (ds : List SlotFacts) (d : SlotFacts) : Type 0 where
    tail : IsTail q' q ds
    first : Takes q' tail.entries 0 d

  field_begins : (modulus : Option ℕ) (condition : Condition) (n l : ℕ) (q : Program)
      (ds : List SlotFacts) → IsRest q ds → IsLabel q ds l
      → Begins (code.remainder_code modulus condition R2 n l q) q ds tested
  field_begins None condition n l q ds h label = record {
    tail = jump_tail condition n l q ds h label;
    first = takes_here (insn.jump_if condition R2 n (length q - l)) q tested ds;
  }
  field_begins (Some m) condition n l q ds h label =
      let away : Insn = insn.jump_if condition R2 n (length q - l) in
      let left : Insn = insn.take_remainder R2 m in
      record {
        tail = put left tested (Some away ∷ q) q ds (jump_tail condition n l q ds h label)
            (remainder_step shape R2 m tested (Some away ∷ q) (tested ∷ ds) refl refl
            (takes_here away q tested ds));
        first = takes_here left (Some away ∷ q) tested (tested ∷ ds);
      }

  answer_begins : (modulus : Option ℕ) (condition : Condition) (n l : ℕ) (q : Program)
      (ds : List SlotFacts) → IsRest q ds → IsLabel q ds l
      → Begins (code.remainder_code modulus condition R0 n l q) q ds (asked none_set)
  answer_begins None condition n l q ds h label = record {
    tail = answer_tail condition n l none_set q ds h label;
    first = takes_here (insn.jump_if condition R0 n (length q - l)) q (asked none_set) ds;
  }
  answer_begins (Some m) condition n l q ds h label =
      let away : Insn = insn.jump_if condition R0 n (length q - l) in
      let left : Insn = insn.take_remainder R0 m in
      record {
        tail = put left (asked none_set) (Some away ∷ q) q ds
            (answer_tail condition n l none_set q ds h label)
            (remainder_step shape R0 m (asked none_set) (Some away ∷ q) (asked none_set ∷ ds) refl
            refl (takes_here away q (asked none_set) ds));
        first = takes_here left (Some away ∷ q) (asked none_set) (asked none_set ∷ ds);
      }

  pub bucket_front : (salt modulus : Option ℕ) (condition : Condition) (n l : ℕ) (q : Program)
      (ds : List SlotFacts) → IfSome salt (λ s. s < 2 ^ 64) → IsRest q ds → IsLabel q ds l
      → IsFront (code.bucket_code salt modulus condition n l q) q ds
  bucket_front None modulus condition n l q ds small h label =
      let last : Program = code.remainder_code modulus condition R2 n l q in
      let b = field_begins modulus condition n l q ds h label in
      put_first (insn.load_field load.Half 16) last q ds b.tail
      (load_step shape load.Half 16 (chosen shape) last b.tail.entries refl (omega arith) b.first)
  bucket_front (Some salt) modulus condition n l q ds small h label =
      let last : Program = code.remainder_code modulus condition R0 n l q in
      let b = answer_begins modulus condition n l q ds h label in
      let given : SlotFacts = frame Unusable (Num any) Unusable Unusable Unusable
      (choice shape) none_set in
      let called : IsTail (Some (insn.call 4) ∷ last) q ds =
      put (insn.call 4) given last q ds b.tail
      (bucket_step shape given last b.tail.entries refl b.first) in
      put_first (insn.load_salt salt) (None ∷ Some (insn.call 4) ∷ last) q ds
      (put_half (Some (insn.call 4) ∷ last) q ds called)
      (wide_step shape R1 salt (Num any) (chosen shape) (Some (insn.call 4) ∷ last)
      (nothing ∷ called.entries) refl (omega arith, omega arith, omega (arith, small))
      (takes_behind (insn.call 4) last nothing given b.tail.entries))
