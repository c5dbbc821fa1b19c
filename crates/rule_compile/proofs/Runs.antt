-- The behaviour of a run from a place, for any replies. Each lemma extends it from the rest to the
-- rest with one more instruction in front.
use Rattle.std.proofs.Common.{◌≡◌, ℕ, ◌+◌, ◌%◌, ◌<◌, ◌^◌, pos, List, [], ◌∷◌, drop}
use Rattle.std.proofs.Common.{Option, Some, Bool, true, false, refl, sym, ap, subst, ◌∙◌, arith}
use Rattle.std.specs.Prelude.{if◌then◌else◌}
use Rattle.std.specs.Int.{w32, cast_unsigned}
use Rattle.std.proofs.lemmas.Int.{of_z-to_z}
use Rattle.attrs.specs.Attributes.{Attributes}
use Rattle.cells.specs.declared.event.CellOp.{CellOp}
use Rattle.cells.specs.declared.event.CellEvent.{CellEvent}
use Rattle.bpf_insn.specs.declared.insn.Insn.{Insn}
use Rattle.bpf_insn.specs.declared.insn.Insn.TheVariants.{Exit}
use Rattle.bpf_insn.specs.declared.reg.Reg.{Reg}
use Rattle.bpf_insn.specs.declared.reg.Reg.TheVariants.{R0, R2}
use Rattle.bpf_insn.specs.declared.operand.Bits.TheVariants.{Bits32}
use Rattle.bpf_insn.specs.declared.operand.Condition.{Condition}
use Rattle.bpf_insn.specs.declared.operand.LoadKind.{LoadKind}
use Rattle.bpf_insn.specs.Table.{number_of}
use Rattle.bpf_insn.specs.Conditions.{compares, holds}
use Rattle.bpf_insn.specs.Program.{Program, ◌>>=◌}
use Rattle.bpf_semantics.specs.Memory.{context_start, stack_top}
use Rattle.bpf_semantics.specs.Program.{ShapedProgram}
use Rattle.bpf_semantics.specs.State.{State, with_register}
use Rattle.bpf_semantics.specs.Reads.{both}
use Rattle.bpf_semantics.specs.Outcome.{Going, Operates, write, branch, finish}
use Rattle.bpf_semantics.specs.Step.{step, act, act_at, load}
use Rattle.bpf_semantics.specs.Run.{Ends, last, more, operated}
use Rattle.rule_lang.specs.Meaning.{Behaviour, Chooses, HasTrace}
use Rattle.rule_lang.specs.Meaning as does
use Rattle.rule_compile.specs.Instructions as insn
use Rattle.rule_compile.proofs.Labels.{at_here, next_here, later_here}

module _ (p : ShapedProgram) (a : Attributes) where
  -- a state at the start of this rest, with the context in R6 and the choice in R7
  pub record IsAt (q : Program) (choice : ℕ) (s : State) : Type 0 where
    pub place : drop s.slot p.code ≡ q
    pub context : s.registers 6 ≡ Some context_start
    pub choice_is : s.registers 7 ≡ Some choice
    pub top : s.registers 10 ≡ Some stack_top
    pub attributes : s.attributes ≡ a

  -- the state has each run that the behaviour allows
  abbrev pub EndsAs : State → Behaviour → Type 0
  EndsAs s b = (es : List CellEvent) (choice : ℕ) → HasTrace b es choice → (count : ℕ)
      × Ends p s es choice count

  -- the behaviour of each state at this rest with this knowledge
  abbrev pub Comes : (State → Type 0) → Program → ℕ → Behaviour → Type 0
  Comes known q choice b = (s : State) → IsAt q choice s → known s → EndsAs s b

  abbrev pub Nothing : State → Type 0
  Nothing s = Unit {0}

  -- a register has this number
  abbrev pub Has : ℕ → ℕ → State → Type 0
  Has r v s = s.registers r ≡ Some v

  pub knowing : (known : State → Type 0) (q : Program) (choice : ℕ) (b : Behaviour)
      → Comes Nothing q choice b → Comes known q choice b
  knowing known q choice b h s at_s k = h s at_s tt

  -- ---- one step

  step_is : (s : State) (choice : ℕ) (i : Insn) (q : Program) → IsAt (Some i ∷ q) choice s
      → step p s ≡ act p.shape s i
  step_is s choice i q h = ap (λ (o : Option (Option Insn)). act_at p.shape s (o >>= λ x. x))
      (at_here p.code s.slot (Some i) q h.place)

  pub quiet : (s t : State) (i : Insn) (q : Program) (choice : ℕ) (b : Behaviour)
      → IsAt (Some i ∷ q) choice s → act p.shape s i ≡ Going t → EndsAs t b → EndsAs s b
  quiet s t i q choice b h goes rest es end follows =
      let r = rest es end follows in (r.0, more (step_is s choice i q h ∙ goes) r.1)

  pub asks : (s : State) (t : ℕ → State) (i : Insn) (q : Program) (choice cell : ℕ) (op : CellOp)
      (next : ℕ → Behaviour) → IsAt (Some i ∷ q) choice s
      → act p.shape s i ≡ Operates cell op t → ((r : ℕ) → EndsAs (t r) (next r))
      → EndsAs s (does.Operates cell op next)
  asks s t i q choice cell op next h is rest [] end follows = absurd follows
  asks s t i q choice cell op next h is rest (e ∷ es) end follows =
      let r = rest e.reply es end follows.3 in
      let same : step p s ≡ Operates e.cell e.op t =
      step_is s choice i q h ∙ is ∙ ap (λ (c : ℕ). Operates c op t) (sym follows.0)
      ∙ ap (λ (o : CellOp). Operates e.cell o t) (sym follows.1) in
      (r.0, operated same r.1)

  -- ---- the frame of a rule

  pub set_then : (k : ℕ) (q : Program) (choice : ℕ) (b : Behaviour) → Comes Nothing q k b
      → Comes Nothing (Some (insn.set_choice k) ∷ q) choice b
  set_then k q choice b rest s h known =
      quiet s (record (with_register s 7 k) { slot = s.slot + 1; count = s.count + 1 })
      (insn.set_choice k) q choice b h refl
      (rest _ (record {
        place = next_here p.code s.slot
            (Some (insn.set_choice k)) q h.place;
        context = h.context;
        choice_is = refl;
        top = h.top;
        attributes = h.attributes;
      }) tt)

  chosen_is : (k : ℕ) (b : Behaviour) → b ≡ Chooses k → (s : State) → step p s ≡ finish (Some k)
      → EndsAs s b
  chosen_is k b is s e = subst (EndsAs s) (sym is) (λ es end follows. ends es end follows)
    where
      ends : (es : List CellEvent) (end : ℕ) → HasTrace (Chooses k) es end → (count : ℕ)
          × Ends p s es end count
      ends [] end follows = subst (λ (n : ℕ). (count : ℕ) × Ends p s [] n count) follows
          (s.count + 1, last e refl)
      ends (x ∷ es) end follows = absurd follows

  exit_then : (k choice : ℕ) (s : State) → IsAt (Some Exit ∷ []) choice s → s.registers 0 ≡ Some k
      → EndsAs s (Chooses k)
  exit_then k choice s h zero_is =
      chosen_is k (Chooses k) refl s (step_is s choice Exit [] h ∙ ap finish zero_is)

  -- mov r0, r7 / exit
  pub end_then : (choice : ℕ) → Comes Nothing (Some insn.give_choice ∷ Some Exit ∷ []) choice
      (Chooses choice)
  end_then choice s h known =
      let t : State = record (with_register s 0 choice)
      { slot = s.slot + 1; count = s.count + 1 } in
      quiet s t insn.give_choice (Some Exit ∷ []) choice (Chooses choice) h
      (ap (λ (o : Option ℕ). write s 1 R0 (o >>= λ x. Some x)) h.choice_is)
      (exit_then choice choice t (record {
        place = next_here p.code s.slot (Some insn.give_choice)
            (Some Exit ∷ []) h.place;
        context = h.context;
        choice_is = h.choice_is;
        top = h.top;
        attributes = h.attributes;
      }) refl)

  -- ---- a field of the context

  -- the number that a load of a field puts into its register
  abbrev pub Reads : LoadKind → ℕ → ℕ → Type 0
  Reads kind offset v = (s : State) → s.attributes ≡ a
      → load s kind R2 (Some context_start) (pos offset) ≡ write s 1 R2 (Some v)

  pub load_then : (kind : LoadKind) (offset v : ℕ) (q : Program) (choice : ℕ) (b : Behaviour)
      → Reads kind offset v → Comes (Has 2 v) q choice b
      → Comes Nothing (Some (insn.load_field kind offset) ∷ q) choice b
  load_then kind offset v q choice b reads rest s h known =
      quiet s (record (with_register s 2 v) { slot = s.slot + 1; count = s.count + 1 })
      (insn.load_field kind offset) q choice b h
      (ap (λ (o : Option ℕ). load s kind R2 o (pos offset)) h.context ∙ reads s h.attributes)
      (rest _ (record {
        place = next_here p.code s.slot
            (Some (insn.load_field kind offset)) q h.place;
        context = h.context;
        choice_is = h.choice_is;
        top = h.top;
        attributes = h.attributes;
      }) refl)

  -- ---- jumps

  low_half : (n : ℕ) → n < 2 ^ 32 → n % 2 ^ 32 ≡ n
  low_half n h = omega (arith, h)

  compared : (condition : Condition) (v n : ℕ) → v < 2 ^ 32 → n < 2 ^ 32
      → (both (holds Bits32 condition) (Some v) (Some (cast_unsigned w32 (insn.imm_of n)))) ≡ Some
      (compares w32 condition v n)
  compared condition v n hv hn = rw (of_z-to_z w32 n hn, low_half v hv, low_half n hn) refl

  pub jump_then : (condition : Condition) (left : Reg) (n k v : ℕ) (q : Program) (choice : ℕ)
      (there on : Behaviour) → v < 2 ^ 32 → n < 2 ^ 32
      → Comes Nothing (drop k q) choice there → Comes (Has (number_of left) v) q choice on
      → Comes (Has (number_of left) v) (Some (insn.jump_if condition left n k) ∷ q) choice
      (if compares w32 condition v n then there else on)
  jump_then condition left n k v q choice there on hv hn to next s h known =
      by_case (compares w32 condition v n) refl
    where
      branch_is : act p.shape s (insn.jump_if condition left n k) ≡ branch s (pos k)
          (Some (compares w32 condition v n))
      branch_is = ap (λ (o : Option ℕ). branch s (pos k)
          (both (holds Bits32 condition) o (Some (cast_unsigned w32 (insn.imm_of n))))) known
          ∙ ap (branch s (pos k)) (compared condition v n hv hn)

      by_case : (b : Bool) → compares w32 condition v n ≡ b → EndsAs s (if b then there else on)
      by_case true is =
          quiet s (record s { slot = s.slot + 1 + k; count = s.count + 1 })
          (insn.jump_if condition left n k) q choice there h
          (branch_is ∙ ap (λ (b : Bool). branch s (pos k) (Some b)) is)
          (to _ (record {
            place = later_here p.code s.slot k
                (Some (insn.jump_if condition left n k)) q h.place;
            context = h.context;
            choice_is = h.choice_is;
            top = h.top;
            attributes = h.attributes;
          }) tt)
      by_case false is =
          quiet s (record s { slot = s.slot + 1; count = s.count + 1 })
          (insn.jump_if condition left n k) q choice on h
          (branch_is ∙ ap (λ (b : Bool). branch s (pos k) (Some b)) is)
          (next _ (record {
            place = next_here p.code s.slot
                (Some (insn.jump_if condition left n k)) q h.place;
            context = h.context;
            choice_is = h.choice_is;
            top = h.top;
            attributes = h.attributes;
          }) known)
