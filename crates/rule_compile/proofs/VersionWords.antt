-- Versions, word by word: the first word that differs decides.
use Rattle.std.proofs.Common.{ℕ, suc, ◌-◌, ◌*◌, ◌<◌, ◌≤◌, ◌^◌, List, [], ◌∷◌, length, Some}
use Rattle.std.proofs.Common.{Bool, true, false, sym, subst, arith}
use Rattle.std.specs.Prelude.{if◌then◌else◌}
use Rattle.std.specs.Int.{w32}
use Rattle.attrs.specs.Attributes.{Attributes}
use Rattle.bpf_insn.specs.declared.reg.Reg.TheVariants.{R2}
use Rattle.bpf_insn.specs.declared.operand.Condition.{Condition}
use Rattle.bpf_insn.specs.declared.operand.Condition.TheVariants.{Eq, Ne}
use Rattle.bpf_insn.specs.declared.operand.LoadKind.TheVariants.{Word}
use Rattle.bpf_insn.specs.Conditions.{compares}
use Rattle.bpf_insn.specs.Program.{Program}
use Rattle.bpf_semantics.specs.Program.{ShapedProgram}
use Rattle.rule_lang.specs.Meaning.{Behaviour}
use Rattle.rule_compile.specs.Instructions as insn
use Rattle.rule_compile.specs.Blocks as code
use Rattle.rule_compile.proofs.Labels.{from_label, at_start, IsBefore}
use Rattle.rule_compile.proofs.Labels.{before_one, before_then, before_itself}
use Rattle.rule_compile.proofs.Runs.{Comes, Nothing, Has, knowing, Reads, load_then, jump_then}
use Rattle.rule_compile.proofs.Compares.{IsRelation, by_sense, field_runs}

-- ---- the code in front

pub equal_before : (k : ℕ) (ns : List ℕ) (sense : Bool) (l : ℕ) (q : Program)
    → IsBefore (code.equal_code k ns sense l q) q
equal_before k [] sense l q = before_itself q
equal_before k (n ∷ []) sense l q =
    before_then _ (Some (insn.jump_if (insn.turned sense Eq) R2 n (length q - l)) ∷ q) q
    (before_one _ _) (before_one _ q)
equal_before k (n ∷ m ∷ ns) sense l q =
    let rest : Program = code.equal_code (suc k) (m ∷ ns) sense l q in
    let jump : Program = Some (insn.jump_if Ne R2 n (length rest - (if sense then length q else l)))
    ∷ rest in
    before_then _ jump q (before_one _ jump)
    (before_then jump rest q (before_one _ rest) (equal_before (suc k) (m ∷ ns) sense l q))

pub order_before : (strict last : Condition) (k : ℕ) (ns : List ℕ) (sense : Bool) (l : ℕ)
    (q : Program) → IsBefore (code.order_code strict last k ns sense l q) q
order_before strict last k [] sense l q = before_itself q
order_before strict last k (n ∷ []) sense l q =
    before_then _ (Some (insn.jump_if (insn.turned sense last) R2 n (length q - l)) ∷ q) q
    (before_one _ _) (before_one _ q)
order_before strict last k (n ∷ m ∷ ns) sense l q =
    let rest : Program = code.order_code strict last (suc k) (m ∷ ns) sense l q in
    let differs : Program = Some (insn.jump_if Ne R2 n
    (length rest - (if sense then length q else l))) ∷ rest in
    let first : Program = Some (insn.jump_if strict R2 n
    (length differs - (if sense then l else length q))) ∷ differs in
    before_then _ first q (before_one _ first) (before_then first differs q (before_one _ differs)
    (before_then differs rest q (before_one _ rest)
    (order_before strict last (suc k) (m ∷ ns) sense l q)))

-- ---- the decision

-- the behaviour of comparing the words from the k-th on with the numbers
abbrev pub if_equal : (ℕ → ℕ) → ℕ → List ℕ → Behaviour → Behaviour → Behaviour
if_equal word k [] met unmet = unmet
if_equal word k (n ∷ []) met unmet = if compares w32 Eq (word k) n then met else unmet
if_equal word k (n ∷ m ∷ ns) met unmet =
    if compares w32 Ne (word k) n then unmet else if_equal word (suc k) (m ∷ ns) met unmet

abbrev pub if_ordered : Condition → Condition → (ℕ → ℕ) → ℕ → List ℕ
    → Behaviour → Behaviour
    → Behaviour
if_ordered strict last word k [] met unmet = unmet
if_ordered strict last word k (n ∷ []) met unmet =
    if compares w32 last (word k) n then met else unmet
if_ordered strict last word k (n ∷ m ∷ ns) met unmet =
    if compares w32 strict (word k) n then met
    else if compares w32 Ne (word k) n then unmet
    else if_ordered strict last word (suc k) (m ∷ ns) met unmet

module _ (p : ShapedProgram) (a : Attributes) (word : ℕ → ℕ)
    (fits : (k : ℕ) → word k < 2 ^ 32) where
  abbrev pub Goes : Program → ℕ → Behaviour → Type 0
  Goes q choice b = Comes p a (Nothing p a) q choice b

  -- in longer code: a label of the rest
  at_label : (q' q : Program) (l choice : ℕ) (x : Behaviour) → IsBefore q' q → l ≤ length q
      → Goes (from_label q l) choice x → Goes (from_label q' l) choice x
  at_label q' q l choice x before within h =
      subst (λ (r : Program). Goes r choice x) (sym (before.same l within)) h

  at_rest : (q' q : Program) (choice : ℕ) (x : Behaviour) → IsBefore q' q → Goes q choice x
      → Goes (from_label q' (length q)) choice x
  at_rest q' q choice x before h =
      at_label q' q (length q) choice x before (omega arith)
      (subst (λ (r : Program). Goes r choice x) (sym (at_start q)) h)

  -- each word from the k-th on is read, and each number fits in a word
  abbrev pub AreRead : ℕ → List ℕ → Type 0
  AreRead k [] = Unit {0}
  AreRead k (n ∷ ns) = (n < 2 ^ 32) × Reads p a Word (4 * k) (word k) × AreRead (suc k) ns

  pub equal_runs : (k n : ℕ) (ns : List ℕ) (sense : Bool) (l : ℕ) (q : Program) (choice : ℕ)
      (x y : Behaviour) → AreRead k (n ∷ ns) → l ≤ length q
      → Goes (from_label q l) choice x → Goes q choice y
      → Goes (code.equal_code k (n ∷ ns) sense l q) choice
      (if_equal word k (n ∷ ns) (if sense then x else y) (if sense then y else x))
  equal_runs k n [] sense l q choice x y read within to on =
      subst (Goes (code.word_code k (insn.turned sense Eq) n l q) choice)
      (by_sense Eq sense (word k) n x y tt)
      (field_runs p a Word (4 * k) (word k) (insn.turned sense Eq) n l q choice x y read.1
      (fits k) read.0 to on)
  equal_runs k n (m ∷ ns) true l q choice x y read within to on =
      let rest : Program = code.equal_code (suc k) (m ∷ ns) true l q in
      field_runs p a Word (4 * k) (word k) Ne n (length q) rest choice y
      (if_equal word (suc k) (m ∷ ns) x y) read.1 (fits k) read.0
      (at_rest rest q choice y (equal_before (suc k) (m ∷ ns) true l q) on)
      (equal_runs (suc k) m ns true l q choice x y read.2 within to on)
  equal_runs k n (m ∷ ns) false l q choice x y read within to on =
      let rest : Program = code.equal_code (suc k) (m ∷ ns) false l q in
      field_runs p a Word (4 * k) (word k) Ne n l rest choice x
      (if_equal word (suc k) (m ∷ ns) y x) read.1 (fits k) read.0
      (at_label rest q l choice x (equal_before (suc k) (m ∷ ns) false l q) within to)
      (equal_runs (suc k) m ns false l q choice x y read.2 within to on)

  -- a word that decides at once, or leaves it to the next words
  word_runs : (strict : Condition) (k n there here : ℕ) (rest : Program) (choice : ℕ)
      (x y z : Behaviour) → n < 2 ^ 32 → Reads p a Word (4 * k) (word k)
      → Goes (from_label (Some (insn.jump_if Ne R2 n (length rest - here)) ∷ rest) there) choice x
      → Goes (from_label rest here) choice y → Goes rest choice z
      → Goes (code.word_code k strict n there (code.jump_to (insn.jump_if Ne R2 n) here rest))
      choice (if compares w32 strict (word k) n then x else if compares w32 Ne
      (word k) n then y else z)
  unfolding from_label
  word_runs strict k n there here rest choice x y z hn reads to off on =
      let differs : Program = Some (insn.jump_if Ne R2 n (length rest - here)) ∷ rest in
      let later : Behaviour = if compares w32 Ne (word k) n then y else z in
      load_then p a Word (4 * k) (word k)
      (Some (insn.jump_if strict R2 n (length differs - there)) ∷ differs) choice
      (if compares w32 strict (word k) n then x else later) reads
      (jump_then p a strict R2 n (length differs - there) (word k) differs choice x later
      (fits k) hn to
      (jump_then p a Ne R2 n (length rest - here) (word k) rest choice y z (fits k) hn off
      (knowing p a (Has p a 2 (word k)) rest choice z on)))

  pub order_runs : (strict last : Condition) (k n : ℕ) (ns : List ℕ) (sense : Bool) (l : ℕ)
      (q : Program) (choice : ℕ) (x y : Behaviour) → IsRelation last → AreRead k (n ∷ ns)
      → l ≤ length q
      → Goes (from_label q l) choice x → Goes q choice y
      → Goes (code.order_code strict last k (n ∷ ns) sense l q) choice
      (if_ordered strict last word k (n ∷ ns) (if sense then x else y) (if sense then y else x))
  order_runs strict last k n [] sense l q choice x y relation read within to on =
      subst (Goes (code.word_code k (insn.turned sense last) n l q) choice)
      (by_sense last sense (word k) n x y relation)
      (field_runs p a Word (4 * k) (word k) (insn.turned sense last) n l q choice x y read.1
      (fits k) read.0 to on)
  order_runs strict last k n (m ∷ ns) true l q choice x y relation read within to on =
      let rest : Program = code.order_code strict last (suc k) (m ∷ ns) true l q in
      let differs : Program = Some (insn.jump_if Ne R2 n (length rest - length q)) ∷ rest in
      let behind = order_before strict last (suc k) (m ∷ ns) true l q in
      word_runs strict k n l (length q) rest choice x y
      (if_ordered strict last word (suc k) (m ∷ ns) x y) read.0 read.1
      (at_label differs q l choice x (before_then differs rest q (before_one _ rest) behind) within
      to)
      (at_rest rest q choice y behind on)
      (order_runs strict last (suc k) m ns true l q choice x y relation read.2 within to on)
  order_runs strict last k n (m ∷ ns) false l q choice x y relation read within to on =
      let rest : Program = code.order_code strict last (suc k) (m ∷ ns) false l q in
      let differs : Program = Some (insn.jump_if Ne R2 n (length rest - l)) ∷ rest in
      let behind = order_before strict last (suc k) (m ∷ ns) false l q in
      word_runs strict k n (length q) l rest choice y x
      (if_ordered strict last word (suc k) (m ∷ ns) y x) read.0 read.1
      (at_rest differs q choice y (before_then differs rest q (before_one _ rest) behind) on)
      (at_label rest q l choice x behind within to)
      (order_runs strict last (suc k) m ns false l q choice x y relation read.2 within to on)

pub equal_longer : (k : ℕ) (ns : List ℕ) (sense : Bool) (l : ℕ) (q : Program)
    → length q ≤ length (code.equal_code k ns sense l q)
equal_longer k ns sense l q = (equal_before k ns sense l q).longer

pub order_longer : (strict last : Condition) (k : ℕ) (ns : List ℕ) (sense : Bool) (l : ℕ)
    (q : Program) → length q ≤ length (code.order_code strict last k ns sense l q)
order_longer strict last k ns sense l q = (order_before strict last k ns sense l q).longer
