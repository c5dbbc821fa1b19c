-- What a draft keeps of a phrase whose value is a tree or a fault: the first fault, and without one
-- what the phrase adds to the condition.
use Rattle.std.proofs.Common.{◌≡◌, ℕ, ◌+◌, ◌≤◌}
use Rattle.std.proofs.Common.{Option, Some, None, Ok, Err, Bool, true, false, if◌then◌else◌, refl}
use Rattle.std.proofs.Common.{sym, ap, ◌∙◌, subst, arith}
use Rattle.std.specs.Prelude.{nat_lt, not}
use Rattle.rule_lang.specs.declared.rule_fault.RuleFault.{RuleFault}
use Rattle.rule_lang.specs.Reader.Drafts.{Pending, deeper}
use Rattle.rule_lang.specs.Lexed.{Placed}
use Rattle.rule_lang.specs.Parts.{OrFault, ◌>>?◌, out_of_range}
use Rattle.rule_lang.specs.Reader.Reading.{Draft, first_of, with_fault_if, too_deep}
use Rattle.rule_lang.specs.Values as spelled
use Rattle.rule_lang.specs.Trees.{Tree}

-- ---- the draft after a phrase

abbrev pub Adds : Type 1
Adds = Tree → Pending → Type 0

abbrev pub Noted : Option RuleFault → OrFault Tree → Adds → Draft → Type 0
Noted (Some x) v adds e = e.noted ≡ Some x
Noted None (Err x) adds e = e.noted ≡ Some x
Noted None (Ok c) adds e = (e.noted ≡ None) × adds c e.condition

-- for another value, if no fault was noted before
pub revalued : (o : Option RuleFault) (v w : OrFault Tree) (adds : Adds) (e : Draft)
    → (o ≡ None → v ≡ w) → Noted o v adds e → Noted o w adds e
revalued (Some x) v w adds e same h = h
revalued None v w adds e same h = subst (λ (u : OrFault Tree). Noted None u adds e) (same refl) h

-- for a later draft
pub readded : (o : Option RuleFault) (v : OrFault Tree) (adds more : Adds) (e f : Draft)
    → f.noted ≡ e.noted → (o ≡ None → (c : Tree) → adds c e.condition → more c f.condition)
    → Noted o v adds e → Noted o v more f
readded (Some x) v adds more e f same go h = same ∙ h
readded None (Err x) adds more e f same go h = same ∙ h
readded None (Ok c) adds more e f same go h = (same ∙ h.0, go refl c h.1)

pub mapped : (o : Option RuleFault) (v : OrFault Tree) (k : Tree → Tree) (adds more : Adds)
    (e : Draft) → (o ≡ None → (c : Tree) → adds c e.condition → more (k c) e.condition)
    → Noted o v adds e → Noted o (v >>? λ c. Ok (k c)) more e
mapped (Some x) v k adds more e go h = h
mapped None (Err x) k adds more e go h = h
mapped None (Ok c) k adds more e go h = (h.0, go refl c h.1)

joined_none : (v w : OrFault Tree) (k : Tree → Tree → Tree) (adds also both : Adds) (e f : Draft)
    → ((a b : Tree) → adds a e.condition → also b f.condition → both (k a b) f.condition)
    → Noted None v adds e → Noted e.noted w also f
    → Noted None (v >>? λ a. w >>? λ b. Ok (k a b)) both f
joined_none (Err x) w k adds also both e f go h g =
    subst (λ (o : Option RuleFault). Noted o w also f) h g
joined_none (Ok a) (Err y) k adds also both e f go h g =
    subst (λ (o : Option RuleFault). Noted o (Err y) also f) h.0 g
joined_none (Ok a) (Ok b) k adds also both e f go h g =
    let later : Noted None (Ok b) also f = subst (λ (o : Option RuleFault). Noted o (Ok b) also f)
    h.0 g in
    (later.0, go a b h.1 later.1)

-- one phrase, followed by another
pub joined : (o : Option RuleFault) (v w : OrFault Tree) (k : Tree → Tree → Tree)
    (adds also both : Adds) (e f : Draft)
    → (o ≡ None → (a b : Tree) → adds a e.condition → also b f.condition
    → both (k a b) f.condition) → Noted o v adds e → Noted e.noted w also f
    → Noted o (v >>? λ a. w >>? λ b. Ok (k a b)) both f
joined (Some x) v w k adds also both e f go h g =
    subst (λ (o : Option RuleFault). Noted o w also f) h g
joined None v w k adds also both e f go h g = joined_none v w k adds also both e f (go refl) h g

pub record WasClean (o : Option RuleFault) (adds : Adds) (e : Draft) : Type 0 where
  pub clean : o ≡ None
  pub tree : Tree
  pub added : adds tree e.condition

pub was_clean : (o : Option RuleFault) (v : OrFault Tree) (adds : Adds) (e : Draft)
    → e.noted ≡ None → Noted o v adds e → WasClean o adds e
was_clean (Some x) v adds e none h = let wrong : Some x ≡ None = sym h ∙ none in absurd cc
was_clean None (Err x) adds e none h = let wrong : Some x ≡ None = sym h ∙ none in absurd cc
was_clean None (Ok c) adds e none h = record { clean = refl; tree = c; added = h.1 }

-- ---- `not` and `(`

pub first_if : Bool → Option RuleFault → RuleFault → Option RuleFault
first_if true o x = first_of o x
first_if false o x = o

opener_by : (b : Bool) (o : Option RuleFault) (x : RuleFault) (v : OrFault Tree) (adds : Adds)
    (e : Draft) → Noted (first_if b o x) v adds e → Noted o (if b then Err x else v) adds e
unfolding first_if
opener_by true (Some y) x v adds e h = h
opener_by true None x v adds e h = h
opener_by false o x v adds e h = h

noted_is : (b : Bool) (x : RuleFault) (d : Draft)
    → (with_fault_if b x d).noted ≡ first_if b d.noted x
unfolding first_if
noted_is true x d = refl
noted_is false x d = refl

turned : {A : Type 0} (t : Bool) (a b : A) → (if not t then a else b) ≡ (if t then b else a)
turned true a b = refl
turned false a b = refl

-- the fault of an opener counts before faults of what it opens
pub opener_noted : (d : Draft) (depth : ℕ) (p : Placed) (v : OrFault Tree) (adds : Adds) (e : Draft)
    → (d.noted ≡ None → d.condition.depth ≡ depth)
    → Noted (with_fault_if (too_deep d) (out_of_range p) d).noted v adds e
    → Noted d.noted (spelled.within_depth depth p v) adds e
opener_noted d depth p v adds e deep h =
    let x = out_of_range p in
    let first : Noted (first_if (too_deep d) d.noted x) v adds e = subst (λ (o : Option RuleFault).
    Noted o v adds e) (noted_is (too_deep d) x d) h in
    revalued d.noted (if too_deep d then Err x else v) (spelled.within_depth depth p v) adds e
    (λ none.
    turned {A = OrFault Tree} (nat_lt d.condition.depth 32) (Err x) v
    ∙ ap (λ (n : ℕ). if nat_lt n 32 then v else Err x) (deep none)) (opener_by (too_deep d) d.noted
    x v adds e first)

pub record IsShallow (d : Draft) : Type 0 where
  pub clean : d.noted ≡ None
  pub below : nat_lt d.condition.depth 32 ≡ true

shallow_by : (b : Bool) (x : RuleFault) (d : Draft) → too_deep d ≡ b
    → (with_fault_if b x d).noted ≡ None → IsShallow d
shallow_by true x d is h = none_first d.noted h
  where
    none_first : (o : Option RuleFault) → first_of o x ≡ None → IsShallow d
    none_first (Some y) k = absurd cc
    none_first None k = absurd cc
shallow_by false x d is h = record { clean = h; below = unturned (nat_lt d.condition.depth 32) is }
  where
    unturned : (t : Bool) → not t ≡ false → t ≡ true
    unturned true k = refl
    unturned false k = absurd cc

-- if nothing is noted after an opener, it wasn't too deep
pub shallow : (d : Draft) (p : Placed)
    → (with_fault_if (too_deep d) (out_of_range p) d).noted ≡ None → IsShallow d
shallow d p h = shallow_by (too_deep d) (out_of_range p) d refl h

pub one_deeper : (n : ℕ) → nat_lt n 32 ≡ true → deeper n ≡ n + 1
one_deeper n h = ap (λ (b : Bool). if b then n + 1 else n) h

pub nots_below : (n depth : ℕ) → n ≤ depth → nat_lt depth 32 ≡ true → nat_lt n 32 ≡ true
nots_below n depth le h = grind (arith, le, h)
