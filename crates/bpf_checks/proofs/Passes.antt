-- What follows if an instruction breaks no rule.
use Rattle.std.proofs.Common.{◌≡◌, Option, Some, None, Bool, true, false, cond, refl}
use Rattle.std.specs.Prelude.{◌||◌, ◌&&◌, not}
use Rattle.bpf_insn.specs.declared.insn.Insn.{Insn}
use Rattle.cells.specs.Arrays.{AppShape}
use Rattle.abs_value.specs.declared.state.AbsState.{AbsState}
use Rattle.bpf_checks.specs.declared.refusal.VerifierRule.{VerifierRule}
use Rattle.bpf_checks.specs.declared.refusal.VerifierRule.TheVariants as rule
use Rattle.bpf_checks.specs.Rules.{reads_unusable, writes_frame, computes_pointer, moves_outside}
use Rattle.bpf_checks.specs.Rules.{compares_pointer, accesses_outside, stores_pointer}
use Rattle.bpf_checks.specs.Rules.{writes_context, has_no_address, misuses_helper, names_no_array}
use Rattle.bpf_checks.specs.Rules.{exchanges_in_stack, wrong_result, breaks_quota, first_rule}

pub record Passes (shape : AppShape) (e : AbsState) (i : Insn) : Type 0 where
  pub usable : reads_unusable e i ≡ false
  pub frame : writes_frame i ≡ false
  pub arithmetic : computes_pointer e i ≡ false
  pub range : moves_outside e i ≡ false
  pub compares : compares_pointer e i ≡ false
  pub inside : accesses_outside shape e i ≡ false
  pub stores : stores_pointer e i ≡ false
  pub context : writes_context e i ≡ false
  pub address : has_no_address e i ≡ false
  pub helper : misuses_helper e i ≡ false
  pub array : names_no_array shape i ≡ false
  pub stack : exchanges_in_stack e i ≡ false
  pub result : wrong_result shape e i ≡ false
  pub quota : breaks_quota shape e i ≡ false

none_cond : (b : Bool) (r : VerifierRule) (x : Option VerifierRule) → cond b (Some r) x ≡ None
    → (b ≡ false) × (x ≡ None)
none_cond true r x h = absurd cc
none_cond false r x h = (refl, h)

pub passes : (shape : AppShape) (e : AbsState) (i : Insn) → first_rule shape e i ≡ None
    → Passes shape e i
unfolding first_rule
passes shape e i h =
    let a = none_cond (reads_unusable e i) rule.Unusable _ h in
    let b = none_cond (writes_frame i) rule.WritesFrame _ a.1 in
    let c = none_cond (computes_pointer e i) rule.PointerArithmetic _ b.1 in
    let d = none_cond (moves_outside e i) rule.OffsetRange _ c.1 in
    let f = none_cond (compares_pointer e i) rule.PointerCompare _ d.1 in
    let g = none_cond (accesses_outside shape e i) rule.Access _ f.1 in
    let j = none_cond (stores_pointer e i) rule.StoresPointer _ g.1 in
    let k = none_cond (writes_context e i) rule.WritesContext _ j.1 in
    let l = none_cond (has_no_address e i) rule.NotAddress _ k.1 in
    let m = none_cond (misuses_helper e i) rule.Helper _ l.1 in
    let n = none_cond (names_no_array shape i) rule.MapIndex _ m.1 in
    let o = none_cond (exchanges_in_stack e i) rule.Kind _ n.1 in
    let p = none_cond (wrong_result shape e i) rule.Result _ o.1 in
    let q = none_cond (breaks_quota shape e i) rule.QuotaCell _ p.1 in
    record {
      usable = a.0;
      frame = b.0;
      arithmetic = c.0;
      range = d.0;
      compares = f.0;
      inside = g.0;
      stores = j.0;
      context = k.0;
      address = l.0;
      helper = m.0;
      array = n.0;
      stack = o.0;
      result = p.0;
      quota = q.0;
    }

-- ---- tests

pub false_or : (a b : Bool) → (a || b) ≡ false → (a ≡ false) × (b ≡ false)
false_or true b h = absurd cc
false_or false b h = (refl, h)

pub true_and : (a b : Bool) → (a && b) ≡ true → (a ≡ true) × (b ≡ true)
true_and true b h = (refl, h)
true_and false b h = absurd cc

pub not_false : (b : Bool) → not b ≡ false → b ≡ true
not_false true h = refl
not_false false h = absurd cc

-- ---- none of the registers that are read is unusable

pub one_usable : (a z : Bool) → ((a || false) || z) ≡ false → (a ≡ false) × (z ≡ false)
one_usable true z h = absurd cc
one_usable false z h = (refl, h)

pub two_usable : (a b z : Bool) → ((a || (b || false)) || z) ≡ false
    → (a ≡ false) × (b ≡ false) × (z ≡ false)
two_usable true b z h = absurd cc
two_usable false true z h = absurd cc
two_usable false false z h = (refl, refl, h)

pub three_usable : (a b c z : Bool) → ((a || (b || (c || false))) || z) ≡ false
    → (a ≡ false) × (b ≡ false) × (c ≡ false) × (z ≡ false)
three_usable true b c z h = absurd cc
three_usable false true c z h = absurd cc
three_usable false false true z h = absurd cc
three_usable false false false z h = (refl, refl, refl, h)
