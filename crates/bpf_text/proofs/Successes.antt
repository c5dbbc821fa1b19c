-- The result of a sequence of steps if none of them fails.
use Rattle.std.proofs.Common.{◌≡◌, Option, Some, None, option_map, Ok, Err}
use Rattle.std.proofs.Common.{Bool, true, false, ◌||◌, if◌then◌else◌, refl, ap}
use Rattle.std.specs.Prelude.{ok_or}
use Rattle.bpf_text.specs.declared.text_fault.AsmFaultKind.{AsmFaultKind}
use Rattle.bpf_text.specs.declared.text_fault.AsmFaultKind.TheVariants as fault
use Rattle.bpf_text.specs.declared.operand.Given.{Given}
use Rattle.bpf_text.specs.declared.three.UpToThree.{UpToThree}
use Rattle.bpf_text.specs.Operands.{is_other_kind, all_given}
use Rattle.bpf_text.specs.Results.{OrAsmFault, ◌>>?◌, map_ok, in_turn}
use Rattle.bpf_text.specs.Tokens.{Name}

-- ---- steps that didn't fail

pub err_ok : {A : Type 0} {e : AsmFaultKind} {x : A} → ◌≡◌ {A = OrAsmFault A} (Err e) (Ok x) → ⊥
err_ok h = cc

pub same_ok : {A : Type 0} {x y : A} → ◌≡◌ {A = OrAsmFault A} (Ok x) (Ok y) → x ≡ y
same_ok h = cc

pub same_some : {A : Type 0} {x y : A} → Some x ≡ Some y → x ≡ y
same_some h = cc

pub none_some : {A : Type 0} {x : A} → ◌≡◌ {A = Option A} None (Some x) → ⊥
none_some h = cc

pub bind_ok : {A B : Type 0} (r : OrAsmFault A) (f : A → OrAsmFault B) (y : B) → (r >>? f) ≡ Ok y
    → (x : A) × (r ≡ Ok x) × (f x ≡ Ok y)
bind_ok (Ok x) f y h = (x, refl, h)
bind_ok (Err e) f y h = absurd (err_ok h)

pub ok_or_ok : {A : Type 0} (e : AsmFaultKind) (o : Option A) (x : A) → ok_or o e ≡ Ok x
    → o ≡ Some x
ok_or_ok e (Some y) x h = ap Some (same_ok h)
ok_or_ok e None x h = absurd (err_ok h)

pub map_ok_is : {A B : Type 0} (f : A → B) (r : OrAsmFault A) (y : B) → map_ok f r ≡ Ok y
    → (x : A) × (r ≡ Ok x) × (f x ≡ y)
map_ok_is f (Ok x) y h = (x, refl, same_ok h)
map_ok_is f (Err e) y h = absurd (err_ok h)

pub mapped : {A B : Type 0} (f : A → B) (o : Option A) (y : B) → option_map f o ≡ Some y
    → (x : A) × (o ≡ Some x) × (f x ≡ y)
mapped f (Some x) y h = (x, refl, same_some h)
mapped f None y h = absurd (none_some h)

pub record AreOk {A : Type 0} (a b c : OrAsmFault (Option A)) (g : UpToThree A) : Type 0 where
  pub first : a ≡ Ok g.first
  pub second : b ≡ Ok g.second
  pub third : c ≡ Ok g.third

pub in_turn_ok : {A : Type 0} (a b c : OrAsmFault (Option A)) (g : UpToThree A)
    → in_turn a b c ≡ Ok g
    → AreOk a b c g
in_turn_ok (Ok x) (Ok y) (Ok z) g h =
    let e = same_ok h in
    record {
      first = ap (λ (t : UpToThree _). Ok t.first) e;
      second = ap (λ (t : UpToThree _). Ok t.second) e;
      third = ap (λ (t : UpToThree _). Ok t.third) e;
    }
in_turn_ok (Err e) b c g h = absurd (err_ok h)
in_turn_ok (Ok x) (Err e) c g h = absurd (err_ok h)
in_turn_ok (Ok x) (Ok y) (Err e) g h = absurd (err_ok h)

else_ok : {A : Type 0} (t : Bool) (r : OrAsmFault A) (e : AsmFaultKind) (x : A)
    → (if t then Err e else r) ≡ Ok x → r ≡ Ok x
else_ok true r e x h = absurd (err_ok h)
else_ok false r e x h = h

pub all_given_ok : (a b c : OrAsmFault (Option (Given Name))) (g : UpToThree (Given Name))
    → all_given a b c ≡ Ok g → AreOk a b c g
all_given_ok a b c g h =
    in_turn_ok a b c g (else_ok (is_other_kind a || (is_other_kind b || is_other_kind c))
    (in_turn a b c) fault.Operand g h)
