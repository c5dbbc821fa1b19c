-- Steps that may fail, in sequence.
use Rattle.std.specs.Prelude.{Option, Result, Ok, Err}
use Rattle.bpf_text.specs.declared.text_fault.AsmFaultKind.{AsmFaultKind}
use Rattle.bpf_text.specs.declared.three.UpToThree.{UpToThree}

abbrev pub OrAsmFault : Type 0 → Type 0
OrAsmFault A = Result A AsmFaultKind

infixl 10 ◌>>?◌
abbrev pub ◌>>?◌ : {A B : Type 0} → OrAsmFault A → (A → OrAsmFault B) → OrAsmFault B
(Ok x) >>? f = f x
(Err e) >>? f = Err e

abbrev pub map_ok : {A B : Type 0} → (A → B) → OrAsmFault A → OrAsmFault B
map_ok f (Ok x) = Ok (f x)
map_ok f (Err e) = Err e

-- three optional values, or the first fault
abbrev pub in_turn : {A : Type 0} → (a b c : OrAsmFault (Option A)) → OrAsmFault (UpToThree A)
in_turn a b c = a >>? λ x. b >>? λ y. c >>? λ z. Ok (record { first = x; second = y; third = z })
