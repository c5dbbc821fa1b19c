use Rattle.std.proofs.Common.{◌≡◌, ◌≢◌, ℕ, ℤ, rules, pos, refl, sym, ap, ◌∙◌, of_z, to_z, w32}
use Rattle.std.proofs.Math.Facts.{to_z-of_z}
use mir.Val.{SFits}
use Rattle.bpf_machine.proofs.Results.{call_agrees, lookup_ready, lookup_is, compare_ready}
use Rattle.bpf_machine.proofs.Results.{compare_is, length_is, bucket_ready, bucket_is}
use Rattle.bpf_machine.proofs.calls.call.Goals as goal

-- a test of the number's bits
is_number : (helper k : ℤ) (n : ℕ) → SFits w32 helper → of_z w32 helper ≡ n → to_z w32 n ≡ k
    → helper ≡ k
is_number helper k n fits e f = sym (to_z-of_z fits) ∙ ap (to_z w32) e ∙ f

is_other : (helper k : ℤ) (n : ℕ) → of_z w32 helper ≢ n → of_z w32 k ≡ n → helper ≢ k
is_other helper k n other e same = other (ap (of_z w32) same ∙ e)

pub lookup-value-requires : goal.lookup-value-requires
lookup-value-requires c =
    lookup_ready c.args.shape.now c.args.attrs.now c.args.words.now c.args.helper
    (is_number c.args.helper (pos 1) 1 c.ranges.helper c.if-helper-eq-LOOKUP.true refl) c.requires

pub stack_bytes-bytes-requires-clause-few : goal.stack_bytes-bytes-requires-clause-few
stack_bytes-bytes-requires-clause-few c =
    (compare_ready c.args.shape.now c.args.attrs.now c.args.words.now c.args.helper
    (is_number c.args.helper (pos 2) 2 c.ranges.helper c.if-helper-eq-ATTR_IS.true refl)
    c.requires).few

pub stack_bytes-bytes-requires-clause-inside : goal.stack_bytes-bytes-requires-clause-inside
stack_bytes-bytes-requires-clause-inside c =
    (compare_ready c.args.shape.now c.args.attrs.now c.args.words.now c.args.helper
    (is_number c.args.helper (pos 2) 2 c.ranges.helper c.if-helper-eq-ATTR_IS.true refl)
    c.requires).inside

pub returns-then-helper-eq-LOOKUP : goal.returns-then-helper-eq-LOOKUP
returns-then-helper-eq-LOOKUP c =
    call_agrees c.args.shape.now c.args.attrs.now c.args.words.now c.args.helper
    (pos 1) c.lookup-value.result
    (is_number c.args.helper (pos 1) 1 c.ranges.helper c.if-helper-eq-LOOKUP.true refl)
    (lookup_is c.args.shape.now c.args.attrs.now c.args.words.now c.lookup-value.result
    c.lookup-value.ensures)

pub returns-then-helper-eq-ATTR_IS : goal.returns-then-helper-eq-ATTR_IS
returns-then-helper-eq-ATTR_IS c =
    call_agrees c.args.shape.now c.args.attrs.now c.args.words.now c.args.helper
    (pos 2) c.helper_attr_is.result
    (is_number c.args.helper (pos 2) 2 c.ranges.helper c.if-helper-eq-ATTR_IS.true refl)
    (compare_is c.args.shape.now c.args.attrs.now c.args.words.now c.helper_attr_is.result
    (search rules) (rw c.stack_bytes-bytes.ensures at c.helper_attr_is.ensures))

pub returns-then-helper-eq-ATTR_LEN : goal.returns-then-helper-eq-ATTR_LEN
returns-then-helper-eq-ATTR_LEN c =
    call_agrees c.args.shape.now c.args.attrs.now c.args.words.now c.args.helper
    (pos 3) c.helper_attr_len.result
    (is_number c.args.helper (pos 3) 3 c.ranges.helper c.if-helper-eq-ATTR_LEN.true refl)
    (length_is c.args.shape.now c.args.attrs.now c.args.words.now c.helper_attr_len.result
    c.helper_attr_len.ensures)

pub returns-else-helper-eq-ATTR_LEN : goal.returns-else-helper-eq-ATTR_LEN
returns-else-helper-eq-ATTR_LEN c =
    let four = bucket_ready c.args.shape.now c.args.attrs.now c.args.words.now c.args.helper
    c.requires (is_other c.args.helper (pos 1) 1 c.if-helper-eq-LOOKUP.false refl)
    (is_other c.args.helper (pos 2) 2 c.if-helper-eq-ATTR_IS.false refl)
    (is_other c.args.helper (pos 3) 3 c.if-helper-eq-ATTR_LEN.false refl) in
    call_agrees c.args.shape.now c.args.attrs.now c.args.words.now c.args.helper
    (pos 4) c.helper_bucket.result four
    (bucket_is c.args.shape.now c.args.attrs.now c.args.words.now c.helper_bucket.result
    c.helper_bucket.ensures)
