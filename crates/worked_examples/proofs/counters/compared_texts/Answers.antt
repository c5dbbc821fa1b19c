use Rattle.std.proofs.Common.{◌≡◌, ℕ, List, [], ◌∷◌, Option, Some, None, refl, ap}
use Rattle.std.specs.Prelude.{slice_get}
use Rattle.attrs.specs.Attributes.{Attributes}
use Rattle.attrs.specs.Helpers.{is_text}
use Rattle.bpf_semantics.specs.State.{State, opening, with_register, with_bytes}
use Rattle.bpf_semantics.specs.Outcome.{answer}
use Rattle.bpf_semantics.specs.Run.{EndsWith, last, more}
use Rattle.worked_examples.specs.CounterPrograms.{version_is_program}
use Rattle.worked_examples.proofs.counters.compared_texts.Goals as goal

-- the state in which the helper is called
abbrev called : Attributes → State
called a =
    let registers = with_register
    (with_register (with_register (with_register (opening a) 1 1) 2 0x20000000) 2 0x1FFFFFF8) 3 1 in
    record registers { stack = with_bytes (λ k. None) 504 1 49; slot = 5; count = 5 }

answers : (a : Attributes) (text : List ℕ) → slice_get a.texts 1 ≡ Some text
    → EndsWith version_is_program a (is_text (49 ∷ []) (Some text)) 7
answers a text e shape =
    more refl (more refl (more refl (more refl (more refl (more (ap (λ (o : Option (List ℕ)).
    answer (called a) (Some (is_text (49 ∷ []) o))) e) (last refl refl))))))

pub returns : goal.returns
returns c = record {
  same = λ a e. answers a (49 ∷ []) e;
  other = λ a e. answers a (48 ∷ 49 ∷ []) e;
}
