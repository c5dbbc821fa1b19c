-- Up to three values, in order.
use Rattle.std.specs.Prelude.{Some, None, option_map}
use Rattle.bpf_text.specs.declared.three.UpToThree.{UpToThree}

abbrev pub none : {A : Type 0} → UpToThree A
none = record { first = None; second = None; third = None }

abbrev pub one : {A : Type 0} → A → UpToThree A
one a = record { first = Some a; second = None; third = None }

abbrev pub two : {A : Type 0} → A → A → UpToThree A
two a b = record { first = Some a; second = Some b; third = None }

abbrev pub three : {A : Type 0} → A → A → A → UpToThree A
three a b c = record { first = Some a; second = Some b; third = Some c }

abbrev pub map_three : {A B : Type 0} → (A → B) → UpToThree A → UpToThree B
map_three f t = record {
  first = option_map f t.first;
  second = option_map f t.second;
  third = option_map f t.third;
}
