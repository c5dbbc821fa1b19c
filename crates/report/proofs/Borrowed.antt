-- A value whose texts are borrowed has the data that its text has.
use Rattle.std.proofs.Common.{◌≡◌, ◌∙◌, refl, sym, ap, ℕ, List, [], ◌∷◌, Bool, true, false, ◌&&◌}
use Rattle.std.proofs.Common.{Option, Some, None, option_map, option_and_then, is_some, cond}
use Rattle.std.proofs.Common.{if◌then◌else◌}
use Rattle.std.specs.Str.{bytes_eq}
use Rattle.std.specs.Cmp.Lexicographic.{bytes_decides}
use Rattle.json.specs.Find as find
use Rattle.json.specs.Json as json
use Rattle.json.specs.Lex.{tokens}
use Rattle.json.specs.Token.{Token}
use Rattle.serde_json.proofs.Views.{get_member-put, get_member-put_other}
use Rattle.serde_json.specs.Data.{Data, Num, number, string, array, object, Items, item}
use Rattle.serde_json.specs.Data.{Members, no_members, put}
use Rattle.serde_json.specs.Find.{get, get_member, as_array, as_bool, as_number, as_str, as_u64}
use Rattle.serde_json.specs.Read.{of_json, of_items, of_members, number_of, read}
use Rattle.report.specs.Borrowed.{data_of, items_data, members_data, number_data}
use Rattle.report.specs.LogEvents.{flag_in, list_in, number_in, text_in}
use Rattle.report.specs.Borrowed.{in_range, items_in_range, members_in_range}

-- ---- the data of a value that is in range

abbrev some_if : {A : Type 0} → Bool → A → Option A
some_if holds a = if holds then Some a else None

mapped : {A B : Type 0} (f : A → B) (b : Bool) (a : A)
    → option_map f (some_if b a) ≡ some_if b (f a)
mapped f true a = refl
mapped f false a = refl

then_mapped : {A B C : Type 0} (f : A → B → C) (b c : Bool) (x : A) (y : B)
    → option_and_then (λ a. option_map (f a) (some_if c y)) (some_if b x) ≡ some_if (b && c) (f x y)
then_mapped f true true x y = refl
then_mapped f true false x y = refl
then_mapped f false c x y = refl

then_some : {A B : Type 0} (f : A → Option B) (b c : Bool) (x : A) (y : B) → f x ≡ some_if c y
    → option_and_then f (some_if b x) ≡ some_if (b && c) y
then_some f true c x y is = is
then_some f false c x y is = refl

a_number : (o : Option Num) → option_map number o ≡ some_if (is_some o) (number_data o)
a_number (Some n) = refl
a_number None = refl

mutual
  data_if : (j : json.Json) → of_json j ≡ some_if (in_range j) (data_of j)
  data_if json.null = refl
  data_if (json.boolean b) = refl
  data_if (json.number s) = a_number (number_of s)
  data_if (json.string s) = refl
  data_if (json.array js) =
      ap (option_map array) (items_if js) ∙ mapped array (items_in_range js) (items_data js)
  data_if (json.object ms) =
      ap (option_map object) (members_if ms no_members)
      ∙ mapped object (members_in_range ms) (members_data ms no_members)

  items_if : (js : json.Items) → of_items js ≡ some_if (items_in_range js) (items_data js)
  items_if json.no_items = refl
  items_if (json.item j js) =
      ap (option_and_then (λ d. option_map (item d) (of_items js))) (data_if j)
      ∙ ap (λ (o : Option Items). option_and_then (λ d. option_map (item d) o)
      (some_if (in_range j) (data_of j))) (items_if js)
      ∙ then_mapped item (in_range j) (items_in_range js) (data_of j) (items_data js)

  members_if : (ms : json.Members) (found : Members)
      → of_members ms found ≡ some_if (members_in_range ms) (members_data ms found)
  members_if json.no_members found = refl
  members_if (json.member k j ms) found =
      ap (option_and_then (λ d. of_members ms (put k d found))) (data_if j)
      ∙ then_some (λ d. of_members ms (put k d found)) (in_range j) (members_in_range ms)
      (data_of j) (members_data ms (put k (data_of j) found))
      (members_if ms (put k (data_of j) found))

-- ---- looking into it

abbrev or_else : {A : Type 0} → Option A → Option A → Option A
or_else (Some a) other = Some a
or_else None other = other

found_at : (name k : List ℕ) (j : json.Json) (found : Members) (b : Bool) → bytes_eq k name ≡ b
    → get_member name (put k (data_of j) found)
    ≡ or_else (option_map data_of (cond b (Some j) None)) (get_member name found)
found_at name k j found true same =
    ap (λ (n : List ℕ). get_member n (put k (data_of j) found))
    (sym ((bytes_decides k name).0 same)) ∙ get_member-put k (data_of j) found
found_at name k j found false differs =
    get_member-put_other name k (data_of j) found
    (λ is. true_is_not_false (sym ((bytes_decides k name).1 (sym is)) ∙ differs))
  where
    true_is_not_false : true ≡ false → ⊥
    true_is_not_false same = cc

later : (o p : Option json.Json) (q : Option Data)
    → or_else (option_map data_of o) (or_else (option_map data_of p) q)
    ≡ or_else (option_map data_of (find.later_or o p)) q
later (Some j) p q = refl
later None p q = refl

members_found : (name : List ℕ) (ms : json.Members) (found : Members)
    → get_member name (members_data ms found)
    ≡ or_else (option_map data_of (find.get_member name ms)) (get_member name found)
members_found name json.no_members found = refl
members_found name (json.member k j ms) found =
    members_found name ms (put k (data_of j) found)
    ∙ ap (or_else (option_map data_of (find.get_member name ms)))
    (found_at name k j found (bytes_eq k name) refl)
    ∙ later (find.get_member name ms) (cond (bytes_eq k name) (Some j) None)
    (get_member name found)

none_else : {A : Type 0} (o : Option A) → or_else o None ≡ o
none_else None = refl
none_else (Some a) = refl

not_in_number : (name : List ℕ) (o : Option Num) → get name (number_data o) ≡ None
not_in_number name (Some n) = refl
not_in_number name None = refl

member_data : (name : List ℕ) (j : json.Json)
    → get name (data_of j) ≡ option_map data_of (find.get name j)
member_data name json.null = refl
member_data name (json.boolean b) = refl
member_data name (json.number s) = not_in_number name (number_of s)
member_data name (json.string s) = refl
member_data name (json.array js) = refl
member_data name (json.object ms) = members_found name ms no_members ∙ none_else _

-- ---- a member of a kind

text_data : (j : json.Json) → as_str (data_of j) ≡ find.as_str j
text_data json.null = refl
text_data (json.boolean b) = refl
text_data (json.number s) = no_text (number_of s)
  where
    no_text : (o : Option Num) → as_str (number_data o) ≡ None
    no_text (Some n) = refl
    no_text None = refl
text_data (json.string s) = refl
text_data (json.array js) = refl
text_data (json.object ms) = refl

flag_data : (j : json.Json) → as_bool (data_of j) ≡ find.as_bool j
flag_data json.null = refl
flag_data (json.boolean b) = refl
flag_data (json.number s) = no_flag (number_of s)
  where
    no_flag : (o : Option Num) → as_bool (number_data o) ≡ None
    no_flag (Some n) = refl
    no_flag None = refl
flag_data (json.string s) = refl
flag_data (json.array js) = refl
flag_data (json.object ms) = refl

list_data : (j : json.Json) → as_array (data_of j) ≡ option_map items_data (find.as_array j)
list_data json.null = refl
list_data (json.boolean b) = refl
list_data (json.number s) = no_list (number_of s)
  where
    no_list : (o : Option Num) → as_array (number_data o) ≡ None
    no_list (Some n) = refl
    no_list None = refl
list_data (json.string s) = refl
list_data (json.array js) = refl
list_data (json.object ms) = refl

number_is_data : (o : Option Num) → as_number (number_data o) ≡ o
number_is_data (Some n) = refl
number_is_data None = refl

numbers_data : (j : json.Json) → option_and_then as_u64 (as_number (data_of j))
    ≡ option_and_then (λ s. option_and_then as_u64 (number_of s)) (find.as_number j)
numbers_data json.null = refl
numbers_data (json.boolean b) = refl
numbers_data (json.number s) = ap (option_and_then as_u64) (number_is_data (number_of s))
numbers_data (json.string s) = refl
numbers_data (json.array js) = refl
numbers_data (json.object ms) = refl

module _ (name : List ℕ) (j : json.Json) where
  pub found : (m : json.Json) → Some m ≡ find.get name j → Some (data_of m) ≡ get name (data_of j)
  found m is = ap (option_map data_of) is ∙ sym (member_data name j)

  pub not_found : None ≡ find.get name j → None ≡ get name (data_of j)
  not_found none = ap (option_map data_of) none ∙ sym (member_data name j)

  pub missing : {A : Type 0} (kind : Data → Option A) → None ≡ find.get name j
      → None ≡ option_and_then kind (get name (data_of j))
  missing kind none =
      sym (ap (option_and_then kind) (member_data name j ∙ ap (option_map data_of) (sym none)))

  at_member : {A : Type 0} (kind : Data → Option A) (m : json.Json) → Some m ≡ find.get name j
      → option_and_then kind (get name (data_of j)) ≡ kind (data_of m)
  at_member kind m is =
      ap (option_and_then kind) (member_data name j ∙ ap (option_map data_of) (sym is))

  pub text_found : (m : json.Json) → Some m ≡ find.get name j → (text : Option (List ℕ))
      → text ≡ find.as_str m → text ≡ text_in name (data_of j)
  text_found m is text text_is = text_is ∙ sym (text_data m) ∙ sym (at_member as_str m is)

  pub flag_found : (m : json.Json) → Some m ≡ find.get name j → (flag : Option Bool)
      → flag ≡ find.as_bool m → flag ≡ flag_in name (data_of j)
  flag_found m is flag flag_is = flag_is ∙ sym (flag_data m) ∙ sym (at_member as_bool m is)

  pub list_found : (m : json.Json) → Some m ≡ find.get name j → (list : Option Items)
      → list ≡ option_map items_data (find.as_array m) → list ≡ list_in name (data_of j)
  list_found m is list list_is = list_is ∙ sym (list_data m) ∙ sym (at_member as_array m is)

  pub no_number : None ≡ find.get name j → None ≡ number_in name (data_of j)
  no_number none =
      sym (ap (λ (o : Option Data). option_and_then as_u64 (option_and_then as_number o))
      (member_data name j ∙ ap (option_map data_of) (sym none)))

  pub number_found : (m : json.Json) → Some m ≡ find.get name j → (n : Option ℕ)
      → n ≡ option_and_then (λ s. option_and_then as_u64 (number_of s)) (find.as_number m)
      → n ≡ number_in name (data_of j)
  number_found m is n n_is =
      n_is ∙ sym (numbers_data m) ∙ sym (ap (option_and_then as_u64) (at_member as_number m is))

-- ---- the whole text

abbrev whole : Option (json.Json × List Token) → Option Data
whole o = option_and_then of_json (option_and_then (λ p. json.if_last p.0 p.1) o)

pub text_read : (text : List ℕ) (j : json.Json) → json.value 127 (tokens text) ≡ Some (j, [])
    → in_range j ≡ true → read text ≡ Some (data_of j)
text_read text j is fits =
    ap whole is ∙ data_if j ∙ ap (λ (b : Bool). some_if b (data_of j)) fits

pub text_out_of_range : (text : List ℕ) (j : json.Json)
    → json.value 127 (tokens text) ≡ Some (j, []) → in_range j ≡ false → read text ≡ None
text_out_of_range text j is fails =
    ap whole is ∙ data_if j ∙ ap (λ (b : Bool). some_if b (data_of j)) fails

pub text_and_more : (text : List ℕ) (j : json.Json) (t : Token) (more : List Token)
    → json.value 127 (tokens text) ≡ Some (j, t ∷ more) → read text ≡ None
text_and_more text j t more is = ap whole is

pub text_not_read : (text : List ℕ) → json.value 127 (tokens text) ≡ None → read text ≡ None
text_not_read text none = ap whole none
