-- Counting the names of a list, element by element.
use Rattle.std.proofs.Common.{◌≡◌, ◌∙◌, refl, sym, ap, subst, ℕ, ◌-◌, ◌<◌, arith}
use Rattle.std.proofs.Common.{List, [], ◌∷◌, ◌++◌, length, get_or, take, drop, append_assoc}
use Rattle.std.proofs.Common.{Bool, if◌then◌else◌, ◌+◌, ◌≤◌}
use Rattle.std.proofs.Math.ListN.{set}
use Rattle.std.proofs.Math.Seq.{take-length}
use Rattle.std.proofs.lemmas.List.{drop-set-lt, drop_more, length-drop, take-append-drop}
use Rattle.std.proofs.lemmas.List.{take_more_set}
use Rattle.report.specs.Members.{AppMembers}
use Rattle.report.specs.Counts.{NotesEach}
use Rattle.report.specs.Events.{NotesByte, closed_names, names_after, object_name}
use Rattle.report.specs.Names.{listed}
use Rattle.report.specs.Objects.{JsonPlace, after_byte, closes_object}
use Rattle.report.specs.Tallies.{RowName, Notes}
use Rattle.report.specs.declared.question.EventQuestion.{EventQuestion}
use Rattle.report.specs.declared.question.Question.{Question}
use Rattle.report.specs.declared.tally.Tally.{Tally}
use Rattle.report.proofs.Tallied.{notes_none, notes_both}

pub first_rest : {X : Type 0} (xs : List X) (x : X) → 0 < length xs → x ≡ get_or xs 0 x
    → xs ≡ x ∷ take (length xs - 1) (drop 1 xs)
first_rest [] x some is = absurd (omega (arith, some))
first_rest (y ∷ ys) x some is =
    let n : length (y ∷ ys) - 1 ≡ length ys = omega arith in
    ap (λ z. z ∷ ys) (sym is) ∙ ap (λ t. x ∷ t) (sym (ap (λ m. take m ys) n ∙ take-length ys))

-- the same of a list whose first element is read with this default
pub first_or : {X : Type 0} (d : X) (xs : List X) → 0 < length xs
    → xs ≡ get_or xs 0 d ∷ take (length xs - 1) (drop 1 xs)
first_or d [] some = absurd (omega (arith, some))
first_or d (y ∷ ys) some = first_rest (y ∷ ys) y some refl

-- of a list of bytes
pub first_byte : (xs : List ℕ) → 0 < length xs
    → xs ≡ get_or xs 0 0 ∷ take (length xs - 1) (drop 1 xs)
first_byte xs some = first_or 0 xs some

pub none_left : {X : Type 0} (xs : List X) → length xs < 1 → xs ≡ []
none_left [] few = refl
none_left (x ∷ xs) few = absurd (omega (arith, few))

module _ {X : Type 0} (names : List X → List RowName) (all : List RowName) (start old : Tally)
    (xs : List X) (so_far : (t : Tally) → Notes old t (names xs) → Notes start t all) where
  -- counts the names of the first element, and then those of the others
  pub more_noted : (x : X) (rest : List X) (part : List RowName) (new last : Tally)
      → xs ≡ x ∷ rest → names (x ∷ rest) ≡ part ++ names rest
      → Notes old new part → Notes new last (names rest) → Notes start last all
  more_noted x rest part new last is splits first others =
      so_far last (subst (λ (ns : List RowName). Notes old last ns)
      (sym (ap names is ∙ splits)) (notes_both old new last part (names rest) first others))

  -- no element is left
  pub all_noted : xs ≡ [] → names [] ≡ [] → Notes start old all
  all_noted is none =
      so_far old (subst (λ (ns : List RowName). Notes old old ns) (sym (ap names is ∙ none))
      (notes_none old))

-- the objects of a text, byte by byte
module _ (question : EventQuestion) (app : AppMembers) (appid : List ℕ) where
  abbrev names_if : Bool → List ℕ → List RowName
  names_if closes object =
      if closes then listed (object_name question app appid object) else []

  pub byte_noted : (b : ℕ) (closes : Bool) (object : List ℕ) (before after : JsonPlace)
      (old new : Tally) → after ≡ after_byte before b → closes ≡ closes_object before after
      → object ≡ after.object → Notes old new (names_if closes object)
      → NotesByte question app appid b before old after new
  unfolding names_after
  byte_noted b closes object before after old new is ends all first =
      let noted : Notes old new (closed_names question app appid before after) =
      subst (λ (k : Bool). Notes old new (names_if k after.object)) ends
      (subst (λ (o : List ℕ). Notes old new (names_if closes o)) all first) in
      record {
        extends = λ text last rest.
            notes_both old new last _ _
            (subst (λ (p : JsonPlace). Notes old new (closed_names question app appid before p))
            is noted)
            (subst (λ (p : JsonPlace). Notes new last (names_after question app appid p text)) is
            rest);
      }

  pub text_noted : (place : JsonPlace) (left : List ℕ) (all : List RowName) (begun old : Tally)
      → ((last : Tally) → Notes old last (names_after question app appid place left)
      → Notes begun last all)
      → length left < 1 → Notes begun old all
  unfolding names_after
  text_noted place [] all begun old so_far none = so_far old (notes_none old)
  text_noted place (b ∷ left) all begun old so_far none = absurd (omega (arith, none))

-- the tables, one after another
module _ (names : Question → List RowName) (all : List Question) (start : List Tally) where
  abbrev SoFar : List Question → (now : List Tally) → (place : ℕ) → Type 0
  SoFar left now place = (last : List Tally) → NotesEach names left (drop place now) last
      → NotesEach names all start (take place now ++ last)

  pub one_table : (left : List Question) (now : List Tally) (place : ℕ) (q : Question)
      (old new : Tally) → SoFar left now place → 0 < length left → place < length now
      → Notes (get_or now place old) new (names (get_or left 0 q))
      → SoFar (take (length left - 1) (drop 1 left)) (set now place new) (place + 1)
  one_table [] now place q old new so_far some within noted last others =
      absurd (omega (arith, some))
  one_table (first ∷ left) now place q old new so_far some within noted last others =
      let kept : drop (place + 1) (set now place new) ≡ drop (place + 1) now =
      drop-set-lt (place + 1) now place new (omega arith) in
      let rest : take (length (first ∷ left) - 1) left ≡ left =
      ap (λ (n : ℕ). take n left) (omega arith) ∙ take-length left in
      let noted_then : NotesEach names left (drop (place + 1) now) last =
      subst (λ (qs : List Question). NotesEach names qs (drop (place + 1) now) last) rest
      (subst (λ (ts : List Tally). NotesEach names
      (take (length (first ∷ left) - 1) left) ts last) kept others) in
      subst (NotesEach names all start)
      (sym (append_assoc (take place now) (new ∷ []) last)
      ∙ ap (λ (ts : List Tally). ts ++ last) (sym (take_more_set now place new within)))
      (so_far (new ∷ last) (subst (λ (ts : List Tally). NotesEach names (first ∷ left) ts
      (new ∷ last)) (sym (drop_more now place old within)) (noted, noted_then)))

  no_more : (left : List Question) (tallies : List Tally) → (1 ≤ length left → tallies ≡ [])
      → NotesEach names left tallies tallies
  no_more [] tallies none = refl
  no_more (q ∷ left) tallies none = rw (none (omega arith)) refl

  -- no question is left, or no table
  pub all_tables : (left : List Question) (now : List Tally) (place : ℕ) → SoFar left now place
      → (1 ≤ length left → length now ≤ place) → NotesEach names all start now
  all_tables left now place so_far none =
      subst (NotesEach names all start) (take-append-drop place now)
      (so_far (drop place now) (no_more left (drop place now)
      (λ some. none_left (drop place now) (omega (arith, none some, length-drop place now)))))
