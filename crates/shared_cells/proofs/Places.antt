-- A history whose passes are renumbered by their places in a list of accounts.
use Rattle.std.proofs.Common.{◌≡◌, ◌≢◌, ℕ, zero, suc, ◌+◌, ◌<◌, ◌≤◌}
use Rattle.std.proofs.Common.{Bool, true, false, List, [], ◌∷◌, length, get_or}
use Rattle.std.proofs.Common.{zero-add, refl, sym, ap, ◌∙◌, arith, inl, inr, ◌⊎◌}
use Rattle.std.specs.Prelude.{◌==◌, if◌then◌else◌, All}
use Rattle.std.proofs.lemmas.Bool.{cases_lt}
use Rattle.std.proofs.lemmas.Bool.Decides.{nat_tests}
use Rattle.cells.specs.declared.event.CellEvent.{CellEvent}
use Rattle.shared_cells.specs.declared.rule.Account.{Account}
use Rattle.shared_cells.specs.History.{Entry, all_events, events_by}
use Rattle.shared_cells.specs.Rule.{events_known, AgreesWith, accounts_of, one_if}
use Rattle.shared_cells.proofs.Accounts.{count-cons, one_itself}
use Rattle.shared_cells.proofs.Histories.{by_pass}

-- the place of the first account of a pass, or the length
abbrev place : List Account → ℕ → ℕ
place [] m = 0
place (x ∷ v) m = if x.number == m then 0 else suc (place v m)

abbrev pub by_place : List Account → List Entry → List Entry
by_place v [] = []
by_place v (x ∷ history) = by_pass (place v x.pass) x.event ∷ by_place v history

pub same_events : (v : List Account) (history : List Entry)
    → all_events (by_place v history) ≡ all_events history
same_events v [] = refl
same_events v (x ∷ history) = ap (λ (es : List CellEvent). x.event ∷ es) (same_events v history)

-- if only one number has a place, the events of the place are those of the number
moved : (v : List Account) (p k : ℕ) (history : List Entry)
    → ((m : ℕ) → (place v m == p) ≡ (m == k))
    → events_by p (by_place v history) ≡ events_by k history
moved v p k [] same = refl
moved v p k (x ∷ history) same =
    ap (λ (b : Bool). if b then x.event ∷ events_by p (by_place v history) else events_by p
    (by_place v history)) (same x.pass)
    ∙ ap (λ (es : List CellEvent). if x.pass == k then x.event ∷ es else es)
    (moved v p k history same)

no_zero : (n : ℕ) → (suc n == 0) ≡ false
no_zero n = grind (arith, nat_tests)

no_suc : (n : ℕ) → (0 == suc n) ≡ false
no_suc n = grind (arith, nat_tests)

suc_same : (n p : ℕ) → (suc n == suc p) ≡ (n == p)
suc_same n p = grind (arith, nat_tests)

head_is : (b c : Bool) (n : ℕ) → b ≡ c → ((if b then 0 else suc n) == 0) ≡ c
head_is true c n e = e
head_is false c n e = no_zero n ∙ e

turned : (a b : ℕ) → (a == b) ≡ (b == a)
turned a b = grind (arith, nat_tests)

differ : (a b m n : ℕ) → one_if (a == b) + n ≤ 1 → 0 < n → (a == m) ≡ true → (m == b) ≡ false
differ a b m n once some same = grind (arith, nat_tests)

tail_is : (b c : Bool) (n p : ℕ) → (b ≡ true → c ≡ false) → (n == p) ≡ c
    → ((if b then 0 else suc n) == suc p) ≡ c
tail_is true c n p first rest = no_suc p ∙ sym (first refl)
tail_is false c n p first rest = suc_same n p ∙ rest

-- an account is counted
pub counted : (v : List Account) (p : ℕ) (d : Account) → p < length v
    → 0 < accounts_of (get_or v p d).number v
counted [] p d lt = absurd (omega arith)
counted (x ∷ v) zero d lt = let c = count-cons x.number x v in let s = one_itself x.number in
    omega arith
counted (x ∷ v) (suc p) d lt = let c = count-cons (get_or v p d).number x v in let h =
    counted v p d (omega arith) in omega arith

-- the place of a number that occurs once
place_is : (v : List Account) (p : ℕ) (d : Account) → p < length v
    → accounts_of (get_or v p d).number v ≤ 1
    → (m : ℕ) → (place v m == p) ≡ (m == (get_or v p d).number)
place_is [] p d lt once m = absurd (omega arith)
place_is (x ∷ v) zero d lt once m =
    head_is (x.number == m) (m == x.number) (place v m) (turned x.number m)
place_is (x ∷ v) (suc p) d lt once m =
    let k = (get_or v p d).number in
    let count = count-cons k x v in
    let some = counted v p d (omega arith) in
    let le : one_if (x.number == k) + accounts_of k v ≤ 1 = omega arith in
    tail_is (x.number == m) (m == k) (place v m) p
    (λ same. differ x.number k m (accounts_of k v) le some same)
    (place_is v p d (omega arith) (omega arith) m)

-- a number without a place occurs in no account
missing : (v : List Account) (m : ℕ) → length v ≤ place v m → accounts_of m v ≡ 0
missing [] m le = refl
missing (x ∷ v) m le = by (x.number == m) (count-cons m x v)
    (λ (past : length v ≤ place v m). missing v m past) le
  where
    by : (b : Bool) → accounts_of m (x ∷ v) ≡ one_if b + accounts_of m v
        → (length v ≤ place v m → accounts_of m v ≡ 0)
        → suc (length v) ≤ (if b then 0 else suc (place v m)) → accounts_of m (x ∷ v) ≡ 0
    by true is rest le = absurd (omega arith)
    by false is rest le = is ∙ zero-add (accounts_of m v) ∙ rest (omega arith)

-- an entry is either dropped or is the first of its pass's events
dropped : (b : Bool) (x : CellEvent) (es : List CellEvent) → (if b then x ∷ es else es) ≡ []
    → es ≡ []
dropped true x es e = absurd (cc)
dropped false x es e = e

not_itself : (m : ℕ) (x : CellEvent) (es : List CellEvent) → (if m == m then x ∷ es else es) ≢ []
not_itself m x es e = by (m == m) (same m) e
  where
    same : (a : ℕ) → (a == a) ≡ true
    same a = grind (arith, nat_tests)

    by : (b : Bool) → b ≡ true → (if b then x ∷ es else es) ≢ []
    by true is e = absurd (cc)
    by false is e = absurd (cc)

-- past the accounts no pass has events, if each pass with events has an account
none_past : (v : List Account) (p : ℕ) (history : List Entry) → length v ≤ p
    → ((m : ℕ) → accounts_of m v ≡ 0 → events_by m history ≡ [])
    → events_by p (by_place v history) ≡ []
none_past v p [] le known = refl
none_past v p (x ∷ history) le known =
    by (place v x.pass == p) refl
    (none_past v p history le (λ m none. dropped (x.pass == m) x.event (events_by m history)
    (known m none)))
  where
    equal : (a b : ℕ) → (a == b) ≡ true → a ≡ b
    equal a b e = grind (arith, nat_tests)

    by : (b : Bool) → (place v x.pass == p) ≡ b → events_by p (by_place v history) ≡ []
        → (if b then x.event ∷ events_by p (by_place v history) else events_by p
        (by_place v history)) ≡ []
    by true is rest =
        let at = equal (place v x.pass) p is in
        absurd (not_itself x.pass x.event (events_by x.pass history)
        (known x.pass (missing v x.pass (omega arith))))
    by false is rest = rest

past_end : {A : Type 0} (l : List A) (i : ℕ) (d : A) → length l ≤ i → get_or l i d ≡ d
past_end [] i d le = refl
past_end (x ∷ xs) zero d le = absurd (omega arith)
past_end (x ∷ xs) (suc i) d le = past_end xs i d (omega arith)

known_at : (v : List Account) (p : ℕ) (d : Account) → p < length v
    → get_or (events_known v) p [] ≡ (get_or v p d).events
known_at [] p d lt = absurd (omega arith)
known_at (x ∷ v) zero d lt = refl
known_at (x ∷ v) (suc p) d lt = known_at v p d (omega arith)

pub length_known : (v : List Account) → length (events_known v) ≡ length v
length_known [] = refl
length_known (x ∷ v) = ap suc (length_known v)

-- accounts that agree, each number at most once and none left out, are the lists of the renumbered
-- history
pub own_by_place : (v : List Account) (history : List Entry) → All (AgreesWith history) v
    → ((m : ℕ) → accounts_of m v ≤ 1)
    → ((m : ℕ) → accounts_of m v ≡ 0 → events_by m history ≡ [])
    → (p : ℕ) → events_by p (by_place v history) ≡ get_or (events_known v) p []
own_by_place v history agrees once known p = by (cases_lt p (length v))
  where
    some_account : Account
    some_account = record { number = 0; events = [] }

    by : (p < length v) ⊎ (length v ≤ p)
        → events_by p (by_place v history) ≡ get_or (events_known v) p []
    by (inl lt) =
        let x = get_or v p some_account in
        moved v p x.number history (place_is v p some_account lt (once x.number))
        ∙ agrees p some_account lt ∙ sym (known_at v p some_account lt)
    by (inr le) =
        none_past v p history le known
        ∙ sym (past_end (events_known v) p [] (let l = length_known v in omega arith))
