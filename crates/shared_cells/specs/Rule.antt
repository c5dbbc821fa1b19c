-- The rule of the table. There is a legal history (a linearization without real-time order), and
-- the words have the values after it. What the seats, which are ghost tokens, know of the passes
-- agrees with the history.
use Rattle.std.specs.Prelude.{◌≡◌, ℕ, zero, suc, ◌<◌, ◌≤◌, ◌==◌, nat_lt, Bool, if◌then◌else◌}
use Rattle.std.specs.Prelude.{List, [], ◌∷◌, ◌++◌, All, length, slice_index, map, count_by, sum_by}
use mathlib.Core.Option.{some}
use lib.ListN.{get_elem?}
use Rattle.atomic_table.specs.Table.{State, Me}
use Rattle.cells.specs.declared.event.CellOp.{CellOp}
use Rattle.cells.specs.declared.event.CellEvent.{CellEvent}
use Rattle.cells.specs.Events.{event, reply_of}
use Rattle.shared_cells.specs.declared.rule.Account.{Account}
use Rattle.shared_cells.specs.History.{Entry, all_events, events_by, IsLegal}
use Rattle.shared_cells.specs.Words.{stored_word, stored_value}

-- ---- what a seat knows: accounts, each the number of a pass and the events that it made

abbrev pub account : ℕ → List CellEvent → Account
account p made = record { number = p; events = made }

-- n passes without events, numbered from p on
abbrev pub new_accounts : ℕ → ℕ → List Account
new_accounts p zero = []
new_accounts p (suc n) = account p [] ∷ new_accounts (suc p) n

abbrev pub all_but_first : List Account → List Account
all_but_first [] = []
all_but_first (x ∷ rest) = rest

abbrev pub first_only : List Account → List Account
first_only [] = []
first_only (x ∷ rest) = x ∷ []

-- the first account gains an event
abbrev pub with_event : CellEvent → List Account → List Account
with_event e [] = []
with_event e (x ∷ rest) = account x.number (x.events ++ e ∷ []) ∷ rest

abbrev pub first_number : List Account → ℕ
first_number [] = 0
first_number (x ∷ rest) = x.number

abbrev pub first_events : List Account → List CellEvent
first_events [] = []
first_events (x ∷ rest) = x.events

-- a seat that knows only one pass: that of a thread
abbrev pub KnowsOne : {S : Type 0} → Me S (List Account) → Type 0
KnowsOne me = me.0 ≡ account (first_number me.0) (first_events me.0) ∷ []

abbrev pub events_known : List Account → List (List CellEvent)
events_known = map (λ x. x.events)

-- the result of a step: the seat's pass gained the event, which replies by the word that was found
abbrev pub Gains : {S : Type 0} → ℕ → CellOp → Me S (List Account) → ℕ → Me S (List Account)
    → Type 0
Gains cell op old found new =
    new ≡ (with_event (event cell op (reply_of (stored_value cell found) op)) old.0, old.1)

-- ---- the rule

-- the account is the history's list of its pass
abbrev pub AgreesWith : List Entry → Account → Type 0
AgreesWith history x = events_by x.number history ≡ x.events

-- how many of the accounts are of this pass
abbrev pub accounts_of : ℕ → List Account → ℕ
accounts_of p = count_by (λ x. x.number == p)

abbrev pub one_if : Bool → ℕ
one_if test = if test then 1 else 0

-- `n` is the number of passes
pub record HasHistory {S : Type 0} (opening : List ℕ) (n : ℕ)
    (s : State S (List Account)) : Type 0 where
  pub history : List Entry
  pub values : List ℕ
  pub legal : IsLegal opening (all_events history) values
  -- (follows from `legal`; the proofs use it)
  pub cells : length values ≡ 8192
  pub words : length s.words ≡ 8192
  pub stored : (c : ℕ) → c < 8192 → slice_index s.words c ≡ stored_word c (slice_index values c)
  pub agrees : (id : ℕ) (v : List Account)
      → get_elem? s.views id ≡ some v → All (AgreesWith history) v
  -- over all seats there is one account of each pass, and no other account
  pub once : (p : ℕ) → sum_by (accounts_of p) s.views ≡ one_if (nat_lt p n)
  -- (follows from `once`; the proofs use it)
  pub whole : sum_by length s.views ≡ n
  pub known : (p : ℕ) → n ≤ p → events_by p history ≡ []
