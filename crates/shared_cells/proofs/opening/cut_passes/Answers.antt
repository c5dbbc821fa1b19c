use Rattle.std.proofs.Common.{◌≡◌, ℕ, ◌+◌, ◌-◌, ◌<◌, List, [], ◌∷◌, ◌++◌}
use Rattle.std.proofs.Common.{length, sym, ap, ◌∙◌, arith, length-append}
use Rattle.atomic_table.specs.Table.{Me}
use Rattle.std.proofs.lemmas.List.Elements.{All-same, All-push}
use Rattle.shared_cells.specs.declared.rule.Account.{Account}
use Rattle.shared_cells.specs.Rule.{all_but_first, first_only, first_number}
use Rattle.shared_cells.specs.Rule.{first_events, account, new_accounts}
use Rattle.shared_cells.specs.Passes.{PassView, IsNewPass}
use Rattle.shared_cells.proofs.Cutting.{splits, cut_from}
use Rattle.shared_cells.proofs.opening.cut_passes.Goals as goal

pub split_seat-first-requires : goal.split_seat-first-requires
split_seat-first-requires c = (
  c.loop.invariant.same ∙ c.requires.seat,
  c.requires.words,
  splits c.args.words.now.key.values.value.items c.args.words.now.key.passes
      c.loop.seat.id c.loop.seat.me.0,
)

abbrev Known : Type 0
Known = Me (Unit {0}) (List Account)

-- the new seat (a ghost token) has the first of the remaining accounts
first_is : (before first : Known) (k n : ℕ) → k < n → before ≡ (new_accounts k (n - k), [])
    → first ≡ (first_only before.0, []) → first ≡ (account k [] ∷ [], [])
first_is before first k n lt left is =
    is ∙ ap (λ (m : Known). (first_only m.0, [])) left
    ∙ ap (λ (v : List Account). (v, [])) (cut_from k n lt).1

rest_is : (before after : Known) (k n : ℕ) → k < n → before ≡ (new_accounts k (n - k), [])
    → after ≡ (all_but_first before.0, before.1) → after ≡ (new_accounts (k + 1) (n - (k + 1)), [])
rest_is before after k n lt left is =
    is ∙ ap (λ (m : Known). (all_but_first m.0, m.1)) left
    ∙ ap (λ (v : List Account). (v, [])) (cut_from k n lt).0

pub new-requires-clause-one : goal.new-requires-clause-one
new-requires-clause-one c =
    let r = first_is c.loop.seat.me c.split_seat-first.result.me c.loop.counter (c.args.count + 1)
    (omega arith) c.loop.invariant.left c.split_seat-first.ensures.4 in
    ap (λ (m : Known). m.0) r ∙ sym (ap
    (λ (m : Known). account (first_number m.0) (first_events m.0) ∷ []) r)

pub new-requires-clause-none : goal.new-requires-clause-none
new-requires-clause-none c =
    ap (λ (m : Known). m.1)
    (first_is c.loop.seat.me c.split_seat-first.result.me c.loop.counter (c.args.count + 1)
    (omega arith) c.loop.invariant.left c.split_seat-first.ensures.4)

pub loop-preserved : goal.loop-preserved
loop-preserved c =
    let e = c.split_seat-first.ensures in
    let r = first_is c.loop.seat.me c.split_seat-first.result.me c.loop.counter (c.args.count + 1)
    (omega arith) c.loop.invariant.left e.4 in
    let pushed = c.in_ok-push.ensures.items in
    let P : PassView → Type 0 = IsNewPass c.args.words.now.table_id in
    let items : List PassView = c.push.new.self.items in
    let more : List PassView = c.loop.made.items ++ c.new.result ∷ [] in
    let new : P c.new.result = record {
      of = c.new.ensures.table ∙ e.3 ∙ c.loop.invariant.same ∙ c.requires.seat;
      none = c.new.ensures.events ∙ ap (λ (m : Known). first_events m.0) r;
    } in record {
      same = e.0 ∙ c.loop.invariant.same;
      left = rest_is c.loop.seat.me c.split_seat-first.new.seat.me c.loop.counter (c.args.count + 1)
          (omega arith) c.loop.invariant.left e.2;
      many = ap (λ (l : List PassView). length l) {x = items} {y = more} pushed
          ∙ length-append c.loop.made.items (c.new.result ∷ [])
          ∙ ap (λ (n : ℕ). n + 1) c.loop.invariant.many;
      each = All-same P c.push.new.self.items (c.loop.made.items ++ c.new.result ∷ []) pushed
          (All-push P c.loop.made.items c.new.result c.loop.invariant.each new);
    }
