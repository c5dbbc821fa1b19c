-- Servers one after another count as one server does.
use Rattle.std.proofs.Common.{◌≡◌, ℕ, ◌+◌, min, List, [], ◌∷◌, ◌++◌, sym, ap, subst, ◌∙◌, arith}
use Rattle.std.specs.Prelude.{slice_index}
use Rattle.std.proofs.lemmas.List.Elements.{All-head, All-tail}
use Rattle.cells.specs.declared.event.CellEvent.{CellEvent}
use Rattle.shared_cells.specs.Passes.{events_made}
use Rattle.shared_cells.specs.Quotas.{CountsExactly, add_count, yes_count}
use Rattle.restart_laws.specs.Servers.{made_by_all, IsExact, Counted, ServersCountAsOne}
use Rattle.restart_laws.specs.Servers.{EachCountsOn}
use Rattle.restart_laws.proofs.Counts.{yes-append, adds-append}

none_counted : (c v : ℕ) → CountsExactly c v v []
none_counted c v = record { value_is = omega arith; yes_is = λ q. omega arith }

-- `a` additions and `y` places of the first events, `more` and `ys` of those after them
yes_adds : (q opening middle a y ys more : ℕ) → middle ≡ opening + a
    → y + min q opening ≡ min q (opening + a) → ys + min q middle ≡ min q (middle + more)
    → y + ys + min q opening ≡ min q (opening + (a + more))
yes_adds q opening middle a y ys more is here rest = omega arith

both_counted : (c opening middle value : ℕ) (es more : List CellEvent)
    → CountsExactly c opening middle es → CountsExactly c middle value more
    → CountsExactly c opening value (es ++ more)
both_counted c opening middle value es more first rest =
    let adds = adds-append c es more in
    let left = first.value_is in
    let last = rest.value_is in
    record {
      value_is = omega (arith, adds, left, last);
      yes_is = λ q.
          ap (λ (n : ℕ). n + min q opening) (yes-append c q es more)
          ∙ yes_adds q opening middle (add_count c es) (yes_count c q es) (yes_count c q more)
          (add_count c more) left (first.yes_is q) (rest.yes_is q)
          ∙ ap (λ (n : ℕ). min q (opening + n)) (sym adds);
    }

both_exact : (c : ℕ) (opening middle values : List ℕ) (es more : List CellEvent)
    → IsExact c opening middle es → IsExact c middle values more
    → IsExact c opening values (es ++ more)
both_exact c opening middle values es more first rest fits =
    let adds = adds-append c es more in
    let here = first (omega (arith, adds, fits)) in
    let left = here.value_is in
    both_counted c (slice_index opening c) (slice_index middle c) (slice_index values c) es more
    here (rest (omega (arith, adds, fits, left)))

pub as_one : ServersCountAsOne
as_one c opening values [] same all = λ fits.
    subst (λ (l : List ℕ). CountsExactly c (slice_index opening c) (slice_index l c) []) (sym same)
    (none_counted c (slice_index opening c))
as_one c opening values (server ∷ later) follow all =
    let here = subst (λ (l : List ℕ). IsExact c l server.values (events_made server.passes))
    follow.0 (All-head (Counted c) server later all) in
    both_exact c opening server.values values (events_made server.passes) (made_by_all later) here
    (as_one c server.values values later follow.1 (All-tail (Counted c) server later all))

pub counts_on : EachCountsOn
counts_on c server here opening before follow all =
    both_exact c opening server.cells.opening server.values (made_by_all before)
    (events_made server.passes) (as_one c opening server.cells.opening before follow all) here
