use Rattle.std.proofs.Common.{[], ◌∷◌, All, map, string_bytes, sym, ap, subst, ◌∙◌, arith}
use Rattle.hot_swap.specs.Latest.{Publishing}
use Rattle.hot_swap.specs.Published.{KnownPrefix}
use Rattle.operator.specs.Control.{LastLoad}
use Rattle.ruleset.specs.Rules.{Rules}
use Rattle.serving.specs.Staff.{IsNewWorker}
use Rattle.serving.proofs.Leaving.{knows_first}
use Rattle.serving.proofs.Staffing.{is_staff}
use Rattle.serving.proofs.new_staff.staff.Goals as goal

pub invariant_of-result : goal.invariant_of-result
invariant_of-result g c =
    let made = c.in-Ok-opened.ensures in
    let cells = c.in-Ok-opened.made.0 in
    let workers = c.in-Ok-worker_list.workers.items in
    let known = ap (λ (p : Publishing). p.known) c.new-in-Ok-worker_list.ensures.publishing
    ∙ c.in-Ok-worker_list.ensures.known in
    let is = is_staff cells c.new-in-Ok-worker_list.result.publishing.known
    c.in-Ok-opened.made.1.items c.pop.new.self.items c.in-Some.pass workers
    (made.many ∙ sym made.all) made.each c.in-Some.ensures.items
    c.in-Ok-worker_list.ensures.all
    (λ new. subst (λ (b : KnownPrefix). All (IsNewWorker cells.table b) workers) (sym known)
    (c.in-Ok-worker_list.ensures.each cells.table new)) in
    let halted = map string_bytes c.args.halted.items in
    let rules = c.in-Ok.ensures in
    let listed = ap (λ (b : KnownPrefix). b.rulesets) known ∙ c.in-Ok-new.ensures.listed
    ∙ ap (λ (r : Rules). r ∷ []) (rw c.deref.ensures.value at rules.served) in
    let all = is.all in
    let many = made.many in
    let room = c.in_ok-room.ensures.capacity in
    record {
      staff = is;
      only = knows_first c.halts_sound.ensures.arrays c.new-in-Ok-worker_list.result
          c.args.loaded.directory c.args.loaded.rules halted c.new-in-Ok-worker_list.ensures.arrays
          (ap (λ (l : LastLoad). l.rules) c.new-in-Ok-worker_list.ensures.last
          ∙ rules.loaded)
          listed c.requires.only;
      empty = c.in_ok-room.ensures.items;
      enough = omega (arith, all, many, room);
      many = c.requires.cells.count;
    }
