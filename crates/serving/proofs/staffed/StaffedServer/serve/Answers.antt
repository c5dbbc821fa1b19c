use Rattle.std.proofs.Common.{◌≡◌, ℕ, ◌+◌, length, map, string_bytes, sym, ap, ◌∙◌, arith}
use Rattle.std.specs.declared.alloc.Global.{Global}
use Rattle.std.specs.declared.string.String.{String}
use Rattle.std.specs.declared.vec.Vec.{Vec}
use Rattle.std.proofs.lemmas.Slice.Zip.{AllZip-long}
use Rattle.hot_swap.specs.Published.{KnownPrefix}
use Rattle.serving.proofs.Ending.{are_of_server, has_looked, new_are_unused, new_belong}
use Rattle.serving.proofs.Leaving.{hands_back, leaves}
use Rattle.serving.proofs.Turns.{did_in_turn}
use Rattle.serving.proofs.staffed.StaffedServer.serve.Goals as goal

pub run_stored-requires-clause-pass : goal.run_stored-requires-clause-pass
run_stored-requires-clause-pass g c κs within = rw c.of-cells.ensures c.args.self.staff.own.of

pub run_stored-requires-clause-workers : goal.run_stored-requires-clause-workers
run_stored-requires-clause-workers g c κs within =
    rw c.of-cells.ensures
    (new_belong c.args.self.cells _ c.args.self.workers.items c.args.self.staff.each)

pub run_stored-requires-clause-new : goal.run_stored-requires-clause-new
run_stored-requires-clause-new g c κs within =
    new_are_unused c.args.self.cells.table _ c.args.self.workers.items c.args.self.staff.each

pub close_cells-ended-requires-clause-all : goal.close_cells-ended-requires-clause-all
close_cells-ended-requires-clause-all g c =
    let many = AllZip-long _ c.args.self.workers.items c.in-Ok.back.workers.items
    c.in-Ok.ensures.back.workers in
    rw (c.into_cells.ensures, c.of-cells.ensures)
    (c.args.self.staff.all ∙ ap (λ (n : ℕ). n + 1) (sym many))

pub close_cells-ended-requires-clause-operator : goal.close_cells-ended-requires-clause-operator
close_cells-ended-requires-clause-operator g c =
    rw c.into_cells.ensures c.in-Ok.ensures.back.operator.belongs_yet

pub close_cells-ended-requires-clause-workers : goal.close_cells-ended-requires-clause-workers
close_cells-ended-requires-clause-workers g c =
    let back = c.in-Ok.ensures.back in
    let operator = back.operator in
    let onwards = c.loads_monotone.ensures.onwards c.args.self.control back.last operator.lines
    operator.reads operator.led in
    rw (c.into_cells.ensures, c.of-cells.ensures)
    (are_of_server _ c.answers_are_runs.ensures.onwards c.args.self.cells
    c.args.self.control.publishing.known c.in-Ok.back.published.publisher
    c.args.self.workers.items c.in-Ok.back.workers.items
    (ap (λ (b : KnownPrefix). b.publisher) back.published_are ∙ onwards.publisher)
    c.args.self.staff.each (rw c.of-cells.ensures at back.workers))

pub close_cells-ended-requires-clause-generation :
    goal.close_cells-ended-requires-clause-generation
close_cells-ended-requires-clause-generation g c =
    c.in-Ok.ensures.back.published.last.generation_is

pub close_cells-ended-requires-clause-enough : goal.close_cells-ended-requires-clause-enough
close_cells-ended-requires-clause-enough g c =
    let many : length c.in-Ok.back.workers.items ≡ length c.args.self.workers.items =
    AllZip-long _ c.args.self.workers.items c.in-Ok.back.workers.items
    c.in-Ok.ensures.back.workers in
    let enough = c.args.self.enough in
    omega (arith, many, enough)

pub returns-in-Ok-left-clause-world : goal.returns-in-Ok-left-clause-world
returns-in-Ok-left-clause-world g c =
    let server = c.args.self in
    let known = server.control.publishing.known in
    let back = c.in-Ok.ensures.back in
    let operator = back.operator in
    let published = back.published in
    let laws = c.loads_monotone.ensures in
    let onwards =
    laws.onwards server.control back.last operator.lines operator.reads operator.led in
    let answers = c.answers_are_runs.ensures in
    let done = c.close_cells-ended.ensures in
    let left = c.in-Ok-left.ensures in
    let closed = c.close_cells-ended.result.closed in
    let own = rw (c.into_cells.ensures, c.of-cells.ensures) at done.own in
    let history = rw (c.into_cells.ensures, c.of-cells.ensures) at done.history in
    let quotas = rw (c.into_cells.ensures, c.of-cells.ensures) at done.quotas in
    let workers = rw c.of-cells.ensures at back.workers in
    let looked = has_looked c.passes_gain_lists.ensures server.cells.table server.pass
    operator.reads c.in-Ok.back.operator server.staff.own operator.grown
    (laws.reads server.control back.last operator.lines operator.reads operator.led) in
    hands_back _ _ server.cells server.control _ back.last.halted _ back.last.arrays _ closed.values
    (ap (λ (v : Vec (String Global) Global). map string_bytes v.items) (left.halted ∙ done.halted)
    ∙ back.halted_are)
    (left.arrays ∙ done.arrays ∙ back.arrays_are) left.values
    (leaves _ _ laws.only c.threads_grant_quotas.ensures c.servers_count_as_one.ensures.each
    server.cells server.control back.last
    operator.lines operator.reads c.in-Ok.back.published closed own
    operator.led back.directory server.only back.published_are published.sound
    (did_in_turn _ (record {
      gain = c.passes_gain_lists.ensures;
      onwards = answers.onwards;
      runs = answers.runs;
      stay = answers.stay;
      world = c.threads_are_one_world.ensures;
    }) server.cells known c.in-Ok.back.published published.rules c.in-Ok.back.operator
    server.workers.items c.in-Ok.back.workers.items closed
    published.last.rules_are published.sound looked
    (ap (λ (b : KnownPrefix). b.publisher) back.published_are ∙ onwards.publisher)
    server.staff.each workers (done.prefix left.known) done.passes history
    quotas))
