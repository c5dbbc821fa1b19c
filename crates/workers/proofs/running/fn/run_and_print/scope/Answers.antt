use Rattle.std.proofs.Common.{◌≡◌, ℕ, length, sym, ap, subst, arith}
use Rattle.std.proofs.lemmas.Slice.Zip.{AllZip-long}
use Rattle.std.specs.Prelude.{Vec}
use Rattle.std.specs.declared.alloc.Global.{Global}
use Rattle.hot_swap.specs.Published.{KnownPrefix}
use Rattle.workers.specs.Back.{WorkersBack}
use Rattle.workers.proofs.Lines.{returned_by}
use Rattle.workers.proofs.Served.{all_back}
use Rattle.workers.proofs.running.fn.run_and_print.scope.Goals as goal

pub joined-staff-requires : goal.joined-staff-requires
joined-staff-requires g c =
    let many : length c.in-Ok-start_workers.threads.items ≡ length c.captures.workers.items =
    AllZip-long _ c.captures.workers.items c.in-Ok-start_workers.threads.items
    c.in-Ok-start_workers.ensures in
    let workers = c.captures.workers.ok.0 in
    let threads = c.in-Ok-start_workers.threads.ok.0 in
    let room = c.in-Ok.ensures.capacity in
    record {
      empty = c.in-Ok.ensures.items;
      enough = omega (arith, many, workers, threads, room);
    }

pub returns : goal.returns
returns g c =
    let P = g.row.C-Pass.Denot in
    let K = g.row.K.Denot in
    let withholds = g.K.Cover.withholds in
    let belongs = g.C.CellSteps.belongs in
    let grew = g.C.CellSteps.grew in
    let cells = c.captures.parts.now.cells.now in
    let cover = c.captures.crew.cover.now in
    let old = c.captures.workers.items in
    let back = c.returned-back.ensures in
    record {
      back = record {
        last = c.operate_then_end-ended.new.control;
        operator = returned_by _ grew (belongs cells) _ _ _ _ _ _ back.operator back.end
            c.operate_then_end-ended.ensures;
        workers = subst (λ (y : K). WorkersBack (withholds y) (belongs cells) grew old
            c.returned-back.result.workers.items) c.requires.cover
            (subst (WorkersBack (withholds cover) (belongs cells) grew old)
            (sym (ap (λ (v : Vec (P × KnownPrefix) Global). v.items) back.workers))
            (all_back withholds belongs grew cells cover old c.in-Ok-start_workers.threads.items
            c.joined-staff.result.items c.in-Ok-start_workers.ensures c.joined-staff.ensures));
        directory = back.directory;
        arrays_are = back.arrays;
        halted_are = back.halted;
        published_are = back.known;
        published = back.published;
      };
      printed = subst (λ (n : ℕ). g.S.Ready.prints c.captures.ready n c.in-Ok-print.printed)
          c.generation.ensures c.in-Ok-print.ensures;
    }
