use Rattle.std.proofs.Common.{◌≡◌, ◌∙◌, Ok, ap, map, refl, string_bytes, subst}
use Rattle.std.specs.Prelude.{All}
use Rattle.cells.specs.Directory.{IsDirectory}
use Rattle.cells.specs.Events.{AreCells}
use Rattle.counters_file.specs.Lines.{CanCount}
use Rattle.counters_file.specs.Text.{Contents, contents, contents_in, kept}
use Rattle.counters_file.proofs.Committed.{kept_by, whole_by}
use Rattle.counters_file.proofs.store.commit.Goals as goal

pub returns : goal.returns
returns g c =
    let k : Contents = contents c.args.was_stopped (map string_bytes c.args.halted.now)
    c.args.directory.now c.args.values.now in
    let arrays = c.arrays-arrays.ensures.arrays in
    let back : AreCells c.args.values.now → contents_in c.as_bytes.result.now ≡ Ok (kept k)
    = λ cells. ap contents_in (c.as_bytes.ensures.value ∙ c.in-Ok.ensures.text)
    ∙ c.reads_back.ensures k c.in-Ok.ensures.texts
    (c.if-not-all_can_be_halted.ensures refl) (record {
      names = c.in-Ok.ensures.names;
      directory = subst IsDirectory arrays c.arrays-arrays.ensures.directory;
      cells = cells;
      counted =
          subst (All (CanCount c.args.values.now)) arrays
          (c.if-not-all_can_count.ensures refl);
    }) in
    record {
      stored = λ cells. kept_by c.replace.result _ _ k _ c.replace.ensures.replaced (back cells);
      whole = λ cells. whole_by c.replace.result _ _ k _ c.replace.ensures.whole (back cells);
    }
