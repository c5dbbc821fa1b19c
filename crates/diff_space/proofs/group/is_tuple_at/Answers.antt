use Rattle.std.proofs.Common.{Contains, List, ap, arith, subst, sym, ℕ, ◌∙◌}
use Rattle.diff_space.specs.Groups.{Tuple, all_cells}
use Rattle.diff_space.proofs.Grown.{has_at}
use Rattle.diff_space.proofs.group.is_tuple_at.Goals as goal

pub returns : goal.returns
returns c = λ same.
    let tuples = c.args.tuples.now in
    let t = c.index-tuples-place.result in
    subst (λ (cells : List ℕ). Contains (all_cells tuples) cells)
    (sym (ap (λ (u : Tuple). u.cells) c.tuple.view_is) ∙ sym c.deref.ensures.value
    ∙ c.are_same.ensures same)
    (has_at tuples c.args.place t t (omega arith) c.index-tuples-place.is)
