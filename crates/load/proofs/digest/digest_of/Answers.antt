use Rattle.std.proofs.Common.{ℕ, List, Option, ap, sym, subst, arith}
use Rattle.std.specs.Option.{IsSome}
use Rattle.std.specs.Prelude.{option_map}
use Rattle.load.specs.Digest.{framed}
use Rattle.load.proofs.Framing.{one_file, no_file, all_files}
use Rattle.load.proofs.Whole.{all_digested}
use Rattle.load.proofs.Slices.{first_rest, none_left}
use Rattle.load.proofs.digest.digest_of.Goals as goal

pub returns-in-None-clause-digest : goal.returns-in-None-clause-digest
returns-in-None-clause-digest c =
    let left = first_rest c.loop-left.left.now c.app-item.result (omega arith) c.app-item.is in
    no_file c.loop-left.left.now _ c.app-item.result left
    (ap (λ (file : Option (List ℕ)). option_map framed file) (sym c.in-None.ensures))
    c.loop-left.invariant

pub returns-in-None-clause-judged : goal.returns-in-None-clause-judged
returns-in-None-clause-judged c = λ programs judged.
    subst (λ (digest : Option (List ℕ)). IsSome digest) (sym (returns-in-None-clause-digest c))
    (all_digested c.args.manifest.now c.args.apps.now programs judged)

pub loop-left-preserved : goal.loop-left-preserved
loop-left-preserved c =
    let left = first_rest c.loop-left.left.now c.app-item.result (omega arith) c.app-item.is in
    one_file c.loop-left.left.now _ c.app-item.result c.in-Some.bytes.now left
    (ap (λ (file : Option (List ℕ)). option_map framed file) (sym c.in-Some.ensures))
    c.add_piece-in-Some.ensures c.loop-left.invariant

pub returns-clause-digest : goal.returns-clause-digest
returns-clause-digest c =
    all_files c.loop-left.left.now c.finalize.result (none_left c.loop-left.left.now (omega arith))
    c.finalize.ensures c.loop-left.invariant
