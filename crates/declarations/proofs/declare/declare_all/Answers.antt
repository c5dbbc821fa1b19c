use Rattle.std.proofs.Common.{refl}
use Rattle.std.proofs.lemmas.Option.{slice_get_read}
use Rattle.declarations.specs.Order.AreDeclared.{none}
use Rattle.declarations.proofs.Orders.{all_begin, all_within, one_more}
use Rattle.declarations.proofs.declare.declare_all.Goals as goal

pub loop-before-init : goal.loop-before-init
loop-before-init c = rw c.new-numbers.ensures.items none

pub returns-clause-within : goal.returns-clause-within
returns-clause-within c =
    (all_within c.loop-before.invariant).0

pub returns-clause-grown : goal.returns-clause-grown
returns-clause-grown c = all_begin c.loop-before.invariant

pub returns-in-Err-clause-grown : goal.returns-in-Err-clause-grown
returns-in-Err-clause-grown c = rw c.in-Err.ensures.same (all_begin c.loop-before.invariant)

pub returns-in-Err-clause-refused : goal.returns-in-Err-clause-refused
returns-in-Err-clause-refused c = record {
  before = c.loop-before.before;
  number_is = refl;
  numbers = c.loop-before.numbers.items;
  declared = rw c.in-Err.ensures.same c.loop-before.invariant;
  d = c.index-declarations-before.result;
  declaration_is = slice_get_read c.args.declarations.now _ c.loop-before.before _ refl
      c.loop-before-test.true c.index-declarations-before.is;
  refused = rw c.in-Err.ensures.same c.in-Err.ensures.refused;
}

pub loop-before-preserved : goal.loop-before-preserved
loop-before-preserved c =
    let more = c.in_default.ensures.declared in
    rw more.2
    (one_more c.args.declarations.now c.loop-before.before _ c.loop-before.invariant
    c.loop-before-test.true c.index-declarations-before.is more.1)
