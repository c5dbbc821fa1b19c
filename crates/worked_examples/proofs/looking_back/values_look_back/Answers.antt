use Rattle.worked_examples.proofs.ValuesBack as value
use Rattle.worked_examples.proofs.looking_back.values_look_back.Goals as goal

pub returns : goal.returns
returns c = record {
  results = value.results;
  negated = value.negated;
  extended = value.extended;
  reordered = value.reordered;
  loaded = value.loaded;
  wide = value.wide_loads;
  copied = value.copied;
}
