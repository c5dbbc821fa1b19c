use Rattle.bpf_semantics.proofs.WordHelpers.{all_keep_most}
use Rattle.bpf_semantics.proofs.helpers.numbers_are_within.Goals as goal

pub returns : goal.returns
returns c = all_keep_most
