use Rattle.bpf_semantics.proofs.WordsKept.{keeps_words}
use Rattle.bpf_semantics.proofs.words.words_stay.Goals as goal

pub returns-clause-keeps : goal.returns-clause-keeps
returns-clause-keeps c = keeps_words c.results_fit.ensures
