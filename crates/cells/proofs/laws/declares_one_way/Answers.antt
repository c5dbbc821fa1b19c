use Rattle.cells.proofs.OneWay.{one_way, names_kept, directory_kept}
use Rattle.cells.proofs.laws.declares_one_way.Goals as goal

pub returns-clause-one_way : goal.returns-clause-one_way
returns-clause-one_way c = one_way

pub returns-clause-names : goal.returns-clause-names
returns-clause-names c = λ d old n new apart declares. names_kept d apart declares

pub returns-clause-directory : goal.returns-clause-directory
returns-clause-directory c = λ d old n new lawful known declares.
    directory_kept d lawful known declares
