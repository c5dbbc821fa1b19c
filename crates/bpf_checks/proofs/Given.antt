-- The laws of abs_value that the proofs use.
use Rattle.abs_value.specs.Laws.{IncludesResults, IncludesCopies, IncludesNegations}
use Rattle.abs_value.specs.Laws.{IncludesExtensions, IncludesReorderings, IncludesLoaded}
use Rattle.abs_value.specs.Laws.{IncludesSingle, IncludesUpTo, RegistersAreThere, OperandsAreThere}
use Rattle.abs_value.specs.Laws.{CoversWrites, CoversEdges, CoversCalls, CoversStores}
use Rattle.abs_value.specs.Laws.{CoversLoads, StaysBefore, AnswersBefore, BytesAreThere}

pub record Given : Type 0 where
  pub registers : RegistersAreThere
  pub operands : OperandsAreThere
  pub writes : CoversWrites
  pub calls : CoversCalls
  pub before : StaysBefore
  pub answering : AnswersBefore
  pub bytes : BytesAreThere
  pub results : IncludesResults
  pub copies : IncludesCopies
  pub negations : IncludesNegations
  pub extensions : IncludesExtensions
  pub reorderings : IncludesReorderings
  pub loaded : IncludesLoaded
  pub single : IncludesSingle
  pub up_to : IncludesUpTo
  pub edges : CoversEdges
  pub stores : CoversStores
  pub loads : CoversLoads
