use Rattle.std.proofs.Common.{[]}
use Rattle.markup.proofs.Steps.{emptied}
use Rattle.markup.proofs.document.Document.content.Goals as goal

pub invariant_of-result : goal.invariant_of-result
invariant_of-result c = emptied _ [] _ c.new-2.ensures.items c.new.ensures.bytes
