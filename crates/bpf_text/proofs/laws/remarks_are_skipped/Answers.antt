use Rattle.bpf_text.proofs.Remarks.{remarks_are_skipped}
use Rattle.bpf_text.proofs.laws.remarks_are_skipped.Goals as goal

pub returns : goal.returns
returns c = remarks_are_skipped
