use Rattle.std.proofs.Common.{rules, ◌≡◌, None, refl}
use Rattle.bpf_text.specs.Labels.{slot_at}
use Rattle.bpf_text.specs.Names.{line_named}
use Rattle.bpf_text.specs.Assembly.{fault_of_body, has_slot}
use Rattle.bpf_text.proofs.Placing.{read_on}
use Rattle.bpf_text.proofs.scan.add_line.Goals as goal

pub returns-clause-on : goal.returns-clause-on
returns-clause-on c =
    let before = c.args.reading.now in
    let l = line_named c.args.line in
    let fine : fault_of_body before.slots (has_slot (slot_at before.labels) l.label) l.body ≡ None =
    search rules in
    read_on before _ l c.requires.small fine refl (search rules) (search rules) (search rules)
