use Rattle.std.proofs.Common.{◌∙◌, ap}
use Rattle.std.specs.Prelude.{Vec}
use Rattle.std.specs.Borrow.{Bor}
use Rattle.std.specs.declared.alloc.Global.{Global}
use Rattle.clap.specs.Words.{Text, found_of}
use Rattle.cli_base.proofs.Attributes.{kept_texts, texts, texts_none, texts_some}
use Rattle.cli_base.proofs.values.texts_of.Goals as goal

pub returns-in-Some : goal.returns-in-Some
returns-in-Some c =
    kept_texts (λ (v : Vec (Bor Text) Global). v.items) c.from_slice.result _ _
    c.from_slice.ensures.items
    (texts_some (found_of c.args.found.now) _ _ _ c.get_strs.ensures c.in-Some.is)

pub returns-in-None : goal.returns-in-None
returns-in-None c =
    ap texts c.new.ensures.items
    ∙ texts_none (found_of c.args.found.now) _ _ c.get_strs.ensures c.in-None.is
