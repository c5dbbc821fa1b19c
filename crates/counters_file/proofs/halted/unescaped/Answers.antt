use Rattle.std.proofs.Common.{◌∙◌, ◌≡◌, ◌++◌, ap, subst, sym, List, ℕ, Global}
use Rattle.std.specs.Prelude.{IsUtf8}
use Rattle.std.proofs.lemmas.Bool.{false≢true}
use Rattle.std.specs.declared.vec.Vec.{Vec}
use Rattle.percent_encoding.specs.Iter.{decoded_bytes}
use Rattle.percent_encoding.specs.Percent.{percent_decode}
use Rattle.counters_file.proofs.Unescaped.{no_text, text_found}
use Rattle.counters_file.proofs.halted.unescaped.Goals as goal

pub returns-in-Ok : goal.returns-in-Ok
returns-in-Ok c =
    let all : c.append_to.new.out.items ≡ percent_decode c.args.escaped.now =
    c.in_ok-append_to.ensures.ok
    ∙ ap (λ (bs : List ℕ). bs ++ decoded_bytes c.percent_decode.result) c.new-bytes.ensures.items
    ∙ c.percent_decode.ensures.bytes in
    text_found (percent_decode c.args.escaped.now) c.in-Ok.text _
    (ap (λ (v : Vec ℕ Global). v.items) c.in-Ok.ensures.ok ∙ all) c.if_can_be_halted.ensures

pub returns : goal.returns
returns c =
    let all : c.append_to.new.out.items ≡ percent_decode c.args.escaped.now =
    c.in_ok-append_to.ensures.ok
    ∙ ap (λ (bs : List ℕ). bs ++ decoded_bytes c.percent_decode.result) c.new-bytes.ensures.items
    ∙ c.percent_decode.ensures.bytes in
    no_text (percent_decode c.args.escaped.now)
    (λ is. false≢true (c.in-Err.ensures.succeeds (subst IsUtf8 (sym all) is)))
