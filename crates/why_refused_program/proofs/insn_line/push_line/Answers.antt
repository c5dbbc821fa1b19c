use Rattle.std.proofs.Common.{rules, codes, length, string_bytes, ap, ◌∙◌, subst, ℕ, List, ◌++◌}
use Rattle.bpf_text.specs.Listing.{bare_line}
use Rattle.why_refused_program.specs.Lines.{IsPlain, line_with, pad_to_comment}
use Rattle.why_refused_program.proofs.Texts.{line_gathered}
use Rattle.why_refused_program.proofs.insn_line.push_line.Goals as goal

pub returns : goal.returns
returns c =
    let comment = c.in_ok-comment.ensures in
    let line = bare_line c.args.insn.now in
    let text = string_bytes c.in_ok-comment.comment in
    record {
      why = comment.0;
      plain = subst IsPlain comment.1 (record { plain = search rules });
      text_is = rw (
        c.in_ok-push_str-3.ensures.bytes,
        c.in_ok-push_str-2.ensures.bytes,
        c.as_str-2.ensures.value,
        c.in_ok-push_str.ensures.bytes,
        c.in_ok-push_padded.ensures,
      ) (line_gathered (string_bytes c.args.text.now) line (pad_to_comment (length line))
          (codes "; ") text (codes "\n"))
          ∙ ap (λ (t : List ℕ). string_bytes c.args.text.now ++ line_with c.args.insn.now t)
          comment.1;
    }
