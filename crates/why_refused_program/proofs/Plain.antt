-- A comment without a control character is a remark.
use Rattle.std.proofs.Common.{◌≡◌, ℕ, zero, suc, List, [], ◌∷◌, ◌++◌, replicate}
use Rattle.std.proofs.Common.{codes, Bool, true, ◌&&◌, nat_le}
use Rattle.std.proofs.Common.{refl, sym, ap, ◌∙◌, subst, append_assoc}
use Rattle.std.proofs.lemmas.List.Folds.{list_all-append}
use Rattle.std.specs.List.{list_all}
use Rattle.bpf_text.specs.Remarks.{is_blank_or_comment, IsRemark}
use Rattle.why_refused_program.specs.Lines.{IsPlain}

word : (t : List ℕ) → list_all (λ c. nat_le 32 c) t ≡ true → IsPlain t
word t h = record { plain = h }

both : {a b : List ℕ} → IsPlain a → IsPlain b → IsPlain (a ++ b)
both {a} {b} h k = record {
  plain = list_all-append (λ c. nat_le 32 c) a b
      ∙ ap (λ (x : Bool). x && list_all (λ c. nat_le 32 c) b) h.plain ∙ k.plain;
}

blanks_plain : (n : ℕ) → IsPlain (replicate n 32)
blanks_plain zero = word [] refl
blanks_plain (suc n) = word (32 ∷ replicate n 32) (blanks_plain n).plain

blanks_skipped : (n : ℕ) (text : List ℕ) → is_blank_or_comment text ≡ true
    → is_blank_or_comment (replicate n 32 ++ text) ≡ true
blanks_skipped zero text h = h
blanks_skipped (suc n) text h = blanks_skipped n text h

-- the comment begins after some blanks
pub comment_remark : (n : ℕ) (text : List ℕ) → IsPlain text
    → IsRemark ((replicate n 32 ++ codes "; ") ++ text)
comment_remark n text h = record {
  skipped = subst (λ t. is_blank_or_comment t ≡ true)
      (sym (append_assoc (replicate n 32) (codes "; ") text))
      (blanks_skipped n (codes "; " ++ text) refl);
  plain = (both (both (blanks_plain n) (word (codes "; ") refl)) h).plain;
}
