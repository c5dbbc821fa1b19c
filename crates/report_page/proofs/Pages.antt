-- A head, content and an end are a page.
use Rattle.std.proofs.Common.{◌≡◌, refl, ℕ, List, ◌++◌}
use Rattle.markup.specs.WellFormed.{IsContent}
use Rattle.report_page.specs.Pages.{IsPage}
use Rattle.report_page.specs.declared.head.TheConstants.{PAGE_END, PAGE_HEAD}

pub framed : (content shown head begun all : List ℕ) → IsContent content → shown ≡ content
    → head ≡ PAGE_HEAD.now → begun ≡ head ++ shown → all ≡ begun ++ PAGE_END.now → IsPage all
framed content shown head begun all is put begins grows ends = record {
  content = content;
  is_content = is;
  text_is = rw (ends, grows, begins, put) refl;
}
