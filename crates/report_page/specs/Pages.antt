-- A page of a report: its fixed head, its content, and its fixed end.
use Rattle.std.specs.Prelude.{◌≡◌, ℕ, List, ◌++◌, Bool, Option, is_some, IfSome, String}
use Rattle.std.specs.Prelude.{string_bytes}
use Rattle.std.specs.declared.alloc.Global.{Global}
use Rattle.markup.specs.WellFormed.{IsContent}
use Rattle.report_page.specs.declared.head.TheConstants.{PAGE_END, PAGE_HEAD}

-- The content is made of the elements, attributes and classes of `markup`, so it has no script and
-- no style. The head is the same in every page, and so is the end.
pub record IsPage (text : List ℕ) : Type 0 where
  pub content : List ℕ
  pub is_content : IsContent content
  pub text_is : text ≡ PAGE_HEAD.now ++ content ++ PAGE_END.now

-- the text of a page, if one is written
pub record HasPage (written : Bool) (output : Option (String Global)) : Type 0 where
  pub is_written : is_some output ≡ written
  pub page : IfSome output (λ text. IsPage (string_bytes text))
