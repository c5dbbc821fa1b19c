use Rattle.report_page.proofs.Pages.{framed}
use Rattle.report_page.proofs.page.page_text.Goals as goal

pub returns : goal.returns
returns c =
    framed _ _ _ _ _ c.in_ok-content.ensures c.as_str.ensures.value c.in_ok-text.ensures.ok
    c.in_ok-push_str.ensures.bytes c.in_ok-push_str-2.ensures.bytes
