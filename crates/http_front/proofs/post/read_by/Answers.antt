use Rattle.std.proofs.Common.{◌≡◌, ◌∙◌, ℕ, Err, subst, sym, take, arith, rules}
use Rattle.std.proofs.lemmas.List.{take_rest}
use Rattle.http_front.specs.Post.{CountsDevice, post_answer}
use Rattle.http_front.proofs.Reading.{stands, body_at, refused_at, frugal_at, frugal_behind}
use Rattle.http_front.proofs.Reading.{counts_head}
use Rattle.http_front.proofs.post.read_by.Goals as goal

pub returns-in_err-size : goal.returns-in_err-size
returns-in_err-size g c =
    let head = c.in_ok-found.ensures in
    let here = stands head.found (omega arith) (omega arith) in
    let fault = c.in_err-size.field-0.0 in
    let is : c.from_residual-in_err-size.result ≡ Err fault = search rules in
    rw is (record {
      answers = refused_at _ _ _ _ _ fault here
          (sym c.requested_length.ensures.length ∙ c.in_err-size.was);
      frugal = frugal_at head.found.filled (omega arith) fault;
      count = counts_head (Unit {0}) _ _ fault c.in_err-size.ensures.rule head.count;
    })

pub returns : goal.returns
returns g c =
    let head = c.in_ok-found.ensures in
    let found = c.in_ok-found.found in
    let here = stands head.found (omega arith) (omega arith) in
    let behind = take_rest (take found.filled c.read_head.new.buf) found.head.len in
    let requested_length = sym c.requested_length.ensures.length ∙ c.in_ok-size.was in
    let size = c.in_ok-size.size in
    let result = c.read_body.result in
    let new = c.read_body.new.body.items in
    let body = c.read_body.ensures.body in
    record {
      answers = body_at _ _ _ _ _ size _ (post_answer result (λ _. new)) here requested_length
          behind body;
      frugal = frugal_behind _ _ _ _ _ _ size _ result (λ _. new) here body;
      count =
          subst (λ (n : ℕ). CountsDevice n c.read_body.new.reader.failures result)
          head.count c.read_body.ensures.count;
    }
