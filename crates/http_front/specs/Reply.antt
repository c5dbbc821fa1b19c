-- What a reply is, byte for byte (RFC 9112, sections 4 and 5).
use Rattle.std.specs.Prelude.{ℕ, List, [], ◌∷◌, ◌++◌, length, codes, decimal}
use Rattle.http_front.specs.declared.status.Status.{Status}
use Rattle.http_front.specs.declared.status.Status.TheVariants as status

abbrev pub crlf : List ℕ
crlf = 13 ∷ 10 ∷ []

-- the numbers and reasons of RFC 9110, section 15, and of RFC 6585, section 5
abbrev pub code_of : Status → ℕ
code_of status.Success = 200
code_of status.BadRequest = 400
code_of status.NotFound = 404
code_of status.MethodNotAllowed = 405
code_of status.LengthRequired = 411
code_of status.ContentTooLarge = 413
code_of status.HeaderFieldsTooLarge = 431
code_of status.InternalServerError = 500
code_of status.ServiceUnavailable = 503

abbrev pub reason_of : Status → List ℕ
reason_of status.Success = codes "OK"
reason_of status.BadRequest = codes "Bad Request"
reason_of status.NotFound = codes "Not Found"
reason_of status.MethodNotAllowed = codes "Method Not Allowed"
reason_of status.LengthRequired = codes "Length Required"
reason_of status.ContentTooLarge = codes "Content Too Large"
reason_of status.HeaderFieldsTooLarge = codes "Request Header Fields Too Large"
reason_of status.InternalServerError = codes "Internal Server Error"
reason_of status.ServiceUnavailable = codes "Service Unavailable"

-- a reply to a request is JSON, and a refusal is plain text
abbrev pub type_of : Status → List ℕ
type_of status.Success = codes "application/json; charset=utf-8"
type_of s = codes "text/plain"

-- the allowed methods of the target, in a reply of 405
abbrev pub allow_line : Status → List ℕ
allow_line status.MethodNotAllowed = codes "Allow: POST" ++ crlf
allow_line s = []

abbrev pub status_line : Status → List ℕ
status_line s = codes "HTTP/1.1 " ++ decimal (code_of s) ++ (codes " " ++ reason_of s ++ crlf)

abbrev pub type_line : Status → List ℕ
type_line s = codes "Content-Type: " ++ type_of s ++ crlf

abbrev pub length_line : ℕ → List ℕ
length_line size = codes "Content-Length: " ++ decimal size ++ crlf

abbrev pub close_line : List ℕ
close_line = codes "Connection: close" ++ crlf

unfoldable pub reply_head : Status → ℕ → List ℕ
reply_head s size =
    status_line s ++ type_line s ++ length_line size ++ allow_line s ++ close_line ++ crlf

-- the bytes of a reply
abbrev pub reply_bytes : Status → List ℕ → List ℕ
reply_bytes s body = reply_head s (length body) ++ body
