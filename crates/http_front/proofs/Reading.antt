-- From the contents of a buffer to the results that the reader's bytes have. `a` are all bytes of
-- the reader, `b` those that are left, if they are known; `seen` are the bytes between.
use Rattle.std.proofs.Common.{◌≡◌, ◌≤◌, ◌<◌, ℕ, length, length-take, length-append, map}
use Rattle.std.proofs.Common.{List, [], ◌∷◌, ◌++◌, take, drop, append_assoc, append-nil}
use Rattle.std.proofs.Common.{Option, Some, None, MatchOption, Result, Ok, Err, IfErr}
use Rattle.std.proofs.Common.{ap, ◌∙◌, sym, subst, arith}
use Rattle.std.proofs.lemmas.List.{length-map}
use Rattle.std.proofs.Math.Seq.{take-append_seam}
use Rattle.std.proofs.KnownBytes.{Consumes-trans}
use Rattle.std.specs.Io.KnownBytes.{Consumes, IsAtEnd}
use Rattle.httparse.specs.declared.spans.HeaderSpan.{HeaderSpan}
use Rattle.httparse.specs.declared.spans.RequestSpans.{RequestSpans}
use Rattle.httparse.specs.Grammar.{NeverHasRequest, RequestHead, print_request}
use Rattle.httparse.specs.Spans.{RequestExceeds, IsRequestAt, IsRequestOf, IsRequestWithin}
use Rattle.httparse.specs.Spans.{span_bytes, header_bytes, name_and_value}
use Rattle.net_io.specs.declared.counted.Failed.{Failed}
use Rattle.http_front.specs.declared.post_fault.PostFault.{PostFault}
use Rattle.http_front.specs.declared.post_fault.PostFault.TheVariants as fault
use Rattle.http_front.specs.declared.head.Found.{Found}
use Rattle.http_front.specs.Reading.{GainsBytes}
use Rattle.http_front.specs.Post.{Posts, whole, cut_short, refused, malformed, long, many, ended}
use Rattle.http_front.specs.Post.{HasHead, IsBegun, IsHeadFault, IsPostAnswer, AnswersPost}
use Rattle.http_front.specs.Post.{IsFrugal, TakesAtMost, CountsDevice, post_answer}
use Rattle.http_front.specs.Post.{head_limit, field_limit}
use Rattle.http_front.specs.Head.{IsFaultOfHead, body_length, body_length_by}
use Rattle.http_front.specs.Reading.{IsFilled, IsFound, IsBody, IsBodyAfter, body_length_at}

-- no head was found, so the bytes have none yet
pub begun_at : (seen : List ℕ) (headers : List HeaderSpan) (o : Option RequestSpans)
    → MatchOption o (IsBegun seen) (IsRequestOf seen headers) → o ≡ None → IsBegun seen
begun_at seen headers None h e = h
begun_at seen headers (Some r) h e = absurd (cc)

pub seen_size : (a b : Option (List ℕ)) (buf : List ℕ) (filled : ℕ)
    → IsFilled a b buf filled → length (take filled buf) ≡ filled
seen_size a b buf filled f = omega (arith, f.fits, length-take {A = ℕ} filled buf)

-- the bytes that were read are the first of all
front : (xs ys seen : List ℕ) → xs ≡ seen ++ ys → take (length seen) xs ≡ seen
front xs ys seen e = ap (take (length seen)) e ∙ take-append_seam seen ys

-- a read of nothing changes nothing
pub nothing_more : (a b c : Option (List ℕ)) (seen gained : List ℕ) → length gained ≡ 0
    → Consumes a b seen → Consumes b c gained → Consumes a c seen
nothing_more a b c seen [] e f g =
    let P : List ℕ → Type 0 = λ z. Consumes a c z in
    subst P (append-nil seen) (Consumes-trans a b c seen [] f g)
nothing_more a b c seen (x ∷ gained) e f g = absurd (omega arith)

-- the bytes can't become a head, or have too many lines
pub head_fault : (a b : Option (List ℕ)) (seen : List ℕ) (e : PostFault)
    → Consumes a b seen → length seen ≤ head_limit → IsHeadFault seen e → AnswersPost a (Err e)
head_fault None b seen e f short h = tt
head_fault (Some xs) None seen e f short h = absurd f
head_fault (Some xs) (Some ys) seen fault.Head f short h =
    let P : List ℕ → Type 0 = λ z. NeverHasRequest z in
    malformed (length seen) short (subst P (sym (front xs ys seen f)) h)
head_fault (Some xs) (Some ys) seen fault.HeadTooLarge f short h =
    let P : List ℕ → Type 0 = λ z. RequestExceeds field_limit z in
    many (length seen) short (subst P (sym (front xs ys seen f)) h)
head_fault (Some xs) (Some ys) seen e f short h = absurd h

-- 16,384 bytes, and no head
pub too_long : (a b : Option (List ℕ)) (seen : List ℕ)
    → Consumes a b seen → length seen ≡ head_limit → IsBegun seen
    → AnswersPost a (Err fault.HeadTooLarge)
too_long None b seen f full h = tt
too_long (Some xs) None seen f full h = absurd f
too_long (Some xs) (Some ys) seen f full h =
    let P : List ℕ → Type 0 = λ z. IsBegun z in
    let Q : ℕ → Type 0 = λ n. (n ≤ length xs) × IsBegun (take n xs) in
    let fits : length seen ≤ length xs =
    omega (arith, ap length f, length-append {A = ℕ} seen ys) in
    let both = subst Q full (fits, subst P (sym (front xs ys seen f)) h) in
    long both.0 both.1

-- the input ended, and no head
pub head_ended : (a b : Option (List ℕ)) (seen : List ℕ)
    → Consumes a b seen → length seen < head_limit → IsAtEnd b → IsBegun seen
    → AnswersPost a (Err fault.Ended)
head_ended None b seen f short end h = tt
head_ended (Some xs) None seen f short end h = absurd f
head_ended (Some xs) (Some ys) seen f short end h =
    let P : List ℕ → Type 0 = λ z. IsBegun z in
    let all : xs ≡ seen = f ∙ ap (λ (z : List ℕ). seen ++ z) end ∙ append-nil seen in
    ended (omega (arith, ap length all)) (subst P (sym all) h)

-- the head is at the front of all bytes, and is within its limits
has_head : (xs ys seen : List ℕ) (headers : List HeaderSpan) (r : RequestSpans) (h : RequestHead)
    → xs ≡ seen ++ ys → length seen ≤ head_limit → length headers ≡ field_limit
    → IsRequestWithin seen headers r → IsRequestAt seen headers r h
    → HasHead xs h (drop r.len seen ++ ys)
has_head xs ys seen headers r h e short lines w a =
    let rest = drop r.len seen in
    let first = take r.headers headers in
    let count : length first ≡ length h.fields =
    sym (length-map first (header_bytes seen)) ∙ ap length a.fields
    ∙ length-map h.fields name_and_value in
    let split = ap (λ (z : List ℕ). z ++ ys) a.reads.1 ∙ append_assoc (print_request h) rest ys in
    record {
      reads = (a.reads.0, e ∙ split);
      short = omega (arith, a.len, w.section.len_fits);
      few = omega (arith, count, length-take {A = HeaderSpan} r.headers headers);
    }

same_length : (seen : List ℕ) (headers : List HeaderSpan) (r : RequestSpans) (h : RequestHead)
    → IsRequestAt seen headers r h → body_length_at seen headers r ≡ body_length_by h
same_length seen headers r h a =
    let lines = map (header_bytes seen) (take r.headers headers) in
    ap (λ (z : List ℕ). body_length z (span_bytes seen r.method) lines) a.path
    ∙ ap (λ (z : List ℕ). body_length h.target z lines) a.method
    ∙ ap (body_length h.target h.method) a.fields

body_answer : (xs rest : List ℕ) (h : RequestHead) (n : ℕ) (r : Result (List ℕ) PostFault)
    → HasHead xs h rest → body_length_by h ≡ Ok n → IsBody rest n r → IsPostAnswer xs r
body_answer xs rest h n (Ok body) head e b =
    let P : List ℕ → Type 0 = λ z. Posts xs (Ok z) in
    subst P (sym b.1) (whole head e b.0)
body_answer xs rest h n (Err fault.Ended) head e b = cut_short head e b
body_answer xs rest h n (Err fault.Device) head e b = tt
body_answer xs rest h n (Err fault.Memory) head e b = tt
body_answer xs rest h n (Err x) head e b = absurd b

-- a whole head is at the front of the bytes read
pub record HasHeadAt
    (a b : Option (List ℕ)) (seen : List ℕ) (headers : List HeaderSpan) (r : RequestSpans)
    : Type 0 where
  pub bytes : Consumes a b seen
  pub short : length seen ≤ head_limit
  pub lines : length headers ≡ field_limit
  pub head : IsRequestOf seen headers r
  pub within : IsRequestWithin seen headers r

pub stands : {a b : Option (List ℕ)} {buf : List ℕ} {headers : List HeaderSpan} {f : Found}
    → IsFound a b buf headers f → length buf ≡ head_limit → length headers ≡ field_limit
    → HasHeadAt a b (take f.filled buf) headers f.head
stands {a = a} {b = b} {buf = buf} {f = f} found room lines =
    let size = seen_size a b buf f.filled found.filled in
    let fits = found.filled.fits in
    record {
      bytes = found.filled.bytes;
      short = omega (arith, size, fits);
      lines = lines;
      head = found.head;
      within = found.within;
    }

known_head : {xs ys seen : List ℕ} {headers : List HeaderSpan} {r : RequestSpans}
    → (s : HasHeadAt (Some xs) (Some ys) seen headers r)
    → HasHead xs s.head.0 (drop r.len seen ++ ys)
known_head {xs = xs} {ys = ys} {seen = seen} {headers = headers} {r = r} s =
    has_head xs ys seen headers r s.head.0 s.bytes s.short s.lines s.within s.head.1

told : {a b : Option (List ℕ)} {seen : List ℕ} {headers : List HeaderSpan} {r : RequestSpans}
    → (s : HasHeadAt a b seen headers r) → body_length_by s.head.0 ≡ body_length_at seen headers r
told {seen = seen} {headers = headers} {r = r} s =
    sym (same_length seen headers r s.head.0 s.head.1)

-- the body that follows the head is the result
pub body_at : (a b : Option (List ℕ)) (seen : List ℕ) (headers : List HeaderSpan)
    (r : RequestSpans) (n : ℕ) (first : List ℕ) (answer : Result (List ℕ) PostFault)
    → HasHeadAt a b seen headers r → body_length_at seen headers r ≡ Ok n → first ≡ drop r.len seen
    → IsBodyAfter first b n answer → AnswersPost a answer
body_at None b seen headers r n first answer s e split h = tt
body_at (Some xs) None seen headers r n first answer s e split h = absurd s.bytes
body_at (Some xs) (Some ys) seen headers r n first answer s e split h =
    let P : List ℕ → Type 0 = λ z. IsBody (z ++ ys) n answer in
    let rest = drop r.len seen ++ ys in
    body_answer xs rest s.head.0 n answer (known_head s) (told s ∙ e) (subst P split h)

-- a rule that the head breaks is the result
pub refused_at : (a b : Option (List ℕ)) (seen : List ℕ) (headers : List HeaderSpan)
    (r : RequestSpans) (x : PostFault)
    → HasHeadAt a b seen headers r → body_length_at seen headers r ≡ Err x → AnswersPost a (Err x)
refused_at None b seen headers r x s e = tt
refused_at (Some xs) None seen headers r x s e = absurd s.bytes
refused_at (Some xs) (Some ys) seen headers r fault.Device s e = tt
refused_at (Some xs) (Some ys) seen headers r fault.Memory s e = tt
refused_at (Some xs) (Some ys) seen headers r x s e = refused (known_head s) (told s ∙ e)

-- ---- the faults of a head that isn't whole, from the contents of a buffer

pub fault_at : {a b : Option (List ℕ)} {buf : List ℕ} {filled : ℕ}
    → IsFilled a b buf filled → length buf ≡ head_limit → (e : PostFault)
    → IsHeadFault (take filled buf) e → AnswersPost a (Err e)
fault_at {a = a} {b = b} {buf = buf} {filled = filled} f room e h =
    let short : length (take filled buf) ≤ head_limit =
    omega (arith, seen_size a b buf filled f, f.fits) in
    head_fault a b (take filled buf) e f.bytes short h

pub long_at : {a b : Option (List ℕ)} {buf : List ℕ} {filled : ℕ}
    → IsFilled a b buf filled → filled ≡ head_limit → IsBegun (take filled buf)
    → AnswersPost a (Err fault.HeadTooLarge)
long_at {a = a} {b = b} {buf = buf} {filled = filled} f full h =
    too_long a b (take filled buf) f.bytes (seen_size a b buf filled f ∙ full) h

pub ended_at : {a b : Option (List ℕ)} {buf : List ℕ} {filled : ℕ}
    → IsFilled a b buf filled → (c : Option (List ℕ)) (more : List ℕ) (n : ℕ)
    → filled < head_limit → n ≡ 0
    → GainsBytes {E = Failed} b c (take filled buf) more filled (Ok n) → IsAtEnd c
    → IsBegun (take filled buf) → AnswersPost a (Err fault.Ended)
ended_at {a = a} {b = b} {buf = buf} {filled = filled} f c more n short none g end h =
    let seen = take filled buf in
    let all = nothing_more a b c seen g.0 (g.2 ∙ none) f.bytes g.1 in
    let size : length seen < head_limit = omega (arith, seen_size a b buf filled f) in
    head_ended a c seen all size end h

-- ---- at most as many bytes were taken as a head may have

frugal : {a b : Option (List ℕ)} → TakesAtMost head_limit a b → (e : PostFault) → IsFrugal a b e
frugal t fault.Ended = tt
frugal t fault.Device = tt
frugal t fault.Memory = tt
frugal t e = t

-- a fault of the contents of a buffer as large as a head may be
pub frugal_at : {a b : Option (List ℕ)} {buf : List ℕ} {filled : ℕ}
    → IsFilled a b buf filled → length buf ≡ head_limit → (e : PostFault) → IsFrugal a b e
frugal_at {a = a} {b = b} {buf = buf} {filled = filled} f room e =
    let size = seen_size a b buf filled f in
    let fits = f.fits in
    frugal (record {
      taken = take filled buf;
      consumed = f.bytes;
      short = omega (arith, size, fits);
    }) e

-- a fault of a body isn't one of a head
pub frugal_behind : {A : Type 0} (a b : Option (List ℕ)) (seen : List ℕ)
    (headers : List HeaderSpan) (r : RequestSpans) (c : Option (List ℕ)) (n : ℕ) (first : List ℕ)
    (result : Result A PostFault) (body_of : A → List ℕ) → HasHeadAt a b seen headers r
    → IsBodyAfter first b n (post_answer result body_of) → IfErr result (IsFrugal a c)
frugal_behind a b seen headers r c n first (Ok x) body_of s h = tt
frugal_behind None b seen headers r c n first (Err e) body_of s h =
    frugal (record { taken = []; consumed = tt; short = omega arith }) e
frugal_behind (Some xs) None seen headers r c n first (Err e) body_of s h = absurd s.bytes
frugal_behind (Some xs) (Some ys) seen headers r c n first (Err fault.Ended) body_of s h = tt
frugal_behind (Some xs) (Some ys) seen headers r c n first (Err fault.Device) body_of s h = tt
frugal_behind (Some xs) (Some ys) seen headers r c n first (Err fault.Memory) body_of s h = tt
frugal_behind (Some xs) (Some ys) seen headers r c n first (Err e) body_of s h = absurd h

-- ---- a rule that a head breaks isn't a failure

pub counts_head : (A : Type 0) (old new : ℕ) (e : PostFault) → IsFaultOfHead e → new ≡ old
    → CountsDevice {A = A} old new (Err e)
counts_head A old new fault.Device h same = absurd h
counts_head A old new e h same = same
