-- What is appended to a line in several steps.
use Rattle.std.proofs.Common.{◌≡◌, ℕ, List, [], ◌∷◌, ◌++◌, Bool, true, false, refl, sym, ap, ◌∙◌}
use Rattle.std.proofs.Common.{append_assoc, append-nil, codes, ◌+◌, ◌-◌, length, arith}
use Rattle.std.proofs.Common.{length-append}
use Rattle.std.specs.Prelude.{decimal}
use Rattle.std.specs.Str.{chars}
use Rattle.json.specs.Print.{escape_byte, separator, ends}
use Rattle.json.specs.Token.{Token, begin_object, end_object, key, string, number, boolean}
use Rattle.access_log.specs.Line.{begun_at, object_with, line_with}
use Rattle.access_log.specs.Members.{text_member, number_member, flag_member}
use Rattle.access_log.specs.Plain.{is_plain_text, named}
use Rattle.access_log.specs.Spelled.{spelled, spelled_from, spelled_quoted, spelled_token}
use Rattle.access_log.specs.Spelled.{size_of}
use Rattle.access_log.specs.Tokens.{AddsTokens, AddsMembers, IsHarmlessToken, ends_after}
use Rattle.access_log.specs.Utc.{utc_text}
use Rattle.access_log.specs.declared.log_event.LineHeader.{LineHeader}
use Rattle.access_log.specs.declared.utc.Utc.{Utc}
use Rattle.access_log.proofs.Escaped.{plain_spelled, time_stands}
use Rattle.access_log.proofs.Harmless.{all_harmless, decimal_is_harmless}

pub spelled_from-append : (before : Bool) (ts us : List Token)
    → spelled_from before (ts ++ us)
    ≡ spelled_from before ts ++ spelled_from (ends_after before ts) us
unfolding spelled_from
spelled_from-append before [] us = refl
spelled_from-append before (t ∷ ts) us =
    ap (λ l. separator before t ++ (spelled_token t ++ l)) (spelled_from-append (ends t) ts us)
    ∙ ap (λ l. separator before t ++ l) (sym (append_assoc (spelled_token t) _ _))
    ∙ sym (append_assoc (separator before t) _ _)

pub adds_nothing : (before : Bool) (line : List ℕ) → AddsTokens before before line line []
unfolding spelled_from
adds_nothing before line = record {
  text = sym (append-nil line);
  ended = refl;
  harmless = tt;
}

-- whether two lists, one after the other, end with the end of a value
pub ends_joined : (before : Bool) (xs ys : List Token)
    → ends_after before (xs ++ ys) ≡ ends_after (ends_after before xs) ys
ends_joined before [] ys = refl
ends_joined before (t ∷ xs) ys = ends_joined (ends t) xs ys

pub then_adds : {p q r : Bool} {a b c : List ℕ} {xs ys : List Token}
    → AddsTokens p q a b xs → AddsTokens q r b c ys → AddsTokens p r a c (xs ++ ys)
then_adds {p} {q} {r} {a} {b} {c} {xs} {ys} first last = record {
  text =
      last.text ∙ ap (λ l. l ++ spelled_from q ys) first.text
      ∙ append_assoc a (spelled_from p xs) (spelled_from q ys)
      ∙ ap (λ s. a ++ (spelled_from p xs ++ spelled_from s ys)) (sym first.ended)
      ∙ ap (λ l. a ++ l) (sym (spelled_from-append p xs ys));
  ended = ends_joined p xs ys ∙ ap (λ s. ends_after s ys) first.ended ∙ last.ended;
  harmless = all_harmless xs ys first.harmless last.harmless;
}

-- ---- members

-- a name that needs no escape, followed by a value
member_text : (line name value : List ℕ)
    → (line ++ ((44 ∷ 34 ∷ []) ++ name ++ 34 ∷ 58 ∷ [])) ++ value
    ≡ line ++ (44 ∷ ((34 ∷ (name ++ 34 ∷ [])) ++ 58 ∷ []) ++ (value ++ []))
member_text line name value =
    append_assoc line ((44 ∷ 34 ∷ []) ++ name ++ 34 ∷ 58 ∷ []) value
    ∙ ap (λ v. line ++ (44 ∷ 34 ∷ ((name ++ 34 ∷ 58 ∷ []) ++ v))) (sym (append-nil value))
    ∙ ap (λ n. line ++ (44 ∷ 34 ∷ (n ++ (value ++ []))))
    (sym (append_assoc name (34 ∷ []) (58 ∷ [])))

adds_member : {a b c name : List ℕ} (t : Token) → is_plain_text name ≡ true → ends t ≡ true
    → IsHarmlessToken t → b ≡ a ++ named name → c ≡ b ++ spelled_token t
    → AddsTokens true true a c (key name ∷ t ∷ [])
unfolding spelled_from
adds_member {a} {b} {c} {name} t plain end harmless first last = record {
  text =
      last ∙ ap (λ l. l ++ spelled_token t) first ∙ member_text a name (spelled_token t)
      ∙ ap (λ n. a ++ (44 ∷ ((34 ∷ (n ++ 34 ∷ [])) ++ 58 ∷ []) ++ (spelled_token t ++ [])))
      (sym (plain_spelled name plain));
  ended = end;
  harmless = (tt, (harmless, tt));
}

pub adds_text : {a b c name text : List ℕ} → is_plain_text name ≡ true → b ≡ a ++ named name
    → c ≡ b ++ spelled_quoted text → AddsTokens true true a c (text_member name text)
adds_text {a} {b} {c} {name} {text} plain = adds_member (string text) plain refl tt

pub adds_number : {a b c name : List ℕ} (n : ℕ) → is_plain_text name ≡ true
    → b ≡ a ++ named name → c ≡ b ++ decimal n
    → AddsTokens true true a c (number_member name n)
adds_number {a} {b} {c} {name} n plain =
    adds_member (number (decimal n)) plain refl (decimal_is_harmless n)

pub adds_flag : {a b c name : List ℕ} {holds : Bool} → is_plain_text name ≡ true
    → b ≡ a ++ named name → c ≡ b ++ spelled_token (boolean holds)
    → AddsTokens true true a c (flag_member name holds)
adds_flag {a} {b} {c} {name} {holds} plain = adds_member (boolean holds) plain refl tt

-- ---- the line

begun_of : (text : List ℕ) → is_plain_text text ≡ true
    → (codes "{\"time\":\"" ++ text) ++ 34 ∷ []
    ≡ spelled (begin_object ∷ key (codes "time") ∷ string text ∷ [])
unfolding spelled_from escape_byte chars
begun_of text plain =
    ap (λ l. codes "{\"time\":\"" ++ l)
    (sym (append-nil (text ++ 34 ∷ []))
    ∙ ap (λ l. (l ++ 34 ∷ []) ++ []) (sym (plain_spelled text plain)))

pub begun_line : {empty a b c d text : List ℕ} (t : Utc) (port : ℕ) → empty ≡ []
    → a ≡ empty ++ codes "{\"time\":\"" → text ≡ utc_text t → b ≡ a ++ text → c ≡ b ++ 34 ∷ []
    → AddsMembers c d (number_member (codes "port") port) → d ≡ spelled (begun_at t port)
begun_line {empty} {a} {b} {c} {d} {text} t port none first is next last adds =
    let timed : List Token = begin_object ∷ text_member (codes "time") (utc_text t) in
    adds.text
    ∙ ap (λ l. l ++ spelled_from true (number_member (codes "port") port))
    (last
    ∙ ap (λ l. l ++ 34 ∷ [])
    (next ∙ ap (λ l. l ++ text) (first ∙ ap (λ l. l ++ codes "{\"time\":\"") none)
    ∙ ap (λ l. codes "{\"time\":\"" ++ l) is)
    ∙ begun_of (utc_text t) (time_stands t))
    ∙ sym (spelled_from-append false timed (number_member (codes "port") port))

whole : (h : LineHeader) (members : List Token) → ends_after true members ≡ true
    → spelled (object_with h members)
    ≡ (spelled (begun_at h.time h.port) ++ spelled_from true members) ++ 125 ∷ []
unfolding spelled_from
whole h members ended =
    let begun = begun_at h.time h.port in
    spelled_from-append false (begun ++ members) (end_object ∷ [])
    ∙ ap (λ s. spelled_from false (begun ++ members) ++ spelled_from s (end_object ∷ []))
    (ends_joined false begun members ∙ ended)
    ∙ ap (λ l. l ++ 125 ∷ []) (spelled_from-append false begun members)

pub adds_line : {begun members_of line : List ℕ} (h : LineHeader) (members : List Token)
    → begun ≡ spelled (begun_at h.time h.port)
    → AddsTokens true true begun members_of members
    → line ≡ members_of ++ 125 ∷ 10 ∷ [] → line ≡ line_with h members
adds_line {begun} {members_of} {line} h members first adds last =
    let before = spelled (begun_at h.time h.port) ++ spelled_from true members in
    last
    ∙ ap (λ l. l ++ 125 ∷ 10 ∷ []) (adds.text ∙ ap (λ l. l ++ spelled_from true members) first)
    ∙ sym (append_assoc before (125 ∷ []) (10 ∷ []))
    ∙ ap (λ l. l ++ 10 ∷ []) (sym (whole h members adds.ended))

-- what is appended has its size
pub measured : {a b : List ℕ} {ts : List Token} {before n : ℕ} → before ≡ length a
    → AddsMembers a b ts → n ≡ length b - before → n ≡ size_of ts
measured {a} {b} {ts} {before} {n} at adds is =
    let all : length b ≡ length a + size_of ts =
    ap length adds.text ∙ length-append a (spelled_from true ts) in
    omega (arith, at, is, all)
