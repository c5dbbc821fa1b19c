-- The reader's verdict is that of the grammar, and no text has two.
use Rattle.std.proofs.Common.{◌≡◌, ◌≤◌, inr, List, [], ◌∷◌, ◌++◌, length, Ok, Err, Bool, true}
use Rattle.std.proofs.Common.{false, refl, sym, ap, ◌∙◌, arith, subst, append_assoc}
use Rattle.cells.specs.Arrays.{AppShape}
use Rattle.rule_lang.specs.declared.draft.Mode.{Mode}
use Rattle.rule_lang.specs.declared.draft.Mode.TheVariants as mode
use Rattle.rule_lang.specs.declared.rule_fault.RuleFault.{RuleFault}
use Rattle.rule_lang.specs.declared.rule.Statement.{Statement}
use Rattle.rule_lang.specs.Grammar.{IsRule, Begins}
use Rattle.rule_lang.specs.Lexed.{Placed, tokens_in}
use Rattle.rule_lang.specs.Parts.{OrFault}
use Rattle.rule_lang.specs.Reader.Reading.{Draft, is_done, Reads, ended, refused, goes_on}
use Rattle.rule_lang.specs.Reader.Reading.{first_draft}
use Rattle.rule_lang.specs.Phrases.{misplaced}
use Rattle.rule_lang.specs.Values.{rule_value}
use Rattle.rule_lang.specs.Tokens.{Text}
use Rattle.rule_lang.specs.Verdicts.{IsVerdict, too_long, no_token, no_rule, a_rule}
use Rattle.rule_lang.proofs.Keeping.{same_ok, no_ok}
use Rattle.rule_lang.proofs.Outcomes.{Outcome, rule, wrong, outcome, lexed_ends}
use Rattle.rule_lang.proofs.RuleValues.{rule_spelled}

abbrev err_or : {A : Type 0} → RuleFault → OrFault A → RuleFault
err_or d (Ok x) = d
err_or d (Err e) = e

same_err : {A : Type 0} (e f : RuleFault) → ◌≡◌ {A = OrFault A} (Err e) (Err f) → e ≡ f
same_err e f h = ap (err_or e) h

true_false : ◌≡◌ {A = Bool} true false → ⊥
true_false h = cc

not_both : (m : Mode) → m ≡ mode.Done → is_done m ≡ false → ⊥
not_both m e h = true_false (sym (ap is_done e) ∙ h)

pub reads_once : (s : AppShape) (d : Draft) (ts : List Placed) (v w : OrFault (List Statement))
    → Reads s d ts v → Reads s d ts w → v ≡ w
reads_once s d ts v w (ended m) (ended n) = refl
reads_once s d ts v w (ended m) (refused o h) = absurd (not_both d.mode m o)
reads_once s d ts v w (ended m) (goes_on o h r) = absurd (not_both d.mode m o)
reads_once s d ts v w (refused o h) (ended m) = absurd (not_both d.mode m o)
reads_once s d ts (Err e) (Err f) (refused o h) (refused p k) =
    ap (λ (g : RuleFault). Err g) (same_err e f (sym h ∙ k))
reads_once s d ts (Err e) w (refused o h) (goes_on {e = d'} {rest = us} p k q) =
    absurd (no_ok e (d', us) (sym h ∙ k))
reads_once s d ts v w (goes_on o h r) (ended m) = absurd (not_both d.mode m o)
reads_once s d ts v (Err f) (goes_on {e = d'} {rest = us} o h r) (refused p k) =
    absurd (no_ok f (d', us) (sym k ∙ h))
reads_once s d ts v w (goes_on {e = e} {rest = us} o h r) (goes_on {e = f} {rest = xs} p k q) =
    let same = same_ok (f, xs) (e, us) (sym k ∙ h) in
    reads_once s e us v w r (subst (λ (p : Draft × List Placed). Reads s p.0 p.1 w) same q)

-- ---- at most one place for L2

begins_before : (xs ys : List Placed) → Begins (xs ++ ys) → Begins xs
begins_before xs ys (more, r) =
    (ys ++ more, subst (λ (ts : List Placed). IsRule ts) (append_assoc xs ys more) r)

-- the place at which a list leaves a prefix-closed set is unique
left_once : (In : List Placed → Type 0) → ((xs ys : List Placed) → In (xs ++ ys) → In xs)
    → (b c a d : List Placed) (p q : Placed) → b ++ (p ∷ a) ≡ c ++ (q ∷ d) → In b → In c
    → (In (b ++ (p ∷ [])) → ⊥) → (In (c ++ (q ∷ [])) → ⊥) → p ≡ q
left_once In closed [] [] a d p q is h k no_b no_c = cc
left_once In closed [] (u ∷ c) a d p q is h k no_b no_c =
    let same : u ≡ p = cc in
    absurd (no_b (subst (λ (t : Placed). In (t ∷ [])) same (closed (u ∷ []) c k)))
left_once In closed (t ∷ b) [] a d p q is h k no_b no_c =
    let same : t ≡ q = cc in
    absurd (no_c (subst (λ (u : Placed). In (u ∷ [])) same (closed (t ∷ []) b h)))
left_once In closed (t ∷ b) (u ∷ c) a d p q is h k no_b no_c =
    let same : u ≡ t = cc in
    let rest : b ++ (p ∷ a) ≡ c ++ (q ∷ d) = cc in
    left_once (λ xs. In (t ∷ xs)) (λ xs ys i. closed (t ∷ xs) ys i) b c a d p q rest h (subst (λ (x
    : Placed). In (x ∷ c)) same k) no_b (λ i. no_c (subst (λ (x : Placed). In (x ∷ (c ++ (q ∷ []))))
    (sym same) i))

rule_goes_on : (ts before after : List Placed) (p : Placed) → IsRule ts
    → ts ≡ before ++ (p ∷ after) → Begins (before ++ (p ∷ []))
rule_goes_on ts before after p r is = (
  after,
  subst (λ (xs : List Placed). IsRule xs) (is ∙ sym (append_assoc before (p ∷ []) after))
      r,
)

-- ---- one verdict

verdict_by : (s : AppShape) (text : Text) (v w : OrFault (List Statement)) → IsVerdict s text v
    → IsVerdict s text w → v ≡ w
verdict_by s text v w (too_long a) (too_long b) = refl
verdict_by s text v w (too_long a) (no_token b h) = absurd (omega (arith, a, b))
verdict_by s text v w (too_long a) (no_rule before after p b h begins stops) =
    absurd (omega (arith, a, b))
verdict_by s text v w (too_long a) (a_rule b h r) = absurd (omega (arith, a, b))
verdict_by s text v w (no_token a h) (too_long b) = absurd (omega (arith, a, b))
verdict_by s text (Err e) (Err f) (no_token a h) (no_token b k) =
    ap (λ (g : RuleFault). Err g) (same_err e f (sym h ∙ k))
verdict_by s text (Err e) w (no_token a h) (no_rule before after p b k begins stops) =
    absurd (no_ok e (before ++ (p ∷ after)) (sym h ∙ k))
verdict_by s text (Err e) w (no_token a h) (a_rule {ts = ts} b k r) =
    absurd (no_ok e ts (sym h ∙ k))
verdict_by s text v w (no_rule before after p a h begins stops) (too_long b) =
    absurd (omega (arith, a, b))
verdict_by s text v (Err f) (no_rule before after p a h begins stops) (no_token b k) =
    absurd (no_ok f (before ++ (p ∷ after)) (sym k ∙ h))
verdict_by s text v w (no_rule before after p a h begins stops) (no_rule front back q b k starts
    ends) =
    let same = same_ok (before ++ (p ∷ after)) (front ++ (q ∷ back)) (sym h ∙ k) in
    ap (λ (x : Placed). Err (misplaced x.line)) (left_once (λ xs. Begins xs) begins_before before
    front after back p q same begins starts stops ends)
verdict_by s text v w (no_rule before after p a h begins stops) (a_rule {ts = ts} b k r) =
    absurd (stops (rule_goes_on ts before after p r (same_ok ts (before ++ (p ∷ after)) (sym k
    ∙ h))))
verdict_by s text v w (a_rule a h r) (too_long b) = absurd (omega (arith, a, b))
verdict_by s text v (Err f) (a_rule {ts = ts} a h r) (no_token b k) =
    absurd (no_ok f ts (sym k ∙ h))
verdict_by s text v w (a_rule {ts = ts} a h r) (no_rule before after p b k begins stops) =
    absurd (stops (rule_goes_on ts before after p r (same_ok ts (before ++ (p ∷ after)) (sym h
    ∙ k))))
verdict_by s text v w (a_rule {ts = ts} a h r) (a_rule {ts = us} b k q) =
    let same = same_ok us ts (sym k ∙ h) in
    reads_once s first_draft ts v w (rule_spelled s ts r) (subst (λ (xs : List Placed). Reads s
    first_draft xs w) same (rule_spelled s us q))

pub verdict_once : (s : AppShape) (text : Text) (v w : OrFault (List Statement))
    → IsVerdict s text v → IsVerdict s text w → v ≡ w
verdict_once s text v w a b = verdict_by s text v w a b

-- ---- the reader's verdict

by_outcome : (s : AppShape) (text : Text) (ts : List Placed) (v : OrFault (List Statement))
    → length text ≤ 65536 → tokens_in text ≡ Ok ts → Reads s first_draft ts v → Outcome ts v
    → IsVerdict s text v
by_outcome s text ts v short lexed reads (rule r) =
    subst (λ (w : OrFault (List Statement)). IsVerdict s text w) (reads_once s first_draft ts
    (rule_value s r) v (rule_spelled s ts r) reads) (a_rule short lexed r)
by_outcome s text ts v short lexed reads (wrong before after p whole begins stops is) =
    subst (λ (w : OrFault (List Statement)). IsVerdict s text w) (sym is) (no_rule before after p
    short (lexed ∙ ap (λ (xs : List Placed). Ok xs) whole) begins stops)

pub spelled : (s : AppShape) (text : Text) (ts : List Placed) (v : OrFault (List Statement))
    → length text ≤ 65536 → tokens_in text ≡ Ok ts → Reads s first_draft ts v → IsVerdict s text v
spelled s text ts v short lexed reads =
    by_outcome s text ts v short lexed reads (outcome s first_draft ts v reads [] refl (inr
    (lexed_ends 0 1 text ts lexed)))
