-- Each step of the reader keeps a draft sound and leaves some of the tokens, and so does reading as
-- a whole.
use Rattle.std.proofs.Common.{◌≡◌, ℕ, suc, zero, ◌-◌, List, [], ◌∷◌, length, drop, Option, Some}
use Rattle.std.proofs.Common.{None, Ok, Err, true, false, refl, sym, ap, ◌∙◌, subst, ◌⊎◌, inl, inr}
use Rattle.cells.specs.Arrays.{AppShape}
use Rattle.rule_lang.specs.declared.draft.Mode.{Mode}
use Rattle.rule_lang.specs.declared.draft.Mode.TheVariants as mode
use Rattle.rule_lang.specs.declared.rule_fault.RuleFault.{RuleFault}
use Rattle.rule_lang.specs.declared.rule_fault.RuleFault.TheVariants.{Memory}
use Rattle.rule_lang.specs.declared.rule.Statement.{Statement}
use Rattle.rule_lang.specs.declared.lexer.Placed as the_placed
use Rattle.rule_lang.specs.Lexed.{Placed}
use Rattle.rule_lang.specs.Named.{Bytes, placed_all}
use Rattle.rule_lang.specs.Parts.{OrFault}
use Rattle.rule_lang.specs.Phrases.{misplaced}
use Rattle.rule_lang.specs.Reader.Reading.{Draft, next_in, next, is_done, verdict, Reads, ended}
use Rattle.rule_lang.specs.Reader.Reading.{refused}
use Rattle.rule_lang.specs.Reader.Sound.{IsSound}
use Rattle.rule_lang.proofs.Keeping.{IsRest, all, later, Keeps, fact_keeps, no_ok}
use Rattle.rule_lang.proofs.OperatorsKept.{operator_keeps}
use Rattle.rule_lang.proofs.Keeping.{rest_is, statement_keeps}

-- ---- the whole

mode_keeps : (s : AppShape) (d : Draft) (m : Mode) (p : Placed) (ts after : List Placed) (q :
    Draft × List Placed) → d.mode ≡ m → IsSound d → IsRest after ts
    → next_in s d m p ts after ≡ Ok q → Keeps ts q
mode_keeps s d mode.Statement p ts after q m sound r h = statement_keeps s d p.token p.line ts
    after q m r h
mode_keeps s d mode.Fact p ts after q m sound r h = fact_keeps s d p.token p ts after q m sound r h
mode_keeps s d mode.Operator p ts after q m sound r h = operator_keeps s d p.token p.line ts
    after q m sound r h
mode_keeps s d mode.Done p ts after q m sound r h = absurd (no_ok (misplaced p.line) q h)

pub next_keeps : (s : AppShape) (d : Draft) (ts : List Placed) (q : Draft × List Placed)
    → IsSound d → next s d ts ≡ Ok q → Keeps ts q
unfolding next
next_keeps s d [] q sound h = absurd (no_ok (misplaced 0) q h)
next_keeps s d (p ∷ after) q sound h = mode_keeps s d d.mode p (p ∷ after) after q refl sound
    (later all) h

-- ---- places among the tokens

drop_placed : (n : ℕ) (ts : List (the_placed.Placed Bytes))
    → placed_all (drop n ts) ≡ drop n (placed_all ts)
drop_placed zero ts = refl
drop_placed (suc n) [] = refl
drop_placed (suc n) (t ∷ ts) = drop_placed n ts

size_placed : (ts : List (the_placed.Placed Bytes)) → length (placed_all ts) ≡ length ts
size_placed [] = refl
size_placed (t ∷ ts) = ap suc (size_placed ts)

rest_drop : (n : ℕ) (ts : List Placed) → IsRest (drop n ts) ts
rest_drop zero ts = all
rest_drop (suc n) [] = all
rest_drop (suc n) (t ∷ ts) = later (rest_drop n ts)

rest_of_rest : (a b c : List Placed) → IsRest a b → IsRest b c → IsRest a c
rest_of_rest a b c r all = r
rest_of_rest a b (t ∷ c) r (later q) = later (rest_of_rest a b c r q)

-- a phrase at a place, and the place after it
pub next_place : (s : AppShape) (d e : Draft) (tokens rest back : List (the_placed.Placed Bytes))
    (place : ℕ) → IsSound d → rest ≡ drop place tokens
    → next s d (placed_all rest) ≡ Ok (e, placed_all back)
    → next s d (drop place (placed_all tokens)) ≡ Ok (
      e,
      drop (length tokens - length back)
          (placed_all tokens),
    )
next_place s d e tokens rest back place sound is h =
    let whole : placed_all rest ≡ drop place (placed_all tokens) = ap placed_all is
    ∙ drop_placed place tokens in
    let kept = next_keeps s d (placed_all rest) (e, placed_all back) sound h in
    let inside : IsRest (placed_all rest) (placed_all tokens) = subst (λ (us : List Placed).
    IsRest us (placed_all tokens)) (sym whole) (rest_drop place (placed_all tokens)) in
    let tail = rest_is (placed_all back) (placed_all tokens) (rest_of_rest (placed_all back)
    (placed_all rest) (placed_all tokens) kept.rest inside) in
    let sizes : length (placed_all tokens) - length (placed_all back) ≡ length tokens - length
    back = rw (size_placed tokens, size_placed back) refl in
    sym (ap (next s d) whole) ∙ h
    ∙ ap (λ (us : List Placed). Ok (e, us)) (sym tail
    ∙ ap (λ (n : ℕ). drop n (placed_all tokens)) sizes)

pub sound_next : (s : AppShape) (d e : Draft) (ts rest : List Placed) → IsSound d
    → next s d ts ≡ Ok (e, rest) → IsSound e
sound_next s d e ts rest sound h = (next_keeps s d ts (e, rest) sound h).sound

-- ---- the end of reading

pub done_is : (m : Mode) → is_done m ≡ true → m ≡ mode.Done
done_is mode.Done h = refl
done_is mode.Statement h = cc
done_is mode.Fact h = cc
done_is mode.Operator h = cc

pub ended_ok : (s : AppShape) (d : Draft) (ts : List Placed) → is_done d.mode ≡ true
    → d.noted ≡ None → Reads s d ts (Ok d.statements)
ended_ok s d ts done clean = subst (λ (o : Option RuleFault). Reads s d ts (verdict d o)) clean
    (ended (done_is d.mode done))

pub ended_err : (s : AppShape) (d : Draft) (ts : List Placed) (e : RuleFault)
    → is_done d.mode ≡ true → d.noted ≡ Some e → Reads s d ts (Err e)
ended_err s d ts e done noted = subst (λ (o : Option RuleFault). Reads s d ts (verdict d o))
    noted (ended (done_is d.mode done))

pub fault_read : (s : AppShape) (first d : Draft) (us ts : List Placed) (e : RuleFault)
    → is_done d.mode ≡ false
    → ((v : OrFault (List Statement)) → Reads s d ts v → Reads s first us v)
    → (e ≡ Memory) ⊎ (next s d ts ≡ Err e) → (e ≡ Memory) ⊎ Reads s first us (Err e)
fault_read s first d us ts e going so_far (inl m) = inl m
fault_read s first d us ts e going so_far (inr h) = inr (so_far (Err e) (refused going h))
