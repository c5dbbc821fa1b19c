-- All tokens of a text are a rule, or have a first token with which no rule continues.
use Rattle.std.proofs.Common.{◌≡◌, ℕ, zero, suc, ◌+◌, ◌-◌, ◌⊎◌, inl, inr, List, [], ◌∷◌, ◌++◌}
use Rattle.std.proofs.Common.{length}
use Rattle.std.proofs.Common.{Option, Some, None, Ok, Err, true, false, refl, sym, ap, ◌∙◌}
use Rattle.std.proofs.Common.{subst, append_assoc}
use Rattle.std.specs.Option.{option_and_then}
use Rattle.cells.specs.Arrays.{AppShape}
use Rattle.rule_lang.specs.declared.draft.Mode.{Mode}
use Rattle.rule_lang.specs.declared.draft.Mode.TheVariants as mode
use Rattle.rule_lang.specs.declared.rule_fault.RuleFault.{RuleFault}
use Rattle.rule_lang.specs.declared.rule.Statement.{Statement}
use Rattle.rule_lang.specs.declared.token.Piece.TheVariants as piece
use Rattle.rule_lang.specs.declared.token.Token.TheVariants as token
use Rattle.rule_lang.specs.Grammar as g
use Rattle.rule_lang.specs.Lexed.{Placed, Lexed, on, ahead, after_piece, lexed}
use Rattle.rule_lang.specs.Parts.{OrFault}
use Rattle.rule_lang.specs.Phrases.{Ends, misplaced}
use Rattle.rule_lang.specs.Reader.Reading.{Draft, Next, next, is_done, Reads, ended, refused}
use Rattle.rule_lang.specs.Reader.Reading.{goes_on}
use Rattle.rule_lang.specs.Tokens as tokens
use Rattle.rule_lang.proofs.Completions.{begun}
use Rattle.rule_lang.proofs.Takes.{stuck}
use Rattle.rule_lang.proofs.Keeping.{same_ok, no_ok}
use Rattle.rule_lang.proofs.Led.{HasEnd, Led, IsLed, IsStuck, place_of, state_of}
use Rattle.rule_lang.proofs.Modes.{next_led}
use Rattle.rule_lang.proofs.Machine.{AtStatement, AtEnd, State, state, runs, start}
use Rattle.rule_lang.proofs.Machine.{runs_append, Completes, CompletesIf}
use Rattle.rule_lang.proofs.StepsBack.{runs_back, here}

-- ---- `End` is the last token

more_ends : (ts : List Placed) (us : List Placed) → HasEnd us → HasEnd (ts ++ us)
more_ends [] us h = h
more_ends (t ∷ ts) us h = inr (more_ends ts us h)

ahead_ends : (ts : List Placed) (l : Lexed) (us : List Placed) → ahead ts l ≡ Ok us
    → ((vs : List Placed) → l ≡ Ok vs → HasEnd vs) → HasEnd us
ahead_ends ts (Ok vs) us is h =
    subst (λ (xs : List Placed). HasEnd xs) (same_ok (ts ++ vs) us is) (more_ends ts vs (h vs refl))
ahead_ends ts (Err e) us is h = absurd (no_ok e us is)

piece_ends : (line : ℕ) (o : Option tokens.Piece) (next : ℕ → ℕ → Lexed) (us : List Placed)
    → after_piece line o next ≡ Ok us
    → ((n l : ℕ) (vs : List Placed) → next n l ≡ Ok vs → HasEnd vs) → HasEnd us
piece_ends line None next us is h = absurd (no_ok _ us is)
piece_ends line (Some (piece.Blank n)) next us is h = h n line us is
piece_ends line (Some (piece.LineEnd n)) next us is h = h n (line + 1) us is
piece_ends line (Some (piece.Token t n)) next us is h =
    ahead_ends (on line t ∷ []) (next n line) us is (λ vs k. h n line vs k)

pub lexed_ends : (n line : ℕ) (text : List ℕ) (us : List Placed) → lexed n line text ≡ Ok us
    → HasEnd us
lexed_ends n line [] us is =
    subst (λ (xs : List Placed). HasEnd xs) (same_ok (on line token.End ∷ []) us is) (inl refl)
lexed_ends (suc n) line (c ∷ rest) us is = lexed_ends n line rest us is
lexed_ends zero line (c ∷ rest) us is =
    piece_ends line (tokens.piece_of (c ∷ rest) c rest) (λ n l. lexed (n - 1) l rest) us is (λ n l
    vs k. lexed_ends (n - 1) l rest vs k)

-- ---- a reader's run

pub data Outcome (ts : List Placed) (v : OrFault (List Statement)) : Type 0 where
  rule : g.IsRule ts → Outcome ts v
  wrong : (before after : List Placed) (p : Placed) → ts ≡ before ++ (p ∷ after)
      → g.Begins before → (g.Begins (before ++ (p ∷ [])) → ⊥) → v ≡ Err (misplaced p.line)
      → Outcome ts v

done_at : (m : Mode) (n : ℕ) → place_of m n ≡ AtEnd → is_done m ≡ true
done_at mode.Statement n h = absurd cc
done_at mode.Fact n h = absurd cc
done_at mode.Operator n h = absurd cc
done_at mode.Done n h = refl

end_ahead : (d : Draft) (ts : List Placed) → is_done d.mode ≡ false
    → ((state_of d).place ≡ AtEnd) ⊎ HasEnd ts → HasEnd ts
end_ahead d ts going (inl e) =
    let wrong : true ≡ false = sym (done_at d.mode (length d.condition.below) e) ∙ going in
    absurd cc
end_ahead d ts going (inr h) = h

at_end : (d : Draft) → d.mode ≡ mode.Done → state_of d ≡ state Ends AtEnd
at_end d is = ap (λ (m : Mode). state Ends (place_of m (length d.condition.below))) is

completed : (before ts : List Placed) → runs start before ≡ Some (state Ends AtEnd)
    → g.IsRule (before ++ ts)
completed before ts is =
    let last : Completes (state Ends AtEnd) ts = record { rest = ts; phrase = refl; more = tt } in
    let completes : CompletesIf (runs start before) ts = subst (λ (o : Option State).
    CompletesIf o ts) (sym is) last in
    here AtStatement (before ++ ts) (runs_back start before ts completes)

way_on : (before front : List Placed) (x y : State) → runs start before ≡ Some x
    → runs x front ≡ Some y → runs start (before ++ front) ≡ Some y
way_on before front x y so_far way =
    runs_append start before front ∙ ap (option_and_then (λ z. runs z front)) so_far ∙ way

regrouped : (before front rest ts : List Placed) → ts ≡ front ++ rest
    → (before ++ front) ++ rest ≡ before ++ ts
regrouped before front rest ts is =
    append_assoc before front rest ∙ ap (λ (xs : List Placed). before ++ xs) (sym is)

stuck_at : (d : Draft) (before ts : List Placed) (e : RuleFault)
    → runs start before ≡ Some (state_of d) → IsStuck (state_of d) ts e
    → Outcome (before ++ ts) (Err e)
stuck_at d before ts e so_far h =
    let way = way_on before h.before (state_of d) h.y so_far h.way in
    wrong (before ++ h.before) h.after h.first (sym (regrouped before
    h.before (h.first ∷ h.after) ts h.whole)) (begun (before ++ h.before) h.y way) (stuck (before ++
    h.before) h.first h.y way h.stop) (ap (λ (f : RuleFault). Err f) h.fault)

pub outcome : (s : AppShape) (d : Draft) (ts : List Placed) (v : OrFault (List Statement))
    → Reads s d ts v → (before : List Placed) → runs start before ≡ Some (state_of d)
    → ((state_of d).place ≡ AtEnd) ⊎ HasEnd ts → Outcome (before ++ ts) v
outcome s d ts v (ended is) before so_far h =
    rule (completed before ts (so_far ∙ ap (λ (x : State). Some x) (at_end d is)))
outcome s d ts v (refused {e = e} going is) before so_far h =
    stuck_at d before ts e so_far (subst (λ (o : Next). Led (state_of d) ts o) is (next_led s d ts
    going (end_ahead d ts going h)))
outcome s d ts v (goes_on {e = e} {rest = rest} going is later) before so_far h =
    let led : IsLed (state_of d) ts (state_of e) rest = subst (λ (o : Next). Led (state_of d) ts o)
    is (next_led s d ts going (end_ahead d ts going h)) in
    let way = way_on before led.front (state_of d) (state_of e) so_far led.way in
    subst (λ (xs : List Placed). Outcome xs v) (regrouped before led.front rest ts led.whole)
    (outcome s e rest v later (before ++ led.front) way led.ends)
