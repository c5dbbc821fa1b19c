-- Apps whose files have the same bytes have the same rule or the same program.
use Rattle.std.proofs.Common.{◌≡◌, ◌∙◌, refl, sym, ap, subst, ℕ, zero, suc, List, []}
use Rattle.std.proofs.Common.{Option, Some, None, Ok, Err}
use Rattle.std.specs.Prelude.{option_map}
use Rattle.acceptance.specs.Rule.{IsTextOf}
use Rattle.bpf_semantics.specs.Program.{ShapedProgram}
use Rattle.bounded_files.specs.declared.kept_bytes.KeptBytes.{KeptBytes}
use Rattle.bounded_files.specs.declared.kept_bytes.KeptBytes.TheVariants.{Whole, Longer}
use Rattle.cells.specs.Arrays.{AppShape}
use Rattle.flow_check.specs.Fault.{HasOneVerdict}
use Rattle.flow_check.specs.Flow.{IsFlow, program_bytes}
use Rattle.load.specs.JudgedApps.{IsJudgedApp, IsRuleKept, OptionalRule}
use Rattle.load.specs.Kept.{whole_file}
use Rattle.manifest.specs.declared.app.ProgramSource.{ProgramSource}
use Rattle.manifest.specs.declared.app.ProgramSource.TheVariants as source
use Rattle.load.specs.declared.judged.JudgedApp.{JudgedApp}
use Rattle.releases.specs.Release.{Release}
use Rattle.diff_rules.specs.declared.contents.ContentNumbers.{ContentNumbers}
use Rattle.rule_lang.specs.Parts.{OrFault}
use Rattle.rule_lang.specs.Verdicts.{RuleHasOneVerdict}
use Rattle.rule_lang.specs.declared.rule.Statement.{Statement}
use Rattle.diff_space.specs.Machines.{Side}
use Rattle.diff_manifests.specs.Apps.{AgreeAsFar, HasContents, IsSameApp}
use Rattle.diff_manifests.specs.Apps.{contents_in, releases_in, side_in, side_with}
use Rattle.diff_manifests.specs.Apps.IsSameApp.{same_rule as by_rule, same_program as by_program}
use Rattle.diff_manifests.specs.Outcomes.{IsSame}
use Rattle.diff_manifests.specs.Same.{HasSameFile, HasSameRule}

-- the rule of a whole file is the one that its bytes spell
record Spells (bytes : List ℕ) (shape : AppShape) (rule : OptionalRule) : Type 0 where
  spelled : List Statement
  text : IsTextOf bytes shape spelled
  rule_is : rule ≡ Some spelled

spells : (from : ProgramSource) (kept : Option KeptBytes) (program : ShapedProgram)
    (rule : OptionalRule) (bytes : List ℕ) (statements : List Statement)
    → IsRuleKept from kept program rule → rule ≡ Some statements → whole_file kept ≡ Some bytes
    → Spells bytes program.shape rule
spells (source.Program file) kept program rule bytes statements is has whole =
    let none : Some statements ≡ None = sym has ∙ is in cc
spells (source.Rule file) None program rule bytes statements is has whole = absurd is
spells (source.Rule file) (Some (Longer v n is_text)) program rule bytes statements is has whole =
    absurd is
spells (source.Rule file) (Some (Whole v)) program rule bytes statements is has whole =
    let same : v.items ≡ bytes = cc in record {
      spelled = is.0.rule;
      text = subst (λ (b : List ℕ). IsTextOf b program.shape is.0.rule) same is.0.text;
      rule_is = is.1;
    }

abbrev rule_or : List Statement → OrFault (List Statement) → List Statement
rule_or other (Ok rule) = rule
rule_or other (Err fault) = other

-- two texts with the same bytes spell one rule
one_spelled : (bytes : List ℕ) (shape : AppShape) (rule other : OptionalRule)
    → ((s : AppShape) (all : List ℕ) → RuleHasOneVerdict s all) → Spells bytes shape rule
    → Spells bytes shape other → other ≡ rule
one_spelled bytes shape rule other one is same =
    same.rule_is
    ∙ ap (λ (v : OrFault (List Statement)). Some (rule_or is.spelled v))
    (one shape bytes (Ok same.spelled) (Ok is.spelled) same.text.spelled is.text.spelled)
    ∙ sym is.rule_is

pub has_same_rule : (old new : JudgedApp) (rule other : List Statement)
    → ((s : AppShape) (all : List ℕ) → RuleHasOneVerdict s all) → IsJudgedApp old → IsJudgedApp new
    → old.rule ≡ Some rule → new.rule ≡ Some other → old.program.shape ≡ new.program.shape
    → HasSameFile old new → HasSameRule old new
has_same_rule old new rule other one kept kept_new has has_new shape file =
    let first = spells old.sources.entry.source old.sources.kept old.program old.rule file.bytes
    rule kept.rule_is has file.old_is in
    let second : Spells file.bytes old.program.shape new.rule =
    subst (λ (s : AppShape). Spells file.bytes s new.rule) (sym shape)
    (spells new.sources.entry.source new.sources.kept new.program new.rule file.bytes
    other kept_new.rule_is has_new file.new_is) in record {
      rule = rule;
      old_is = has;
      new_is = one_spelled file.bytes old.program.shape old.rule new.rule one first second ∙ has;
      shape_is = shape;
    }

-- ---- the same app

abbrev parts : AppShape → List Statement → List ℕ → Side
parts shape rule contents = record { shape = shape; statements = rule; contents = contents }

side_of_rule : (all : List Release) (app : JudgedApp) (rule : List Statement)
    → app.rule ≡ Some rule → side_in all (Some app) ≡ Some (side_with all app rule)
side_of_rule all app rule has =
    ap (λ (r : Option (List Statement)). option_map (side_with all app) r) has

pub same_rule : (old new : JudgedApp) (c : ContentNumbers) → HasContents (Some old) (Some new) c
    → c.old.items ≡ c.new.items → HasSameRule old new → IsSameApp old new
same_rule old new c has same is =
    let all = releases_in (Some old) (Some new) in
    let contents : contents_in all (Some new) ≡ contents_in all (Some old) =
    sym has.new_are ∙ sym same ∙ has.old_are in
    by_rule (side_with all old is.rule) (side_of_rule all old is.rule is.old_is)
    (side_of_rule all new is.rule is.new_is
    ∙ ap (λ (s : AppShape). Some (parts s is.rule (contents_in all (Some new)))) (sym is.shape_is)
    ∙ ap (λ (l : List ℕ). Some (parts old.program.shape is.rule l)) contents)

pub same_program : (old new : JudgedApp) (c : ContentNumbers) → HasContents (Some old) (Some new) c
    → IsFlow old.program.code → IsFlow new.program.code
    → HasOneVerdict (program_bytes old.program.code)
    → program_bytes old.program.code ≡ program_bytes new.program.code
    → AgreeAsFar c.old.items c.new.items
    → AgreeAsFar old.program.shape.arrays new.program.shape.arrays → IsSameApp old new
same_program old new c has flow other one bytes contents arrays =
    by_program (record {
      code_is = one.program new.program.code old.program.code (other, sym bytes) (flow, refl);
      arrays = arrays;
      contents = subst (λ (l : List ℕ). AgreeAsFar l (contents_in
          (releases_in (Some old) (Some new)) (Some new))) has.old_are
          (subst (λ (l : List ℕ). AgreeAsFar c.old.items l) has.new_are contents);
    })

-- ---- lists that agree

pub agree_none : {A : Type 0} (ys : List A) → AgreeAsFar [] ys
agree_none ys zero x y first second = absurd cc
agree_none ys (suc n) x y first second = absurd cc

pub agree_past : {A : Type 0} (xs : List A) → AgreeAsFar xs []
agree_past xs zero x y first second = absurd cc
agree_past xs (suc n) x y first second = absurd cc

-- ---- both manifests have the app

pub is_same_of : (app other : JudgedApp) (old new : Option JudgedApp) → old ≡ Some app
    → new ≡ Some other → IsSameApp app other → IsSame old new
is_same_of app other old new is also same =
    subst (λ (o : Option JudgedApp). IsSame o new) (sym is)
    (subst (λ (o : Option JudgedApp). IsSame (Some app) o) (sym also) same)
