use Rattle.std.proofs.Common.{◌≡◌, Bool, ap, false, refl, rules, sym, true, ◌∙◌, ℕ}
use Rattle.std.specs.Prelude.{if◌then◌else◌}
use mir.Val.{bool_byte}
use Rattle.rule_lang.specs.Meaning.{remainder}
use Rattle.diff_space.specs.declared.coordinate.Coordinate.{Coordinate}
use Rattle.diff_space.specs.declared.coordinate.Coordinate.TheVariants as coordinate
use Rattle.diff_space.specs.Families.{cell_by}
use Rattle.diff_space.specs.Numbers.{cell_at}
use Rattle.diff_space.proofs.combination.cell_of.Goals as goal

byte_is : (b : Bool) → ◌≡◌ {A = ℕ} (bool_byte b) (if b then 1 else 0)
byte_is true = refl
byte_is false = refl

pub returns-in-Bucket : goal.returns-in-Bucket
returns-in-Bucket c = λ few.
    let salt = c.in-Bucket.salt in
    let modulus = c.in-Bucket.modulus in
    let is : c.args.of.now ≡ coordinate.Bucket salt modulus = search rules in
    c.cell_at.ensures few
    ∙ ap (cell_at c.args.starts.now)
    (c.remainder.ensures ∙ ap (remainder modulus) c.bucket_by-bucket.ensures)
    ∙ ap (λ (of : Coordinate). cell_by of c.args.starts.now c.args.combination) (sym is)

pub returns-in-Flag : goal.returns-in-Flag
returns-in-Flag c = λ few.
    c.cell_at-in-Flag.ensures few
    ∙ ap (cell_at c.args.starts.now) (byte_is c.args.combination.is_known)
    ∙ ap (λ (of : Coordinate). cell_by of c.args.starts.now c.args.combination) (sym c.in-Flag.is)
