-- The line about an app, ended by a line feed.
use Rattle.std.specs.Prelude.{ℕ, List, ◌++◌, length, codes, decimal}
use Rattle.ruleset.specs.Rules.{AppRule}

abbrev pub line : List ℕ → List ℕ
line text = text ++ codes "\n"

abbrev pub app_line : AppRule → List ℕ
app_line app = line (codes "app " ++ app.appid
    ++ codes " releases " ++ decimal (length app.releases)
    ++ codes " slots " ++ decimal (length app.program.code))
