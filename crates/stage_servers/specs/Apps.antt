-- The apps of a manifest.
use Rattle.std.specs.Prelude.{ℕ, List, find, Option}
use Rattle.std.specs.Str.{bytes_eq}
use Rattle.load.specs.declared.sources.AppSources.{AppSources}

-- the app with this appid
abbrev pub app_named : List AppSources → (appid : List ℕ) → Option AppSources
app_named apps appid = find (λ app. bytes_eq app.entry.appid appid) apps
