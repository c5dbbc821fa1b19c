-- The argument of `completion`.
use Rattle.std.specs.Prelude.{List, codes}
use Rattle.clap.specs.Words.{Row, Text}
use Rattle.cli_base.specs.Values.{HasText}
use Rattle.cli_tool_words.specs.declared.args.Shell.{Shell}
use Rattle.cli_tool_words.specs.declared.args.Shell.TheVariants as shell

abbrev pub name_of : Shell → Text
name_of shell.Bash = codes "bash"
name_of shell.Zsh = codes "zsh"
name_of shell.Fish = codes "fish"
name_of shell.Man = codes "man"

-- the argument is the name of the shell
abbrev pub HasShell : List Row → Shell → Type 0
HasShell rows shell = HasText (codes "SHELL") rows (name_of shell)

abbrev pub LacksShell : List Row → Type 0
LacksShell rows = (shell : Shell) → ¬ HasShell rows shell
