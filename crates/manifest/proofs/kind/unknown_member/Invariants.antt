use Rattle.std.proofs.Common.{◌≡◌}
use Rattle.toml.specs.View.{members_view}
use Rattle.manifest.specs.Kind.{unknown_member}
use Rattle.manifest.proofs.kind.unknown_member.Given as goal

-- the members so far are known
abbrev pub invariant-members : goal.invariant-members
invariant-members l =
    unknown_member l.kind (members_view l.key-iterator)
    ≡ unknown_member l.kind (members_view l.table.entries)
