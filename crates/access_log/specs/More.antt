-- The further members of an app in a line: all but its id, its version, its outcome and its event.
use Rattle.std.specs.Prelude.{ℕ, List, [], ◌++◌, codes, Option, Some, None, option_copied}
use Rattle.json.specs.Token.{Token}
use Rattle.access_log.specs.Members.{number_member, optional_member, optional_excerpt}
use Rattle.access_log.specs.declared.further_members.FurtherMembers.{FurtherMembers}

abbrev pub day_member : Option ℕ → List Token
day_member (Some day) = number_member (codes "installdate") day
day_member None = []

abbrev pub more_members : FurtherMembers → List Token
more_members m =
    optional_excerpt (codes "ap") (codes "ap_left_out") m.ap
    ++ optional_excerpt (codes "lang") (codes "lang_left_out") m.lang
    ++ optional_excerpt (codes "brand") (codes "brand_left_out") m.brand
    ++ optional_excerpt (codes "platform") (codes "platform_left_out") m.platform
    ++ day_member m.installdate
    ++ optional_member (codes "ignored") (option_copied m.ignored)
