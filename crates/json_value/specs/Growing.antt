-- An object that gets one member after another, until an allocation fails.
use Rattle.std.specs.Prelude.{◌≡◌, ℕ, List, Vec, Option, Some, None, option_map, OnSome}
use Rattle.std.specs.Prelude.{Result, IsOkAnd, if◌then◌else◌}
use Rattle.std.specs.declared.alloc.Global.{Global}
use Rattle.json_value.specs.declared.object_builder.ObjectBuilder.{ObjectBuilder}
use Rattle.serde_json.specs.Data.{Data, array, Members, put}
use Rattle.serde_json.specs.View.{items_view, members_view}
use Rattle.serde_json.specs.declared.value.Value.{Value}

-- the members so far, unless an allocation has failed
unfoldable pub members_if_complete : ObjectBuilder → Option Members
members_if_complete builder =
    if builder.is_complete then Some (members_view builder.members.entries) else None

-- the members are the old ones and one more, unless an allocation has failed
abbrev pub AddsMember : (old new : ObjectBuilder) → (key : List ℕ) → Data → Type 0
AddsMember old new key value = OnSome (members_if_complete new)
    (members_if_complete new ≡ option_map (put key value) (members_if_complete old))

-- the same for a value whose making may have failed
abbrev pub AddsMade : {T E : Type 0} → (T → Data) → (old new : ObjectBuilder) → (key : List ℕ)
    → Result T E → Type 0
AddsMade data_of old new key made = OnSome (members_if_complete new)
    (IsOkAnd made (λ value. members_if_complete new
    ≡ option_map (put key (data_of value)) (members_if_complete old)))

-- a list of values
abbrev pub list_data : Vec Value Global → Data
list_data values = array (items_view values.items)
