-- The data of a JSON value whose texts are borrowed, and which such values have data at all.
use Rattle.std.specs.Prelude.{Bool, true, ◌&&◌, Option, Some, None, is_some}
use Rattle.json.specs.Json as json
use Rattle.serde_json.specs.Data.{Data, null, boolean, number, string, array, object, Num}
use Rattle.serde_json.specs.Data.{Items, no_items, item, Members, no_members, put}
use Rattle.serde_json.specs.Read.{number_of}

-- a number that is too large for a float has no data; `in_range` excludes it
abbrev pub number_data : Option Num → Data
number_data (Some n) = number n
number_data None = null

-- The members go in one after another, so the last value of a name stays.
abbrev mutual
  pub data_of : json.Json → Data
  data_of json.null = null
  data_of (json.boolean b) = boolean b
  data_of (json.number s) = number_data (number_of s)
  data_of (json.string s) = string s
  data_of (json.array js) = array (items_data js)
  data_of (json.object ms) = object (members_data ms no_members)

  pub items_data : json.Items → Items
  items_data json.no_items = no_items
  items_data (json.item j js) = item (data_of j) (items_data js)

  pub members_data : json.Members → Members → Members
  members_data json.no_members found = found
  members_data (json.member k j ms) found = members_data ms (put k (data_of j) found)

-- no number in it is too large for a float
abbrev mutual
  pub in_range : json.Json → Bool
  in_range json.null = true
  in_range (json.boolean b) = true
  in_range (json.number s) = is_some (number_of s)
  in_range (json.string s) = true
  in_range (json.array js) = items_in_range js
  in_range (json.object ms) = members_in_range ms

  pub items_in_range : json.Items → Bool
  items_in_range json.no_items = true
  items_in_range (json.item j js) = in_range j && items_in_range js

  pub members_in_range : json.Members → Bool
  members_in_range json.no_members = true
  members_in_range (json.member k j ms) = in_range j && members_in_range ms
