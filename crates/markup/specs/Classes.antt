-- The names of classes: a closed list.
use Rattle.std.specs.Prelude.{ℕ, List, codes}
use Rattle.markup.specs.declared.classes.Class.{Class}
use Rattle.markup.specs.declared.classes.Class.TheVariants as class

abbrev pub class_name : Class → List ℕ
class_name class.Act = codes "act"
class_name class.Axis = codes "axis"
class_name class.Bad = codes "bad"
class_name class.Band = codes "band"
class_name class.Course = codes "course"
class_name class.Facts = codes "facts"
class_name class.Findings = codes "findings"
class_name class.Limit = codes "limit"
class_name class.Load = codes "load"
class_name class.Look = codes "look"
class_name class.Muted = codes "muted"
class_name class.Name = codes "name"
class_name class.Number = codes "number"
class_name class.Others = codes "v0"
class_name class.Strip = codes "strip"
class_name class.Version1 = codes "v1"
class_name class.Version2 = codes "v2"
class_name class.Version3 = codes "v3"
class_name class.Version4 = codes "v4"
class_name class.Version5 = codes "v5"
class_name class.Well = codes "well"
class_name class.Wide = codes "wide"
