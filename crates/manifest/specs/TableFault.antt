-- Results of calls whose definition gives a value or a schema error: what is defined, unless an
-- allocation fails.
use Rattle.std.specs.Prelude.{◌≡◌, List, Vec, Result, Ok, Err}
use Rattle.std.specs.declared.alloc.Global.{Global}
use Rattle.manifest.specs.declared.table_fault.TableFault.{TableFault}
use Rattle.manifest.specs.declared.table_fault.TableFault.TheVariants.{SchemaError, Memory}

abbrev pub ReadsAs : {X M : Type 0} → Result X M → Result X (TableFault M) → Type 0
ReadsAs defined (Ok x) = defined ≡ Ok x
ReadsAs defined (Err (SchemaError m)) = defined ≡ Err m
ReadsAs defined (Err Memory) = Unit {0}

abbrev pub ReadsListAs :
    {X M : Type 0} → Result (List X) M → Result (Vec X Global) (TableFault M) → Type 0
ReadsListAs defined (Ok v) = defined ≡ Ok v.items
ReadsListAs defined (Err (SchemaError m)) = defined ≡ Err m
ReadsListAs defined (Err Memory) = Unit {0}
