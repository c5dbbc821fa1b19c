-- Files of which a step's are as before it, or as after it.
use Rattle.std.proofs.Common.{◌≡◌, ◌∙◌, ap, subst, sym, ℕ, List, Bool}
use Rattle.std.specs.Prelude.{Option, Some, None, Result, Ok, Err, Vec}
use Rattle.std.specs.declared.alloc.Global.{Global}
use Rattle.bounded_files.specs.Files.{Gives, KnownFiles, ReadsFile, bytes_of}
use Rattle.bounded_files.specs.declared.resource_fault.ResourceFault.{ResourceFault}
use Rattle.bounded_files.specs.declared.resource_fault.ResourceFault.TheVariants.{File, Memory}
use Rattle.cells.specs.declared.array.CellArray.{CellArray}
use Rattle.load.specs.Load.{IsLoadFault}
use Rattle.load.specs.Sources.{IsSourcesRefusal}
use Rattle.load.specs.declared.load_fault.LoadFault.{LoadFault}
use Rattle.load.specs.declared.refusal.SourcesRefusal.{SourcesRefusal}
use Rattle.stage_records.specs.Steps.{ReplacedFile}
use Rattle.stage_servers.specs.Replaced.{bytes_then, file_named, files_then, given_then}

pub gives_replaced : (is_after : Bool) (replaced : List ReplacedFile) (known : KnownFiles)
    (name bytes : List ℕ) (file : ReplacedFile) → Some file ≡ file_named replaced name
    → bytes ≡ bytes_then is_after file
    → Gives (files_then is_after replaced known) name (Some bytes)
gives_replaced is_after replaced None name bytes file is has = tt
gives_replaced is_after replaced (Some files) name bytes file is has =
    ap (λ o. bytes_of (given_then is_after o (files name))) (sym is) ∙ ap (λ b. Some b) (sym has)

gives_other : (is_after : Bool) (replaced : List ReplacedFile) (known : KnownFiles)
    (name : List ℕ) (found : Option (List ℕ)) → None ≡ file_named replaced name
    → Gives known name found → Gives (files_then is_after replaced known) name found
gives_other is_after replaced None name found is h = tt
gives_other is_after replaced (Some files) name found is h =
    ap (λ o. bytes_of (given_then is_after o (files name))) (sym is) ∙ h

pub reads_other : (is_after : Bool) (replaced : List ReplacedFile) (known : KnownFiles)
    (name : List ℕ) (read : Result (Vec ℕ Global) ResourceFault)
    → None ≡ file_named replaced name → ReadsFile known name read
    → ReadsFile (files_then is_after replaced known) name read
reads_other is_after replaced known name (Ok v) is h =
    gives_other is_after replaced known name (Some v.items) is h
reads_other is_after replaced known name (Err File) is h =
    gives_other is_after replaced known name None is h
reads_other is_after replaced known name (Err Memory) is h = tt

pub of_refusal : (old : List CellArray) (bytes : List ℕ) (refusal : SourcesRefusal)
    (fault : LoadFault) → IsSourcesRefusal old bytes refusal → fault ≡ refusal.fault
    → (files : KnownFiles) → IsLoadFault files old bytes fault
of_refusal old bytes refusal fault is same files =
    subst (IsLoadFault files old bytes) (sym same) (is.fault_is files)
