-- What a manifest's reader answers.
use Rattle.std.specs.Prelude.{◌≡◌, Result, Ok, Err}
use Rattle.mh_base.specs.declared.lines.LineFault.{LineFault}
use Rattle.mh_leaf.specs.LeafTable.{LeafTable}
use Rattle.mh_leaves.specs.declared.manifest.ManifestKind.{ManifestKind}
use Rattle.mh_leaves.specs.declared.manifest.ManifestError.{ManifestError}
use Rattle.mh_leaves.specs.declared.manifest.ManifestError.TheVariants.{NoMemory, Fault}

-- the value, or the first fault; about lack of memory nothing is said
abbrev pub TellsManifest : Result LeafTable ManifestError → Result LeafTable (LineFault ManifestKind) → Type 0
TellsManifest (Ok got) meaning = meaning ≡ Ok got
TellsManifest (Err NoMemory) meaning = Unit {0}
TellsManifest (Err (Fault fault)) meaning = meaning ≡ Err fault

-- the same of a reader that adds to what is there
abbrev pub TellsInto : LeafTable → Result (Unit {0}) ManifestError → Result LeafTable (LineFault ManifestKind) → Type 0
TellsInto table (Ok unit) meaning = meaning ≡ Ok table
TellsInto table (Err NoMemory) meaning = Unit {0}
TellsInto table (Err (Fault fault)) meaning = meaning ≡ Err fault
