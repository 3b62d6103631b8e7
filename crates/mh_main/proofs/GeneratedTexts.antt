-- The manifest and the scripts that are made from a number are accepted.
use Rattle.std.proofs.Common.{◌≡◌, refl, ◌≤◌, List, length, Ok, arith}
use Rattle.std.specs.Fmt.{digits}
use Rattle.mh_leaf.specs.LeafTable.{LeafTable}
use Rattle.mh_leaves.specs.Manifest.{manifest}
use Rattle.mh_script.specs.declared.script.Script.{Script}
use Rattle.mh_script.specs.Scripts.{scripts}
use Rattle.mh_generated.specs.Texts.{generated_manifest, generated_scripts}

pub manifest_made : (leaves : LeafTable) × (manifest generated_manifest ≡ Ok leaves)
unfolding generated_manifest digits
manifest_made = (_, refl)

pub scripts_made : (all : List Script) × (scripts generated_scripts ≡ Ok all)
unfolding generated_scripts digits
scripts_made = (_, refl)

pub manifest_short : length generated_manifest ≤ 262144
unfolding generated_manifest
manifest_short = let n : length generated_manifest ≡ 97 = refl in omega arith

pub scripts_short : length generated_scripts ≤ 262144
unfolding generated_scripts
scripts_short = let n : length generated_scripts ≡ 290 = refl in omega arith
