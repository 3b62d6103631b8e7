-- What a manifest that was read, or refused, tells of the names of its classes.
use Rattle.std.proofs.Common.{◌≡◌, refl, sym, ap, ◌∙◌, ℕ, ◌||◌, List, [], ◌∷◌, ◌++◌, is_some, Option, None, Some, Result, Ok, Err, All}
use Rattle.std.proofs.lemmas.List.Elements.{All-nil, All-cons}
use Rattle.mh_base.specs.Lines.{lines_of}
use Rattle.mh_values.specs.declared.class.Class.{Class}
use Rattle.mh_values.specs.declared.descriptor.DescriptorError.{DescriptorError}
use Rattle.mh_values.specs.Descriptor.{unless_bad, method_meant}
use Rattle.mh_values.specs.Grammar.{descriptor_fault}
use Rattle.mh_values.proofs.Sound.{descriptor_sound}
use Rattle.mh_leaf.specs.declared.leaf.Leaf.{Leaf}
use Rattle.mh_leaf.specs.LeafTable.{LeafTable}
use Rattle.mh_leaves.specs.declared.manifest.ManifestError.{ManifestError}
use Rattle.mh_leaves.specs.declared.manifest.ManifestError.TheVariants.{NoMemory, Fault}
use Rattle.mh_leaves.specs.Fault.{TellsManifest}
use Rattle.mh_leaves.specs.Manifest.{manifest, knows_names}
use Rattle.mh_leaves.specs.Names.{NamesClasses}
use Rattle.mh_leaves.specs.Unknown.{TellsNames}
use Rattle.mh_leaves.proofs.FaultNames.{fault_tells}
use Rattle.mh_leaves.proofs.KnownNames.{names_known}
use Rattle.mh_leaves.proofs.MadeOf.{IsMade, AreMade}
use Rattle.mh_leaves.proofs.ReadLines.{manifest-read}

-- a text that means a type has no fault
no_fault : {A : Type 0} (fault : Option ℕ) (r : Result A DescriptorError) (a : A) → unless_bad fault r ≡ Ok a → fault ≡ None
no_fault None r a h = refl
no_fault (Some at) r a h = absurd cc

made-names : (classes : List Class) (leaf : Leaf) → IsMade classes leaf → NamesClasses classes leaf.descriptor
made-names classes leaf is =
    let text = leaf.descriptor in
    let none = no_fault (descriptor_fault text) (method_meant classes text) is.described.0 is.described.1 in
    let d = descriptor_sound text none in
    record {
      descriptor = d;
      known = sym (names_known classes text d) ∙ ap (λ fault. is_some fault || knows_names classes text) (sym none) ∙ is.known;
    }

all_made-names : (classes : List Class) (before rest : List Leaf) → AreMade classes before rest → All (λ leaf. NamesClasses classes leaf.descriptor) rest
all_made-names classes before [] are = All-nil (λ leaf. NamesClasses classes leaf.descriptor)
all_made-names classes before (leaf ∷ rest) are =
    All-cons (λ l. NamesClasses classes l.descriptor) leaf rest (made-names classes leaf are.0.made)
    (all_made-names classes (before ++ leaf ∷ []) rest are.1)

pub names_told : (bytes : List ℕ) (r : Result LeafTable ManifestError) → TellsManifest r (manifest bytes) → TellsNames bytes r
names_told bytes (Ok table) h = all_made-names table.classes [] table.leaves (manifest-read table (lines_of bytes) h).are_made
names_told bytes (Err NoMemory) h = tt
names_told bytes (Err (Fault fault)) h = fault_tells bytes fault h
