-- The names of classes in a manifest: those of what is registered are declared, and a faulty line has an undeclared one if and only if its fault says so.
use Rattle.std.specs.Prelude.{◌≡◌, ℕ, ◌+◌, List, [], ◌∷◌, ◌++◌, codes, length, None, Result, Ok, Err, All, Contains}
use Rattle.mh_base.specs.Lines.{lines_of, tokens_of, built_from}
use Rattle.mh_base.specs.declared.lines.LineFault.{LineFault}
use Rattle.mh_values.specs.declared.class.Class.{Class}
use Rattle.mh_values.specs.Classes.{class_named}
use Rattle.mh_values.specs.Spelling.{IsMethodDescriptor}
use Rattle.mh_leaf.specs.LeafTable.{LeafTable}
use Rattle.mh_leaves.specs.declared.manifest.ManifestKind.{ManifestKind}
use Rattle.mh_leaves.specs.declared.manifest.ManifestKind.TheVariants.{BadLine, Twice, UnknownClass, BadDescriptor, BadKind, TooMany}
use Rattle.mh_leaves.specs.declared.manifest.ManifestError.{ManifestError}
use Rattle.mh_leaves.specs.declared.manifest.ManifestError.TheVariants.{NoMemory, Fault}
use Rattle.mh_leaves.specs.Manifest.{line_meaning}
use Rattle.mh_leaves.specs.Names.{descriptor_names, NamesClasses}
use Rattle.mh_leaves.specs.Registered.{nothing_registered}

-- a leaf's line names an undeclared class: as the owner, as the class that is thrown, or in the types of the descriptor
pub data LeafNamesUnknown (classes : List Class) (owner descriptor kind : List ℕ) : Type 0 where
  as_owner : class_named classes owner ≡ None → LeafNamesUnknown classes owner descriptor kind
  as_thrown : (name : List ℕ) → kind ≡ codes "throw:" ++ name → class_named classes name ≡ None → LeafNamesUnknown classes owner descriptor kind
  in_types : (d : IsMethodDescriptor descriptor) (name : List ℕ) → Contains (descriptor_names d) name → class_named classes name ≡ None →
      LeafNamesUnknown classes owner descriptor kind

-- a line, by its tokens, names an undeclared class: as the superclass of a class, or in a line of a leaf
pub data NamesUnknown (classes : List Class) : List (List ℕ) → Type 0 where
  of_class : (name superclass : List ℕ) → class_named classes superclass ≡ None → NamesUnknown classes (codes "class" ∷ name ∷ superclass ∷ [])
  of_static : (owner name descriptor kind : List ℕ) → LeafNamesUnknown classes owner descriptor kind →
      NamesUnknown classes (codes "static" ∷ owner ∷ name ∷ descriptor ∷ kind ∷ [])
  of_virtual : (owner name descriptor kind : List ℕ) → LeafNamesUnknown classes owner descriptor kind →
      NamesUnknown classes (codes "virtual" ∷ owner ∷ name ∷ descriptor ∷ kind ∷ [])

-- what the kind of a line's fault says of the classes that the line names: kinds before `UnknownClass` say nothing, and kinds after it say that all are
-- declared
abbrev pub TellsUnknown : ManifestKind → List Class → List (List ℕ) → Type 0
TellsUnknown BadLine classes tokens = Unit {0}
TellsUnknown Twice classes tokens = Unit {0}
TellsUnknown UnknownClass classes tokens = NamesUnknown classes tokens
TellsUnknown BadDescriptor classes tokens = NamesUnknown classes tokens → ⊥
TellsUnknown BadKind classes tokens = NamesUnknown classes tokens → ⊥
TellsUnknown TooMany classes tokens = NamesUnknown classes tokens → ⊥

-- a fault is that of the line with its number, and says this of the names in it, given the classes that the lines before it register
pub record IsFaultOf (bytes : List ℕ) (fault : LineFault ManifestKind) : Type 0 where
  pub before : List (List ℕ)
  pub line : List ℕ
  pub after : List (List ℕ)
  pub lines : lines_of bytes ≡ before ++ line ∷ after
  pub number : fault.line ≡ length before + 1
  pub so_far : LeafTable
  pub registered : built_from line_meaning 1 nothing_registered before ≡ Ok so_far
  pub names : TellsUnknown fault.kind so_far.classes (tokens_of line)

-- what an answer says of the names of classes: each leaf's descriptor names declared classes, and a fault speaks of those of its line
abbrev pub TellsNames : List ℕ → Result LeafTable ManifestError → Type 0
TellsNames bytes (Ok table) = All (λ leaf. NamesClasses table.classes leaf.descriptor) table.leaves
TellsNames bytes (Err NoMemory) = Unit {0}
TellsNames bytes (Err (Fault fault)) = IsFaultOf bytes fault
