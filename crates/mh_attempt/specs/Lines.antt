-- For proofs: no clause of a public function reaches these definitions.
-- Answers of the calls that make the node of a line.
use Rattle.std.specs.Prelude.{◌≡◌, ℕ, ◌%◌, ◌==◌, not, List, codes, Result, Ok, Err}
use Rattle.mh_values.specs.declared.class.Class.{Class}
use Rattle.mh_values.specs.declared.value.Exc.{Exc}
use Rattle.mh_values.specs.Class.{is_subclass, throwable_class}
use Rattle.mh_values.specs.Exception.{saying}
use Rattle.mh_leaf.specs.LeafTable.{LeafTable}
use Rattle.mh_tree.specs.Rows.{illegal}
use Rattle.mh_tree.specs.Tree.{Tree}
use Rattle.mh_tree.specs.Typing.{type_of}
use Rattle.mh_handle.specs.declared.error.HandleError.{HandleError}
use Rattle.mh_handle.specs.declared.error.HandleError.TheVariants.{NoMemory, FormsFull, TypesFull, Refused}
use Rattle.mh_handle.specs.declared.handle.Handle.{Handle}
use Rattle.mh_handle.specs.declared.work.Work.{Work}
use Rattle.mh_handle.specs.Stands.{Stands}
use Rattle.mh_handle.specs.Works.{IsUnchanged}
use Rattle.mh_jobs.specs.Names.{class_of}
use Rattle.mh_jobs.specs.Thrown.{OrThrown, ◌>>=◌, ◌>>◌, plainly, require, runtime_class}

-- the tree, which must have a type
abbrev pub typed : LeafTable → Tree → OrThrown Tree
typed leaves t = do
  own ← type_of leaves t
  Ok t

-- The answer is a handle that stands for the tree, or its exception, which changes nothing except the seat of types.
-- A table is full only if there is a tree. If memory runs out, the answer says nothing about the tree.
abbrev pub MakesNode : OrThrown Tree → Work → Work → Result Handle HandleError → Type 0
MakesNode node old new (Ok h) = (t : Tree) × (node ≡ Ok t) × Stands old.leaves.now h t
MakesNode node old new (Err (Refused e)) = (node ≡ Err e) × IsUnchanged old new
MakesNode node old new (Err (FormsFull drawn)) = (t : Tree) × (node ≡ Ok t)
MakesNode node old new (Err (TypesFull bucket)) = (t : Tree) × (node ≡ Ok t)
MakesNode node old new (Err NoMemory) = Unit {0}

-- ---- lines that make no node

-- throws if the serial mod `modulus` is `remainder`
abbrev pub passes : ℕ → ℕ → ℕ → OrThrown (Unit {0})
passes serial modulus remainder = require (not (serial % modulus == remainder)) (saying runtime_class (codes "failmod"))

-- the exception that a line raises; its class must be at or below Throwable
abbrev pub raised : List Class → List ℕ → List ℕ → OrThrown Exc
raised classes class message = do
  c ← class_of plainly classes class
  require (is_subclass classes c throwable_class) (illegal (codes "raise"))
  Ok (saying c message)

-- ---- whole scripts

-- The answer is a handle that stands for the target, or its exception. If a table is full or memory runs out, it says nothing about the target.
abbrev pub TellsTarget : OrThrown Tree → Work → Result Handle HandleError → Type 0
TellsTarget target old (Ok h) = (t : Tree) × (target ≡ Ok t) × Stands old.leaves.now h t
TellsTarget target old (Err (Refused e)) = target ≡ Err e
TellsTarget target old (Err error) = Unit {0}
