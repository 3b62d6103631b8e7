-- What a put of a value into a chain gives.
use Rattle.std.specs.Prelude.{◌≡◌, List, [], ◌∷◌, ◌++◌, length, Result, Ok, Err}
use Rattle.mh_setonce.specs.declared.put.Put.{Put}
use Rattle.mh_setonce.specs.declared.put.Put.TheVariants.{Mine, Theirs}
use Rattle.mh_setonce.specs.declared.put.PutRefused.{PutRefused}
use Rattle.mh_setonce.specs.declared.put.PutRefused.TheVariants.{NoMemory, Full}
use Rattle.mh_setonce.specs.declared.put.Tried.{Tried}
use Rattle.mh_setonce.specs.declared.put.Tried.TheVariants as tried
use Rattle.mh_setonce.specs.Views.{ChainView, WalkView, room_of}
use Rattle.mh_setonce.specs.Walks.{Lacks, Has, StartsWith}

-- ours is the last node of the walk; or ours is handed back, and the walk has a node with its key
abbrev pub PutIn : {V K : Type 0} → (V → K) → List V → List V → V → Put V → Type 0
PutIn {V} key before after value (Mine node) = (node.now ≡ value) × ((rest : List V) × (after ≡ (before ++ rest) ++ value ∷ []))
PutIn key before after value (Theirs node back) = (back ≡ value) × Has key after (key value) node.now

-- ours is handed back; if the chain is full, the walk has a node for each cell, and none with its key
abbrev pub Refused : {V K : Type 0} → (V → K) → List V → ChainView → V → PutRefused V → Type 0
Refused key after chain value (NoMemory back) = back ≡ value
Refused key after chain value (Full back) = (back ≡ value) × (length after ≡ room_of chain) × Lacks key after (key value)

-- what a put of a value gives, between the walk before and the walk after it
abbrev pub Puts : {V K : Type 0} → (V → K) → WalkView V → WalkView V → V → Result (Put V) (PutRefused V) → Type 0
Puts key before after value (Ok put) = PutIn key before.nodes after.nodes value put
Puts key before after value (Err refused) = Refused key after.nodes after.chain value refused

-- ours is the next node; or it is handed back, and another one may have been learnt
abbrev pub TriedOnce : {V : Type 0} → List V → List V → V → Tried V → Type 0
TriedOnce before after value (tried.Mine node) = (node.now ≡ value) × (after ≡ before ++ value ∷ [])
TriedOnce before after value (tried.Again back) = (back ≡ value) × StartsWith after before
TriedOnce before after value (tried.NoMemory back) = (back ≡ value) × (after ≡ before)
