-- A leaf on the slots at places is the leaf on those slots, picked.
use Rattle.std.proofs.Common.{◌≡◌, ◌≢◌, refl, sym, ap, ap₂, ◌∙◌, ℕ, ◌+◌, ◌<◌, ◌≤◌, List, [], ◌∷◌, ◌++◌, Option, Some, None, drop, length}
use Rattle.std.specs.Prelude.{slice_get}
use Rattle.std.proofs.Math.ListN.{drop_of_length-le}
use Rattle.mh_values.specs.declared.class.Class.{Class}
use Rattle.mh_values.specs.declared.types.Ty.{Ty}
use Rattle.mh_values.specs.declared.value.LeafId.{LeafId}
use Rattle.mh_values.specs.declared.value.Value.{Value}
use Rattle.mh_values.specs.Computation.{Stuck, found}
use Rattle.mh_leaf.specs.LeafTable.{LeafTable}
use Rattle.mh_leaf.specs.Outcome.{leaf_mean, ran_of}
use Rattle.mh_pieces.specs.declared.piece.Piece.{Piece}
use Rattle.mh_pieces.specs.Joined.{arg_types, joined}
use Rattle.mh_form.specs.declared.name.Name.TheVariants.{Call, Join}
use Rattle.mh_form.specs.declared.slot.Slot.{Slot}
use Rattle.mh_form.specs.Erasure.{all_typed, erased_ran, typed_at, typed_slot, value_and_more}
use Rattle.mh_form.specs.Run.{Sense, field_of, joined_of, leaf_of, picked, picked_more, step, with_field}
use Rattle.mh_form.specs.Slots.{called, called_at, filled, joined_at, joined_slots}
use Rattle.mh_form.proofs.Typing.{drop-at, first-left, typed_on, typed_on-more}

picked-step :
    (classes : List Class) (slots : List Slot) (ts : List Ty) (p : ℕ) (ps : List ℕ) (o : Option Slot) (r : Option (List Slot)) →
    slice_get slots p ≡ o →
    picked slots ps ≡ r →
    (xs : List Slot) →
    picked_more o r ≡ Some xs →
    ((us : List Ty) (ss : List Slot) → picked slots ps ≡ Some ss → typed_at classes slots us ps ≡ all_typed classes us ss) →
    typed_at classes slots ts (p ∷ ps) ≡ all_typed classes ts xs
picked-step classes slots ts p ps None r at rest xs more ih = absurd cc
picked-step classes slots ts p ps (Some s) None at rest xs more ih = absurd cc
picked-step classes slots [] p ps (Some s) (Some ss) at rest xs more ih =
    let e : s ∷ ss ≡ xs = cc in ap (all_typed classes []) e
picked-step classes slots (t ∷ ts) p ps (Some s) (Some ss) at rest xs more ih =
    let e : s ∷ ss ≡ xs = cc in
    ap₂ value_and_more (ap (typed_slot classes t) at) (ih ts ss rest) ∙ ap (all_typed classes (t ∷ ts)) e

pub typed_at-picked :
    (classes : List Class) (slots : List Slot) (ts : List Ty) (ps : List ℕ) (xs : List Slot) →
    picked slots ps ≡ Some xs → typed_at classes slots ts ps ≡ all_typed classes ts xs
typed_at-picked classes slots [] [] xs h = let e : [] ≡ xs = cc in ap (all_typed classes []) e
typed_at-picked classes slots (t ∷ ts) [] xs h = let e : [] ≡ xs = cc in ap (all_typed classes (t ∷ ts)) e
typed_at-picked classes slots ts (p ∷ ps) xs h =
    picked-step classes slots ts p ps (slice_get slots p) (picked slots ps) refl refl xs h (λ us ss e. typed_at-picked classes slots us ps ss e)

pub called_at-picked :
    (table : LeafTable) (l : LeafId) (slots : List Slot) (ps : List ℕ) (n : ℕ) (xs : List Slot) →
    picked slots ps ≡ Some xs → called_at table l slots ps n ≡ called table l xs n
called_at-picked table l slots ps n xs h = λ i.
    found (slice_get table.leaves l.0) (λ leaf.
    found (typed_at-picked table.classes slots leaf.ty.params ps xs h i) (λ args. erased_ran (leaf_mean table l args n)))

step-of :
    (table : LeafTable) (l : LeafId) (senses : List Sense) (f : ℕ) (slots : List Slot) (ps : List ℕ) (n : ℕ) (o : Option (List Slot)) →
    picked slots ps ≡ o →
    field_of leaf_of senses f ≡ Some (called table l) →
    step (Call f ps) senses slots n ≢ Stuck →
    step (Call f ps) senses slots n ≡ filled (called_at table l slots ps n)
step-of table l senses f slots ps n None picks is goes =
    absurd (goes (ap (λ o. found o (λ xs. with_field leaf_of senses f (λ leaf. filled (leaf xs n)))) picks))
step-of table l senses f slots ps n (Some xs) picks is goes =
    ap (λ o. found o (λ xs. with_field leaf_of senses f (λ leaf. filled (leaf xs n)))) picks
    ∙ (ap (λ o. found o (λ leaf. filled (leaf xs n))) is ∙ ap filled (sym (called_at-picked table l slots ps n xs picks)))

-- a call of a leaf that goes on is the leaf on the slots at its places
pub step-called :
    (table : LeafTable) (l : LeafId) (senses : List Sense) (f : ℕ) (slots : List Slot) (ps : List ℕ) (n : ℕ) →
    field_of leaf_of senses f ≡ Some (called table l) →
    step (Call f ps) senses slots n ≢ Stuck →
    step (Call f ps) senses slots n ≡ filled (called_at table l slots ps n)
step-called table l senses f slots ps n is goes = step-of table l senses f slots ps n (picked slots ps) refl is goes

-- ---- pieces

joined_at-picked :
    (classes : List Class) (pieces : List Piece) (slots : List Slot) (ps : List ℕ) (xs : List Slot) →
    picked slots ps ≡ Some xs → joined_at classes pieces slots ps ≡ joined_slots classes pieces xs
joined_at-picked classes pieces slots ps xs h =
    ap (λ o. found o (λ args. filled (erased_ran (ran_of (joined classes pieces args) [])))) (typed_at-picked classes slots (arg_types pieces) ps xs h)

join-of :
    (classes : List Class) (pieces : List Piece) (senses : List Sense) (f : ℕ) (slots : List Slot) (ps : List ℕ) (n : ℕ) (o : Option (List Slot)) →
    picked slots ps ≡ o →
    field_of joined_of senses f ≡ Some (joined_slots classes pieces) →
    step (Join f ps) senses slots n ≢ Stuck →
    step (Join f ps) senses slots n ≡ joined_at classes pieces slots ps
join-of classes pieces senses f slots ps n None picks is goes =
    absurd (goes (ap (λ o. found o (λ xs. with_field joined_of senses f (λ join. join xs))) picks))
join-of classes pieces senses f slots ps n (Some xs) picks is goes =
    ap (λ o. found o (λ xs. with_field joined_of senses f (λ join. join xs))) picks
    ∙ (ap (λ o. found o (λ join. join xs)) is ∙ sym (joined_at-picked classes pieces slots ps xs picks))

-- pieces that are joined and go on are joined on the slots at their places
pub step-joined :
    (classes : List Class) (pieces : List Piece) (senses : List Sense) (f : ℕ) (slots : List Slot) (ps : List ℕ) (n : ℕ) →
    field_of joined_of senses f ≡ Some (joined_slots classes pieces) →
    step (Join f ps) senses slots n ≢ Stuck →
    step (Join f ps) senses slots n ≡ joined_at classes pieces slots ps
step-joined classes pieces senses f slots ps n is goes = join-of classes pieces senses f slots ps n (picked slots ps) refl is goes

-- ---- the arguments of a leaf, one after another

at-step :
    (classes : List Class) (slots : List Slot) (ts : List Ty) (ps : List ℕ) (vs : List Value) (i : ℕ) (t : Ty) (p : ℕ) →
    slice_get ts i ≡ Some t →
    slice_get ps i ≡ Some p →
    typed_on vs (typed_at classes slots (drop i ts) (drop i ps))
    ≡ typed_on vs (value_and_more (typed_slot classes t (slice_get slots p)) (typed_at classes slots (drop (i + 1) ts) (drop (i + 1) ps)))
at-step classes slots ts ps vs i t p h k = ap (typed_on vs) (ap₂ (typed_at classes slots) (drop-at ts i t h) (drop-at ps i p k))

pub at-short :
    (classes : List Class) (slots : List Slot) (ts : List Ty) (ps : List ℕ) (vs : List Value) (i : ℕ) →
    i < length ts → length ps ≤ i → typed_on vs (typed_at classes slots (drop i ts) (drop i ps)) ≡ None
at-short classes slots ts ps vs i low high =
    let q = first-left ts i low in
    ap (typed_on vs) (ap₂ (typed_at classes slots) q.1 (drop_of_length-le ps high))

pub at-none :
    (classes : List Class) (slots : List Slot) (ts : List Ty) (ps : List ℕ) (vs : List Value) (i : ℕ) (t : Ty) (p : ℕ) →
    slice_get ts i ≡ Some t →
    slice_get ps i ≡ Some p →
    typed_slot classes t (slice_get slots p) ≡ None →
    typed_on vs (typed_at classes slots (drop i ts) (drop i ps)) ≡ None
at-none classes slots ts ps vs i t p h k none =
    at-step classes slots ts ps vs i t p h k ∙ ap (λ o. typed_on vs (value_and_more o (typed_at classes slots (drop (i + 1) ts) (drop (i + 1) ps)))) none

pub at-next :
    (classes : List Class) (slots : List Slot) (ts : List Ty) (ps : List ℕ) (vs ws : List Value) (i : ℕ) (t : Ty) (p : ℕ) (v : Value)
    (all : Option (List Value)) →
    all ≡ typed_on vs (typed_at classes slots (drop i ts) (drop i ps)) →
    slice_get ts i ≡ Some t →
    slice_get ps i ≡ Some p →
    typed_slot classes t (slice_get slots p) ≡ Some v →
    ws ≡ vs ++ v ∷ [] →
    all ≡ typed_on ws (typed_at classes slots (drop (i + 1) ts) (drop (i + 1) ps))
at-next classes slots ts ps vs ws i t p v all is h k some more =
    let rest = typed_at classes slots (drop (i + 1) ts) (drop (i + 1) ps) in
    is ∙ (at-step classes slots ts ps vs i t p h k
    ∙ (ap (λ o. typed_on vs (value_and_more o rest)) some ∙ (typed_on-more vs v rest ∙ ap (λ u. typed_on u rest) (sym more))))
