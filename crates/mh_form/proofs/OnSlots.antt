-- What a leaf gives on slots is the erasure of what it gives on the values of these slots.
use Rattle.std.proofs.Common.{◌≡◌, ◌≢◌, refl, sym, ap, ap₂, ◌∙◌, subst, ℕ, ℤ, Bool, true, false, if◌then◌else◌, Option, Some, None, List, [], ◌∷◌, map}
use Rattle.std.specs.Prelude.{pos, option_and_then, ◌+ℤ◌, ◌-ℤ◌, ◌*ℤ◌, int_lt, not, option_map, slice_get}
use Rattle.std.specs.Int.{w32, w64, cast_signed, int_wrap}
use Rattle.mh_base.proofs.Inversion.{map_some, some_is}
use Rattle.mh_values.specs.declared.calls.LeafCall.{LeafCall}
use Rattle.mh_values.specs.declared.class.Class.{Class}
use Rattle.mh_values.specs.declared.types.Ty.{Ty}
use Rattle.mh_values.specs.declared.value.LeafId.{LeafId}
use Rattle.mh_values.specs.declared.value.Num.TheVariants as num
use Rattle.mh_values.specs.declared.value.Outcome.{Outcome}
use Rattle.mh_values.specs.declared.value.Outcome.TheVariants.{Return, Throw}
use Rattle.mh_values.specs.declared.value.Value.{Value}
use Rattle.mh_values.specs.declared.value.Value.TheVariants as value
use Rattle.mh_values.specs.Class.{null_pointer_class}
use Rattle.mh_values.specs.Computation.{Gave, Stuck, found}
use Rattle.mh_values.specs.Exception.{bare}
use Rattle.mh_leaf.specs.declared.leaf.Kind.{Kind}
use Rattle.mh_leaf.specs.declared.leaf.Kind.TheVariants as kind
use Rattle.mh_leaf.specs.declared.leaf.Leaf.{Leaf}
use Rattle.mh_leaf.specs.LeafTable.{LeafTable}
use Rattle.mh_leaf.specs.Outcome.{boolean, int, characters_of, is_same_int, joined, kind_on, lacks_receiver, leaf_mean, leaf_outcome, leaf_run, long, measured, one_boolean, ran_of, ran_of_some, returned, two_ints, two_longs}
use Rattle.mh_form.specs.declared.slot.Slot.{Slot}
use Rattle.mh_form.specs.declared.slot.Slot.TheVariants as slot
use Rattle.mh_form.specs.Erasure.{all_typed, erased, erased_ran, typed_at, typed_slot, value_and_more}
use Rattle.mh_form.specs.OnSlots.{both_ints, both_longs, both_references, first_at, ints_at, longs_at, on_slots, only_at, picked_at, reference, references_at, returned_slot, truth}
use Rattle.mh_form.specs.Run.{picked, picked_more}
use Rattle.mh_form.specs.Slots.{called, called_at, filled, holds_one}
use Rattle.mh_form.proofs.CalledAt.{called_at-picked, typed_at-picked}
use Rattle.mh_form.proofs.ErasureLaws.{all_typed-erased}

-- ---- slots at places

picked-one : (slots : List Slot) (p : ℕ) (ps : List ℕ) (s : Slot) (ss : List Slot) (o : Option Slot) (r : Option (List Slot)) →
    slice_get slots p ≡ o → picked slots ps ≡ r → picked_more o r ≡ Some (s ∷ ss) → (slice_get slots p ≡ Some s) × (picked slots ps ≡ Some ss)
picked-one slots p ps s ss None r at rest more = absurd cc
picked-one slots p ps s ss (Some t) None at rest more = absurd cc
picked-one slots p ps s ss (Some t) (Some ts) at rest more =
    let e : t ≡ s = cc in let f : ts ≡ ss = cc in (at ∙ ap Some e, rest ∙ ap Some f)

-- the first slot and the others
picked-more : (slots : List Slot) (p : ℕ) (ps : List ℕ) (s : Slot) (ss : List Slot) → picked slots (p ∷ ps) ≡ Some (s ∷ ss) →
    (slice_get slots p ≡ Some s) × (picked slots ps ≡ Some ss)
picked-more slots p ps s ss picks = picked-one slots p ps s ss (slice_get slots p) (picked slots ps) refl refl picks

-- slots that are there have places
no-places : (slots : List Slot) (p : ℕ) (ps : List ℕ) (o : Option Slot) (r : Option (List Slot)) →
    slice_get slots p ≡ o → picked slots ps ≡ r → picked_more o r ≡ Some [] → ⊥
no-places slots p ps None r at rest more = absurd cc
no-places slots p ps (Some t) None at rest more = absurd cc
no-places slots p ps (Some t) (Some ts) at rest more = absurd cc

one-place : (slots : List Slot) (places : List ℕ) (s : Slot) → picked slots places ≡ Some (s ∷ []) → (p : ℕ) × (places ≡ p ∷ []) × (slice_get slots p ≡ Some s)
one-place slots [] s picks = absurd cc
one-place slots (p ∷ []) s picks = (p, refl, (picked-more slots p [] s [] picks).0)
one-place slots (p ∷ q ∷ ps) s picks =
    absurd (no-places slots q ps (slice_get slots q) (picked slots ps) refl refl (picked-more slots p (q ∷ ps) s [] picks).1)

two-places : (slots : List Slot) (places : List ℕ) (s t : Slot) → picked slots places ≡ Some (s ∷ t ∷ []) →
    (p : ℕ) × (q : ℕ) × (places ≡ p ∷ q ∷ []) × (slice_get slots p ≡ Some s) × (slice_get slots q ≡ Some t)
two-places slots [] s t picks = absurd cc
two-places slots (p ∷ ps) s t picks =
    let first = picked-more slots p ps s (t ∷ []) picks in
    let rest = one-place slots ps t first.1 in
    (p, rest.0, ap (λ l. p ∷ l) rest.1, first.0, rest.2)

three-places : (slots : List Slot) (places : List ℕ) (r s t : Slot) → picked slots places ≡ Some (r ∷ s ∷ t ∷ []) →
    (o : ℕ) × (p : ℕ) × (q : ℕ) × (places ≡ o ∷ p ∷ q ∷ []) × (slice_get slots o ≡ Some r) × (slice_get slots p ≡ Some s) × (slice_get slots q ≡ Some t)
three-places slots [] r s t picks = absurd cc
three-places slots (o ∷ ps) r s t picks =
    let first = picked-more slots o ps r (s ∷ t ∷ []) picks in
    let rest = two-places slots ps s t first.1 in
    (o, rest.0, rest.1, ap (λ l. o ∷ l) rest.2, first.0, rest.3, rest.4)

-- ---- arguments and their slots

ints-found : (slots : List Slot) (places : List ℕ) (args : List Value) (p : ℤ × ℤ) → picked slots places ≡ Some (map erased args) → two_ints args ≡ Some p →
    ints_at slots places ≡ Some p
ints-found slots places (value.Prim (num.I a) ∷ value.Prim (num.I b) ∷ []) p picks is =
    let at = two-places slots places (slot.I a) (slot.I b) picks in
    let e : (a, b) ≡ p = cc in
    ap (ints_at slots) at.2 ∙ (ap₂ both_ints at.3 at.4 ∙ ap Some e)
ints-found slots places args p picks is = absurd cc

longs-found : (slots : List Slot) (places : List ℕ) (args : List Value) (p : ℤ × ℤ) → picked slots places ≡ Some (map erased args) →
    two_longs args ≡ Some p → longs_at slots places ≡ Some p
longs-found slots places (value.Prim (num.J a) ∷ value.Prim (num.J b) ∷ []) p picks is =
    let at = two-places slots places (slot.J a) (slot.J b) picks in
    let e : (a, b) ≡ p = cc in
    ap (longs_at slots) at.2 ∙ (ap₂ both_longs at.3 at.4 ∙ ap Some e)
longs-found slots places args p picks is = absurd cc

-- ---- one kind after the other

-- an outcome without leaf calls of its own, as the slot that it fills
abbrev fills : Outcome → Slot → List LeafCall → Type 0
fills o s calls = filled (erased_ran (ran_of o calls)) ≡ Gave s calls

-- what was given is the slot that the outcome of a kind fills
abbrev gives : Option Outcome → Option Slot → Type 0
gives told given = (o : Outcome) (s : Slot) (calls : List LeafCall) → told ≡ Some o → given ≡ Some s → fills o s calls

fills-both : (r o : Outcome) (t s : Slot) (calls : List LeafCall) → fills r t calls → r ≡ o → t ≡ s → fills o s calls
fills-both r o t s calls is e f = sym (ap (λ x. filled (erased_ran (ran_of x calls))) e) ∙ (is ∙ ap (λ x. Gave x calls) f)

truth-filled : (b : Bool) (calls : List LeafCall) → fills (boolean b) (truth b) calls
truth-filled true calls = refl
truth-filled false calls = refl

pair-gives :
    (f : ℤ × ℤ → Outcome) (g : ℤ × ℤ → Slot) (had here : Option (ℤ × ℤ)) →
    ((p : ℤ × ℤ) → had ≡ Some p → here ≡ Some p) → ((p : ℤ × ℤ) (calls : List LeafCall) → fills (f p) (g p) calls) →
    gives (option_map f had) (option_map g here)
pair-gives f g had here same meant o s calls told given =
    let p = map_some f had o told in
    let e : g p.0 ≡ s = some_is (g p.0) s (sym (ap (option_map g) (same p.0 p.1)) ∙ given) in
    fills-both (f p.0) o (g p.0) s calls (meant p.0 calls) p.2 e

-- a value is returned, and the slot of its erasure was given
value-gives : (v : Value) (o : Outcome) (s : Slot) (calls : List LeafCall) (given : Option Slot) → Some (returned v) ≡ Some o → given ≡ Some (erased v) →
    given ≡ Some s → fills o s calls
value-gives v o s calls given told at is =
    fills-both (returned v) o (erased v) s calls refl (some_is (returned v) o told) (some_is (erased v) s (sym at ∙ is))

-- the slot of the value that was returned is given
outcome-fills : (o : Outcome) (s : Slot) (calls : List LeafCall) → returned_slot o ≡ Some s → fills o s calls
outcome-fills (Return (Some v)) s calls is = fills-both (returned v) (returned v) (erased v) s calls refl refl (some_is (erased v) s is)
outcome-fills o s calls is = absurd cc

-- ---- references

erased-reference : (v w : Value) → erased v ≡ slot.L w → v ≡ w
erased-reference (value.Prim (num.Z b)) w is = absurd cc
erased-reference (value.Prim (num.B i)) w is = absurd cc
erased-reference (value.Prim (num.C c)) w is = absurd cc
erased-reference (value.Prim (num.S i)) w is = absurd cc
erased-reference (value.Prim (num.I i)) w is = absurd cc
erased-reference (value.Prim (num.J i)) w is = absurd cc
erased-reference v w is = cc

references-held : (o p : Option Slot) (q : Value × Value) → both_references o p ≡ Some q → (o ≡ Some (slot.L q.0)) × (p ≡ Some (slot.L q.1))
references-held (Some (slot.L v)) (Some (slot.L w)) q is =
    let e : (v, w) ≡ q = cc in (ap (λ (r : Value × Value). Some (slot.L r.0)) e, ap (λ (r : Value × Value). Some (slot.L r.1)) e)
references-held o p q is = absurd cc

reference-held : (s : Slot) (v : Value) → reference s ≡ Some v → s ≡ slot.L v
reference-held (slot.L w) v is = cc
reference-held s v is = absurd cc

-- two texts joined, and the length of one
joined-fills :
    (v w : Value) (r : Option (Value × Value)) (o : Outcome) (s : Slot) (calls : List LeafCall) →
    both_references (Some (erased v)) (Some (erased w)) ≡ r →
    joined (characters_of v) (characters_of w) ≡ o →
    option_and_then (λ p. returned_slot (joined (characters_of p.0) (characters_of p.1))) r ≡ Some s →
    fills o s calls
joined-fills v w None o s calls held meant given = absurd cc
joined-fills v w (Some q) o s calls held meant given =
    let are = references-held (Some (erased v)) (Some (erased w)) q held in
    let first = erased-reference v q.0 (some_is (erased v) (slot.L q.0) are.0) in
    let second = erased-reference w q.1 (some_is (erased w) (slot.L q.1) are.1) in
    let same = sym (ap₂ (λ a b. joined (characters_of a) (characters_of b)) first second) ∙ meant in
    outcome-fills o s calls (sym (ap returned_slot same) ∙ given)

measured-fills :
    (v : Value) (r : Option Value) (o : Outcome) (s : Slot) (calls : List LeafCall) →
    reference (erased v) ≡ r →
    measured v ≡ Some o →
    option_and_then (λ w. option_and_then returned_slot (measured w)) r ≡ Some s →
    fills o s calls
measured-fills v None o s calls held meant given = absurd cc
measured-fills v (Some w) o s calls held meant given =
    let same = erased-reference v w (reference-held (erased v) w held) in
    outcome-fills o s calls (sym (ap (option_and_then returned_slot) (sym (ap measured same) ∙ meant)) ∙ given)

module _ (slots : List Slot) (places : List ℕ) (n : ℕ) where
  not-gives : (args : List Value) → picked slots places ≡ Some (map erased args) →
      gives (kind_on kind.Not args n) (on_slots kind.Not slots places n)
  not-gives (value.Prim (num.Z true) ∷ []) picks o s calls told given =
      let at = one-place slots places (slot.I (pos 1)) picks in
      let found : only_at slots places ≡ Some (slot.I (pos 1)) = ap (only_at slots) at.1 ∙ at.2 in
      fills-both (boolean false) o (truth false) s calls refl (some_is (boolean false) o told)
      (some_is (truth false) s (sym (ap (option_map (λ x. truth (not (holds_one x)))) found) ∙ given))
  not-gives (value.Prim (num.Z false) ∷ []) picks o s calls told given =
      let at = one-place slots places (slot.I (pos 0)) picks in
      let found : only_at slots places ≡ Some (slot.I (pos 0)) = ap (only_at slots) at.1 ∙ at.2 in
      fills-both (boolean true) o (truth true) s calls refl (some_is (boolean true) o told)
      (some_is (truth true) s (sym (ap (option_map (λ x. truth (not (holds_one x)))) found) ∙ given))
  not-gives args picks o s calls told given = absurd cc

  same-gives : (args : List Value) → picked slots places ≡ Some (map erased args) → gives (kind_on kind.Same args n) (only_at slots places)
  same-gives (v ∷ []) picks o s calls told given =
      let at = one-place slots places (erased v) picks in value-gives v o s calls (only_at slots places) told (ap (only_at slots) at.1 ∙ at.2) given
  same-gives args picks o s calls told given = absurd cc

  first-found : (v w : Value) (vs : List Value) (ps : List ℕ) → picked slots ps ≡ Some (map erased (v ∷ w ∷ vs)) → first_at slots ps ≡ Some (erased v)
  first-found v w vs [] picks = absurd cc
  first-found v w vs (p ∷ []) picks = let more = picked-more slots p [] (erased v) (map erased (w ∷ vs)) picks in let no = more.1 in absurd cc
  first-found v w vs (p ∷ q ∷ ps) picks = (picked-more slots p (q ∷ ps) (erased v) (map erased (w ∷ vs)) picks).0

  first-gives : (args : List Value) → picked slots places ≡ Some (map erased args) → gives (kind_on kind.First args n) (first_at slots places)
  first-gives (v ∷ w ∷ vs) picks o s calls told given = value-gives v o s calls (first_at slots places) told (first-found v w vs places picks) given
  first-gives args picks o s calls told given = absurd cc

  pick-gives : (args : List Value) → picked slots places ≡ Some (map erased args) → gives (kind_on kind.Pick args n) (picked_at slots places)
  pick-gives (value.Prim (num.Z true) ∷ v ∷ w ∷ []) picks o s calls told given =
      let at = three-places slots places (slot.I (pos 1)) (erased v) (erased w) picks in
      value-gives v o s calls (picked_at slots places) told (ap (picked_at slots) at.3
      ∙ (ap (option_and_then (λ x. if holds_one x then slice_get slots at.1 else slice_get slots at.2)) at.4 ∙ at.5)) given
  pick-gives (value.Prim (num.Z false) ∷ v ∷ w ∷ []) picks o s calls told given =
      let at = three-places slots places (slot.I (pos 0)) (erased v) (erased w) picks in
      value-gives w o s calls (picked_at slots places) told (ap (picked_at slots) at.3
      ∙ (ap (option_and_then (λ x. if holds_one x then slice_get slots at.1 else slice_get slots at.2)) at.4 ∙ at.6)) given
  pick-gives args picks o s calls told given = absurd cc

  concat-gives : (args : List Value) → picked slots places ≡ Some (map erased args) →
      gives (kind_on kind.Concat args n) (on_slots kind.Concat slots places n)
  concat-gives (v ∷ w ∷ []) picks o s calls told given =
      let at = two-places slots places (erased v) (erased w) picks in
      let found = ap (references_at slots) at.2 ∙ ap₂ both_references at.3 at.4 in
      joined-fills v w (both_references (Some (erased v)) (Some (erased w))) o s calls refl (some_is (joined (characters_of v) (characters_of w)) o told)
      (sym (ap (option_and_then (λ p. returned_slot (joined (characters_of p.0) (characters_of p.1)))) found) ∙ given)
  concat-gives args picks o s calls told given = absurd cc

  length-gives : (args : List Value) → picked slots places ≡ Some (map erased args) →
      gives (kind_on kind.Length args n) (on_slots kind.Length slots places n)
  length-gives (v ∷ []) picks o s calls told given =
      let at = one-place slots places (erased v) picks in
      let found = ap (λ l. option_and_then reference (only_at slots l)) at.1 ∙ ap (option_and_then reference) at.2 in
      measured-fills v (reference (erased v)) o s calls refl told
      (sym (ap (option_and_then (λ w. option_and_then returned_slot (measured w))) found) ∙ given)
  length-gives args picks o s calls told given = absurd cc

  kind-gives : (k : Kind) (args : List Value) → picked slots places ≡ Some (map erased args) → gives (kind_on k args n) (on_slots k slots places n)
  kind-gives kind.Iadd args picks o s calls told given =
      pair-gives (λ p. int (int_wrap w32 (p.0 +ℤ p.1))) (λ p. slot.I (int_wrap w32 (p.0 +ℤ p.1))) (two_ints args) (ints_at slots places)
      (λ p e. ints-found slots places args p picks e) (λ p calls. refl) o s calls told given
  kind-gives kind.Isub args picks o s calls told given =
      pair-gives (λ p. int (int_wrap w32 (p.0 -ℤ p.1))) (λ p. slot.I (int_wrap w32 (p.0 -ℤ p.1))) (two_ints args) (ints_at slots places)
      (λ p e. ints-found slots places args p picks e) (λ p calls. refl) o s calls told given
  kind-gives kind.Imul args picks o s calls told given =
      pair-gives (λ p. int (int_wrap w32 (p.0 *ℤ p.1))) (λ p. slot.I (int_wrap w32 (p.0 *ℤ p.1))) (two_ints args) (ints_at slots places)
      (λ p e. ints-found slots places args p picks e) (λ p calls. refl) o s calls told given
  kind-gives kind.Ladd args picks o s calls told given =
      pair-gives (λ p. long (int_wrap w64 (p.0 +ℤ p.1))) (λ p. slot.J (int_wrap w64 (p.0 +ℤ p.1))) (two_longs args) (longs_at slots places)
      (λ p e. longs-found slots places args p picks e) (λ p calls. refl) o s calls told given
  kind-gives kind.Ieq args picks o s calls told given =
      pair-gives (λ p. boolean (is_same_int p.0 p.1)) (λ p. truth (is_same_int p.0 p.1)) (two_ints args) (ints_at slots places)
      (λ p e. ints-found slots places args p picks e) (λ p calls. truth-filled (is_same_int p.0 p.1) calls) o s calls told given
  kind-gives kind.Ilt args picks o s calls told given =
      pair-gives (λ p. boolean (int_lt p.0 p.1)) (λ p. truth (int_lt p.0 p.1)) (two_ints args) (ints_at slots places)
      (λ p e. ints-found slots places args p picks e) (λ p calls. truth-filled (int_lt p.0 p.1) calls) o s calls told given
  kind-gives kind.Not args picks o s calls told given = not-gives args picks o s calls told given
  kind-gives kind.Same args picks o s calls told given = same-gives args picks o s calls told given
  kind-gives kind.First args picks o s calls told given = first-gives args picks o s calls told given
  kind-gives kind.Pick args picks o s calls told given = pick-gives args picks o s calls told given
  kind-gives kind.Tick args picks o s calls told given =
      fills-both (int (cast_signed w32 n)) o (slot.I (cast_signed w32 n)) s calls refl (some_is (int (cast_signed w32 n)) o told)
      (some_is (slot.I (cast_signed w32 n)) s given)
  kind-gives kind.Note args picks o s calls told given =
      fills-both (Return None) o (slot.I (pos 0)) s calls refl (some_is (Return None) o told) (some_is (slot.I (pos 0)) s given)
  kind-gives kind.Idiv args picks o s calls told given = absurd cc
  kind-gives kind.Concat args picks o s calls told given = concat-gives args picks o s calls told given
  kind-gives kind.Length args picks o s calls told given = length-gives args picks o s calls told given
  kind-gives (kind.Throw class) args picks o s calls told given = absurd cc

-- ---- a leaf of the table

has-receiver : (leaf : Leaf) (args : List Value) → leaf.is_virtual ≡ false → lacks_receiver leaf args ≡ false
has-receiver leaf (value.Null ∷ vs) plain = plain
has-receiver leaf args plain = cc

-- what a leaf without a receiver does is what its kind does
run-fills :
    (l : LeafId) (leaf : Leaf) (slots : List Slot) (places : List ℕ) (args : List Value) (n : ℕ) (s : Slot) (b : Bool) (r : Option Outcome) →
    lacks_receiver leaf args ≡ b →
    b ≡ false →
    kind_on leaf.kind args n ≡ r →
    picked slots places ≡ Some (map erased args) →
    on_slots leaf.kind slots places n ≡ Some s →
    leaf_run l (Some leaf) args n ≢ Stuck →
    filled (erased_ran (leaf_run l (Some leaf) args n)) ≡ Gave s (record { leaf = l; args = args } ∷ [])
run-fills l leaf slots places args n s true r lacks plain is picks given goes = absurd cc
run-fills l leaf slots places args n s false None lacks plain is picks given goes =
    absurd (goes (ap (λ b. ran_of_some (if b then Some (Throw (bare null_pointer_class)) else kind_on leaf.kind args n)
    (if b then [] else record { leaf = l; args = args } ∷ [])) lacks ∙ ap (λ o. ran_of_some o (record { leaf = l; args = args } ∷ [])) is))
run-fills l leaf slots places args n s false (Some o) lacks plain is picks given goes =
    ap (λ b. filled (erased_ran (ran_of_some (if b then Some (Throw (bare null_pointer_class)) else kind_on leaf.kind args n)
    (if b then [] else record { leaf = l; args = args } ∷ [])))) lacks
    ∙ (ap (λ r. filled (erased_ran (ran_of_some r (record { leaf = l; args = args } ∷ [])))) is
    ∙ kind-gives slots places n leaf.kind args picks o s (record { leaf = l; args = args } ∷ []) is given)

typed-fills :
    (table : LeafTable) (l : LeafId) (leaf : Leaf) (slots : List Slot) (places : List ℕ) (ss : List Slot) (n : ℕ) (s : Slot) (r : Option (List Value)) →
    slice_get table.leaves l.0 ≡ Some leaf →
    leaf.is_virtual ≡ false →
    all_typed table.classes leaf.ty.params ss ≡ r →
    picked slots places ≡ Some ss →
    on_slots leaf.kind slots places n ≡ Some s →
    called table l ss n ≢ Stuck →
    (args : List Value) × (r ≡ Some args) × (filled (called table l ss n) ≡ Gave s (record { leaf = l; args = args } ∷ []))
typed-fills table l leaf slots places ss n s None there plain typed picks given goes =
    absurd (goes (ap (λ o. found o (λ f. found (all_typed table.classes f.ty.params ss) (λ args. erased_ran (leaf_mean table l args n)))) there
    ∙ ap (λ o. found o (λ args. erased_ran (leaf_mean table l args n))) typed))
typed-fills table l leaf slots places ss n s (Some args) there plain typed picks given goes =
    let runs : called table l ss n ≡ erased_ran (leaf_run l (Some leaf) args n) =
    ap (λ o. found o (λ f. found (all_typed table.classes f.ty.params ss) (λ vs. erased_ran (leaf_mean table l vs n)))) there
    ∙ (ap (λ o. found o (λ vs. erased_ran (leaf_mean table l vs n))) typed ∙ ap (λ o. erased_ran (leaf_run l o args n)) there) in
    let same : map erased args ≡ ss = all_typed-erased table.classes leaf.ty.params ss args typed in
    let picks' = picks ∙ ap Some (sym same) in
    let goes' : leaf_run l (Some leaf) args n ≢ Stuck = λ stuck. goes (runs ∙ ap erased_ran stuck) in (
      args,
      refl,
      ap filled runs
          ∙ run-fills l leaf slots places args n s (lacks_receiver leaf args) (kind_on leaf.kind args n) refl (has-receiver leaf args plain) refl
          picks' given goes',
    )

-- a leaf without a receiver on the slots at these places
pub called-fills :
    (table : LeafTable) (l : LeafId) (slots : List Slot) (places : List ℕ) (n : ℕ) (leaf : Leaf) (ss : List Slot) (s : Slot) →
    slice_get table.leaves l.0 ≡ Some leaf →
    leaf.is_virtual ≡ false →
    picked slots places ≡ Some ss →
    on_slots leaf.kind slots places n ≡ Some s →
    called_at table l slots places n ≢ Stuck →
    (args : List Value) × (typed_at table.classes slots leaf.ty.params places ≡ Some args)
    × (filled (called_at table l slots places n) ≡ Gave s (record { leaf = l; args = args } ∷ []))
called-fills table l slots places n leaf ss s there plain picks given goes =
    let at = called_at-picked table l slots places n ss picks in
    let typed = typed_at-picked table.classes slots leaf.ty.params places ss picks in
    let all = typed-fills table l leaf slots places ss n s (all_typed table.classes leaf.ty.params ss) there plain refl
    picks given (λ stuck. goes (at ∙ stuck)) in
    (all.0, typed ∙ all.1, ap filled at ∙ all.2)

-- ---- the slots are there

no-more : (o : Option Value) → value_and_more o None ≡ None
no-more None = refl
no-more (Some v) = refl

picked-there :
    (classes : List Class) (slots : List Slot) (t : Ty) (ts : List Ty) (p : ℕ) (ps : List ℕ) (o : Option Slot) (r : Option (List Slot)) →
    slice_get slots p ≡ o →
    picked slots ps ≡ r →
    value_and_more (typed_slot classes t o) (typed_at classes slots ts ps) ≢ None →
    picked_more o r ≡ None →
    (typed_at classes slots ts ps ≢ None → picked slots ps ≢ None) →
    ⊥
picked-there classes slots t ts p ps None r at rest typed none ih = typed refl
picked-there classes slots t ts p ps (Some s) None at rest typed none ih =
    ih (λ short. typed (ap (value_and_more (typed_slot classes t (Some s))) short ∙ no-more (typed_slot classes t (Some s)))) rest
picked-there classes slots t ts p ps (Some s) (Some ss) at rest typed none ih = absurd cc

typed-picked : (classes : List Class) (slots : List Slot) (ts : List Ty) (ps : List ℕ) → typed_at classes slots ts ps ≢ None → picked slots ps ≢ None
typed-picked classes slots [] [] typed none = absurd cc
typed-picked classes slots [] (p ∷ ps) typed none = typed refl
typed-picked classes slots (t ∷ ts) [] typed none = typed refl
typed-picked classes slots (t ∷ ts) (p ∷ ps) typed none =
    picked-there classes slots t ts p ps (slice_get slots p) (picked slots ps) refl refl typed none (λ more e. typed-picked classes slots ts ps more e)

-- a leaf of the table that runs on slots at these places finds them
pub called-picked :
    (table : LeafTable) (l : LeafId) (slots : List Slot) (places : List ℕ) (n : ℕ) (leaf : Leaf) →
    slice_get table.leaves l.0 ≡ Some leaf → called_at table l slots places n ≢ Stuck → picked slots places ≢ None
called-picked table l slots places n leaf there goes =
    typed-picked table.classes slots leaf.ty.params places
    (λ none. goes (ap (λ o. found o (λ f. found (typed_at table.classes slots f.ty.params places) (λ args. erased_ran (leaf_mean table l args n)))) there
    ∙ ap (λ o. found o (λ args. erased_ran (leaf_mean table l args n))) none))

-- the slots that were found
pub picks-some : (slots : List Slot) (places : List ℕ) (o : Option (List Slot)) → picked slots places ≡ o → picked slots places ≢ None →
    (ss : List Slot) × (picked slots places ≡ Some ss)
picks-some slots places None is there = absurd (there is)
picks-some slots places (Some ss) is there = (ss, is)
