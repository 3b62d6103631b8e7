-- What is found in fields and slots is found at the renamed places.
use Rattle.std.proofs.Common.{◌≡◌, refl, ℕ, ◌+◌, Bool, List, [], ◌∷◌, Option, Some, None, take, map, length}
use Rattle.std.specs.Prelude.{slice_get}
use Rattle.std.specs.Option.{option_map}
use Rattle.mh_values.specs.declared.value.Exc.{Exc}
use Rattle.mh_values.specs.Computation.{Ran, Refines, found}
use Rattle.mh_values.specs.declared.value.Value.TheVariants as value
use Rattle.mh_form.specs.declared.slot.Slot.{Slot}
use Rattle.mh_form.specs.declared.slot.Slot.TheVariants.{L}
use Rattle.mh_form.specs.Slots.{filled, none_as_zero}
use Rattle.mh_form.specs.Run.{Sense, picked, picked_more, guarded_field, run_field, with_field, with_result, field_of, of_kind, part_of}
use Rattle.mh_form.proofs.Refines.{refines-refl, refines-found, refines-mapped, refines-guarded}

-- every field that is found in the one list is found in the other at the same place
pub record Extends (old new : List Sense) : Type 0 where
  pub finds : (f : ℕ) (s : Sense) → slice_get old f ≡ Some s → slice_get new f ≡ Some s

-- each slot of the old list stands in the new one at the renamed place, and what is put at the old end comes at the new end
pub record Renames (to : ℕ → ℕ) (old new : List Slot) : Type 0 where
  pub finds : (i : ℕ) (s : Slot) → slice_get old i ≡ Some s → slice_get new (to i) ≡ Some s
  pub later : (j : ℕ) → to (length old + j) ≡ length new + j

pub of_kind-finds :
    {A : Type 0} →
    (kind : Sense → Option A) (o o' : Option Sense) →
    ((s : Sense) → o ≡ Some s → o' ≡ Some s) →
    (a : A) → of_kind kind o ≡ Some a → of_kind kind o' ≡ Some a
of_kind-finds kind None o' h a e = absurd cc
of_kind-finds kind (Some s) o' h a e = rw (h s refl) e

pub field_of-finds :
    {A : Type 0} →
    (kind : Sense → Option A) (old new : List Sense) (f : ℕ) →
    Extends old new →
    (a : A) → field_of kind old f ≡ Some a → field_of kind new f ≡ Some a
field_of-finds kind old new f ext = of_kind-finds kind (slice_get old f) (slice_get new f) (ext.finds f)

pub refines-with_field :
    {A B : Type 0} →
    (kind : Sense → Option A) (old new : List Sense) (f : ℕ) (g h : A → Ran B) →
    Extends old new →
    ((a : A) → Refines (g a) (h a)) →
    Refines (with_field kind old f g) (with_field kind new f h)
refines-with_field kind old new f g h ext gh =
    refines-found (field_of kind old f) (field_of kind new f) g h (field_of-finds kind old new f ext) gh

pub picked_more-finds :
    (o o' : Option Slot) (p p' : Option (List Slot)) →
    ((s : Slot) → o ≡ Some s → o' ≡ Some s) →
    ((ss : List Slot) → p ≡ Some ss → p' ≡ Some ss) →
    (xs : List Slot) → picked_more o p ≡ Some xs → picked_more o' p' ≡ Some xs
picked_more-finds None o' p p' ho hp xs h = cc
picked_more-finds (Some s) o' None p' ho hp xs h = cc
picked_more-finds (Some s) o' (Some ss) p' ho hp xs h = rw (ho s refl, hp ss refl) h

pub picked-renamed :
    (to : ℕ → ℕ) (old new : List Slot) (ps : List ℕ) →
    Renames to old new →
    (xs : List Slot) → picked old ps ≡ Some xs → picked new (map to ps) ≡ Some xs
picked-renamed to old new [] ren xs h = h
picked-renamed to old new (p ∷ ps) ren xs h =
    picked_more-finds (slice_get old p) (slice_get new (to p)) (picked old ps) (picked new (map to ps))
    (ren.finds p) (picked-renamed to old new ps ren) xs h

pub refines-run_field :
    (old new : List Sense) (f : ℕ) (xs : List Slot) (n : ℕ) →
    Extends old new →
    Refines (run_field old f xs n) (run_field new f xs n)
refines-run_field old new f xs n ext = refines-with_field part_of old new f _ _ ext (λ part. refines-refl (part xs n))

-- a run of parts that takes a slot
pub refines-filled : (x y : Ran (Option Slot)) → Refines x y → Refines (filled x) (filled y)
refines-filled x y h = refines-mapped none_as_zero x y h

pub refines-guarded_field :
    (old new : List Sense) (f : ℕ) (test : Exc → Bool) (h kept : ℕ) (xs : List Slot) (n : ℕ) →
    Extends old new →
    Refines (guarded_field old f test h kept xs n) (guarded_field new f test h kept xs n)
refines-guarded_field old new f test h kept xs n ext =
    refines-guarded (run_field old f xs n) (run_field new f xs n) test n _ _ (refines-run_field old new f xs n ext)
    (λ e k. refines-run_field old new h (L (value.Thrown e) ∷ take kept xs) k ext)

-- what goes on with a result, or with the slot at the renamed place
pub refines-with_result :
    {B : Type 0} →
    (to : ℕ → ℕ) (old new : List Slot) (i : Option ℕ) (f g : Option Slot → Ran B) →
    Renames to old new →
    ((r : Option Slot) → Refines (f r) (g r)) →
    Refines (with_result i old f) (with_result (option_map to i) new g)
refines-with_result to old new None f g ren fg = fg None
refines-with_result to old new (Some p) f g ren fg =
    refines-found (slice_get old p) (slice_get new (to p)) _ _ (ren.finds p) (λ s. fg (Some s))

pub refines-at :
    {B : Type 0} →
    (to : ℕ → ℕ) (old new : List Slot) (i : ℕ) (f : Slot → Ran B) →
    Renames to old new →
    Refines (found (slice_get old i) f) (found (slice_get new (to i)) f)
refines-at to old new i f ren =
    refines-found (slice_get old i) (slice_get new (to i)) f f (ren.finds i) (λ s. refines-refl (f s))

pub refines-picked :
    {B : Type 0} →
    (to : ℕ → ℕ) (old new : List Slot) (ps : List ℕ) (f g : List Slot → Ran B) →
    Renames to old new →
    ((xs : List Slot) → Refines (f xs) (g xs)) →
    Refines (found (picked old ps) f) (found (picked new (map to ps)) g)
refines-picked to old new ps f g ren fg =
    refines-found (picked old ps) (picked new (map to ps)) f g (picked-renamed to old new ps ren) fg
