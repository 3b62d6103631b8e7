-- The laws of the roots.
use Rattle.std.proofs.Common.{◌≡◌, refl, subst, Bool, true, false, Option, Some, ℕ, ◌+◌, ◌≤◌, List, [], ◌∷◌, ◌++◌, sym, ap, ◌∙◌, length, take, length-append, arith}
use Rattle.std.specs.Prelude.{slice_get, if◌then◌else◌}
use Rattle.std.specs.List.{range_with_len}
use Rattle.std.proofs.Math.Seq.{take-append_seam}
use Rattle.std.specs.declared.sync.Arc.{Arc}
use Rattle.std.specs.declared.alloc.Global.{Global}
use Rattle.mh_base.proofs.Slices.{slice_get-end}
use Rattle.mh_values.specs.declared.class.ClassId.{ClassId}
use Rattle.mh_values.specs.declared.value.Value.TheVariants as value
use Rattle.mh_values.specs.Computation.{Ran, Gave, Threw, Stuck, Refines, and_then, found, guarded, is_caught, mapped}
use Rattle.mh_leaf.specs.LeafTable.{LeafTable}
use Rattle.mh_form.specs.declared.basic.Basic.{Basic}
use Rattle.mh_form.specs.declared.basic.BasicRet.{BasicRet}
use Rattle.mh_form.specs.declared.basic.Shape.{Shape}
use Rattle.mh_form.specs.declared.body.FormBody.{FormBody}
use Rattle.mh_form.specs.declared.name.Name.{Name}
use Rattle.mh_form.specs.declared.name.Name.TheVariants.{Call, Guarded, Join, Link, Select}
use Rattle.mh_form.specs.declared.slot.Slot.{Slot}
use Rattle.mh_form.specs.declared.slot.Slot.TheVariants as slot
use Rattle.mh_form.specs.declared.field.Bound.{Bound}
use Rattle.mh_form.specs.declared.field.Field.TheVariants as field
use Rattle.mh_form.specs.Slots.{called, filled, holds_one, joined_slots}
use Rattle.mh_form.specs.Run.{Sense, ended, guarded_field, picked, run_bound, run_field, run_names, sense, step, with_field, class_of}
use Rattle.mh_form.proofs.Refines.{refines-refl, refines-is, refines-and_then}
use Rattle.mh_edit.specs.Applied.{applied, out_of}
use Rattle.mh_edit.specs.declared.key.Key.TheVariants.{LeafRoot, ConstRoot, IdentityRoot, ThrowRoot, GuardRoot, CatchRoot, ConcatRoot}
use Rattle.mh_edit.specs.Law.{LeafRootLaw, ConstRootLaw, IdentityRootLaw, ThrowRootLaw, GuardRootLaw, CatchRootLaw, ConcatRootLaw, returned}
use Rattle.mh_edit.proofs.Places.{picked-all, picked-range}
use Rattle.mh_edit.proofs.Parts.{run-part}
use Rattle.mh_edit.proofs.Finishing.{returned-end}

-- a body of one name
pub run-single :
    (x : Name) (ret : BasicRet) (senses : List Sense) (args : List Slot) (n m : ℕ) (r : Ran (Option Slot)) →
    length args ≡ m →
    step x senses args n ≡ filled r →
    returned ret r ≡ run_names (x ∷ []) senses args n (ended (out_of ret m))
run-single x ret senses args n m r long ran =
    returned-end ret r args n m long ∙ ap (λ v. and_then v n (λ s k. ended (out_of ret m) (args ++ s ∷ []) k)) (sym ran)

pub law-LeafRoot : (shape : Shape) (old : FormBody) → LeafRootLaw shape.params shape.ret (applied (LeafRoot shape) old)
law-LeafRoot shape old leaves l args n long =
    let m = length shape.params in
    let senses = sense leaves (field.Leaf l) ∷ [] in
    refines-is _ _ (run-single (Call 0 (range_with_len 0 m)) shape.ret senses args n m (called leaves l args n) long
    (ap (λ o. found o (λ ys. filled (called leaves l ys n))) (picked-all args m long)))

pub law-ConstRoot : (b : Basic) (old : FormBody) → ConstRootLaw (applied (ConstRoot b) old)
law-ConstRoot b old leaves s n = refl

pub law-IdentityRoot : (b : Basic) (old : FormBody) → IdentityRootLaw (applied (IdentityRoot b) old)
law-IdentityRoot b old leaves s n = refl

pub law-ThrowRoot : (ret : BasicRet) (old : FormBody) → ThrowRootLaw (applied (ThrowRoot ret) old)
law-ThrowRoot ret old leaves (slot.I n) k = tt
law-ThrowRoot ret old leaves (slot.J n) k = tt
law-ThrowRoot ret old leaves (slot.L (value.Prim x)) k = refl
law-ThrowRoot ret old leaves (slot.L (value.Boxed x)) k = refl
law-ThrowRoot ret old leaves (slot.L (value.Text x)) k = refl
law-ThrowRoot ret old leaves (slot.L (value.Object c x)) k = refl
law-ThrowRoot ret old leaves (slot.L (value.Thrown e)) k = refl
law-ThrowRoot ret old leaves (slot.L (value.Array c x)) k = refl
law-ThrowRoot ret old leaves (slot.L value.Null) k = refl

-- all arguments, also where a slot was put after them
picked-front : (args more : List Slot) (m : ℕ) → length args ≡ m → picked (args ++ more) (range_with_len 0 m) ≡ Some args
picked-front args more m long =
    picked-range (args ++ more) 0 m (omega (arith, length-append args more))
    ∙ ap Some (ap (λ k. take k (args ++ more)) (sym long) ∙ take-append_seam args more)

-- one of two parts
run-selected :
    (leaves : LeafTable) (senses : List Sense) (t e : Arc Bound Global) (b : Bool) (xs : List Slot) (n : ℕ) →
    slice_get senses 1 ≡ Some (sense leaves (field.Part t)) →
    slice_get senses 2 ≡ Some (sense leaves (field.Part e)) →
    run_field senses (if b then 1 else 2) xs n ≡ run_bound leaves (if b then t.value else e.value) xs n
run-selected leaves senses t e true xs n one other = run-part leaves senses t 1 xs n one
run-selected leaves senses t e false xs n one other = run-part leaves senses e 2 xs n other

pub law-GuardRoot :
    (shape : Shape) (test : ℕ) (old : FormBody) →
    test ≤ length shape.params →
    GuardRootLaw shape.params shape.ret test (applied (GuardRoot shape test) old)
law-GuardRoot shape test old fits leaves c t e args n long =
    let m = length shape.params in
    let senses = sense leaves (field.Part c) ∷ sense leaves (field.Part t) ∷ sense leaves (field.Part e) ∷ [] in
    let r = filled (run_bound leaves c.value (take test args) n) in
    let ran : step (Link 0 (range_with_len 0 test)) senses args n ≡ r =
    ap (λ o. found o (λ ys. filled (run_field senses 0 ys n))) (picked-range args 0 test (omega arith))
    ∙ ap filled (run-part leaves senses c 0 (take test args) n refl) in
    let select = Select m 1 2 (range_with_len 0 m) in
    let law : Slot → ℕ → Ran (Option Slot) = λ s k. returned shape.ret (run_bound leaves (if holds_one s then t.value else e.value) args k) in
    let end : Slot → ℕ → Ran (Option Slot) = λ s k. run_names (select ∷ []) senses (args ++ s ∷ []) k (ended (out_of shape.ret (m + 1))) in
    let each : (s : Slot) (k : ℕ) → Refines (law s k) (end s k) =
    λ s k.
    let at : slice_get (args ++ s ∷ []) m ≡ Some s = ap (slice_get (args ++ s ∷ [])) (sym long) ∙ slice_get-end args s in
    let one : step select senses (args ++ s ∷ []) k ≡ filled (run_bound leaves (if holds_one s then t.value else e.value) args k) =
    ap (λ o. found o (λ v. found (picked (args ++ s ∷ []) (range_with_len 0 m)) (λ xs. filled (run_field senses (if holds_one v then 1 else 2) xs k)))) at
    ∙ (ap (λ o. found o (λ xs. filled (run_field senses (if holds_one s then 1 else 2) xs k))) (picked-front args (s ∷ []) m long)
    ∙ ap filled (run-selected leaves senses t e (holds_one s) args k refl refl)) in
    refines-is _ _ (run-single select shape.ret senses (args ++ s ∷ []) k (m + 1) _ (length-append args (s ∷ []) ∙ ap (λ v. v + 1) long) one) in
    let P : Ran Slot → Type 0 = λ v. Refines (and_then r n law) (and_then v n end) in
    subst P (sym ran) (refines-and_then r r n law end (refines-refl r) each)

-- a part that is guarded by a class and a handler
run-guarded :
    (leaves : LeafTable) (senses : List Sense) (t : Arc Bound Global) (c : ClassId) (h : Arc Bound Global) (kept : ℕ) (xs : List Slot) (n : ℕ) →
    slice_get senses 0 ≡ Some (sense leaves (field.Part t)) →
    slice_get senses 2 ≡ Some (sense leaves (field.Part h)) →
    guarded_field senses 0 (is_caught leaves.classes c) 2 kept xs n
    ≡ guarded (run_bound leaves t.value xs n) (is_caught leaves.classes c) n (λ e k. run_bound leaves h.value (slot.L (value.Thrown e) ∷ take kept xs) k)
run-guarded leaves senses t c h kept xs n part handler =
    ap (λ r. guarded r (is_caught leaves.classes c) n (λ e k. run_field senses 2 (slot.L (value.Thrown e) ∷ take kept xs) k))
    (run-part leaves senses t 0 xs n part)
    ∙ ap (guarded (run_bound leaves t.value xs n) (is_caught leaves.classes c) n) (λ i e k. run-part leaves senses h 2 (slot.L (value.Thrown e) ∷ take kept xs)
    k handler i)

pub law-CatchRoot :
    (shape : Shape) (kept : ℕ) (old : FormBody) → CatchRootLaw shape.params shape.ret kept (applied (CatchRoot shape kept) old)
law-CatchRoot shape kept old leaves t c h args n long =
    let m = length shape.params in
    let senses = sense leaves (field.Part t) ∷ sense leaves (field.Class c) ∷ sense leaves (field.Part h) ∷ [] in
    let test = is_caught leaves.classes c in
    let name = Guarded 0 1 2 (range_with_len 0 m) kept in
    let one : step name senses args n ≡ filled (guarded_field senses 0 test 2 kept args n) =
    ap (λ o. found o (λ xs. with_field class_of senses 1 (λ caught. filled (guarded_field senses 0 caught 2 kept xs n)))) (picked-all args m long) in
    refines-is _ _ (run-single name shape.ret senses args n m _ long (one ∙ ap filled (run-guarded leaves senses t c h kept args n refl refl)))

-- a slot that is always given
pub filled-some : (r : Ran Slot) → r ≡ filled (mapped Some r)
filled-some (Gave s calls) = refl
filled-some (Threw e calls) = refl
filled-some Stuck = refl

pub law-ConcatRoot : (shape : Shape) (old : FormBody) → ConcatRootLaw shape.params shape.ret (applied (ConcatRoot shape) old)
law-ConcatRoot shape old leaves pieces args n long =
    let m = length shape.params in
    let senses = sense leaves (field.Joined pieces) ∷ [] in
    let r = joined_slots leaves.classes pieces args in
    let one : step (Join 0 (range_with_len 0 m)) senses args n ≡ filled (mapped Some r) =
    ap (λ o. found o (λ xs. joined_slots leaves.classes pieces xs)) (picked-all args m long) ∙ filled-some r in
    refines-is _ _ (run-single (Join 0 (range_with_len 0 m)) shape.ret senses args n m (mapped Some r) long one)
