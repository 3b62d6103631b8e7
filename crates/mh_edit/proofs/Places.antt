-- The slots that a table of places picks.
use Rattle.std.proofs.Common.{◌≡◌, refl, Some, None, ℕ, zero, suc, ◌+◌, ◌≤◌, List, [], ◌∷◌, ◌++◌, sym, ap, ap₂, ◌∙◌, length-append, add-one, drop-cons, take_all, length-take-le, length-drop, take, drop, length, get_or, arith}
use Rattle.std.specs.Prelude.{slice_get}
use Rattle.std.specs.List.{range_with_len}
use Rattle.std.proofs.Math.Seq.{take-append_seam}
use Rattle.std.proofs.lemmas.List.{drop-append-le, take-append-le}
use Rattle.std.proofs.lemmas.Option.{slice_get-get_or}
use Rattle.mh_base.proofs.Slices.{slice_get-end}
use Rattle.mh_values.specs.Computation.{spliced}
use Rattle.mh_form.specs.declared.basic.BasicRet.{BasicRet}
use Rattle.mh_form.specs.declared.basic.BasicRet.TheVariants.{V, Is}
use Rattle.mh_form.specs.declared.slot.Slot.{Slot}
use Rattle.mh_form.specs.Slots.{given, none_as_zero}
use Rattle.mh_form.specs.Run.{Sense, picked, picked_more}
use Rattle.mh_edit.specs.Rename.{table}
use Rattle.mh_edit.proofs.Renaming.{slice_get-append_left}
use Rattle.mh_edit.proofs.RenamedSlots.{Extends}
use Rattle.mh_edit.proofs.Reframing.{picked_more-parts}

-- picking two lists of places, one after the other
pub picked-append :
    (env : List Slot) (ps qs : List ℕ) (xs ys : List Slot) →
    picked env ps ≡ Some xs →
    picked env qs ≡ Some ys →
    picked env (ps ++ qs) ≡ Some (xs ++ ys)
picked-append env [] qs xs ys h k = let e : [] ≡ xs = cc in rw (← e) k
picked-append env (p ∷ ps) qs xs ys h k =
    let q = picked_more-parts (slice_get env p) (picked env ps) xs h in
    let rest : picked env (ps ++ qs) ≡ Some (q.1 ++ ys) = picked-append env ps qs q.1 ys q.3 k in
    let both : picked_more (slice_get env p) (picked env (ps ++ qs)) ≡ Some (q.0 ∷ (q.1 ++ ys)) = ap₂ picked_more q.2 rest in
    both ∙ ap (λ v. Some (v ++ ys)) (sym q.4)

-- picking the places from one on
pub picked-range :
    (env : List Slot) (a c : ℕ) → a + c ≤ length env → picked env (range_with_len a c) ≡ Some (take c (drop a env))
picked-range env a zero low = refl
picked-range env a (suc c) low =
    let d : Slot = none_as_zero None in
    let here : slice_get env a ≡ Some (get_or env a d) = slice_get-get_or env a d (omega arith) in
    let rest : picked env (range_with_len (a + 1) c) ≡ Some (take c (drop (a + 1) env)) = picked-range env (a + 1) c (omega arith) in
    rw (drop-cons env a d (omega arith), here, rest, add-one)

-- the old arguments stand where the table says
pub picked-table :
    (env args extra : List Slot) (pos put rest : ℕ) (mid : List ℕ) (slots : List Slot) →
    env ≡ args ++ extra →
    pos + put + rest ≡ length args →
    picked env mid ≡ Some slots →
    picked env (table pos put mid rest) ≡ Some (spliced pos put slots args)
picked-table env args extra pos put rest mid slots is long h =
    let total : length env ≡ length args + length extra = ap length is ∙ length-append args extra in
    let first : picked env (range_with_len 0 pos) ≡ Some (take pos args) =
    picked-range env 0 pos (omega arith) ∙ ap Some (ap (take pos) is ∙ take-append-le pos args extra (omega arith)) in
    let tail : drop (pos + put) env ≡ drop (pos + put) args ++ extra =
    ap (drop (pos + put)) is ∙ drop-append-le (pos + put) args extra (omega arith) in
    let len : rest ≡ length (drop (pos + put) args) = rw length-drop (omega arith) in
    let last : picked env (range_with_len (pos + put) rest) ≡ Some (drop (pos + put) args) =
    picked-range env (pos + put) rest (omega arith)
    ∙ ap Some (ap (take rest) tail ∙ (ap (λ r. take r (drop (pos + put) args ++ extra)) len ∙ take-append_seam (drop (pos + put) args) extra)) in
    picked-append env (range_with_len 0 pos) (mid ++ range_with_len (pos + put) rest) (take pos args) (slots ++ drop (pos + put) args) first
    (picked-append env mid (range_with_len (pos + put) rest) slots (drop (pos + put) args) h last)

pub picked-one : (env : List Slot) (p : ℕ) (s : Slot) → slice_get env p ≡ Some s → picked env (p ∷ []) ≡ Some (s ∷ [])
picked-one env p s h = rw h

-- all arguments
pub picked-all : (args : List Slot) (m : ℕ) → length args ≡ m → picked args (range_with_len 0 m) ≡ Some args
picked-all args m long =
    picked-range args 0 m (omega arith) ∙ ap Some (ap (λ k. take k args) (sym long) ∙ take_all (length args) args (omega arith))

-- the slot that was put last
pub picked-end : (args : List Slot) (s : Slot) (p : ℕ) → p ≡ length args → picked (args ++ s ∷ []) (p ∷ []) ≡ Some (s ∷ [])
picked-end args s p is = picked-one (args ++ s ∷ []) p s (rw is (slice_get-end args s))

-- what stands for the result of a part
pub picked-given :
    (ret : BasicRet) (args : List Slot) (s : Slot) (p : ℕ) → p ≡ length args → picked (args ++ s ∷ []) (given ret p) ≡ Some (given ret s)
picked-given V args s p is = refl
picked-given (Is b) args s p is = picked-end args s p is

pub length-spliced :
    {A : Type 0} →
    (pos taken : ℕ) (new xs : List A) →
    pos + taken ≤ length xs →
    length (spliced pos taken new xs) + taken ≡ length xs + length new
length-spliced pos taken new xs fits =
    let a = length-append (take pos xs) (new ++ drop (pos + taken) xs) in
    let b = length-append new (drop (pos + taken) xs) in
    let c = length-take-le pos xs (omega arith) in
    let d = length-drop (pos + taken) xs in
    omega arith

-- the old fields are found where the new ones follow
pub extends-more : (senses more : List Sense) → Extends senses (senses ++ more)
extends-more senses more = record { finds = λ f s h. slice_get-append_left senses more f s h }

pub extends-same : (senses : List Sense) → Extends senses senses
extends-same senses = record { finds = λ f s h. h }

-- the new field is found after the old ones
pub new-field : (senses : List Sense) (x : Sense) (f : ℕ) → length senses ≡ f → slice_get (senses ++ x ∷ []) f ≡ Some x
new-field senses x f is = rw (← is) (slice_get-end senses x)
