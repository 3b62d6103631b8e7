-- A body whose last name takes its result first runs the old names, and then that name.
use Rattle.std.proofs.Common.{◌≡◌, refl, subst, Option, Some, None, ℕ, ◌+◌, List, [], ◌∷◌, ◌++◌, sym, ap, ◌∙◌, length}
use Rattle.std.specs.Prelude.{slice_get}
use Rattle.std.specs.Option.{option_map}
use Rattle.std.proofs.lemmas.List.{append-nil, map-id}
use Rattle.mh_base.proofs.Slices.{slice_get-end}
use Rattle.mh_values.specs.Computation.{Ran, Gave, Threw, Stuck, Refines, and_then, after, found}
use Rattle.mh_form.specs.declared.basic.BasicRet.{BasicRet}
use Rattle.mh_form.specs.declared.basic.BasicRet.TheVariants.{V, Is}
use Rattle.mh_form.specs.declared.body.FormBody.{FormBody}
use Rattle.mh_form.specs.declared.name.Name.{Name}
use Rattle.mh_form.specs.declared.name.Name.TheVariants.{Get, Call, Link, Select, Guarded, Finally, Switch, Loop, Conv, Cast, Ret, MakeArray, CheckArray, Elem, Join, Raise}
use Rattle.mh_form.specs.declared.slot.Slot.{Slot}
use Rattle.mh_form.specs.Slots.{filled, none_as_zero}
use Rattle.mh_form.specs.Run.{Sense, step, run_names, run_body, ended, with_result}
use Rattle.mh_form.proofs.Computations.{after-nil, and_then-assoc}
use Rattle.mh_form.proofs.Refines.{refines-refl, refines-trans, refines-and_then}
use Rattle.mh_edit.specs.Applied.{finishing, out_of}
use Rattle.mh_edit.specs.Law.{returned}
use Rattle.mh_edit.specs.Rename.{renamed}
use Rattle.mh_edit.proofs.Renaming.{step-renamed}
use Rattle.mh_edit.proofs.RenamedSlots.{Extends, Renames}
use Rattle.mh_edit.proofs.Reframing.{run_names-append, refines-end}

option_map-same : (p : Option ℕ) → option_map (λ i. i) p ≡ p
option_map-same None = refl
option_map-same (Some p) = refl

renamed-same : (x : Name) → renamed (λ i. i) x ≡ x
renamed-same (Get f) = refl
renamed-same (Call f args) = ap (Call f) (map-id args)
renamed-same (Link f args) = ap (Link f) (map-id args)
renamed-same (Select i f g args) = ap (Select i f g) (map-id args)
renamed-same (Guarded f c h args kept) = ap (λ v. Guarded f c h v kept) (map-id args)
renamed-same (Finally f h args kept ret) = ap (λ v. Finally f h v kept ret) (map-id args)
renamed-same (Switch i first count args) = ap (Switch i first count) (map-id args)
renamed-same (Loop first args counts ret) = ap (λ v. Loop first v counts ret) (map-id args)
renamed-same (Conv f i) = refl
renamed-same (Cast f i) = refl
renamed-same (Ret f i) = ap (Ret f) (option_map-same i)
renamed-same (MakeArray f args) = ap (MakeArray f) (map-id args)
renamed-same (CheckArray i count) = refl
renamed-same (Elem i k) = refl
renamed-same (Join f args) = ap (Join f) (map-id args)
renamed-same (Raise i) = refl

-- more fields change no run
pub run-extended :
    {B : Type 0} →
    (xs : List Name) (senses senses' : List Sense) (slots : List Slot) (n : ℕ) (e : List Slot → ℕ → Ran B) →
    Extends senses senses' →
    Refines (run_names xs senses slots n e) (run_names xs senses' slots n e)
run-extended [] ss ss' slots n e ext = refines-refl (e slots n)
run-extended (x ∷ xs) ss ss' slots n e ext =
    let same : Renames (λ i. i) slots slots = record { finds = λ i s h. h; later = λ j. refl } in
    let one : Refines (step x ss slots n) (step x ss' slots n) =
    subst (λ y. Refines (step x ss slots n) (step y ss' slots n)) (renamed-same x) (step-renamed x (λ i. i) ss ss' slots slots n ext same) in
    refines-and_then (step x ss slots n) (step x ss' slots n) n _ _ one (λ s k. run-extended xs ss ss' (slots ++ s ∷ []) k e ext)

-- what follows a run of names follows at their end
run_names-then :
    {A B : Type 0} →
    (xs : List Name) (senses : List Sense) (slots : List Slot) (n : ℕ) (e : List Slot → ℕ → Ran A) (g : A → ℕ → Ran B) →
    and_then (run_names xs senses slots n e) n g ≡ run_names xs senses slots n (λ env k. and_then (e env k) k g)
run_names-then [] senses slots n e g = refl
run_names-then (x ∷ xs) senses slots n e g =
    and_then-assoc (step x senses slots n) n (λ s k. run_names xs senses (slots ++ s ∷ []) k e) g
    ∙ ap (and_then (step x senses slots n) n) (λ i s k. run_names-then xs senses (slots ++ s ∷ []) k e g i)

-- a result of a basic return type is the slot that was put last, or nothing
pub returned-end :
    (ret : BasicRet) (r : Ran (Option Slot)) (args : List Slot) (n m : ℕ) →
    length args ≡ m →
    returned ret r ≡ and_then (filled r) n (λ s k. ended (out_of ret m) (args ++ s ∷ []) k)
returned-end V (Gave s calls) args n m long = ap (Gave None) (sym (append-nil calls))
returned-end (Is b) (Gave s calls) args n m long =
    let x = none_as_zero s in
    let at : slice_get (args ++ x ∷ []) m ≡ Some x = rw (← long) (slice_get-end args x) in
    ap (Gave (Some x)) (sym (append-nil calls)) ∙ ap (λ o. after calls (found o (λ v. Gave (Some v) []))) (sym at)
returned-end V (Threw e calls) args n m long = refl
returned-end (Is b) (Threw e calls) args n m long = refl
returned-end V Stuck args n m long = refl
returned-end (Is b) Stuck args n m long = refl

found-then :
    {A B : Type 0} (o : Option Slot) (f : Slot → Ran A) (n : ℕ) (g : A → ℕ → Ran B) → and_then (found o f) n g ≡ found o (λ s. and_then (f s) n g)
found-then None f n g = refl
found-then (Some s) f n g = refl

-- what follows what goes on with a result follows in each case
with_result-then :
    {A B : Type 0} →
    (out : Option ℕ) (env : List Slot) (f : Option Slot → Ran A) (n : ℕ) (g : A → ℕ → Ran B) →
    and_then (with_result out env f) n g ≡ with_result out env (λ r. and_then (f r) n g)
with_result-then None env f n g = refl
with_result-then (Some p) env f n g = found-then (slice_get env p) (λ s. f (Some s)) n g

found-same : {B : Type 0} (o : Option Slot) (f g : Slot → Ran B) → ((s : Slot) → f s ≡ g s) → found o f ≡ found o g
found-same None f g h = refl
found-same (Some s) f g h = h s

with_result-same :
    {B : Type 0} →
    (out : Option ℕ) (env : List Slot) (f g : Option Slot → Ran B) →
    ((r : Option Slot) → f r ≡ g r) →
    with_result out env f ≡ with_result out env g
with_result-same None env f g h = h None
with_result-same (Some p) env f g h = found-same (slice_get env p) _ _ (λ s. h (Some s))

-- one name more, which takes the result of the old body
pub run-finishing :
    (last : Option ℕ → Name) (ret : BasicRet) (old : FormBody) (senses senses' : List Sense) (args : List Slot) (n : ℕ)
    (f : Option Slot → ℕ → Ran (Option Slot)) →
    Extends senses senses' →
    length args ≡ length old.params →
    ((env : List Slot) (k : ℕ) → Refines (with_result old.out env (λ r. filled (f r k))) (step (last old.out) senses' env k)) →
    Refines
    (and_then (run_body old senses args n) n (λ r k. returned ret (f r k)))
    (run_body (finishing last ret old) senses' args n)
run-finishing last ret old senses senses' args n f ext long ran =
    let out = old.out in
    let m = length old.params + length old.names in
    let x = last out in
    let post : Option Slot → ℕ → Ran (Option Slot) = λ r k. returned ret (f r k) in
    let e : List Slot → ℕ → Ran (Option Slot) = λ env k. and_then (ended out env k) k post in
    let close : List Slot → Slot → ℕ → Ran (Option Slot) = λ env s i. ended (out_of ret m) (env ++ s ∷ []) i in
    let g : List Slot → ℕ → Ran (Option Slot) = λ env k. run_names (x ∷ []) senses' env k (ended (out_of ret m)) in
    let each : (env : List Slot) (k : ℕ) → length env ≡ m → Refines (e env k) (g env k) =
    λ env k size.
    let split : e env k ≡ and_then (with_result out env (λ r. filled (f r k))) k (close env) =
    with_result-then out env (λ r. Gave r []) k post
    ∙ (with_result-same out env _ _ (λ r. after-nil (post r k) ∙ returned-end ret (f r k) env k m size)
    ∙ sym (with_result-then out env (λ r. filled (f r k)) k (close env))) in
    let P : Ran (Option Slot) → Type 0 = λ v. Refines v (g env k) in
    subst P (sym split)
    (refines-and_then (with_result out env (λ r. filled (f r k))) (step x senses' env k) k (close env) (close env) (ran env k)
    (λ s i. refines-refl (close env s i))) in
    let first : Refines (run_names old.names senses args n e) (run_names old.names senses' args n e) =
    run-extended old.names senses senses' args n e ext in
    let second : Refines (run_names old.names senses' args n e) (run_names old.names senses' args n g) =
    refines-end old.names senses' args n m e g (ap (λ v. v + length old.names) long) each in
    let P : Ran (Option Slot) → Type 0 = λ v. Refines v (run_names old.names senses' args n g) in
    let Q : Ran (Option Slot) → Type 0 = λ v. Refines (and_then (run_body old senses args n) n post) v in
    subst Q (sym (run_names-append old.names (x ∷ []) senses' args n (ended (out_of ret m))))
    (subst P (sym (run_names-then old.names senses args n (ended out) post)) (refines-trans _ _ _ first second))
