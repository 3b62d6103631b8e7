-- Runs typed again: what a handle that stands for a tree answers.
use Rattle.std.proofs.Common.{◌≡◌, ◌≢◌, refl, sym, ap, ◌∙◌, ℕ, ◌<◌, ◌^◌, List, Option, Some, None, map}
use Rattle.mh_values.specs.declared.class.Class.{Class}
use Rattle.mh_values.specs.declared.types.Ty.{Ty}
use Rattle.mh_values.specs.declared.value.Value.{Value}
use Rattle.mh_values.specs.Computation.{Ran, Gave, Threw, Stuck, found}
use Rattle.mh_values.specs.HasType.{HaveTypes}
use Rattle.mh_values.specs.Returns.{Returns}
use Rattle.mh_leaf.specs.LeafTable.{LeafTable}
use Rattle.mh_tree.specs.Tree.{Tree}
use Rattle.mh_tree.specs.Meaning.{mean}
use Rattle.mh_form.specs.Erasure.{erased, erased_ran}
use Rattle.mh_form.proofs.ErasureLaws.{erased-typed}
use Rattle.mh_handle.specs.Answers.{some_value, typed_ran}
use Rattle.mh_handle.specs.Stands.{HandleView, Stands, handle_run}

-- a result of a type is found again in its erasure
pub typed_ran-erased : (classes : List Class) (r : Ran (Option Value)) (t : Option Ty) → Returns classes r t → typed_ran classes t (erased_ran r) ≡ r
typed_ran-erased classes (Gave (Some v) calls) (Some t) h = ap (λ o. found (some_value o) (λ w. Gave w calls)) (erased-typed classes t v h)
typed_ran-erased classes (Gave None calls) None h = refl
typed_ran-erased classes (Threw e calls) t h = refl
typed_ran-erased classes (Gave (Some v) calls) None h = absurd h
typed_ran-erased classes (Gave None calls) (Some t) h = absurd h
typed_ran-erased classes Stuck t h = absurd h

-- the run of a handle, typed, is the meaning of the tree that it stands for
pub typed_run-stands : (table : LeafTable) (h : HandleView) (t : Tree) (args : List Value) (n : ℕ) → Stands table h t → HaveTypes table.classes args h.ty.params
    → n < 2 ^ 32
    → typed_ran table.classes h.ty.ret (handle_run table h (map erased args) n) ≡ mean table t args n
typed_run-stands table h t args n st have low =
    ap (typed_ran table.classes h.ty.ret) (st.runs args n have low) ∙ typed_ran-erased table.classes (mean table t args n) h.ty.ret (st.returns args n have)

not-stuck : (classes : List Class) (r : Ran (Option Value)) (t : Option Ty) → Returns classes r t → r ≢ Stuck
not-stuck classes (Gave v calls) t h = λ e. cc
not-stuck classes (Threw x calls) t h = λ e. cc
not-stuck classes Stuck t h = absurd h

-- so the handle can be called
pub typed_run-well_formed : (table : LeafTable) (h : HandleView) (t : Tree) (args : List Value) (n : ℕ) → Stands table h t →
    HaveTypes table.classes args h.ty.params → n < 2 ^ 32
    → typed_ran table.classes h.ty.ret (handle_run table h (map erased args) n) ≢ Stuck
typed_run-well_formed table h t args n st have low e = not-stuck table.classes (mean table t args n) h.ty.ret (st.returns args n have)
    (sym (typed_run-stands table h t args n st have low) ∙ e)
