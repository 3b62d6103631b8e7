-- The two edits of a spread.
use Rattle.std.proofs.Common.{◌≡◌, refl, sym, subst, ℕ, Bool, true, false, cond, List, [], ◌++◌, append-nil, Option, Some, None, Result, Ok, Err, inl, inr, ⊎_elim}
use Rattle.std.specs.Prelude.{IsErrAnd}
use Rattle.std.specs.Option.{option_map_or}
use Rattle.mh_values.specs.declared.types.Comp.{Comp}
use Rattle.mh_values.specs.declared.types.Ty.{Ty}
use Rattle.mh_values.specs.declared.types.MethodTy.{MethodTy}
use Rattle.mh_values.specs.declared.value.Exc.{Exc}
use Rattle.mh_values.specs.Same.{is_same_method_type}
use Rattle.mh_leaf.specs.LeafTable.{LeafTable}
use Rattle.mh_tree.specs.declared.error.CheckError.{CheckError}
use Rattle.mh_tree.specs.declared.error.CheckError.TheVariants as check
use Rattle.mh_tree.specs.Rows.{component_of}
use Rattle.mh_tree.specs.Tree.{Tree}
use Rattle.mh_tree.specs.Tree as tree
use Rattle.mh_tree.specs.Typing.{type_of}
use Rattle.mh_tree.specs.Use.{items_used_as, taking_items, used_as}
use Rattle.mh_edit.specs.declared.key.Key.{Key}
use Rattle.mh_handle.specs.declared.error.HandleError.{HandleError}
use Rattle.mh_handle.specs.declared.error.HandleError.TheVariants.{NoMemory, FormsFull, TypesFull, Refused}
use Rattle.mh_handle.specs.declared.handle.Handle.{Handle}
use Rattle.mh_handle.specs.declared.work.Work.{Work}
use Rattle.mh_handle.specs.Errors.{of_check}
use Rattle.mh_handle.specs.Works.{IsAccepted, IsUnchanged, Makes}
use Rattle.mh_handle.specs.Recipe.{at_type, convert_keys, recipe}
use Rattle.mh_astype.specs.Use.{MakesFrom}
use Rattle.mh_astype.proofs.Using.{makes-refused}
use Rattle.mh_spread.specs.Spreading.{MakesBoth, MakesSpread}

-- ---- the two edits

-- the keys of a tree that is used as the type that takes the items come after those of the tree
used-keyed : (table : LeafTable) (t : Tree) (asked : MethodTy) (b : Bool) →
    (ks : List Key) × (recipe table (cond b t (tree.AsType t asked)) ≡ recipe table t ++ ks)
used-keyed table t asked true = ([], sym (append-nil (recipe table t)))
used-keyed table t asked false = (at_type (type_of table t) (convert_keys table.classes asked), refl)

items-keyed : (table : LeafTable) (own : MethodTy) (t : Tree) (count : ℕ) (o : Option Comp) →
    (ks : List Key) × (recipe table (option_map_or (λ c. used_as own (taking_items own c count) t) o t) ≡ recipe table t ++ ks)
items-keyed table own t count None = ([], sym (append-nil (recipe table t)))
items-keyed table own t count (Some c) = used-keyed table t (taking_items own c count) (is_same_method_type own (taking_items own c count))

-- want of memory before any edit, or a refusal
refused-both : (first keys third : List Key) (old new : Work) (e : CheckError) → IsUnchanged old new →
    MakesBoth first (first ++ keys) third old new (Err (of_check e))
refused-both first keys third old new check.NoMemory same = inl (makes-refused first keys old new check.NoMemory (Err NoMemory) refl same)
refused-both first keys third old new (check.Refused e) same = same

pub makes-none : (own : MethodTy) (array : Option Ty) (count : ℕ) (t : Tree) (old new : Work) (e : CheckError) (r : Result Handle HandleError) →
    r ≡ Err (of_check e) → IsUnchanged old new → MakesSpread own array count t old new r
makes-none own array count t old new e r is same =
    let table = old.leaves.now in
    let keyed = items-keyed table own t count (component_of array) in
    let third = recipe table (tree.Spread (items_used_as own array count t) array count) in
    subst (λ v. MakesSpread own array count t old new v) (sym is)
    (subst (λ second. MakesBoth (recipe table t) second third old new (Err (of_check e))) (sym keyed.1)
    (refused-both (recipe table t) keyed.0 third old new e same))

-- a refusal leaves all but the seat of types as it was
from-refused : (first second : List Key) (old new : Work) (e : Exc) → MakesFrom first second old new (Err (Refused e)) → IsUnchanged old new
from-refused first second old new e makes = ⊎_elim (λ same. same.1) (λ other. other.1) makes

-- an error of the first edit
pub makes-first : (first second third : List Key) (old new : Work) (e : HandleError) (r : Result Handle HandleError) →
    MakesFrom first second old new (Err e) → IsErrAnd r (λ x. x ≡ e) → MakesBoth first second third old new r
makes-first first second third old new e (Ok h) makes is = absurd is
makes-first first second third old new NoMemory (Err x) makes is = subst (λ v. MakesBoth first second third old new (Err v)) (sym is) (inl makes)
makes-first first second third old new (FormsFull drawn) (Err x) makes is = subst (λ v. MakesBoth first second third old new (Err v)) (sym is) (inl makes)
makes-first first second third old new (TypesFull bucket) (Err x) makes is = subst (λ v. MakesBoth first second third old new (Err v)) (sym is) (inl makes)
makes-first first second third old new (Refused e) (Err x) makes is =
    subst (λ v. MakesBoth first second third old new (Err v)) (sym is) (from-refused first second old new e makes)

pub makes-second : (first second third : List Key) (old mid new : Work) (g : Handle) (r : Result Handle HandleError) →
    MakesFrom first second old mid (Ok g) → Makes third mid new r → IsAccepted r → MakesBoth first second third old new r
makes-second first second third old mid new g (Ok h) from makes accepted = (mid, g, from, makes)
makes-second first second third old mid new g (Err NoMemory) from makes accepted = inr (mid, g, from, makes)
makes-second first second third old mid new g (Err (FormsFull drawn)) from makes accepted = inr (mid, g, from, makes)
makes-second first second third old mid new g (Err (TypesFull bucket)) from makes accepted = inr (mid, g, from, makes)
makes-second first second third old mid new g (Err (Refused e)) from makes accepted = absurd accepted
