-- What conditions and limits tell where a type is given.
use Rattle.std.proofs.Common.{◌≡◌, refl, sym, Bool, true, false, ℕ, List, ◌∷◌, Option, Some, None, Result, Ok, Err, nat_le, codes}
use Rattle.mh_base.specs.Provided.{provided, provided_some}
use Rattle.mh_base.proofs.Inversion.{ok_is}
use Rattle.mh_values.specs.declared.types.MethodTy.{MethodTy}
use Rattle.mh_values.specs.declared.value.Exc.{Exc}
use Rattle.mh_values.specs.declared.value.Value.{Value}
use Rattle.mh_values.specs.Class.{internal_error_class}
use Rattle.mh_values.specs.Exception.{saying}
use Rattle.mh_values.specs.Slots.{slots_of_all}
use Rattle.mh_tree.specs.Rows.{TypeOrRefusal, illegal, provided_fit, limited}
use Rattle.mh_tree.specs.Typing.{TypesOrRefusal, and_types, with_type, with_types}

pub with_type-parts : (c : TypeOrRefusal) (next : MethodTy → TypeOrRefusal) (t : MethodTy) → with_type c next ≡ Ok t → (u : MethodTy) × (c ≡ Ok u)
    × (next u ≡ Ok t)
with_type-parts (Ok u) next t h = (u, refl, h)
with_type-parts (Err e) next t h = absurd cc

pub with_types-parts : (c : TypesOrRefusal) (next : List MethodTy → TypeOrRefusal) (t : MethodTy) → with_types c next ≡ Ok t →
    (us : List MethodTy) × (c ≡ Ok us)
    × (next us ≡ Ok t)
with_types-parts (Ok us) next t h = (us, refl, h)
with_types-parts (Err e) next t h = absurd cc

pub and_types-parts : (c : TypeOrRefusal) (cs : TypesOrRefusal) (ts : List MethodTy) → and_types c cs ≡ Ok ts → (u : MethodTy) × (us : List MethodTy)
    × (c ≡ Ok u)
    × (cs ≡ Ok us)
    × (u ∷ us ≡ ts)
and_types-parts (Ok u) (Ok us) ts h = (u, us, refl, refl, cc)
and_types-parts (Ok u) (Err e) ts h = absurd cc
and_types-parts (Err e) cs ts h = absurd cc

pub provided-parts : (b : Bool) (e : Exc) (next : TypeOrRefusal) (t : MethodTy) → provided b e next ≡ Ok t → (b ≡ true) × (next ≡ Ok t)
provided-parts true e next t h = (refl, h)
provided-parts false e next t h = absurd cc

pub provided_some-parts : {A : Type 0} (o : Option A) (e : Exc) (next : A → TypeOrRefusal) (t : MethodTy) → provided_some o e next ≡ Ok t →
    (a : A) × (o ≡ Some a)
    × (next a ≡ Ok t)
provided_some-parts (Some a) e next t h = (a, refl, h)
provided_some-parts None e next t h = absurd cc

pub provided_fit-parts : (r : Result Value Exc) (word : List ℕ) (next : TypeOrRefusal) (t : MethodTy) → provided_fit r word next ≡ Ok t →
    (w : Value) × (r ≡ Ok w)
    × (next ≡ Ok t)
provided_fit-parts (Ok w) word next t h = (w, refl, h)
provided_fit-parts (Err e) word next t h = absurd cc

pub limited-is : (word : List ℕ) (weight : ℕ) (t u : MethodTy) → limited word weight t ≡ Ok u → u ≡ t
limited-is word weight t u h =
    let heavy = saying internal_error_class (codes "weight") in
    let q = provided-parts (nat_le (slots_of_all t.params) 254) (illegal word) (provided (nat_le weight 256) heavy (Ok t)) u h in
    let r = provided-parts (nat_le weight 256) heavy (Ok t) u q.1 in
    sym (ok_is t u r.1)
