-- Whether values have types is found by looking at each of them.
use Rattle.std.proofs.Common.{◌≡◌, refl, sym, subst, List, [], ◌∷◌, Bool, true, false}
use Rattle.std.specs.Prelude.{IsTrue, ◌&&◌}
use Rattle.mh_values.specs.declared.class.Class.{Class}
use Rattle.mh_values.specs.declared.types.Ty.{Ty}
use Rattle.mh_values.specs.declared.value.Value.{Value}
use Rattle.mh_values.specs.HasType.{HaveTypes, has_type, have_types}

-- ---- two answers

split : (a b : Bool) → IsTrue (a && b) → IsTrue a × IsTrue b
split true b both = (refl, both)
split false b both = absurd cc

join : (a b : Bool) → IsTrue a → IsTrue b → IsTrue (a && b)
join true b one other = other
join false b one other = absurd cc

-- ---- the arguments

typed : (classes : List Class) (vs : List Value) (ts : List Ty) → IsTrue (have_types classes vs ts) → HaveTypes classes vs ts
typed classes [] [] have = tt
typed classes [] (t ∷ ts) have = absurd cc
typed classes (v ∷ vs) [] have = absurd cc
typed classes (v ∷ vs) (t ∷ ts) have =
    let both = split (has_type classes v t) (have_types classes vs ts) have in (both.0, typed classes vs ts both.1)

have-typed : (classes : List Class) (vs : List Value) (ts : List Ty) → HaveTypes classes vs ts → IsTrue (have_types classes vs ts)
have-typed classes [] [] are = refl
have-typed classes [] (t ∷ ts) are = absurd are
have-typed classes (v ∷ vs) [] are = absurd are
have-typed classes (v ∷ vs) (t ∷ ts) are = join (has_type classes v t) (have_types classes vs ts) are.0 (have-typed classes vs ts are.1)

-- ---- whether they are typed

pub found_typed : (classes : List Class) (vs : List Value) (ts : List Ty) (found : Bool) → found ≡ have_types classes vs ts → IsTrue found →
    HaveTypes classes vs ts
found_typed classes vs ts found is true_found = typed classes vs ts (subst IsTrue is true_found)

pub typed_found : (classes : List Class) (vs : List Value) (ts : List Ty) (found : Bool) → found ≡ have_types classes vs ts → HaveTypes classes vs ts →
    IsTrue found
typed_found classes vs ts found is are = subst IsTrue (sym is) (have-typed classes vs ts are)
