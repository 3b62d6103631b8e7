-- Lists of types that are within others.
use Rattle.std.proofs.Common.{◌≡◌, subst, ◌≤◌, arith, List, [], ◌++◌}
use Rattle.mh_values.specs.declared.types.MethodTy.{MethodTy}
use Rattle.mh_intern.specs.Held.{times_type}
use Rattle.mh_intern.proofs.Measures.{times_type-append}

-- ---- lists of types

-- each type stands in a list at most as often as in another
abbrev pub IsWithin : List MethodTy → List MethodTy → Type 0
IsWithin asks types = (t : MethodTy) → times_type t asks ≤ times_type t types

-- none in any list
pub within-none : (types : List MethodTy) → IsWithin [] types
within-none types t = omega arith

-- a list in itself
pub within-equal : (asks types : List MethodTy) → asks ≡ types → IsWithin asks types
within-equal asks types same t = subst (λ ts. times_type t asks ≤ times_type t ts) same (omega arith)

-- a list in a longer one
pub within-first : (first second : List MethodTy) → IsWithin first (first ++ second)
within-first first second t = let n = times_type-append t first second in omega (arith, n)

-- two lists in two others
pub within-both : (first second types more : List MethodTy) → IsWithin first types → IsWithin second more → IsWithin (first ++ second) (types ++ more)
within-both first second types more x y t =
    let m = times_type-append t first second in
    let n = times_type-append t types more in
    let p = x t in
    let q = y t in
    omega (arith, m, n, p, q)
