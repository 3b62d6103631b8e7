-- A worker is taken of those that have worked.
use Rattle.std.proofs.Common.{◌≡◌, sym, subst, ◌<◌, List, length, get_or, arith}
use Rattle.std.specs.Prelude.{slice_index_or}
use Rattle.mh_prelink.specs.Lanes.{HaveWorked}

module _ {A B : Type 0} (done : A → B → Type 0) (before : List A) (all yielded : List B) (x : B) (d : A) (ran : HaveWorked done before all) where
  pub turn-within : length yielded < length all → length yielded < length before
  turn-within within = omega (arith, within, ran.count)

  pub turn-done : (length yielded < length all) × (x ≡ get_or all (length yielded) x) → done (slice_index_or before (length yielded) d) x
  turn-done taken = subst (done (slice_index_or before (length yielded) d)) (sym taken.1) (ran.each (length yielded) d x (turn-within taken.0))
