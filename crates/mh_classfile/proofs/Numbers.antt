-- The number of a Dynamic entry: the entries of a class stand in the order of their indexes.
use Rattle.std.proofs.Common.{◌≡◌, ℕ, zero, suc, ◌+◌, ◌≤◌, ◌<◌, Bool, true, false, cond, ltb, List, [], ◌∷◌, ◌++◌, map, Option, Some, None, refl, sym, ap, ◌∙◌, arith}
use Rattle.std.proofs.lemmas.Bool.{ltb-true, ltb-false, lt-ltb, le-ltb}
use Rattle.std.proofs.lemmas.List.Sums.{sum_by-cons}
use Rattle.std.specs.Prelude.{slice_get}
use Rattle.std.specs.List.{count_by}
use Rattle.mh_class_pool.specs.Entries.{Slot, is_dynamic, dynamic_at, dynamics_from, dynamics}
use Rattle.mh_classfile.specs.declared.constant.DynamicView.{DynamicView}
use Rattle.mh_classfile.specs.declared.site.Site.{Site}
use Rattle.mh_classfile.specs.Class.{Class, class_of, dynamic_view, number_of}
use Rattle.mh_classfile.specs.Rows.{Row}

-- how many of these are below a number
abbrev below : ℕ → List ℕ → ℕ
below j is = count_by (λ i. ltb i j) is

below-more : (j i : ℕ) (is : List ℕ) → below j (i ∷ is) ≡ cond (ltb i j) 1 0 + below j is
below-more j i is = sum_by-cons (λ k. cond (ltb k j) 1 0) i is

-- each index of slots that stand from an index on is at least that index
low-first : (dynamic : Bool) (i j : ℕ) (rest : List ℕ) → ((d : ℕ) → slice_get rest d ≡ Some j → i + 1 ≤ j) →
    (d : ℕ) → slice_get (cond dynamic (i ∷ []) [] ++ rest) d ≡ Some j → i ≤ j
low-first true i j rest later zero h = let same : i ≡ j = cc in omega arith
low-first true i j rest later (suc d) h = let l = later d h in omega arith
low-first false i j rest later d h = let l = later d h in omega arith

low : (i : ℕ) (slots : List Slot) (j d : ℕ) → slice_get (dynamics_from i slots) d ≡ Some j → i ≤ j
unfolding dynamics_from
low i [] j d h = absurd cc
low i (None ∷ slots) j d h = let rest = low (i + 1) slots j d h in omega arith
low i (Some s ∷ slots) j d h = low-first (is_dynamic s.1) i j (dynamics_from (i + 1) slots) (low (i + 1) slots j) d h

-- so none of them is below a lower one
none-first : (dynamic : Bool) (j i : ℕ) (rest : List ℕ) → j ≤ i → below j rest ≡ 0 → below j (cond dynamic (i ∷ []) [] ++ rest) ≡ 0
none-first true j i rest le none = below-more j i rest ∙ rw (le-ltb i j le) (omega arith)
none-first false j i rest le none = none

none-below : (j i : ℕ) (slots : List Slot) → j ≤ i → below j (dynamics_from i slots) ≡ 0
unfolding dynamics_from
none-below j i [] le = refl
none-below j i (None ∷ slots) le = none-below j (i + 1) slots (omega arith)
none-below j i (Some s ∷ slots) le = none-first (is_dynamic s.1) j i (dynamics_from (i + 1) slots) le (none-below j (i + 1) slots (omega arith))

-- and as many are below one as stand before it
are-first : (dynamic : Bool) (j i : ℕ) (rest : List ℕ) → ((d : ℕ) → slice_get rest d ≡ Some j → i + 1 ≤ j) → (j ≤ i → below j rest ≡ 0) →
    ((d : ℕ) → slice_get rest d ≡ Some j → below j rest ≡ d) → (d : ℕ) → slice_get (cond dynamic (i ∷ []) [] ++ rest) d ≡ Some j →
    below j (cond dynamic (i ∷ []) [] ++ rest) ≡ d
are-first true j i rest above none later zero h =
    let same : i ≡ j = cc in
    let less = none (omega arith) in
    below-more j i rest ∙ rw (le-ltb i j (omega arith)) (omega arith)
are-first true j i rest above none later (suc d) h =
    let high = above d h in
    let l = later d h in
    below-more j i rest ∙ rw (lt-ltb i j (omega arith)) (omega arith)
are-first false j i rest above none later d h = later d h

are-below : (i : ℕ) (slots : List Slot) (j d : ℕ) → slice_get (dynamics_from i slots) d ≡ Some j → below j (dynamics_from i slots) ≡ d
unfolding dynamics_from
are-below i [] j d h = absurd cc
are-below i (None ∷ slots) j d h = are-below (i + 1) slots j d h
are-below i (Some s ∷ slots) j d h =
    are-first (is_dynamic s.1) j i (dynamics_from (i + 1) slots) (low (i + 1) slots j) (λ le. none-below j (i + 1) slots (omega arith))
    (are-below (i + 1) slots j) d h

-- the view at a place is that of the index there
view-at : (pool : List Slot) (is : List ℕ) (d : ℕ) (view : DynamicView) → slice_get (map (dynamic_view pool) is) d ≡ Some view →
    slice_get is d ≡ Some view.index
view-at pool [] d view h = absurd cc
view-at pool (i ∷ is) zero view h =
    let same : dynamic_view pool i ≡ view = cc in
    ap (λ (v : DynamicView). Some v.index) same
view-at pool (i ∷ is) (suc d) view h = view-at pool is d view h

-- as many views are below an index as indexes
views-below : (pool : List Slot) (is : List ℕ) (j : ℕ) → count_by (λ d. ltb d.index j) (map (dynamic_view pool) is) ≡ below j is
views-below pool [] j = refl
views-below pool (i ∷ is) j =
    sum_by-cons (λ d. cond (ltb d.index j) 1 0) (dynamic_view pool i) (map (dynamic_view pool) is)
    ∙ (ap (λ (n : ℕ). cond (ltb i j) 1 0 + n) (views-below pool is j) ∙ sym (below-more j i is))

-- the number of the Dynamic entry at the index of the one at a place is that place
pub number_of_place : (pool : List Slot) (sites : List Site) (rows : List Row) (d : ℕ) (view : DynamicView) →
    slice_get (class_of pool sites rows).dynamics d ≡ Some view → number_of (class_of pool sites rows) view.index ≡ d
number_of_place pool sites rows d view h =
    views-below pool (dynamics pool) view.index ∙ are-below 0 pool view.index d (view-at pool (dynamics pool) d view h)
