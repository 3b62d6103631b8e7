-- What constants are by serials is the one solution of the recursive reading.
use Rattle.std.proofs.Common.{◌≡◌, refl, sym, ◌∙◌, ap, ℕ, zero, suc, ◌+◌, ◌-◌, ◌<◌, ◌≤◌, Option, Some, None, arith}
use Rattle.std.specs.Prelude.{option_map}
use Rattle.mh_jobs.specs.Given.{Found}
use Rattle.mh_link.specs.Named.{Constants, AreConstJobs}
use Rattle.mh_link.specs.Depth.{depth, most_depth}
use Rattle.mh_link.specs.Constants.{Serials, serial_at, const_under, values, values_of}
use Rattle.mh_link.specs.Asking.{asked_by}
use Rattle.mh_link.proofs.constants.Depths.{depth-falls, depth-small, depth-some}
use Rattle.mh_link.proofs.constants.Asked.{agree-each, looks-at, under-same}

map-same : {A B : Type 0} (f g : A → B) (o : Option A) → ((x : A) → f x ≡ g x) → option_map f o ≡ option_map g o
map-same f g None same = refl
map-same f g (Some x) same = ap (λ y. Some y) (same x)

pub values-suc : (run : Constants) (table : Serials) (n c : ℕ) →
    values run table (suc n) c ≡ option_map (λ serial. const_under run (λ d. values run table n d) c serial) (serial_at table c)
unfolding values
values-suc run table n c = refl

most-suc : (n : ℕ) × (most_depth ≡ suc n)
unfolding most_depth
most-suc = (63, refl)

module _ (run : Constants) (named : AreConstJobs run) where
  -- where tables of what is found agree at all lower depths, a constant is the same
  pub from-lower : (known other : Found) (c : ℕ) → ((k : ℕ) → depth run c ≡ Some k → (d j : ℕ) → depth run d ≡ Some j → j < k → known d ≡ other d) →
      (o : Option ℕ) → option_map (λ serial. const_under run known c serial) o ≡ option_map (λ serial. const_under run other c serial) o
  from-lower known other c lower o =
      map-same (λ serial. const_under run known c serial) (λ serial. const_under run other c serial) o
      (under-same run known other c (agree-each known other (asked_by run known c) (λ d h.
      let p = looks-at run named known c d h in
      let q = depth-falls run most_depth c p.deep p.depth p.job p.at d p.names in
      lower p.deep p.depth d q.depth q.is q.less))).0

  -- ---- values by depth

  module _ (table : Serials) where
    -- one step more changes nothing at a constant whose depth is reached
    pub stays-once : (n c k : ℕ) → depth run c ≡ Some k → k ≤ n → values run table (suc n) c ≡ values run table n c
    stays-once zero c k e low = absurd (let s = depth-some run most_depth c k e in omega arith)
    stays-once (suc n) c k e low =
        values-suc run table (suc n) c
        ∙ (from-lower (λ d. values run table (suc n) d) (λ d. values run table n d) c
        (λ j is d i d_is less. let same : Some j ≡ Some k = sym is ∙ e in stays-once n d i d_is (let s : j ≡ k = cc in omega arith)) (serial_at table c)
        ∙ sym (values-suc run table n c))

    stays-more : (more n c k : ℕ) → depth run c ≡ Some k → k ≤ n → values run table (more + n) c ≡ values run table n c
    stays-more zero n c k e low = ap (λ m. values run table m c) (let s : zero + n ≡ n = omega arith in s)
    stays-more (suc more) n c k e low =
        ap (λ m. values run table m c) (let s : suc more + n ≡ suc (more + n) = omega arith in s)
        ∙ (stays-once (more + n) c k e (omega arith) ∙ stays-more more n c k e low)

    -- at a constant of a depth of at most n the n-th table has what it is
    pub by-depth : (n c k : ℕ) → depth run c ≡ Some k → k ≤ n → n ≤ most_depth → values run table n c ≡ values_of run table c
    by-depth n c k e low within =
        sym (stays-more (most_depth - n) n c k e low) ∙ ap (λ m. values run table m c) (let s : (most_depth - n) + n ≡ most_depth = omega arith in s)

    -- at a constant without a depth each table but the first has it
    without-depth : (n m c : ℕ) → depth run c ≡ None → values run table (suc n) c ≡ values run table (suc m) c
    without-depth n m c none =
        values-suc run table n c
        ∙ (from-lower (λ d. values run table n d) (λ d. values run table m d) c (λ k is. let e : Some k ≡ None = sym is ∙ none in cc) (serial_at table c)
        ∙ sym (values-suc run table m c))

    -- ---- the recursive reading

    pub fixed : (c : ℕ) → values_of run table c ≡ option_map (λ serial. const_under run (values_of run table) c serial) (serial_at table c)
    fixed c = cases (depth run c) refl ∙ values-suc run table most_depth c
      where
        cases : (o : Option ℕ) → depth run c ≡ o → values run table most_depth c ≡ values run table (suc most_depth) c
        cases (Some k) e = sym (stays-once most_depth c k e (depth-small run most_depth c k e))
        cases None none = ap (λ m. values run table m c) most-suc.1 ∙ without-depth most-suc.0 most_depth c none

    module _ (found : Found) (solves : (c : ℕ) → found c ≡ option_map (λ serial. const_under run found c serial) (serial_at table c)) where
      only-at : (n c k : ℕ) → depth run c ≡ Some k → k ≤ n → found c ≡ values_of run table c
      only-at zero c k e low = absurd (let s = depth-some run most_depth c k e in omega arith)
      only-at (suc n) c k e low =
          solves c
          ∙ (from-lower found (values_of run table) c
          (λ j is d i d_is less. let same : Some j ≡ Some k = sym is ∙ e in only-at n d i d_is (let s : j ≡ k = cc in omega arith)) (serial_at table c)
          ∙ sym (fixed c))

      pub only : (c : ℕ) → found c ≡ values_of run table c
      only c = cases (depth run c) refl
        where
          cases : (o : Option ℕ) → depth run c ≡ o → found c ≡ values_of run table c
          cases (Some k) e = only-at k c k e (omega arith)
          cases None none =
              solves c
              ∙ (from-lower found (values_of run table) c (λ k is. let e : Some k ≡ None = sym is ∙ none in cc) (serial_at table c) ∙ sym (fixed c))
