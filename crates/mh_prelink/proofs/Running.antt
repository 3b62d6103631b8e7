-- All workers together: what each did, and which numbers they took.
use Rattle.std.proofs.Common.{◌≡◌, ℕ, zero, suc, ◌+◌, ◌-◌, ◌<◌, ◌≤◌, ◌∙◌, List, [], ◌∷◌, ◌++◌, length, map, flat_map, sum_by, All, get_or, sym, refl, ap, arith, ◌==◌, cond}
use Rattle.std.specs.List.{range_with_len}
use Rattle.std.proofs.lemmas.List.{length-map}
use Rattle.std.proofs.lemmas.List.Sums.{sum_by-append}
use Rattle.std.proofs.lemmas.List.Concat.{flat_map-cons}
use Rattle.std.proofs.lemmas.List.Folds.{flat_map-map}
use Rattle.mh_seats.specs.Room.{times}
use Rattle.mh_prelink.specs.declared.tally.Tally.{Tally}
use Rattle.mh_prelink.specs.declared.worked.Worked.{Worked}
use Rattle.mh_prelink.specs.declared.worked.Lane.{Lane}
use Rattle.mh_prelink.specs.declared.worked.Work.{Work}
use Rattle.mh_prelink.specs.Tallies.{tally, whole, WeighSame, NoneLeft, Weighed}
use Rattle.mh_prelink.specs.Lanes.{HaveWorked}
use Rattle.mh_prelink.specs.Results.{all_taken}
use Rattle.mh_prelink.specs.Steps.{done_by}
use Rattle.mh_prelink.proofs.Counting.{times_few, times_within, all_within}

pub none_run : {A : Type 0} (done : A → A → Type 0) (xs : List A) → length xs ≡ 0 → HaveWorked done xs xs
none_run done xs none = record { count = refl; each = λ i d e within. absurd (omega arith) }

-- one more has worked, and each is seen by a part of it
module _ {A B P W : Type 0} (ran : A → B → Type 0) (done : P → W → Type 0) (f : A → P) (g : B → W)
    (follows : (a : A) (b : B) → ran a b → done (f a) (g b)) where
  seen : (xs : List A) (ys : List B) → HaveWorked ran xs ys → (i : ℕ) (d : P) (e : W) → i < length (map f xs) →
      done (get_or (map f xs) i d) (get_or (map g ys) i e)
  seen [] ys r i d e h = absurd (omega arith)
  seen (x ∷ xs) [] r i d e h = absurd (let c = r.count in omega arith)
  seen (x ∷ xs) (y ∷ ys) r zero d e h = follows x y (r.each 0 x y (omega arith))
  seen (x ∷ xs) (y ∷ ys) r (suc i) d e h =
      seen xs ys record { count = let c = r.count in omega arith; each = λ j a b within. r.each (suc j) a b (omega arith) } i d e (omega arith)

  pub all_run : (p : P) (w : W) (xs : List A) (ys : List B) → done p w → HaveWorked ran xs ys → HaveWorked done (p ∷ map f xs) (w ∷ map g ys)
  all_run p w xs ys first r = record {
    count = let c = r.count in omega (arith, length-map xs f, length-map ys g);
    each = λ i. each i;
  } where
    each : (i : ℕ) (d : P) (e : W) → i < length (p ∷ map f xs) → done (get_or (p ∷ map f xs) i d) (get_or (w ∷ map g ys) i e)
    each zero d e h = first
    each (suc i) d e h = seen xs ys r i d e (omega arith)

module _ {P E : Type 0} where
  -- the deque's own worker is put before the thieves
  pub all_workers : (mine : Work P E) (w : Worked P E) (ls : List (Lane P E)) (ws : List (Worked P E)) → w ≡ done_by mine → ws ≡ map (λ l. done_by l.work) ls →
      w ∷ ws ≡ done_by mine ∷ map (λ l. done_by l.work) ls
  all_workers mine w ls ws first others = ap (λ x. x ∷ ws) first ∙ ap (λ xs. done_by mine ∷ xs) others

  -- the lists of the deque's own worker and of the thieves
  pub taken_by_all : (w : Worked P E) (ls : List (Lane P E)) →
      all_taken (w ∷ map (λ l. done_by l.work) ls) ≡ w.taken ++ flat_map (λ l. l.work.taken.items) ls
  taken_by_all w ls =
      flat_map-cons (λ (x : Worked P E). x.taken) w (map (λ l. done_by l.work) ls)
      ∙ ap (λ l. w.taken ++ l) (flat_map-map (λ (x : Worked P E). x.taken) (λ (l : Lane P E). done_by l.work) ls)

-- the worker's view at the end has all parts, all numbers were put in, and all that was taken is in it
pub record Settled (bound : ℕ) (v : Tally) (all : List ℕ) : Type 0 where
  pub parts : v.parts ≡ whole
  pub put : v.put ≡ range_with_len 0 bound
  pub taken : WeighSame all v.taken

-- from the view at the start, by the views after the work, after the thieves' parts came back, and after the last look
pub settled : (bound n k : ℕ) (v u w z : Tally) (mine mine' later xs ys : List ℕ) → n < whole → k ≡ n
    → v ≡ tally (whole - n) (range_with_len 0 bound) [] → u ≡ tally v.parts v.put (v.taken ++ xs) → mine ≡ xs
    → w ≡ tally (u.parts + k) u.put (u.taken ++ later) → z ≡ tally w.parts w.put (w.taken ++ ys) → mine' ≡ mine ++ ys
    → Settled bound z (mine' ++ later)
settled bound n k v u w z mine mine' later xs ys few kn a b m c d m' = record {
  parts =
      let ap0 : v.parts ≡ whole - n = ap (λ (x : Tally). x.parts) a in let bp : u.parts ≡ v.parts = ap (λ (x : Tally). x.parts) b in
      let cp : w.parts ≡ u.parts + k = ap (λ (x : Tally). x.parts) c in let dp : z.parts ≡ w.parts = ap (λ (x : Tally). x.parts) d in
      omega arith;
  put = ap (λ (x : Tally). x.put) d ∙ ap (λ (x : Tally). x.put) c ∙ ap (λ (x : Tally). x.put) b ∙ ap (λ (x : Tally). x.put) a;
  taken = λ h.
      let at : sum_by h v.taken ≡ 0 = ap (λ (x : Tally). sum_by h x.taken) a in
      let bt : sum_by h u.taken ≡ sum_by h (v.taken ++ xs) = ap (λ (x : Tally). sum_by h x.taken) b in
      let ct : sum_by h w.taken ≡ sum_by h (u.taken ++ later) = ap (λ (x : Tally). sum_by h x.taken) c in
      let dt : sum_by h z.taken ≡ sum_by h (w.taken ++ ys) = ap (λ (x : Tally). sum_by h x.taken) d in
      let mt : sum_by h mine ≡ sum_by h xs = ap (λ l. sum_by h l) m in
      let mt' : sum_by h mine' ≡ sum_by h (mine ++ ys) = ap (λ l. sum_by h l) m' in
      omega (
        arith,
        sum_by-append h v.taken xs,
        sum_by-append h u.taken later,
        sum_by-append h w.taken ys,
        sum_by-append h mine ys,
        sum_by-append h mine' later,
      );
}

module _ (bound : ℕ) (v : Tally) (all : List ℕ) (s : Settled bound v all) where
  all_once : (items : List ℕ) → Weighed v items → (x : ℕ) → times x all ≤ times x (range_with_len 0 bound)
  all_once items weighed x =
      let h : ℕ → ℕ = λ y. cond (y == x) 1 0 in
      let p : sum_by h v.put ≡ times x (range_with_len 0 bound) = ap (λ l. sum_by h l) s.put in
      let t : times x all ≡ sum_by h v.taken = s.taken h in
      let w = weighed h in
      omega arith

  pub below_all : (items : List ℕ) → Weighed v items → All (λ x. x < bound) all
  below_all items weighed = all_within bound all (all_once items weighed)

  pub once_all : (items : List ℕ) → Weighed v items → (x : ℕ) → times x all ≤ 1
  once_all items weighed x = let a = all_once items weighed x in let f = times_few x 0 bound in omega arith

  pub every_all : NoneLeft v → (x : ℕ) → x < bound → times x all ≡ 1
  every_all none x h =
      let e = none s.parts (λ y. cond (y == x) 1 0) in
      s.taken (λ y. cond (y == x) 1 0) ∙ sym e ∙ ap (times x) s.put ∙ times_within x 0 bound (omega arith) (omega arith)
