-- Each call of the deque keeps the rule.
use Rattle.std.proofs.Common.{◌≡◌, ℕ, ◌+◌, ◌<◌, ◌≤◌, List, [], ◌∷◌, ◌++◌, length, sum_by, set, All, sym, refl, ap, ◌∙◌, ⊎_elim, zero, suc, arith, length-append}
use Rattle.std.proofs.lemmas.List.Elements.{All-push}
use Rattle.std.proofs.lemmas.List.Sums.{sum_by-append, sum_by_push, sum_by-cons}
use mathlib.Core.Option.{some, some-ne-none}
use lib.ListN.{get_elem?}
use Rattle.atomic_table.proofs.Lists.{at_set}
use Rattle.crossbeam_deque.specs.Tasks.{Pushes, Takes, Finds, Forks, Merges, Learns}
use Rattle.mh_seats.proofs.Totals.{total_set, total_cut, at_most, smaller, alone, each_set, each_more}
use Rattle.mh_prelink.specs.declared.tally.Tally.{Tally}
use Rattle.mh_prelink.specs.Tallies.{tally, whole, IsIdle, Balanced, Took, PutIn, NoneLeft, Weighed, kept_back, of_thief, both_tallies}

all_front : (P : ℕ → Type 0) (xs ys : List ℕ) → All P (xs ++ ys) → All P xs
all_front P [] ys h k d b = absurd (omega arith)
all_front P (x ∷ xs) ys h zero d b = h 0 d (omega arith)
all_front P (x ∷ xs) ys h (suc k) d b = all_front P xs ys (λ j e c. h (suc j) e (omega arith)) k d (omega arith)

all_back : (P : ℕ → Type 0) (xs ys : List ℕ) → All P (xs ++ ys) → All P ys
all_back P [] ys h = h
all_back P (x ∷ xs) ys h = all_back P xs ys (λ j e c. h (suc j) e (omega arith))

ones : (xs : List ℕ) → sum_by (λ _. 1) xs ≡ length xs
ones [] = refl
ones (x ∷ xs) = omega (arith, sum_by-cons (λ (_ : ℕ). 1) x xs, ones xs)

-- how many parts a view has, and what its lists weigh
abbrev parts_of : Tally → ℕ
parts_of v = v.parts

abbrev put_of : (ℕ → ℕ) → Tally → ℕ
put_of h v = sum_by h v.put

abbrev taken_of : (ℕ → ℕ) → Tally → ℕ
taken_of h v = sum_by h v.taken

abbrev put_count_of : Tally → ℕ
put_count_of v = length v.put

-- how many numbers were put in
put_count : (views : List Tally) → sum_by (put_of (λ _. 1)) views ≡ sum_by put_count_of views
put_count views = omega (
  arith,
  smaller (put_of (λ _. 1)) put_count_of (λ v. omega (arith, ones v.put)) views,
  smaller put_count_of (put_of (λ _. 1)) (λ v. omega (arith, ones v.put)) views,
)

module _ (bound : ℕ) (items : List ℕ) (views : List Tally) (port : ℕ) (v : Tally) (b : Balanced bound items views) (at : get_elem? views port ≡ some v)
    (all : v.parts ≡ whole) (h : ℕ → ℕ) where
  -- the view that has all parts has put in all that was put in
  all_put : sum_by h v.put ≡ sum_by (put_of h) views
  all_put = alone parts_of (put_of h) views (λ j u is none. ap (λ (xs : List ℕ). sum_by h xs) (b.idle j u is none).0) port v at (all ∙ sym b.parts)

  -- and has taken all that was taken
  all_taken : sum_by h v.taken ≡ sum_by (taken_of h) views
  all_taken = alone parts_of (taken_of h) views (λ j u is none. ap (λ (xs : List ℕ). sum_by h xs) (b.idle j u is none).1) port v at (all ∙ sym b.parts)

-- ---- what each call owes

pub begins : (bound : ℕ) → Balanced bound [] (tally whole [] [] ∷ [])
begins bound = record {
  parts = refl;
  weighed = λ h. refl;
  below = λ k d b. absurd (omega arith);
  few = omega arith;
  idle = each_more IsIdle [] (tally whole [] []) (λ j u e. absurd (some-ne-none u (sym e))) (λ _. (refl, refl));
}

pub puts : (bound port : ℕ) (v : Tally) (x : ℕ) → v.parts ≡ whole → length v.put < bound → x < bound →
    Pushes (Balanced bound) port v (x ∷ []) (PutIn v (x ∷ []))
puts bound port v x all room small items views b at =
    let w : Tally = tally v.parts (v.put ++ x ∷ []) v.taken in (
      w,
      record {
        parts = let t = total_set parts_of views port v w at in omega (arith, b.parts);
        weighed = λ h.
            let p = total_set (put_of h) views port v w at in
            let t = total_set (taken_of h) views port v w at in
            omega (arith, b.weighed h, sum_by_push h v.put x, sum_by_push h items x);
        below = All-push (λ y. y < bound) items x b.below small;
        few =
            let t = total_set put_count_of views port v w at in
            let n = all_put bound items views port v b at all (λ _. 1) in
            let l : length (v.put ++ x ∷ []) ≡ length v.put + 1 = length-append v.put (x ∷ []) in
            omega (arith, put_count views, ones v.put);
        idle = each_set IsIdle views port w b.idle (λ none. absurd (let e : whole ≡ 0 = sym all ∙ none in omega arith));
      },
      refl,
    )

pub takes : (bound port : ℕ) (v : Tally) → 0 < v.parts → Takes (Balanced bound) port v 1 (Took bound v)
takes bound port v some_part xs items views _ _ b at =
    let w : Tally = tally v.parts v.put (v.taken ++ xs) in
    let now : List Tally = set views port w in
    let weighed : (h : ℕ → ℕ) → sum_by (put_of h) now ≡ sum_by (taken_of h) now + sum_by h items = λ h.
    let p = total_set (put_of h) views port v w at in
    let t = total_set (taken_of h) views port v w at in
    omega (arith, b.weighed h, sum_by-append h v.taken xs, sum_by-append h xs items) in
    let few : sum_by put_count_of now ≤ bound = let t = total_set put_count_of views port v w at in omega (arith, b.few) in (
      w,
      record {
        parts = let t = total_set parts_of views port v w at in omega (arith, b.parts);
        weighed = weighed;
        below = all_back (λ x. x < bound) xs items b.below;
        few = few;
        idle = each_set IsIdle views port w b.idle (λ none. absurd (omega arith));
      },
      record {
        now = refl;
        below = all_front (λ x. x < bound) xs items b.below;
        few =
            let m = at_most (taken_of (λ _. 1)) views port v at in
            let t = total_set (taken_of (λ _. 1)) views port v w at in
            omega (arith, weighed (λ _. 1), put_count now, ones (v.taken ++ xs));
      },
    )

pub finds : (bound port : ℕ) (v : Tally) → Finds (Balanced bound) port v (NoneLeft v)
finds bound port v views b at all h =
    all_put bound [] views port v b at all h ∙ b.weighed h ∙ omega (arith, all_taken bound [] views port v b at all h)

pub learns : (bound port : ℕ) (v : Tally) → v.parts ≡ whole → Learns (Balanced bound) port v (Weighed v)
learns bound port v all items views b at h =
    all_put bound items views port v b at all h ∙ b.weighed h ∙ ap (λ k. k + sum_by h items) (sym (all_taken bound items views port v b at all h))

pub forks : (bound port : ℕ) (v : Tally) → 1 < v.parts → Forks (Balanced bound) port v (kept_back v) of_thief
forks bound port v some_parts items views b at =
    let w : Tally = kept_back v in
    let now : List Tally = set views port w in
    record {
      parts = let m = total_cut parts_of views port v w of_thief at in omega (arith, b.parts);
      weighed = λ h.
          let p = total_cut (put_of h) views port v w of_thief at in
          let t = total_cut (taken_of h) views port v w of_thief at in
          omega (arith, b.weighed h);
      below = b.below;
      few = let m = total_cut put_count_of views port v w of_thief at in omega (arith, b.few);
      idle = each_more IsIdle now of_thief (each_set IsIdle views port w b.idle (λ none. absurd (omega arith))) (λ none. absurd (omega arith));
    }

pub merges : (bound port : ℕ) (v : Tally) (other : ℕ) (w : Tally) → Merges (Balanced bound) port v other w (both_tallies v w) (tally 0 [] [])
merges bound port v other w items views b at apart at' =
    let both : Tally = both_tallies v w in
    let spent : Tally = tally 0 [] [] in
    let first : List Tally = set views port both in
    let now : List Tally = set first other spent in
    let was : get_elem? views other ≡ some w =
    ⊎_elim (λ (x : (other ≡ port) × (both ≡ w)). absurd (apart x.0)) (λ (x : (¬ (other ≡ port)) × (get_elem? views other ≡ some w)). x.1)
    (at_set views port other both w at') in
    let moved : (f : Tally → ℕ) → sum_by f now + f v + f w ≡ sum_by f views + f both + f spent = λ f.
    let s = total_set f views port v both at in let t = total_set f first other w spent at' in omega arith in
    record {
      parts = let m = moved parts_of in omega (arith, b.parts);
      weighed = λ h.
          let p = moved (put_of h) in
          let t = moved (taken_of h) in
          omega (arith, b.weighed h, sum_by-append h v.put w.put, sum_by-append h v.taken w.taken);
      below = b.below;
      few =
          let m = moved put_count_of in
          let l : length (v.put ++ w.put) ≡ length v.put + length w.put = length-append v.put w.put in
          omega (arith, b.few);
      idle = each_set IsIdle first other spent
          (each_set IsIdle views port both b.idle (λ none.
          let p : v.parts ≡ 0 = omega arith in let q : w.parts ≡ 0 = omega arith in
          let x = b.idle port v at p in let y = b.idle other w was q in
          ((ap (λ (l : List ℕ). l ++ w.put) x.0 ∙ y.0), (ap (λ (l : List ℕ). l ++ w.taken) x.1 ∙ y.1))))
          (λ _. (refl, refl));
    }
