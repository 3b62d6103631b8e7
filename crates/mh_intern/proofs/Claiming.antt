-- The steps of the table of claims on words keep its rule.
use Rattle.std.proofs.Common.{◌≡◌, ℕ, zero, suc, ◌+◌, ◌<◌, ◌≤◌, ◌≢◌, ◌==◌, inl, inr, ⊎_elim, List, [], ◌∷◌, length, slice_index, set, sym, refl, ap, ◌∙◌, subst, arith, length-set, get_or-set_same, Some}
use Rattle.std.proofs.lemmas.Bool.{eq-eqb, ne_eqb}
use Rattle.std.proofs.lemmas.List.{get_or-set_other, set-get_or}
use prog.Atomic.{either}
use mathlib.Core.Option.{some, none}
use mathlib.Core.Option as home
use lib.ListN.{get_elem?}
use Rattle.atomic_table.specs.Seated.{TableId}
use Rattle.atomic_table.specs.Table.{State, Act, Allows, Valid, carried_after, stepped, step, keeps, takes, gives, rest, put_back}
use Rattle.atomic_table.proofs.Lists.{at_set, set_again}
use Rattle.mh_intern.specs.declared.keeper.Keeper.{Keeper}
use Rattle.mh_intern.specs.declared.keeper.Claimer.{Claimer}
use Rattle.mh_seats.specs.Room.{times}
use Rattle.mh_intern.specs.Keep.{IsKeeper}
use Rattle.mh_intern.specs.Claims.{KeeperSlot, IsFreeOrTaken, HasKeeper, Claimed, CMe, named, claiming, takes_bucket, gives_bucket}
use Rattle.mh_seats.proofs.Totals.{total_set, at_most, each_set}
use Rattle.mh_intern.proofs.Measures.{count_cons}
use Rattle.mh_intern.proofs.Entries.{bit}
use Rattle.mh_intern.proofs.Turning.{either_word}

-- the table of holders that a view names
abbrev pub Names : TableId → Claimer → Type 0
Names holders v = (t : TableId) → named v ≡ Some t → t ≡ holders

module _ (holders : TableId) where
  -- one bucket changes hands
  changed : (s : State KeeperSlot Claimer) → Claimed holders s → (b n : ℕ) (h : home.Option KeeperSlot) (id : ℕ) (v : Claimer) (cs : List ℕ) → b < 64 →
      get_elem? s.views id ≡ some v
      → IsFreeOrTaken holders b n h → times b cs + slice_index s.words b ≡ times b v.claims + n → ((j : ℕ) → j ≢ b → times j cs ≡ times j v.claims)
      → Claimed holders record { words = set s.words b n; homes = set s.homes b h; views = set s.views id (claiming v cs) }
  changed s k b n h id v cs small at stands here there =
      let lt : b < length s.words = omega (arith, k.wide) in
      record {
        wide = length-set s.words b n ∙ k.wide;
        many = length-set s.homes b h ∙ k.many;
        each = λ j g e. ⊎_elim
            (λ (t : (j ≡ b) × (h ≡ g)). subst (λ (z : ℕ × home.Option KeeperSlot). IsFreeOrTaken holders z.0 (slice_index (set s.words b n) z.0) z.1)
            (λ i. (sym t.0 i, t.1 i))
            (subst (λ (m : ℕ). IsFreeOrTaken holders b m h) (sym (get_or-set_same s.words b n 0 lt)) stands))
            (λ (t : (j ≢ b) × (get_elem? s.homes j ≡ some g)). subst (λ (m : ℕ). IsFreeOrTaken holders j m g) (sym (get_or-set_other s.words b j n 0 t.0))
            (k.each j g t.1))
            (at_set s.homes b j h g e);
        claims = λ j b'.
            let c = total_set (λ (u : Claimer). times j u.claims) s.views id v (claiming v cs) at in
            let old = k.claims j b' in
            ⊎_elim
            (λ (t : (j ≡ b) × (slice_index (set s.words b n) j ≡ n)).
            let a : times j cs ≡ times b cs = ap (λ z. times z cs) t.0 in
            let a' : times j v.claims ≡ times b v.claims = ap (λ z. times z v.claims) t.0 in
            let a'' : slice_index s.words j ≡ slice_index s.words b = ap (λ z. slice_index s.words z) t.0 in
            omega arith)
            (λ (t : (j ≢ b) × (slice_index (set s.words b n) j ≡ slice_index s.words j)). omega (arith, there j t.0))
            (either_word s.words b n j lt);
        names = each_set (Names holders) s.views id (claiming v cs) k.names (k.names id v at);
      }

  -- nothing changes
  same : (s : State KeeperSlot Claimer) → Claimed holders s → (b id : ℕ) (v : Claimer) → get_elem? s.views id ≡ some v
      → Claimed holders record { words = set s.words b (slice_index s.words b); homes = s.homes; views = set s.views id v }
  same s k b id v at =
      subst (λ (z : List ℕ × List Claimer). Claimed holders record { words = z.0; homes = s.homes; views = z.1 })
      (λ i. (sym (set-get_or s.words b 0) i, sym (set_again s.views id v at) i)) k

  home_at : (l : List (home.Option KeeperSlot)) (b : ℕ) → b < length l → (h : home.Option KeeperSlot) × (get_elem? l b ≡ some h)
  home_at [] i lt = absurd (omega arith)
  home_at (x ∷ xs) zero lt = (x, refl)
  home_at (x ∷ xs) (suc i) lt = home_at xs i (omega arith)

  pub takes_allowed : (slots id b : ℕ) (me : CMe) → b < 64
      → Allows (Claimed holders) slots id me b (λ n. either (n == 0) 1 n) (takes_bucket (step slots b 0 1 none) me)
  takes_allowed slots id b me small s k width at _ =
      let n : ℕ = slice_index s.words b in
      let h = home_at s.homes b (omega (arith, k.many)) in
      let Goal : Type 0 = (w : Claimer) × (a : Act KeeperSlot) × Valid s.homes me.1 a × Claimed holders (stepped s b (either (n == 0) 1 n) id me.1 w a)
      × takes_bucket (step slots b 0 1 none) me n (w, carried_after me.1 a) in
      ⊎_elim {C = Goal}
      (λ (t : (n ≡ 0) × ((x : KeeperSlot) × (h.0 ≡ some x) × HasKeeper holders b x)).
      let x : KeeperSlot = t.1.0 in let y = t.1.2 in
      let o : bit (b == b) ≡ 1 = ap bit (eq-eqb b b refl) in (
        claiming me.0 (b ∷ me.0.claims),
        takes b (Some y.0),
        h.1 ∙ ap some (t.1.1 ∙ ap some y.1),
        subst (λ (z : _). Claimed holders record {
          words = set s.words b (either z 1 n);
          homes = set s.homes b none;
          views =
              set s.views id (claiming me.0 (b ∷ me.0.claims));
        }) (sym (eq-eqb n 0 t.0))
            (changed s k b 1 none id me.0 (b ∷ me.0.claims) small at (inr (refl, refl)) (omega (arith, count_cons (λ (y : ℕ). y == b) b me.0.claims))
            (λ j apart. let z : bit (b == j) ≡ 0 = ap bit (ne_eqb b j (λ p. apart (sym p))) in omega (arith, count_cons (λ (y : ℕ). y == j) b me.0.claims))),
        ((λ _. (refl, (y.0, refl, λ tid is. subst (λ z. IsKeeper z b y.0) (sym (k.names id me.0 at tid is)) y.2))), λ not. absurd (not t.0)),
      ))
      (λ (t : (n ≡ 1) × (h.0 ≡ none)). let off : n ≢ 0 = λ e. omega arith in (
        me.0,
        keeps,
        tt,
        subst (λ (z : _). Claimed holders record { words = set s.words b (either z 1 n); homes = s.homes; views = set s.views id me.0 }) (sym (ne_eqb n 0 off))
            (same s k b id me.0 at),
        ((λ e. absurd (off e)), λ _. refl),
      ))
      (k.each b h.0 h.1)

  pub gives_allowed : (slots id b : ℕ) (me : CMe) (y : Keeper) → b < 64 → me.1 ≡ (b, Some y) ∷ rest me.1 → me.0.claims ≡ b ∷ [] →
      named me.0 ≡ Some y.seat.table_id → IsKeeper y.seat.table_id b y
      → Allows (Claimed holders) slots id me b (λ _. 0) (λ _. gives_bucket (step slots b 0 0 none) me 0)
  gives_allowed slots id b me y small held mine is good s k width at _ =
      let o : bit (b == b) ≡ 1 = ap bit (eq-eqb b b refl) in
      let here : times b me.0.claims ≡ times b (b ∷ []) = ap (times b) mine in
      let m = at_most (λ (u : Claimer). times b u.claims) s.views id me.0 at in
      let h = home_at s.homes b (omega (arith, k.many)) in
      let at_one : slice_index s.words b ≤ 1 = ⊎_elim
      (λ (t : (slice_index s.words b ≡ 0) × ((x : KeeperSlot) × (h.0 ≡ some x) × HasKeeper holders b x)). omega arith)
      (λ (t : (slice_index s.words b ≡ 1) × (h.0 ≡ none)). omega arith)
      (k.each b h.0 h.1) in
      let one : slice_index s.words b ≡ 1 = omega (arith, k.claims b small, count_cons (λ (z : ℕ). z == b) b []) in (
        claiming me.0 [],
        gives,
        tt,
        subst (λ (c : List (ℕ × KeeperSlot)). Claimed holders record {
          words = set s.words b 0;
          homes = put_back s.homes c;
          views =
              set s.views id (claiming me.0 []);
        }) (sym held)
            (changed s k b 0 (some (Some y)) id me.0 [] small at
            (inl (refl, (Some y, refl, (y, refl, subst (λ z. IsKeeper z b y) (k.names id me.0 at y.seat.table_id is) good))))
            (omega (arith, count_cons (λ (z : ℕ). z == b) b []))
            (λ j apart.
            let z : bit (b == j) ≡ 0 = ap bit (ne_eqb b j (λ p. apart (sym p))) in
            let q : times j me.0.claims ≡ times j (b ∷ []) = ap (times j) mine in
            omega (arith, count_cons (λ (z : ℕ). z == j) b []))),
        (refl, refl),
      )

-- the first of what is carried
pub first_held : (l m : List (ℕ × KeeperSlot)) (x : ℕ × KeeperSlot) → l ≡ x ∷ m → l ≡ x ∷ rest l
first_held l m x p = p ∙ ap (λ z. x ∷ z) (sym (ap rest p))
