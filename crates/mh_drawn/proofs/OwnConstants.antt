-- Whether a pass has recorded all constants that it knows, one constant after the other.
use Rattle.std.proofs.Common.{◌≡◌, refl, sym, ◌∙◌, ap, subst, ℕ, zero, suc, ◌+◌, ◌<◌, ◌≤◌, Bool, true, List, [], ◌∷◌, length, map, set, get_or, None, Some, Option, ⊎_elim, arith}
use Rattle.std.specs.Prelude.{Contains, option_map, slice_get}
use Rattle.std.specs.Option.{option_flatten}
use Rattle.std.proofs.lemmas.Bool.{cases_eq}
use Rattle.std.proofs.lemmas.List.Elements.{Contains-get_or}
use Rattle.std.proofs.lemmas.Option.{none-some, same_Some, slice_get-get_or, slice_get-map, slice_get_within}
use Rattle.mh_link.specs.Places.{Has}
use Rattle.mh_link.proofs.walking.Places.{has-here, has-there}
use Rattle.mh_condy.specs.declared.pass.ConstAttempt.{ConstAttempt}
use Rattle.mh_condy.specs.Nodes.{Nodes, node_in}
use Rattle.mh_condy.specs.Passes.{PassView}
use Rattle.mh_condy.specs.Recorded.{ConstView}
use Rattle.mh_condy.specs.Trails.{HasPutAll, trail_of}
use Rattle.mh_condy.proofs.Trails.{noted}
use Rattle.mh_drawn.specs.Constants.{AreOwn}

-- a constant that is known has a place
node-within : (known : Nodes) (c : ℕ) (node : ConstView) → node_in known c ≡ Some node → c < length known
node-within known c node at = slice_get_within known c (Some node) (entry (slice_get known c) at)
  where
    entry : (o : Option (Option ConstView)) → option_flatten o ≡ Some node → o ≡ Some (Some node)
    entry None is = absurd (none-some node is)
    entry (Some e) is = ap (λ x. Some x) is

-- a number at a place is one of the list
pub place-has : (xs : List ℕ) (k c : ℕ) → slice_get xs k ≡ Some c → Has xs c
place-has [] k c at = absurd (none-some c at)
place-has (x ∷ xs) zero c at = subst (Has (x ∷ xs)) (same_Some x c at) (has-here x xs)
place-has (x ∷ xs) (suc k) c at = has-there x xs c (place-has xs k c at)

-- so is the constant of a recorded attempt
recorded-put : (pass : PassView) (a : ConstAttempt) → Contains pass.recorded a → Has (trail_of pass).put a.constant
recorded-put pass a among =
    place-has (map (λ (b : ConstAttempt). b.constant) pass.recorded) among.0 a.constant
    (slice_get-map (λ (b : ConstAttempt). b.constant) pass.recorded among.0
    ∙ ap (option_map (λ (b : ConstAttempt). b.constant)) (slice_get-get_or pass.recorded among.0 a among.1 ∙ ap (λ b. Some b) among.2))

-- ---- marks

-- a mark at one place leaves the others
set-other : {A : Type 0} (xs : List A) (i j : ℕ) (y : A) → (i ≡ j → ⊥) → slice_get (set xs i y) j ≡ slice_get xs j
set-other [] i j y other = refl
set-other (x ∷ xs) zero zero y other = absurd (other refl)
set-other (x ∷ xs) zero (suc j) y other = refl
set-other (x ∷ xs) (suc i) zero y other = refl
set-other (x ∷ xs) (suc i) (suc j) y other = set-other xs i j y (λ e. other (ap suc e))

-- the constant of one more attempt is marked
pub own-more : (pass : PassView) (own : List Bool) (attempts : List ConstAttempt) (i : ℕ) (d : ConstAttempt) → attempts ≡ pass.recorded →
    i < length attempts → AreOwn pass own → AreOwn pass (set own (get_or attempts i d).constant true)
own-more pass own attempts i d are within marked c at = ⊎_elim
    (λ (here : (get_or attempts i d).constant ≡ c).
    (get_or attempts i d, subst (λ xs. Contains xs (get_or attempts i d)) are (Contains-get_or attempts i d within), here))
    (λ (other : (get_or attempts i d).constant ≡ c → ⊥). marked c (sym (set-other own (get_or attempts i d).constant c true other) ∙ at))
    (cases_eq (get_or attempts i d).constant c)

-- ---- one constant after the other

module _ (pass : PassView) where
  -- the constants that are known before this one were put
  abbrev pub PutBefore : ℕ → Type 0
  PutBefore c = (k : ℕ) (node : ConstView) → k < c → node_in pass.known k ≡ Some node → Has (trail_of pass).put k

  pub put-none : PutBefore 0
  put-none k node within at = absurd (omega (arith, within))

  pub put-more : (own : List Bool) (c : ℕ) (mark : Bool) → AreOwn pass own → slice_get own c ≡ Some mark →
      ((node : ConstView) → node_in pass.known c ≡ Some node → mark ≡ true) → PutBefore c → PutBefore (c + 1)
  put-more own c mark are at marked before k node within there = ⊎_elim
      (λ (here : k ≡ c).
      let is : mark ≡ true = marked node (ap (node_in pass.known) (sym here) ∙ there) in
      let by = are k (ap (slice_get own) here ∙ (at ∙ ap (λ b. Some b) is)) in
      subst (Has (trail_of pass).put) by.2 (recorded-put pass by.0 by.1))
      (λ (other : k ≡ c → ⊥). before k node (omega (arith, within, other)) there)
      (cases_eq k c)

  -- so all that is known was put
  pub put-all : (count : ℕ) → length pass.known ≤ count → PutBefore count → HasPutAll (trail_of pass)
  put-all count whole before k there =
      let n = noted pass.known k there in
      let within : k < length pass.known = node-within pass.known k n.node n.at in
      before k n.node (omega (arith, within, whole)) n.at
