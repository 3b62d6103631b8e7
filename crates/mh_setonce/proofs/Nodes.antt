-- Nodes of a walk.
use Rattle.std.proofs.Common.{◌≡◌, ℕ, ◌+◌, ◌<◌, List, [], ◌∷◌, ◌++◌, length, take, map, slice_index_or, slice_get, Some, sym, refl, ap, ◌∙◌, subst, arith, length-append, ⊎_elim}
use Rattle.std.proofs.lemmas.List.{map-append, length-map, take_more}
use Rattle.std.proofs.lemmas.Option.{slice_get_read, slice_get-map, slice_get_within, get_or_from_slice_get}
use Rattle.std.specs.Option.{option_map}
use Rattle.mh_base.proofs.Slices.{slice_get-push}
use Rattle.mh_setonce.specs.Learnings.{LearntView, node_of, nodes_of, name_of, names_of}
use Rattle.mh_setonce.specs.Walks.{StartsWith, Distinct, Lacks}
use Rattle.mh_setonce.specs.Places.{hashes_of}
use Rattle.mh_setonce.specs.Rows.{IsWalk, Kept, RowsView}
use Rattle.mh_setonce.proofs.Fronts.{starts-trans, starts-push, starts-same}

-- the name of the i-th cell
pub name_at : {A B : Type 0} (f : A → B) (xs : List A) (i : ℕ) (x : A) → i < length xs → x ≡ slice_index_or xs i x → slice_get (map f xs) i ≡ Some (f x)
name_at f xs i x in_list is = slice_get-map f xs i ∙ ap (option_map f) (slice_get_read xs (length xs) i x refl in_list is)

-- one item more is taken
pub taken : {A B : Type 0} (f : A → B) (xs : List A) (i : ℕ) (x : A) → i < length xs → x ≡ slice_index_or xs i x →
    take (i + 1) (map f xs) ≡ take i (map f xs) ++ f x ∷ []
taken f xs i x in_list is =
    let at = name_at f xs i x in_list is in
    take_more (map f xs) i (f x) (slice_get_within (map f xs) i (f x) at) ∙ ap (λ z. take i (map f xs) ++ z ∷ [])
    (get_or_from_slice_get (map f xs) i (f x) (f x) at)

-- one node more, whose key is new
pub distinct-push : {V K : Type 0} (key : V → K) (vs : List V) (v : V) → Distinct key vs → Lacks key vs (key v) → Distinct key (vs ++ v ∷ [])
distinct-push {V} key vs v d new i j x y at_i at_j same =
    ⊎_elim
    (λ (p : slice_get vs i ≡ Some x). ⊎_elim
    (λ (q : slice_get vs j ≡ Some y). d i j x y p q same)
    (λ (q : (j ≡ length vs) × (v ≡ y)). absurd (new i x p (same ∙ ap key (sym q.1))))
    (slice_get-push vs v j y at_j))
    (λ (p : (i ≡ length vs) × (v ≡ x)). ⊎_elim
    (λ (q : slice_get vs j ≡ Some y). absurd (new j y q (sym same ∙ ap key (sym p.1))))
    (λ (q : (j ≡ length vs) × (v ≡ y)). p.0 ∙ sym q.0)
    (slice_get-push vs v j y at_j))
    (slice_get-push vs v i x at_i)

-- the nodes with one more
pub nodes-push : {V : Type 0} (ls more : List (LearntView V)) (one : LearntView V) → more ≡ ls ++ one ∷ [] → nodes_of more ≡ nodes_of ls ++ one.node ∷ []
nodes-push ls more one e = ap nodes_of e ∙ map-append node_of ls (one ∷ [])

module _ {V K : Type 0} (key : V → K) (hash : K → ℕ) (rows rows' : RowsView) (ls : List (LearntView V)) (hashes : List ℕ) (is : IsWalk key hash rows ls hashes)
    (same : rows'.chain ≡ rows.chain) (grown : StartsWith rows'.cells rows.cells) where
  -- more rows are known
  pub walk-rows : (ls' : List (LearntView V)) (hashes' : List ℕ) → ls' ≡ ls → hashes' ≡ hashes → IsWalk key hash rows' ls' hashes'
  walk-rows ls' hashes' l h = subst (λ v. IsWalk key hash rows' v hashes') (sym l) (record {
    noted = starts-trans rows'.cells rows.cells (names_of ls) grown is.noted;
    within = omega (arith, is.within, ap (λ c. c.room) same);
    distinct = is.distinct;
    indexed = h ∙ is.indexed;
  })

  -- one node more
  pub walk-push : (more : List (LearntView V)) (hashes' : List ℕ) (one : LearntView V) → more ≡ ls ++ one ∷ [] → length ls < rows.chain.room →
      slice_get rows'.cells (length ls) ≡ Some one.cell → Lacks key (nodes_of ls) (key one.node) → hashes' ≡ hashes_of key hash (nodes_of more) →
      IsWalk key hash rows' more hashes'
  walk-push more hashes' one e low cell new h = record {
    noted = subst (StartsWith rows'.cells) (sym (ap names_of e ∙ map-append name_of ls (one ∷ [])))
        (starts-push rows'.cells (names_of ls) one.cell (starts-trans rows'.cells rows.cells (names_of ls) grown is.noted)
        (ap (slice_get rows'.cells) (length-map ls name_of) ∙ cell));
    within = omega (arith, low, ap length e, length-append ls (one ∷ []), ap (λ c. c.room) same);
    distinct = subst (Distinct key) (sym (nodes-push ls more one e)) (distinct-push key (nodes_of ls) one.node is.distinct new);
    indexed = h;
  }

  -- a node was kept, if its key is new
  pub walk-kept : (more : List (LearntView V)) (hashes' : List ℕ) (one : LearntView V) → Kept key ls one more → length ls < rows.chain.room →
      slice_get rows'.cells (length ls) ≡ Some one.cell → hashes' ≡ hashes_of key hash (nodes_of more) → IsWalk key hash rows' more hashes'
  walk-kept more hashes' one kept low cell h = ⊎_elim
      (λ (t : (more ≡ ls ++ one ∷ []) × Lacks key (nodes_of ls) (key (node_of one))). walk-push more hashes' one t.0 low cell t.1 h)
      (λ (t : more ≡ ls). walk-rows more hashes' t (h ∙ (ap (λ v. hashes_of key hash (nodes_of v)) t ∙ sym is.indexed))) kept

-- what was learnt stays
pub kept-starts : {V K : Type 0} (key : V → K) (ls more : List (LearntView V)) (one : LearntView V) → Kept key ls one more →
    StartsWith (nodes_of more) (nodes_of ls)
kept-starts key ls more one kept = ⊎_elim
    (λ (t : (more ≡ ls ++ one ∷ []) × Lacks key (nodes_of ls) (key (node_of one))). (one.node ∷ [], nodes-push ls more one t.0))
    (λ (t : more ≡ ls). subst (λ v. StartsWith (nodes_of v) (nodes_of ls)) (sym t) (starts-same (nodes_of ls))) kept

module _ {V K : Type 0} (key : V → K) (hash : K → ℕ) (rows rows' : RowsView) (ls mid more : List (LearntView V)) (hashes hashes' : List ℕ)
    (one : LearntView V) (n a : ℕ) (is : IsWalk key hash rows ls hashes) (same : rows'.chain ≡ rows.chain) (grown : StartsWith rows'.cells rows.cells)
    (count : n ≡ length ls) (low : n < rows.chain.room) (cell : slice_get rows'.cells n ≡ Some a) (of : one.cell ≡ a) (e : mid ≡ ls)
    (h : hashes' ≡ hashes_of key hash (nodes_of more)) where
  low' : length ls < rows.chain.room
  low' = omega (arith, count, low)

  cell' : slice_get rows'.cells (length ls) ≡ Some one.cell
  cell' = ap (slice_get rows'.cells) (sym count) ∙ (cell ∙ ap Some (sym of))

  -- a node of the next cell was kept
  pub walk-step : Kept key mid one more → IsWalk key hash rows' more hashes' × StartsWith (nodes_of more) (nodes_of ls)
  walk-step kept =
      let k : Kept key ls one more = subst (λ v. Kept key v one more) e kept in
      (walk-kept key hash rows rows' ls hashes is same grown more hashes' one k low' cell' h, kept-starts key ls more one k)

  -- a node of the next cell was added
  pub walk-put : (v : V) → more ≡ mid ++ one ∷ [] → one.node ≡ v → Lacks key (nodes_of ls) (key v) → IsWalk key hash rows' more hashes'
  walk-put v f node new =
      walk-push key hash rows rows' ls hashes is same grown more hashes' one (f ∙ ap (λ z. z ++ one ∷ []) e) low' cell'
      (λ i w at same'. new i w at (same' ∙ ap key node)) h
