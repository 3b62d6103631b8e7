-- Which leaves an index finds when a leaf is put in.
use Rattle.std.proofs.Common.{◌≡◌, refl, sym, ap, ap₂, ◌∙◌, ℕ, ◌<◌, ◌==◌, inl, inr, true, false, ◌&&◌, cond, List, Option, None, Some, Result, Ok, Err, OnOk, OnErr, arith}
use Rattle.std.proofs.lemmas.Bool.{cases_Bool, eqb-true, eq-eqb, false_from_ne_true, and_parts, and_right}
use Rattle.std.proofs.lemmas.Bool.Decides.{nat_tests}
use Rattle.std.specs.Cmp.{both_tied}
use Rattle.std.proofs.lemmas.Slice.Eq.{bytes_eq-Decides}
use Rattle.std.specs.BTreeMap.{is_at, get, btree_map_len, Updates, IsUnchanged}
use Rattle.std.specs.Map.{lookup}
use Rattle.std.specs.Ordering.{nat_cmp, is_eq}
use Rattle.std.specs.Str.{bytes_eq}
use Rattle.mh_leaves.specs.Numbers.{text_number, Key, key_cmp, leaf_at, AreApart, AreNumbered, AreGrown, AreByTexts}
use Rattle.mh_leaves.proofs.Numbering.{Texts}
use Rattle.mh_leaves.proofs.Finding.{Found, leaf_at-grown}

-- what a call of `insert` leaves at each key
abbrev pub Writes : Found → Found → Key → ℕ → Type 0
Writes old new key n = (q : Key) → get key_cmp new q ≡ cond (is_at (key_cmp key) q) (Some n) (get key_cmp old q)

is_eq-nat_cmp : (x y : ℕ) → (x == y) ≡ is_eq (nat_cmp x y)
is_eq-nat_cmp x y = grind (arith, nat_tests)

key_test : (x y : Key) → is_at (key_cmp x) y ≡ ((x.0 == y.0 && x.1 == y.1) && x.2 == y.2)
key_test x y = sym (both_tied _ _ _ (nat_cmp x.2 y.2) (both_tied _ _ (nat_cmp x.0 y.0) (nat_cmp x.1 y.1) (is_eq-nat_cmp x.0 y.0) (is_eq-nat_cmp x.1 y.1))
    (is_eq-nat_cmp x.2 y.2))

same_number : (texts : Texts) (a b : List ℕ) (i k : ℕ) → AreApart texts → text_number texts a ≡ Some i → text_number texts b ≡ Some k → bytes_eq a b ≡ (i == k)
same_number texts a b i k apart is_a is_b =
    elim (cases_Bool (i == k)) [
      | inl e ↦
          let same : i ≡ k = eqb-true i k e in
          (bytes_eq-Decides a b).1 (apart a b i is_a (is_b ∙ ap Some (sym same))) ∙ sym e
      | inr e ↦ false_from_ne_true (bytes_eq a b) (λ h.
          let same : a ≡ b = (bytes_eq-Decides a b).0 h in
          let numbers : Some i ≡ Some k = sym is_a ∙ ap (text_number texts) same ∙ is_b in
          let is : i ≡ k = cc in
          let test : (i == k) ≡ true = eq-eqb i k is in cc) ∙ sym e
    ]

unnumbered : (texts : Texts) (a b : List ℕ) (i : ℕ) → text_number texts a ≡ Some i → text_number texts b ≡ None → bytes_eq a b ≡ false
unnumbered texts a b i is_a is_b =
    false_from_ne_true (bytes_eq a b) (λ h. let same : a ≡ b = (bytes_eq-Decides a b).0 h in cc (ap (text_number texts) same))

-- whether a key is that of a leaf whose name and descriptor have these numbers
written-at : (texts : Texts) (old new : Found) (owner i j n : ℕ) (name descriptor : List ℕ) → AreApart texts → text_number texts name ≡ Some i →
    text_number texts descriptor ≡ Some j → Writes old new (owner, i, j) n → (o : ℕ) (a b : List ℕ) (x y : Option ℕ) → text_number texts a ≡ x →
    text_number texts b ≡ y → leaf_at new o x y ≡ cond ((owner == o && bytes_eq name a) && bytes_eq descriptor b) (Some n) (leaf_at old o x y)
written-at texts old new owner i j n name descriptor apart is_name is_descriptor writes o a b None y is_a is_b =
    sym (ap (λ t. cond ((owner == o && t) && bytes_eq descriptor b) (Some n) None) (unnumbered texts name a i is_name is_a)
    ∙ ap (λ t. cond (t && bytes_eq descriptor b) (Some n) None) (and_right (owner == o) false refl))
written-at texts old new owner i j n name descriptor apart is_name is_descriptor writes o a b (Some k) None is_a is_b =
    sym (ap (λ t. cond ((owner == o && bytes_eq name a) && t) (Some n) None) (unnumbered texts descriptor b j is_descriptor is_b)
    ∙ ap (λ t. cond t (Some n) None) (and_right (owner == o && bytes_eq name a) false refl))
written-at texts old new owner i j n name descriptor apart is_name is_descriptor writes o a b (Some k) (Some l) is_a is_b =
    writes (o, k, l) ∙ ap (λ t. cond t (Some n) (get key_cmp old (o, k, l))) (key_test (owner, i, j) (o, k, l)
    ∙ ap₂ (λ s t. (owner == o && s) && t) (sym (same_number texts name a i k apart is_name is_a))
    (sym (same_number texts descriptor b j l apart is_descriptor is_b)))

-- one more leaf is found
pub leaf_at-more : (before texts : Texts) (old new : Found) (owner i j n : ℕ) (name descriptor : List ℕ) → AreByTexts before old → AreGrown before texts →
    AreApart texts → text_number texts name ≡ Some i → text_number texts descriptor ≡ Some j → Writes old new (owner, i, j) n → (o : ℕ) (a b : List ℕ) →
    leaf_at new o (text_number texts a) (text_number texts b) ≡ cond ((owner == o && bytes_eq name a) && bytes_eq descriptor b) (Some n)
    (leaf_at old o (text_number before a) (text_number before b))
leaf_at-more before texts old new owner i j n name descriptor by grown apart is_name is_descriptor writes o a b =
    written-at texts old new owner i j n name descriptor apart is_name is_descriptor writes o a b (text_number texts a) (text_number texts b) refl refl
    ∙ ap (cond ((owner == o && bytes_eq name a) && bytes_eq descriptor b) (Some n)) (leaf_at-grown before texts old o a b by grown)

-- ---- what holds of keys

by_texts-here : (texts : Texts) (i j k l : ℕ) (o owner : ℕ) → i < btree_map_len texts → j < btree_map_len texts → ((owner == o && i == k) && j == l) ≡ true →
    (k < btree_map_len texts) × (l < btree_map_len texts)
by_texts-here texts i j k l o owner name descriptor h =
    let p = and_parts (owner == o && i == k) (j == l) h in
    let q = and_parts (owner == o) (i == k) p.0 in
    let same_i : i ≡ k = eqb-true i k q.1 in
    let same_j : j ≡ l = eqb-true j l p.1 in
    (omega (arith, name, same_i), omega (arith, descriptor, same_j))

by_texts-written : (texts : Texts) (old new : Found) (owner i j n : ℕ) → AreByTexts texts old → i < btree_map_len texts → j < btree_map_len texts →
    Writes old new (owner, i, j) n → AreByTexts texts new
by_texts-written texts old new owner i j n by name descriptor writes o k l m is =
    let test : is_at (key_cmp (owner, i, j)) (o, k, l) ≡ ((owner == o && i == k) && j == l) = key_test (owner, i, j) (o, k, l) in
    elim (cases_Bool ((owner == o && i == k) && j == l)) [
      | inl e ↦ by_texts-here texts i j k l o owner name descriptor e
      | inr e ↦ by o k l m (sym (writes (o, k, l) ∙ ap (λ t. cond t (Some n) (get key_cmp old (o, k, l))) (test ∙ e)) ∙ is)
    ]

-- the same where nothing may have been written
pub by_texts-inserted : {T E : Type 0} (r : Result T E) (texts : Texts) (old new : Found) (owner i j n : ℕ) (name descriptor : List ℕ) → AreByTexts texts old →
    AreNumbered texts → text_number texts name ≡ Some i → text_number texts descriptor ≡ Some j → OnOk r (Updates key_cmp old new (owner, i, j) (Some n)) →
    OnErr r (IsUnchanged old new) → AreByTexts texts new
by_texts-inserted (Ok x) texts old new owner i j n name descriptor by numbered is_name is_descriptor ok err =
    by_texts-written texts old new owner i j n by (numbered.below name i is_name) (numbered.below descriptor j is_descriptor) ok.0
by_texts-inserted (Err e) texts old new owner i j n name descriptor by numbered is_name is_descriptor ok err =
    λ o k l m is. by o k l m (sym (ap (lookup (is_at (key_cmp (o, k, l)))) err) ∙ is)

leaf_at-unchanged : (old new : Found) (o : ℕ) (x y : Option ℕ) → IsUnchanged old new → leaf_at new o x y ≡ leaf_at old o x y
leaf_at-unchanged old new o None y same = refl
leaf_at-unchanged old new o (Some k) None same = refl
leaf_at-unchanged old new o (Some k) (Some l) same = ap (lookup (is_at (key_cmp (o, k, l)))) same

-- the same leaves are found where nothing was written
pub leaf_at-same : (before texts : Texts) (old new : Found) (o : ℕ) (a b : List ℕ) → AreByTexts before old → AreGrown before texts → IsUnchanged old new →
    leaf_at new o (text_number texts a) (text_number texts b) ≡ leaf_at old o (text_number before a) (text_number before b)
leaf_at-same before texts old new o a b by grown same =
    leaf_at-unchanged old new o (text_number texts a) (text_number texts b) same ∙ leaf_at-grown before texts old o a b by grown

pub on_err : {T E : Type 0} {P : Type 0} (r : Result T E) → P → OnErr r P
on_err (Ok x) p = tt
on_err (Err e) p = p
