-- What leaves keep stays so when a class or a leaf is put after the others.
use Rattle.std.proofs.Common.{◌≡◌, sym, ap₂, subst, ◌∙◌, ℕ, ◌+◌, ◌-◌, take, true, false, ◌&&◌, ◌==◌, cond, List, [], ◌∷◌, ◌++◌, length, None, Some, Result, OnOk, OnErr, arith}
use Rattle.std.proofs.lemmas.Bool.{and_parts}
use Rattle.std.proofs.lemmas.List.{take-append-le, take_all}
use Rattle.std.proofs.lemmas.Slice.Eq.{bytes_eq-Decides}
use Rattle.std.specs.List.{list_any}
use Rattle.std.specs.Str.{bytes_eq}
use Rattle.mh_values.specs.declared.class.Class.{Class}
use Rattle.mh_values.specs.declared.class.ClassId.{ClassId}
use Rattle.mh_values.proofs.SameTypes.{same_class-is}
use Rattle.mh_leaf.specs.declared.leaf.Leaf.{Leaf}
use Rattle.mh_leaves.specs.declared.index.Index.{Index}
use Rattle.mh_leaves.specs.Find.{are_texts, has_texts}
use Rattle.mh_leaves.specs.Index.{found_at, FindsSame, FindsOneMore, IsIndexOf}
use Rattle.mh_leaves.specs.Kept.{AreKept}
use Rattle.mh_leaves.specs.Registered.{IsLeafOf, most_leaves}
use Rattle.mh_leaves.proofs.Growing.{registered-declared, registered-leaf}
use Rattle.mh_leaves.proofs.Once.{position-new, once-push}

-- no leaf
pub kept-nothing : (classes : List Class) (leaves : List Leaf) (index : Index) → leaves ≡ [] → ((o : ClassId) (a b : List ℕ) → found_at index o a b ≡ None) →
    AreKept classes leaves index
kept-nothing classes leaves index none finds =
    subst (λ l. AreKept classes l index) (sym none) (record {
      registered = record { few = omega arith; leaves = λ k d within. absurd (omega (arith, within)) };
      indexed = record { found = finds; once = λ o a b. tt };
    })

-- a class more, or none
pub kept-declared : {T E : Type 0} (r : Result T E) (classes more new : List Class) (leaves : List Leaf) (index : Index) → AreKept classes leaves index →
    OnOk r (new ≡ classes ++ more) → OnErr r (new ≡ classes) → AreKept new leaves index
kept-declared r classes more new leaves index old ok err = record {
  registered = registered-declared r classes more new leaves old.registered ok err;
  indexed = old.indexed;
}

-- ---- a leaf more

same_texts : (o p : ClassId) (a b c d : List ℕ) → are_texts o a b p c d ≡ true → (o ≡ p) × (a ≡ c) × (b ≡ d)
same_texts o p a b c d h =
    let q = and_parts (o.0 == p.0 && bytes_eq a c) (bytes_eq b d) h in
    let r = and_parts (o.0 == p.0) (bytes_eq a c) q.0 in
    (same_class-is o p r.0, (bytes_eq-Decides a c).0 r.1, (bytes_eq-Decides b d).0 q.1)

-- no leaf has texts that are those of a new one
new_texts : (leaves : List Leaf) (leaf : Leaf) (o : ClassId) (a b : List ℕ) → list_any (has_texts leaf.owner leaf.name leaf.descriptor) leaves ≡ false →
    has_texts o a b leaf ≡ true → list_any (has_texts o a b) leaves ≡ false
new_texts leaves leaf o a b new h =
    let q = same_texts leaf.owner o leaf.name leaf.descriptor a b h in
    subst (λ p. list_any (has_texts p a b) leaves ≡ false) q.0
    (subst (λ c. list_any (has_texts leaf.owner c b) leaves ≡ false) q.1
    (subst (λ d. list_any (has_texts leaf.owner leaf.name d) leaves ≡ false) q.2 new))

indexed-more : (leaves : List Leaf) (leaf : Leaf) (old new : Index) (n : ℕ) → IsIndexOf old leaves →
    list_any (has_texts leaf.owner leaf.name leaf.descriptor) leaves ≡ false → n ≡ length leaves → FindsOneMore old new leaf.owner leaf.name leaf.descriptor n →
    IsIndexOf new (leaves ++ leaf ∷ [])
indexed-more leaves leaf old new n is fresh here finds = record {
  found = λ o a b.
      finds o a b ∙ ap₂ (λ k p. cond (has_texts o a b leaf) (Some k) p) here (is.found o a b)
      ∙ sym (position-new (has_texts o a b) leaves leaf (new_texts leaves leaf o a b fresh));
  once = λ o a b. once-push (has_texts o a b) leaves leaf (is.once o a b) (new_texts leaves leaf o a b fresh);
}

pub kept-more : (classes : List Class) (leaves new : List Leaf) (leaf read : Leaf) (before after : Index) (n : ℕ) → AreKept classes leaves before →
    IsLeafOf classes leaf → (length leaves ≡ most_leaves → ⊥) → list_any (has_texts leaf.owner leaf.name leaf.descriptor) leaves ≡ false →
    new ≡ leaves ++ leaf ∷ [] → n ≡ length leaves → read ≡ leaf → FindsOneMore before after read.owner read.name read.descriptor n → AreKept classes new after
kept-more classes leaves new leaf read before after n old is fewer fresh pushed here same finds = record {
  registered = registered-leaf classes leaves new leaf old.registered is fewer pushed;
  indexed = subst (IsIndexOf after) (sym pushed) (indexed-more leaves leaf before after n old.indexed fresh here
      (subst (λ (l : Leaf). FindsOneMore before after l.owner l.name l.descriptor n) same finds));
}

-- a leaf that was put in and taken out again
pub kept-same : (classes : List Class) (leaves new : List Leaf) (before after : Index) → AreKept classes leaves before → new ≡ leaves → FindsSame before after →
    AreKept classes new after
kept-same classes leaves new before after old same finds =
    subst (λ l. AreKept classes l after) (sym same) (record {
      registered = old.registered;
      indexed = record { found = λ o a b. finds o a b ∙ old.indexed.found o a b; once = old.indexed.once };
    })

-- the leaf that was put in is taken out again
pub popped-pushed : (old pushed popped : List Leaf) (leaf : Leaf) (n : ℕ) → pushed ≡ old ++ leaf ∷ [] → popped ≡ take (n - 1) pushed → n ≡ length old + 1 →
    popped ≡ old
popped-pushed old pushed popped leaf n put out counted =
    out ∙ ap₂ take (let e : n - 1 ≡ length old = omega (arith, counted) in e) put ∙ take-append-le (length old) old (leaf ∷ []) (omega arith) ∙
    take_all (length old) old (omega arith)
