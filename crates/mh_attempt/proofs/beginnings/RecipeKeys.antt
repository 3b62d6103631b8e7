-- How many keys the recipe of a tree has more than that of its part.
use Rattle.std.proofs.Common.{◌≡◌, refl, sym, subst, Bool, true, false, ◌&&◌, ℕ, List, [], ◌∷◌, ◌++◌, append-nil, Option, Some, None, Ok, Err, inl, inr}
use Rattle.std.specs.Prelude.{if◌then◌else◌}
use Rattle.std.specs.Option.{option_map_or}
use Rattle.mh_values.specs.declared.class.Class.{Class}
use Rattle.mh_values.specs.declared.types.Comp.{Comp}
use Rattle.mh_values.specs.declared.types.Ty.{Ty}
use Rattle.mh_values.specs.declared.types.MethodTy.{MethodTy}
use Rattle.mh_values.specs.Same.{is_same_method_type}
use Rattle.mh_convert.specs.declared.conv.Rules.{Rules}
use Rattle.mh_convert.specs.declared.conv.Rules.TheVariants as rules
use Rattle.mh_convert.specs.Conversion.{is_trivial_ret}
use Rattle.mh_leaf.specs.LeafTable.{LeafTable}
use Rattle.mh_tree.specs.Rows.{TypeOrRefusal, component_of}
use Rattle.mh_tree.specs.Tree.{Tree, converted}
use Rattle.mh_tree.specs.Typing.{type_of}
use Rattle.mh_tree.specs.Use.{used_as, used_by, items_used_as, taking_items}
use Rattle.mh_edit.specs.declared.key.Key.{Key}
use Rattle.mh_edit.specs.declared.key.Key.TheVariants as key
use Rattle.mh_handle.specs.Recipe.{are_trivial, at_some, at_type, convert_keys, entries_of, recipe, ret_entry_of}
use Rattle.mh_handle.proofs.recipes.Recipes.{recipe-converted}
use Rattle.mh_link.specs.Made.{beginnings}
use Rattle.mh_attempt.proofs.beginnings.RecipeBeginnings.{IsShort, fewer-beginnings, more-beginnings}
use Rattle.mh_attempt.proofs.asked.RecipeSets.{AreAmong, among-among, each-among, same-among}

pub short-none : IsShort []
short-none = inl refl

pub short-one : (k : Key) → IsShort (k ∷ [])
short-one k = inr (k, refl)

pub at_type-short : (m : TypeOrRefusal) (keys : MethodTy → List Key) → ((t : MethodTy) → IsShort (keys t)) → IsShort (at_type m keys)
at_type-short (Ok t) keys short = short t
at_type-short (Err e) keys short = short-none

pub at_some-short : {A : Type 0} (o : Option A) (k : A → Key) → IsShort (at_some o k)
at_some-short (Some a) k = short-one (k a)
at_some-short None k = short-none

unless-short : (b : Bool) (k : Key) → IsShort (if b then [] else k ∷ [])
unless-short true k = short-none
unless-short false k = short-one k

convert-short : (classes : List Class) (asked t : MethodTy) → IsShort (convert_keys classes asked t)
convert-short classes asked t =
    unless-short (are_trivial classes asked.params t.params && is_trivial_ret classes t.ret asked.ret)
    (key.Convert (entries_of classes asked.params t.params) (ret_entry_of classes t.ret asked.ret))

-- a tree has at most one key more than another one
abbrev pub HasOneMore : LeafTable → Tree → Tree → Type 0
HasOneMore leaves t n = (keys : List Key) × IsShort keys × (recipe leaves n ≡ recipe leaves t ++ keys)

pub has-one : (leaves : LeafTable) (t n : Tree) (k : Key) → recipe leaves n ≡ recipe leaves t ++ k ∷ [] → HasOneMore leaves t n
has-one leaves t n k is = (k ∷ [], short-one k, is)

pub has-some : {A : Type 0} (leaves : LeafTable) (t n : Tree) (o : Option A) (k : A → Key) → recipe leaves n ≡ recipe leaves t ++ at_some o k →
    HasOneMore leaves t n
has-some leaves t n o k is = (at_some o k, at_some-short o k, is)

pub has-typed : (leaves : LeafTable) (t n : Tree) (m : TypeOrRefusal) (k : MethodTy → Key) →
    recipe leaves n ≡ recipe leaves t ++ at_type m (λ ty. k ty ∷ []) → HasOneMore leaves t n
has-typed leaves t n m k is = (at_type m (λ ty. k ty ∷ []), at_type-short m (λ ty. k ty ∷ []) (λ ty. short-one (k ty)), is)

-- a tree has no key more than itself
more-itself : (leaves : LeafTable) (t : Tree) → HasOneMore leaves t t
more-itself leaves t = ([], short-none, sym (append-nil (recipe leaves t)))

used-by : (by : Rules) (leaves : LeafTable) (t : Tree) (asked : MethodTy) (b : Bool) → HasOneMore leaves t (if b then t else converted by t asked)
used-by by leaves t asked true = more-itself leaves t
used-by by leaves t asked false = (
  at_type (type_of leaves t) (convert_keys leaves.classes asked),
  at_type-short (type_of leaves t) (convert_keys leaves.classes asked)
      (convert-short leaves.classes asked),
  recipe-converted by leaves t asked,
)

-- a conversion of a tree by the rules
pub use-more : (by : Rules) (leaves : LeafTable) (own asked : MethodTy) (t : Tree) → HasOneMore leaves t (used_by by own asked t)
use-more by leaves own asked t = used-by by leaves t asked (is_same_method_type own asked)

items-by : (leaves : LeafTable) (own : MethodTy) (count : ℕ) (t : Tree) (o : Option Comp) →
    HasOneMore leaves t (option_map_or (λ c. used_as own (taking_items own c count) t) o t)
items-by leaves own count t (Some c) = use-more rules.AsType leaves own (taking_items own c count) t
items-by leaves own count t None = more-itself leaves t

pub items-more : (leaves : LeafTable) (own : MethodTy) (array : Option Ty) (count : ℕ) (t : Tree) → HasOneMore leaves t (items_used_as own array count t)
items-more leaves own array count t = items-by leaves own count t (component_of array)

-- ---- beginnings

-- of what has a key more: those of the part, and the recipe itself
pub more-among : (leaves : LeafTable) (t n : Tree) (rs : List (List Key)) → HasOneMore leaves t n → AreAmong (beginnings (recipe leaves t)) rs →
    AreAmong (beginnings (recipe leaves n)) (rs ++ recipe leaves n ∷ [])
more-among leaves t n rs more among =
    let r = recipe leaves t in
    let all = r ++ more.0 in
    subst (λ s. AreAmong (beginnings s) (rs ++ s ∷ [])) (sym more.2)
    (among-among (beginnings all) (beginnings r ++ all ∷ []) (rs ++ all ∷ []) (more-beginnings r more.0 more.1)
    (each-among (beginnings r) (all ∷ []) rs (all ∷ []) among (same-among (all ∷ []) (all ∷ []) refl)))

-- of the part of what has a key more
pub part-among : (leaves : LeafTable) (t n : Tree) → HasOneMore leaves t n → AreAmong (beginnings (recipe leaves t)) (beginnings (recipe leaves n))
part-among leaves t n more =
    subst (λ s. AreAmong (beginnings (recipe leaves t)) (beginnings s)) (sym more.2) (fewer-beginnings (recipe leaves t) more.0 more.1)
