-- Recipes with one more key.
use Rattle.std.proofs.Common.{◌≡◌, ℕ, ◌+◌, ◌*◌, ◌%◌, List, [], ◌∷◌, ◌++◌, refl}
use Rattle.mh_values.specs.declared.types.MethodTy.{MethodTy}
use Rattle.mh_convert.specs.declared.conv.Rules.{Rules}
use Rattle.mh_convert.specs.declared.conv.Rules.TheVariants as rules
use Rattle.mh_leaf.specs.LeafTable.{LeafTable}
use Rattle.mh_tree.specs.Tree.{Tree, converted}
use Rattle.mh_tree.specs.Typing.{type_of}
use Rattle.mh_form.specs.declared.body.FormBody.{FormBody}
use Rattle.mh_edit.specs.declared.key.Key.{Key}
use Rattle.mh_edit.specs.Applied.{applied}
use Rattle.mh_form.specs.Body.{nothing}
use Rattle.mh_handle.specs.Chains.{chain_after, chain_count, chain_of, kind_of}
use Rattle.mh_handle.specs.Form.{body_from, body_of}
use Rattle.mh_handle.specs.Hashes.{mixed, all_mixed, key_hash, hash_of}
use Rattle.mh_handle.specs.Recipe.{at_type, convert_keys, recipe}

pub all_mixed-snoc : {A : Type 0} (part : A → ℕ) (hash : ℕ) (xs : List A) (x : A) → all_mixed part hash (xs ++ x ∷ []) ≡ mixed (all_mixed part hash xs) (part x)
all_mixed-snoc part hash [] x = refl
all_mixed-snoc part hash (y ∷ xs) x = all_mixed-snoc part (mixed hash (part y)) xs x

pub hash_of-snoc : (keys : List Key) (k : Key) → hash_of (keys ++ k ∷ []) ≡ mixed (hash_of keys) (key_hash k)
hash_of-snoc keys k = all_mixed-snoc key_hash 0 keys k

pub body_from-snoc : (body : FormBody) (keys : List Key) (k : Key) → body_from body (keys ++ k ∷ []) ≡ applied k (body_from body keys)
body_from-snoc body [] k = refl
body_from-snoc body (y ∷ keys) k = body_from-snoc (applied y body) keys k

pub body_of-snoc : (keys : List Key) (k : Key) → body_of (keys ++ k ∷ []) ≡ applied k (body_of keys)
body_of-snoc keys k = body_from-snoc nothing keys k

chain_after-snoc : (chain : ℕ) (keys : List Key) (k : Key) → chain_after chain (keys ++ k ∷ []) ≡ (31 * chain_after chain keys + kind_of k) % chain_count
chain_after-snoc chain [] k = refl
chain_after-snoc chain (y ∷ keys) k = chain_after-snoc ((31 * chain + kind_of y) % chain_count) keys k

pub chain_of-snoc : (keys : List Key) (k : Key) → chain_of (keys ++ k ∷ []) ≡ (31 * chain_of keys + kind_of k) % chain_count
chain_of-snoc keys k = chain_after-snoc 0 keys k

-- a tree that is converted by either rules has the keys of its target, and then that of the conversions
pub recipe-converted :
    (by : Rules) (table : LeafTable) (t : Tree) (asked : MethodTy) →
    recipe table (converted by t asked) ≡ recipe table t ++ at_type (type_of table t) (convert_keys table.classes asked)
recipe-converted rules.AsType table t asked = refl
recipe-converted rules.Explicit table t asked = refl
