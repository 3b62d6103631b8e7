-- The leaf calls of an AsType and of a Spread: those of their part, since conversions and arrays make none.
use Rattle.std.proofs.Common.{◌≡◌, refl, subst, ap, ◌∙◌, ℕ, ◌-◌, List, [], ◌++◌, append-nil, Option, Some, None, Result, Ok, Err}
use Rattle.std.specs.Prelude.{slice_get}
use Rattle.mh_values.specs.declared.class.Class.{Class}
use Rattle.mh_values.specs.declared.types.Ty.{Ty}
use Rattle.mh_values.specs.declared.types.MethodTy.{MethodTy}
use Rattle.mh_values.specs.declared.value.Exc.{Exc}
use Rattle.mh_values.specs.declared.value.Value.{Value}
use Rattle.mh_values.specs.Array.{spread_values}
use Rattle.mh_values.specs.Computation.{Gave, Threw, Stuck, raised, after, and_then, found, spliced}
use Rattle.mh_convert.specs.declared.conv.RetConv.{RetConv}
use Rattle.mh_convert.specs.declared.conv.Rules.{Rules}
use Rattle.mh_convert.specs.Conversion.{ret_conversion_of, ret_conv}
use Rattle.mh_leaf.specs.LeafTable.{LeafTable}
use Rattle.mh_tree.specs.Tree.{Tree, converted}
use Rattle.mh_tree.specs.Tree as tree
use Rattle.mh_tree.specs.Typing.{type_of, arity}
use Rattle.mh_tree.specs.Meaning.{Done, mean, known, or_throw, conv_all, conv_result}
use Rattle.mh_tree.specs.MostCalls.{calls_made}
use Rattle.mh_tree.proofs.Converted.{mean-converted}
use Rattle.mh_tree.proofs.Calls.{next_run, Ends, calls-in-order}

no-calls : (r : Result (Option Value) Exc) → calls_made (or_throw r (λ v. Gave v [])) ≡ []
no-calls (Ok v) = refl
no-calls (Err e) = refl

no-calls-found : (by : Rules) (classes : List Class) (c : Option RetConv) (r : Option Value) →
    calls_made (found c (λ d. or_throw (ret_conv by classes d r) (λ v. Gave v []))) ≡ []
no-calls-found by classes None r = refl
no-calls-found by classes (Some c) r = no-calls (ret_conv by classes c r)

-- the conversion of a result makes no leaf calls
pub conv_result-calls : (by : Rules) (classes : List Class) (s t : Option Ty) (r : Option Value) → calls_made (conv_result by classes s t r) ≡ []
conv_result-calls by classes s t r = no-calls-found by classes (ret_conversion_of by classes s t) r

silent : (r : Done) (n : ℕ) (next : Option Value → ℕ → Done) → ((v : Option Value) (k : ℕ) → calls_made (next v k) ≡ []) → calls_made (next_run r n next) ≡ []
silent (Gave v calls) n next h = h v (raised n calls)
silent (Threw e calls) n next h = refl
silent Stuck n next h = refl

after-none : (r : Done) → calls_made (after [] r) ≡ calls_made r
after-none (Gave v calls) = refl
after-none (Threw e calls) = refl
after-none Stuck = refl

-- AsType and Explicit: its calls are those of its tree on the converted arguments
pub converted-calls :
    (by : Rules) (table : LeafTable) (t : Tree) (ty asked : MethodTy) (args xs : List Value) (n : ℕ) →
    type_of table t ≡ Ok ty →
    conv_all by table.classes asked.params ty.params args ≡ Ok xs →
    Ends (mean table (converted by t asked) args n) →
    calls_made (mean table (converted by t asked) args n) ≡ calls_made (mean table t xs n)
converted-calls by table t ty asked args xs n typed conv ends =
    let classes = table.classes in
    let run : MethodTy → Done = λ own. or_throw (conv_all by classes asked.params own.params args)
    (λ ys. and_then (mean table t ys n) n (λ r k. conv_result by classes own.ret asked.ret r)) in
    let next : Option Value → ℕ → Done = λ r k. conv_result by classes ty.ret asked.ret r in
    let is : mean table (converted by t asked) args n ≡ and_then (mean table t xs n) n next =
    mean-converted by table t asked args n
    ∙ (ap (λ o. known o run) typed ∙ ap (λ x. or_throw x (λ ys. and_then (mean table t ys n) n next)) conv) in
    ap calls_made is
    ∙ (calls-in-order (mean table t xs n) n next (subst Ends is ends)
    ∙ (ap (λ cs. calls_made (mean table t xs n) ++ cs) (silent (mean table t xs n) n next (λ v k. conv_result-calls by classes ty.ret asked.ret v))
    ∙ append-nil (calls_made (mean table t xs n))))

-- Spread: its calls are those of its tree on the items of the array
pub spread-calls :
    (table : LeafTable) (t : Tree) (array : Option Ty) (count : ℕ) (v : Value) (args items : List Value) (n : ℕ) →
    slice_get args (arity table t - count) ≡ Some v →
    spread_values count v ≡ Gave items [] →
    calls_made (mean table (tree.Spread t array count) args n) ≡ calls_made (mean table t (spliced (arity table t - count) 1 items args) n)
spread-calls table t array count v args items n there given =
    let next : List Value → ℕ → Done = λ xs k. mean table t (spliced (arity table t - count) 1 xs args) k in
    ap (λ o. calls_made (found o (λ w. and_then (spread_values count w) n next))) there
    ∙ (ap (λ r. calls_made (and_then r n next)) given ∙ after-none (next items n))
