-- A tree that is used as a type to which its own converts trivially means what it means by itself.
use Rattle.std.proofs.Common.{◌≡◌, refl, ap, ap₂, ◌∙◌, ℕ, true, false, Bool, cond, ◌&&◌, List, [], ◌∷◌, ◌++◌, append-nil, Option, Some, None, Result, Ok}
use Rattle.std.specs.Prelude.{option_to_list}
use Rattle.std.specs.Result.{result_map_both}
use Rattle.std.proofs.lemmas.Bool.{and_parts}
use Rattle.mh_values.specs.declared.class.Class.{Class}
use Rattle.mh_values.specs.declared.types.Ty.{Ty}
use Rattle.mh_values.specs.declared.types.MethodTy.{MethodTy}
use Rattle.mh_values.specs.declared.value.Exc.{Exc}
use Rattle.mh_values.specs.declared.calls.LeafCall.{LeafCall}
use Rattle.mh_values.specs.declared.value.Value.{Value}
use Rattle.mh_values.specs.Classes.{AreClasses}
use Rattle.mh_values.specs.Computation.{Gave, Threw, Stuck, after, and_then, found}
use Rattle.mh_values.specs.HasType.{HaveTypes}
use Rattle.mh_values.specs.Returns.{Returns}
use Rattle.mh_values.proofs.BelowTypes.{type_below-itself, value-below}
use Rattle.mh_convert.specs.declared.conv.Conv.{Conv}
use Rattle.mh_convert.specs.declared.conv.Rules.{Rules}
use Rattle.mh_convert.specs.Conversion.{conv, is_trivial, is_trivial_ret, value_conversion, ret_conv}
use Rattle.mh_convert.proofs.Typed.{trivial-allowed, trivial-keeps}
use Rattle.mh_leaf.specs.LeafTable.{LeafTable}
use Rattle.mh_leaf.specs.WellTyped.{IsWellTyped}
use Rattle.mh_tree.specs.Tree.{Tree, converted}
use Rattle.mh_tree.specs.Typing.{type_of}
use Rattle.mh_tree.specs.Meaning.{Done, mean, known, or_throw, then_others, conv_all, conv_result}
use Rattle.mh_tree.proofs.Converted.{mean-converted}
use Rattle.mh_tree.proofs.Returning.{returned-typed}
use Rattle.mh_tree.proofs.Soundness.{mean-returns}

-- each type converts trivially to the other list's type at its place
abbrev pub are_trivial : List Class → List Ty → List Ty → Bool
are_trivial classes [] [] = true
are_trivial classes (s ∷ ss) (t ∷ ts) = is_trivial classes s t && are_trivial classes ss ts
are_trivial classes _ _ = false

-- the asked-for type's arguments pass as they are, and so does the result
abbrev pub is_used_trivially : List Class → MethodTy → MethodTy → Bool
is_used_trivially classes t asked = are_trivial classes asked.params t.params && is_trivial_ret classes t.ret asked.ret

-- values have the types below which theirs are
pub trivial-typed : (classes : List Class) → AreClasses classes → (ss ts : List Ty) (vs : List Value) → are_trivial classes ss ts ≡ true →
    HaveTypes classes vs ss → HaveTypes classes vs ts
trivial-typed classes are [] [] vs same have = have
trivial-typed classes are (s ∷ ss) (t ∷ ts) [] same have = absurd have
trivial-typed classes are (s ∷ ss) (t ∷ ts) (v ∷ vs) same have =
    let q = and_parts (is_trivial classes s t) (are_trivial classes ss ts) same in
    (value-below classes are s t q.0 v have.0, trivial-typed classes are ss ts vs q.1 have.1)
trivial-typed classes are [] (t ∷ ts) vs same have = absurd cc
trivial-typed classes are (s ∷ ss) [] vs same have = absurd cc

-- arguments stay as they are
pub trivial-args : (by : Rules) (classes : List Class) → AreClasses classes → (ss ts : List Ty) (vs : List Value) → are_trivial classes ss ts ≡ true →
    HaveTypes classes vs ss → conv_all by classes ss ts vs ≡ Ok vs
trivial-args by classes are [] [] [] same have = refl
trivial-args by classes are [] [] (v ∷ vs) same have = absurd have
trivial-args by classes are (s ∷ ss) (t ∷ ts) [] same have = absurd have
trivial-args by classes are (s ∷ ss) (t ∷ ts) (v ∷ vs) same have =
    let q = and_parts (is_trivial classes s t) (are_trivial classes ss ts) same in
    ap₂ then_others (trivial-keeps by classes are s t v q.0 have.0) (trivial-args by classes are ss ts vs q.1 have.1)
trivial-args by classes are [] (t ∷ ts) vs same have = absurd cc
trivial-args by classes are (s ∷ ss) [] vs same have = absurd cc

abbrev pair : Ty → Ty → Conv
pair s t = record { from = s; to = t }

-- the end of a conversion that gives the value itself
ended : (r : Result Value Exc) (v : Value) → r ≡ Ok v → or_throw (result_map_both (λ w. Some w) (λ e. e) r) (λ w. Gave w []) ≡ Gave (Some v) []
ended r v is = ap (λ x. or_throw (result_map_both (λ w. Some w) (λ e. e) x) (λ w. Gave w [])) is

-- a result stays as it is
pub trivial-result : (by : Rules) (classes : List Class) → AreClasses classes → (s t : Option Ty) (r : Option Value) → is_trivial_ret classes s t ≡ true →
    HaveTypes classes (option_to_list r) (option_to_list s) → conv_result by classes s t r ≡ Gave r []
trivial-result by classes are None None r same have = refl
trivial-result by classes are (Some s) (Some t) None same have = absurd have
trivial-result by classes are (Some s) (Some t) (Some v) same have =
    ap (λ b. found (value_conversion (cond b (Some (pair s t)) None)) (λ c. or_throw (ret_conv by classes c (Some v)) (λ w. Gave w [])))
    (trivial-allowed by classes s t same)
    ∙ ended (conv by classes s t v) v (trivial-keeps by classes are s t v same have.0)
trivial-result by classes are None (Some t) r same have = absurd cc
trivial-result by classes are (Some s) None r same have = absurd cc

no_more : (calls : List LeafCall) → calls ++ [] ≡ calls
no_more calls = append-nil calls

-- what ends as it is
kept : (by : Rules) (classes : List Class) → AreClasses classes →
    (s t : Option Ty) (r : Done) (n : ℕ) → is_trivial_ret classes s t ≡ true → Returns classes r s →
    and_then r n (λ v k. conv_result by classes s t v) ≡ r
kept by classes are s t (Gave v calls) n same returns =
    ap (after calls) (trivial-result by classes are s t v same (returned-typed classes v calls s returns)) ∙ ap (Gave v) (no_more calls)
kept by classes are s t (Threw e calls) n same returns = refl
kept by classes are s t Stuck n same returns = refl

-- a conversion by the rules of which each part is trivial changes nothing
pub convert-trivial : (by : Rules) (table : LeafTable) → IsWellTyped table → (t : Tree) (ty asked : MethodTy) (args : List Value) (n : ℕ) →
    type_of table t ≡ Ok ty → is_used_trivially table.classes ty asked ≡ true → HaveTypes table.classes args asked.params →
    mean table (converted by t asked) args n ≡ mean table t args n
convert-trivial by table are t ty asked args n typed same have =
    let classes = table.classes in
    let q = and_parts (are_trivial classes asked.params ty.params) (is_trivial_ret classes ty.ret asked.ret) same in
    let run : MethodTy → Done = λ own. or_throw (conv_all by classes asked.params own.params args) (λ xs. and_then (mean table t xs n) n
    (λ r k. conv_result by classes own.ret asked.ret r)) in
    let own : HaveTypes classes args ty.params = trivial-typed classes are.classes asked.params ty.params args q.0 have in
    mean-converted by table t asked args n
    ∙ (ap (λ o. known o run) typed
    ∙ (ap (λ x. or_throw x (λ xs. and_then (mean table t xs n) n (λ r k. conv_result by classes ty.ret asked.ret r)))
    (trivial-args by classes are.classes asked.params ty.params args q.0 have)
    ∙ kept by classes are.classes ty.ret asked.ret (mean table t args n) n q.1 (mean-returns table are t ty args n typed own)))

-- nor does such a conversion of what was so converted
pub convert-twice : (by : Rules) (table : LeafTable) → IsWellTyped table → (t : Tree) (ty between asked : MethodTy) (args : List Value) (n : ℕ) →
    type_of table t ≡ Ok ty → type_of table (converted by t between) ≡ Ok between → is_used_trivially table.classes ty between ≡ true →
    is_used_trivially table.classes between asked ≡ true → HaveTypes table.classes args asked.params →
    mean table (converted by (converted by t between) asked) args n ≡ mean table t args n
convert-twice by table are t ty between asked args n typed typed_between same same_again have =
    let q = and_parts (are_trivial table.classes asked.params between.params) (is_trivial_ret table.classes between.ret asked.ret) same_again in
    convert-trivial by table are (converted by t between) between asked args n typed_between same_again have
    ∙ convert-trivial by table are t ty between args n typed same (trivial-typed table.classes are.classes asked.params between.params args q.0 have)

are_trivial-itself : (classes : List Class) (ts : List Ty) → are_trivial classes ts ts ≡ true
are_trivial-itself classes [] = refl
are_trivial-itself classes (t ∷ ts) = ap₂ (λ a b. a && b) (type_below-itself classes t) (are_trivial-itself classes ts)

is_trivial_ret-itself : (classes : List Class) (t : Option Ty) → is_trivial_ret classes t t ≡ true
is_trivial_ret-itself classes None = refl
is_trivial_ret-itself classes (Some t) = type_below-itself classes t

-- converted by the rules to its own type, a tree means what it means by itself
pub convert-itself : (by : Rules) (table : LeafTable) → IsWellTyped table → (t : Tree) (ty : MethodTy) (args : List Value) (n : ℕ) → type_of table t ≡ Ok ty →
    HaveTypes table.classes args ty.params → mean table (converted by t ty) args n ≡ mean table t args n
convert-itself by table are t ty args n typed have =
    convert-trivial by table are t ty ty args n typed (ap₂ (λ a b. a && b) (are_trivial-itself table.classes ty.params)
    (is_trivial_ret-itself table.classes ty.ret)) have
