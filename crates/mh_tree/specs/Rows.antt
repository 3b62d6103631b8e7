-- The rule of each combinator: the type that it gives to parts of these types, or the exception that refuses it.
use Rattle.std.specs.Prelude.{ℕ, ◌+◌, ◌-◌, ◌==◌, nat_lt, nat_le, Bool, true, false, ◌&&◌, List, [], ◌∷◌, ◌++◌, length, drop, replicate, codes, Option, Some, None, is_some, option_to_list, slice_get, Result, Ok, Err}
use Rattle.std.specs.List.{list_all}
use Rattle.mh_base.specs.Provided.{provided, provided_some}
use Rattle.mh_values.specs.declared.class.Class.{Class}
use Rattle.mh_values.specs.declared.class.ClassId.{ClassId}
use Rattle.mh_values.specs.declared.types.Comp.{Comp}
use Rattle.mh_values.specs.declared.types.Ty.{Ty}
use Rattle.mh_values.specs.declared.types.Ty.TheVariants as ty
use Rattle.mh_values.specs.declared.types.MethodTy.{MethodTy}
use Rattle.mh_values.specs.declared.value.Exc.{Exc}
use Rattle.mh_values.specs.declared.value.Value.{Value}
use Rattle.mh_values.specs.Array.{item_type}
use Rattle.mh_values.specs.Class.{is_subclass, throwable_class, illegal_argument_class, internal_error_class, wrong_method_type_class}
use Rattle.mh_values.specs.Computation.{spliced}
use Rattle.mh_values.specs.Exception.{saying, bare, with_message}
use Rattle.mh_values.specs.HasType.{is_type_below}
use Rattle.mh_values.specs.Same.{is_same_type, is_same_return, are_same_types, begins_with_types, is_same_method_type}
use Rattle.mh_values.specs.Slots.{slots_of_all}
use Rattle.mh_values.specs.TypeText.{method_type_text}
use Rattle.mh_values.specs.ValueLimits.{most_items}
use Rattle.mh_convert.specs.declared.conv.Rules.{Rules}
use Rattle.mh_convert.specs.declared.conv.Rules.TheVariants as rules
use Rattle.mh_convert.specs.Conversion.{can, fit, ret_conversion_of}
use Rattle.mh_leaf.specs.declared.leaf.Leaf.{Leaf}
use Rattle.mh_leaf.specs.Outcome.{boolean_type, int_type}
use Rattle.mh_pieces.specs.declared.piece.Piece.{Piece}
use Rattle.mh_pieces.specs.Joined.{arg_types}
use Rattle.mh_pieces.specs.Recipe.{most_concat_slots, returns_text}

-- a type, or the exception that refuses it
abbrev pub TypeOrRefusal : Type 0
TypeOrRefusal = Result MethodTy Exc

-- an IllegalArgumentException with a word as its message
abbrev pub illegal : List ℕ → Exc
illegal word = saying illegal_argument_class word

-- continues if the value fits; otherwise refuses with the fit's exception, with the combinator's word as its message
abbrev pub provided_fit : Result Value Exc → List ℕ → TypeOrRefusal → TypeOrRefusal
provided_fit (Ok v) word next = next
provided_fit (Err e) word next = Err (with_message word e)

-- a type within the limits: at most 254 slots, and a weight of at most 256
abbrev pub limited : List ℕ → ℕ → MethodTy → TypeOrRefusal
limited word weight t =
    provided (nat_le (slots_of_all t.params) 254) (illegal word)
    (provided (nat_le weight 256) (saying internal_error_class (codes "weight")) (Ok t))

-- a type with other parameters
abbrev pub taking : List Ty → MethodTy → MethodTy
taking params t = record { params = params; ret = t.ret }

-- how many parameters the result of a part takes the place of: one, or none if it is void
abbrev pub count_of : Option Ty → ℕ
count_of ret = length (option_to_list ret)

-- the result of a part has the type of the parameter at a place; a void part may stand before any parameter or after the last
abbrev pub gives_at : Option Ty → ℕ → List Ty → Bool
gives_at None place params = nat_le place (length params)
gives_at (Some r) place params = is_same_return (slice_get params place) (Some r)

-- the component of an array type
abbrev pub component_of : Option Ty → Option Comp
component_of (Some (ty.Array c)) = Some c
component_of _ = None

-- an array of the component can be passed to this parameter, if there is one
abbrev pub takes_array : List Class → Comp → Option Ty → Bool
takes_array classes c None = false
takes_array classes c (Some t) = is_type_below classes (ty.Array c) t

-- a leaf has the type with which it is registered
abbrev pub leaf_row : Option Leaf → TypeOrRefusal
leaf_row (Some leaf) = Ok leaf.ty
leaf_row None = Err (bare illegal_argument_class)

-- a constant takes nothing and gives a value that fits its type, which is not void
abbrev pub constant_row : List Class → Option Ty → Value → TypeOrRefusal
constant_row classes ty value =
    provided_some ty (illegal (codes "constant")) (λ ret.
    provided_fit (fit classes value ret) (codes "constant") (limited (codes "constant") 1 (record { params = []; ret = Some ret })))

-- an identity takes a value and gives it, so its type is not void
abbrev pub identity_row : Option Ty → TypeOrRefusal
identity_row ty =
    provided_some ty (illegal (codes "identity")) (λ ret. limited (codes "identity") 1 (record { params = ret ∷ []; ret = Some ret }))

-- a tree that throws takes an exception, of a class at or below Throwable, and may have any return type
abbrev pub throw_row : List Class → Option Ty → ClassId → TypeOrRefusal
throw_row classes ret class =
    provided (is_subclass classes class throwable_class) (illegal (codes "throw"))
    (limited (codes "throw") 1 (record { params = ty.Class class ∷ []; ret = ret }))

-- whether pieces can be joined by a type: they take its parameters, these take at most 200 slots, and a text has its return type
abbrev pub can_be_joined : List Class → MethodTy → List Piece → Bool
can_be_joined classes asked pieces =
    are_same_types (arg_types pieces) asked.params && nat_le (slots_of_all asked.params) most_concat_slots && returns_text classes asked.ret

-- Concat has the type that is asked for, if the pieces can be joined by it
abbrev pub concat_row : List Class → MethodTy → List Piece → TypeOrRefusal
concat_row classes asked pieces = provided (can_be_joined classes asked pieces) (illegal (codes "concat")) (Ok asked)

-- Bind takes out a parameter; the value must fit it
abbrev pub bind_row : List Class → MethodTy → ℕ → ℕ → Value → TypeOrRefusal
bind_row classes target target_weight place value =
    provided_some (slice_get target.params place) (illegal (codes "bind")) (λ parameter.
    provided_fit (fit classes value parameter) (codes "bind") (limited (codes "bind") (1 + target_weight) (taking (spliced place 1 [] target.params) target)))

-- Drop adds parameters, whose arguments it ignores
abbrev pub drop_row : MethodTy → ℕ → ℕ → List Ty → TypeOrRefusal
drop_row target target_weight place types =
    provided (nat_le place (length target.params)) (illegal (codes "drop"))
    (limited (codes "drop") (1 + target_weight) (taking (spliced place 0 types target.params) target))

-- each number of the order names a parameter of the type at its place in the other list
abbrev pub names_types : List Ty → List ℕ → List Ty → Bool
names_types params [] [] = true
names_types params (i ∷ reorder) (t ∷ types) = is_same_return (slice_get params i) (Some t) && names_types params reorder types
names_types params _ _ = false

-- Permute has the type that is asked for; the parameters that the order names have the types of the part's parameters
abbrev pub permute_row : MethodTy → ℕ → MethodTy → List ℕ → TypeOrRefusal
permute_row target target_weight asked reorder =
    provided (names_types asked.params reorder target.params && is_same_return asked.ret target.ret) (illegal (codes "permute"))
    (limited (codes "permute") (1 + target_weight) asked)

-- FilterArg takes the filter's argument in place of the parameter that the filter computes
abbrev pub filter_row : MethodTy → ℕ → ℕ → MethodTy → ℕ → TypeOrRefusal
filter_row target target_weight place filter filter_weight =
    provided (length filter.params == 1 && is_some filter.ret && gives_at filter.ret place target.params) (illegal (codes "filter"))
    (limited (codes "filter") (1 + target_weight + filter_weight) (taking (spliced place 1 filter.params target.params) target))

-- FilterRet returns what the filter returns; the filter takes the result, or nothing if there is none
abbrev pub filterret_row : MethodTy → ℕ → MethodTy → ℕ → TypeOrRefusal
filterret_row target target_weight filter filter_weight =
    provided (are_same_types filter.params (option_to_list target.ret)) (illegal (codes "filterret"))
    (limited (codes "filterret") (1 + target_weight + filter_weight) (record { params = target.params; ret = filter.ret }))

-- the parameters of a fold: those of the target without the one that the combiner computes
abbrev pub folded : MethodTy → ℕ → MethodTy → List Ty
folded target place combiner = spliced place (count_of combiner.ret) [] target.params

-- Fold takes out the parameter that the combiner computes; the combiner takes the first parameters after it
abbrev pub fold_row : MethodTy → ℕ → ℕ → MethodTy → ℕ → TypeOrRefusal
fold_row target target_weight place combiner combiner_weight =
    provided (gives_at combiner.ret place target.params && begins_with_types (drop place (folded target place combiner)) combiner.params)
    (illegal (codes "fold"))
    (limited (codes "fold") (1 + target_weight + combiner_weight) (taking (folded target place combiner) target))

-- Collect takes the filter's arguments in place of the parameter that the filter computes, or before it if the filter is void
abbrev pub collect_row : MethodTy → ℕ → ℕ → MethodTy → ℕ → TypeOrRefusal
collect_row target target_weight place filter filter_weight =
    provided (gives_at filter.ret place target.params) (illegal (codes "collect"))
    (limited (codes "collect") (1 + target_weight + filter_weight) (taking (spliced place (count_of filter.ret) filter.params target.params) target))

-- the last `count` parameters all have this type
abbrev pub ends_with : List Ty → ℕ → Ty → Bool
ends_with params count t = nat_le count (length params) && list_all (λ p. is_same_type p t) (drop (length params - count) params)

-- Spread takes an array in place of the last `count` parameters, which all have the type of the array's items
abbrev pub spread_row : MethodTy → ℕ → Option Ty → ℕ → TypeOrRefusal
spread_row target target_weight array count =
    provided_some (component_of array) (illegal (codes "spread")) (λ component.
    provided (ends_with target.params count (item_type component)) (illegal (codes "spread"))
    (limited (codes "spread") (1 + target_weight) (taking (spliced (length target.params - count) count (ty.Array component ∷ []) target.params) target)))

-- Gather takes items in place of the last parameter, to which their array can be passed; no more items than an array may have
abbrev pub gather_row : List Class → MethodTy → ℕ → Option Ty → ℕ → TypeOrRefusal
gather_row classes target target_weight array count =
    provided_some (component_of array) (illegal (codes "gather")) (λ component.
    provided (nat_lt 0 (length target.params) && takes_array classes component (slice_get target.params (length target.params - 1)) && nat_le count most_items)
    (illegal (codes "gather"))
    (limited (codes "gather") (1 + target_weight) (taking (spliced (length target.params - 1) 1 (replicate count (item_type component)) target.params) target)))

-- each of these types can be converted by the rules to the type at the same place of the other list
abbrev pub can_all : Rules → List Class → List Ty → List Ty → Bool
can_all by classes [] [] = true
can_all by classes (s ∷ ss) (t ∷ ts) = can by classes s t && can_all by classes ss ts
can_all by classes _ _ = false

-- a method type can be converted by the rules to another: each new parameter to the old one at its place, and the old result to the new one
abbrev pub can_be_used_as : Rules → List Class → MethodTy → MethodTy → Bool
can_be_used_as by classes own asked = can_all by classes asked.params own.params && is_some (ret_conversion_of by classes own.ret asked.ret)

-- the exception of two types that do not agree
abbrev pub mismatch : List Class → MethodTy → MethodTy → Exc
mismatch classes own asked =
    saying wrong_method_type_class (codes "have " ++ method_type_text classes own ++ codes " want " ++ method_type_text classes asked)

-- the word of a conversion by the rules
abbrev pub word_of : Rules → List ℕ
word_of rules.AsType = codes "astype"
word_of rules.Explicit = codes "explicit"

-- what is converted by the rules has the type that is asked for, if the part's type can be converted to it
abbrev pub convert_row : Rules → List Class → MethodTy → ℕ → MethodTy → TypeOrRefusal
convert_row by classes target target_weight asked =
    provided (can_be_used_as by classes target asked) (mismatch classes target asked) (limited (word_of by) (1 + target_weight) asked)

-- AsType converts by its own rules
abbrev pub astype_row : List Class → MethodTy → ℕ → MethodTy → TypeOrRefusal
astype_row classes target target_weight asked = convert_row rules.AsType classes target target_weight asked

-- Explicit converts by those of explicit conversions
abbrev pub explicit_row : List Class → MethodTy → ℕ → MethodTy → TypeOrRefusal
explicit_row classes target target_weight asked = convert_row rules.Explicit classes target target_weight asked

-- Guard has the type of both branches; the test gives a boolean, and takes the first parameters of that type
abbrev pub guard_row : MethodTy → ℕ → MethodTy → ℕ → MethodTy → ℕ → TypeOrRefusal
guard_row test test_weight target target_weight fallback fallback_weight =
    provided (is_same_method_type fallback target && is_same_return test.ret (Some boolean_type) && begins_with_types target.params test.params)
    (illegal (codes "guard"))
    (limited (codes "guard") (1 + test_weight + target_weight + fallback_weight) target)

-- the first parameter takes an exception of the class, and the others are the first types of the list
abbrev pub takes_exception : List Class → ClassId → List Ty → List Ty → Bool
takes_exception classes class [] types = false
takes_exception classes class (first ∷ others) types = is_type_below classes (ty.Class class) first && begins_with_types types others

-- a handler takes an exception of the class, then the first parameters of the target, and returns what the target returns
abbrev pub handles : List Class → ClassId → MethodTy → MethodTy → Bool
handles classes class handler target = takes_exception classes class handler.params target.params && is_same_return handler.ret target.ret

-- Catch has the type of its target; the class is at or below Throwable, and the handler takes its exceptions
abbrev pub catch_row : List Class → MethodTy → ℕ → ClassId → MethodTy → ℕ → TypeOrRefusal
catch_row classes target target_weight class handler handler_weight =
    provided (is_subclass classes class throwable_class && handles classes class handler target) (illegal (codes "catch"))
    (limited (codes "catch") (1 + target_weight + handler_weight) target)

-- what a cleanup takes first: an exception or null, and the result if there is one
abbrev pub end_types : Option Ty → List Ty
end_types ret = ty.Class throwable_class ∷ option_to_list ret

-- how many of the target's arguments a cleanup takes
abbrev pub kept_by : MethodTy → Option Ty → ℕ
kept_by cleanup ret = length cleanup.params - length (end_types ret)

-- a cleanup takes how the target ended, then the first parameters of the target, and returns what the target returns
abbrev pub cleans_up : MethodTy → MethodTy → Bool
cleans_up cleanup target =
    is_same_return cleanup.ret target.ret && begins_with_types cleanup.params (end_types target.ret)
    && begins_with_types target.params (drop (length (end_types target.ret)) cleanup.params)

-- TryFinally has the type of its target
abbrev pub tryfinally_row : MethodTy → ℕ → MethodTy → ℕ → TypeOrRefusal
tryfinally_row target target_weight cleanup cleanup_weight =
    provided (cleans_up cleanup target) (illegal (codes "tryfinally"))
    (limited (codes "tryfinally") (1 + target_weight + cleanup_weight) target)

-- the most cases of a switch
abbrev pub most_cases : ℕ
most_cases = 16

-- a switch has 1 to 16 cases, each of the fallback's type, whose first parameter is an int
abbrev pub may_switch : MethodTy → List MethodTy → Bool
may_switch fallback cases =
    nat_lt 0 (length cases) && nat_le (length cases) most_cases && list_all (λ c. is_same_method_type c fallback) cases
    && is_same_return (slice_get fallback.params 0) (Some int_type)

-- Switch has the type of its fallback
abbrev pub switch_row : MethodTy → ℕ → List MethodTy → ℕ → TypeOrRefusal
switch_row fallback fallback_weight cases cases_weight =
    provided (may_switch fallback cases) (illegal (codes "switch")) (limited (codes "switch") (1 + fallback_weight + cases_weight) fallback)

-- what the body of a loop takes first: its own result if there is one, and the number of the turn
abbrev pub turn_types : Option Ty → List Ty
turn_types ret = option_to_list ret ++ int_type ∷ []

-- the further parameters of the body of a loop
abbrev pub further : MethodTy → List Ty
further body = drop (length (turn_types body.ret)) body.params

-- the first list, or the second if the first is empty
abbrev pub unless_empty : List Ty → List Ty → List Ty
unless_empty [] others = others
unless_empty (t ∷ ts) others = t ∷ ts

-- the parameters of a loop: the further ones of its body, or those of the iterations if there are none
abbrev pub loop_params : MethodTy → MethodTy → List Ty
loop_params iterations body = unless_empty (further body) iterations.params

-- The iterations give an int. The body takes its own result and the number of the turn first. The start gives that result.
-- Iterations and start take the first parameters of the loop.
abbrev pub may_loop : MethodTy → MethodTy → MethodTy → Bool
may_loop iterations init body =
    is_same_return iterations.ret (Some int_type) && begins_with_types body.params (turn_types body.ret) && is_same_return init.ret body.ret
    && begins_with_types (loop_params iterations body) iterations.params && begins_with_types (loop_params iterations body) init.params

-- Counted takes the parameters of the loop, and returns what its body returns
abbrev pub counted_row : MethodTy → ℕ → MethodTy → ℕ → MethodTy → ℕ → TypeOrRefusal
counted_row iterations iterations_weight init init_weight body body_weight =
    provided (may_loop iterations init body) (illegal (codes "counted"))
    (limited (codes "counted") (126 + iterations_weight + init_weight + body_weight) (taking (loop_params iterations body) body))
