-- Worked examples of edits: the bodies that keys make, one key after the other.
use Rattle.std.specs.Prelude.{◌≡◌, refl, ℕ, List, [], ◌∷◌, Option, Some, None}
use Rattle.mh_form.specs.declared.basic.Basic.{Basic}
use Rattle.mh_form.specs.declared.basic.Basic.TheVariants as basic
use Rattle.mh_form.specs.declared.basic.BasicRet.{BasicRet}
use Rattle.mh_form.specs.declared.basic.BasicRet.TheVariants as basic_ret
use Rattle.mh_form.specs.declared.basic.Shape.{Shape}
use Rattle.mh_form.specs.declared.body.FormBody.{FormBody}
use Rattle.mh_form.specs.declared.name.Name.{Name}
use Rattle.mh_form.specs.declared.name.Name.TheVariants.{Get, Call, Link, Select, Guarded, Finally, Switch, Loop, Conv, Cast, Ret, MakeArray, CheckArray, Elem, Join}
use Rattle.mh_form.specs.Body.{nothing}
use Rattle.mh_edit.specs.declared.key.Key.{Key}
use Rattle.mh_edit.specs.declared.key.Key.TheVariants as key
use Rattle.mh_edit.specs.declared.key.RetEntry.TheVariants as entry
use Rattle.mh_edit.specs.Applied.{applied, counts_of}

-- the bodies of a recipe, each key applied to what those before it made
abbrev made : List Key → FormBody → FormBody
made [] body = body
made (k ∷ keys) body = made keys (applied k body)

abbrev of : List Basic → BasicRet → Shape
of params ret = record { params = params; ret = ret }

-- takes parameters, has so many fields, runs names, and gives the slot at a place
abbrev body : List Basic → ℕ → List Name → Option ℕ → FormBody
body params fields names out = record { params = params; fields = fields; names = names; out = out }

-- the call of a leaf that takes two ints and gives an int
abbrev two : FormBody
two = body (basic.I ∷ basic.I ∷ []) 1 (Call 0 (0 ∷ 1 ∷ []) ∷ []) (Some 2)

-- the call of a leaf that takes an object and gives one
abbrev one : FormBody
one = body (basic.L ∷ []) 1 (Call 0 (0 ∷ []) ∷ []) (Some 1)

a_leaf_is_called_with_all_arguments : made (key.LeafRoot (of (basic.I ∷ basic.I ∷ []) (basic_ret.Is basic.I)) ∷ []) nothing ≡ two
a_leaf_is_called_with_all_arguments = refl

a_void_leaf_has_no_result :
    made (key.LeafRoot (of (basic.J ∷ []) basic_ret.V) ∷ []) nothing ≡ body (basic.J ∷ []) 1 (Call 0 (0 ∷ []) ∷ []) None
a_void_leaf_has_no_result = refl

pieces_are_joined_with_all_arguments :
    made (key.ConcatRoot (of (basic.I ∷ basic.L ∷ []) (basic_ret.Is basic.L)) ∷ []) nothing
    ≡ body (basic.I ∷ basic.L ∷ []) 1 (Join 0 (0 ∷ 1 ∷ []) ∷ []) (Some 2)
pieces_are_joined_with_all_arguments = refl

-- a field that comes later has a later number, and the pieces stay the first
an_argument_of_a_concatenation_is_bound :
    made (key.ConcatRoot (of (basic.I ∷ basic.L ∷ []) (basic_ret.Is basic.L)) ∷ key.Bind 0 ∷ []) nothing
    ≡ body (basic.L ∷ []) 2 (Get 1 ∷ Join 0 (1 ∷ 0 ∷ []) ∷ []) (Some 2)
an_argument_of_a_concatenation_is_bound = refl

the_first_argument_is_bound_and_the_second_comes_first :
    made (key.Bind 0 ∷ []) two ≡ body (basic.I ∷ []) 2 (Get 1 ∷ Call 0 (1 ∷ 0 ∷ []) ∷ []) (Some 2)
the_first_argument_is_bound_and_the_second_comes_first = refl

both_arguments_are_bound_and_the_last_one_bound_is_got_first :
    made (key.Bind 1 ∷ key.Bind 0 ∷ []) two ≡ body [] 3 (Get 2 ∷ Get 1 ∷ Call 0 (0 ∷ 1 ∷ []) ∷ []) (Some 2)
both_arguments_are_bound_and_the_last_one_bound_is_got_first = refl

a_parameter_between_is_passed_over :
    made (key.Add 1 (basic.J ∷ []) ∷ []) two ≡ body (basic.I ∷ basic.J ∷ basic.I ∷ []) 1 (Call 0 (0 ∷ 2 ∷ []) ∷ []) (Some 3)
a_parameter_between_is_passed_over = refl

the_order_names_the_new_places_of_the_old_arguments :
    made (key.Permute (basic.I ∷ basic.J ∷ basic.I ∷ []) (2 ∷ 0 ∷ []) ∷ []) two
    ≡ body (basic.I ∷ basic.J ∷ basic.I ∷ []) 1 (Call 0 (2 ∷ 0 ∷ []) ∷ []) (Some 3)
the_order_names_the_new_places_of_the_old_arguments = refl

a_filter_stands_for_an_argument :
    made (key.Collect 0 (basic.J ∷ basic.L ∷ []) (basic_ret.Is basic.I) ∷ []) two
    ≡ body (basic.J ∷ basic.L ∷ basic.I ∷ []) 2 (Link 1 (0 ∷ 1 ∷ []) ∷ Call 0 (3 ∷ 2 ∷ []) ∷ []) (Some 4)
a_filter_stands_for_an_argument = refl

a_void_filter_runs_before_and_stands_for_nothing :
    made (key.Collect 2 (basic.J ∷ []) basic_ret.V ∷ []) two
    ≡ body (basic.I ∷ basic.I ∷ basic.J ∷ []) 2 (Link 1 (2 ∷ []) ∷ Call 0 (0 ∷ 1 ∷ []) ∷ []) (Some 4)
a_void_filter_runs_before_and_stands_for_nothing = refl

a_combiner_takes_what_follows_and_leaves_it :
    made (key.Fold 0 1 (basic_ret.Is basic.I) ∷ []) two
    ≡ body (basic.I ∷ []) 2 (Link 1 (0 ∷ []) ∷ Call 0 (1 ∷ 0 ∷ []) ∷ []) (Some 2)
a_combiner_takes_what_follows_and_leaves_it = refl

a_void_combiner_takes_no_parameter_away :
    made (key.Fold 1 1 basic_ret.V ∷ []) two
    ≡ body (basic.I ∷ basic.I ∷ []) 2 (Link 1 (1 ∷ []) ∷ Call 0 (0 ∷ 1 ∷ []) ∷ []) (Some 3)
a_void_combiner_takes_no_parameter_away = refl

a_filter_of_the_result_runs_last :
    made (key.FilterReturn basic_ret.V ∷ []) two
    ≡ body (basic.I ∷ basic.I ∷ []) 2 (Call 0 (0 ∷ 1 ∷ []) ∷ Link 1 (2 ∷ []) ∷ []) None
a_filter_of_the_result_runs_last = refl

arguments_are_converted_first_and_the_result_last :
    made (key.Convert (Some basic.L ∷ Some basic.L ∷ []) (entry.New (basic_ret.Is basic.J)) ∷ []) two
    ≡ body (basic.L ∷ basic.L ∷ []) 4 (Conv 1 0 ∷ Conv 2 1 ∷ Call 0 (2 ∷ 3 ∷ []) ∷ Ret 3 (Some 4) ∷ []) (Some 5)
arguments_are_converted_first_and_the_result_last = refl

only_what_has_an_entry_is_converted :
    made (key.Convert (None ∷ Some basic.J ∷ []) entry.Keep ∷ []) two
    ≡ body (basic.I ∷ basic.J ∷ []) 2 (Conv 1 1 ∷ Call 0 (0 ∷ 2 ∷ []) ∷ []) (Some 3)
only_what_has_an_entry_is_converted = refl

a_reference_is_cast :
    made (key.Convert (Some basic.L ∷ []) entry.Keep ∷ []) one
    ≡ body (basic.L ∷ []) 2 (Cast 1 0 ∷ Call 0 (1 ∷ []) ∷ []) (Some 2)
a_reference_is_cast = refl

an_array_is_checked_and_its_items_are_taken_in_order :
    made (key.Spread 2 basic.I ∷ []) two
    ≡ body (basic.L ∷ []) 1 (CheckArray 0 2 ∷ Elem 0 0 ∷ Elem 0 1 ∷ Call 0 (2 ∷ 3 ∷ []) ∷ []) (Some 4)
an_array_is_checked_and_its_items_are_taken_in_order = refl

an_array_of_no_items_is_checked_too :
    made (key.Spread 0 basic.I ∷ []) two
    ≡ body (basic.I ∷ basic.I ∷ basic.L ∷ []) 1 (CheckArray 2 0 ∷ Call 0 (0 ∷ 1 ∷ []) ∷ []) (Some 4)
an_array_of_no_items_is_checked_too = refl

items_are_gathered_in_order :
    made (key.Gather 2 basic.I ∷ []) one
    ≡ body (basic.I ∷ basic.I ∷ []) 2 (MakeArray 1 (0 ∷ 1 ∷ []) ∷ Call 0 (2 ∷ []) ∷ []) (Some 3)
items_are_gathered_in_order = refl

a_test_takes_the_first_arguments_and_a_branch_all :
    made (key.GuardRoot (of (basic.I ∷ basic.J ∷ []) (basic_ret.Is basic.I)) 1 ∷ []) nothing
    ≡ body (basic.I ∷ basic.J ∷ []) 3 (Link 0 (0 ∷ []) ∷ Select 2 1 2 (0 ∷ 1 ∷ []) ∷ []) (Some 3)
a_test_takes_the_first_arguments_and_a_branch_all = refl

a_handler_keeps_the_first_arguments :
    made (key.CatchRoot (of (basic.I ∷ basic.J ∷ []) basic_ret.V) 1 ∷ []) nothing
    ≡ body (basic.I ∷ basic.J ∷ []) 3 (Guarded 0 1 2 (0 ∷ 1 ∷ []) 1 ∷ []) None
a_handler_keeps_the_first_arguments = refl

a_cleanup_keeps_the_first_arguments :
    made (key.TryRoot (of (basic.I ∷ basic.J ∷ []) (basic_ret.Is basic.J)) 1 ∷ []) nothing
    ≡ body (basic.I ∷ basic.J ∷ []) 2 (Finally 0 1 (0 ∷ 1 ∷ []) 1 (basic_ret.Is basic.J) ∷ []) (Some 2)
a_cleanup_keeps_the_first_arguments = refl

a_switch_has_a_field_for_each_case_and_one_more :
    made (key.SwitchRoot (of (basic.I ∷ basic.L ∷ []) basic_ret.V) 3 ∷ []) nothing
    ≡ body (basic.I ∷ basic.L ∷ []) 4 (Switch 0 0 3 (0 ∷ 1 ∷ []) ∷ []) None
a_switch_has_a_field_for_each_case_and_one_more = refl

each_part_of_a_loop_takes_its_own_number_of_arguments :
    made (key.LoopRoot (of (basic.I ∷ basic.J ∷ []) (basic_ret.Is basic.I)) 1 2 0 ∷ []) nothing
    ≡ body (basic.I ∷ basic.J ∷ []) 3 (Loop 0 (0 ∷ 1 ∷ []) (counts_of 1 2 0) (basic_ret.Is basic.I) ∷ []) (Some 2)
each_part_of_a_loop_takes_its_own_number_of_arguments = refl

-- FilterArg at 1, Drop at 0, Bind at 1, and then a filter of the result
edits_rename_what_those_before_them_made :
    made (key.Collect 1 (basic.J ∷ []) (basic_ret.Is basic.I) ∷ key.Add 0 (basic.L ∷ []) ∷ key.Bind 1 ∷ key.FilterReturn (basic_ret.Is basic.L) ∷ []) two
    ≡ body (basic.L ∷ basic.J ∷ []) 4 (Get 2 ∷ Link 1 (1 ∷ []) ∷ Call 0 (2 ∷ 3 ∷ []) ∷ Link 3 (4 ∷ []) ∷ []) (Some 5)
edits_rename_what_those_before_them_made = refl
