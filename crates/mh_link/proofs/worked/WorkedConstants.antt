-- Worked examples of dynamic constants: what the checker computes of the definitions.
use Rattle.std.specs.Prelude.{◌≡◌, refl, ℕ, zero, suc, pos, List, [], ◌∷◌, codes, map, fold, Option, Some, None, Ok, Err}
use Rattle.mh_values.specs.declared.types.Primitive.TheVariants as primitive
use Rattle.mh_values.specs.declared.types.Ty.{Ty}
use Rattle.mh_values.specs.declared.types.Ty.TheVariants as ty
use Rattle.mh_values.specs.declared.value.Exc.{Exc}
use Rattle.mh_values.specs.declared.value.Num.TheVariants as num
use Rattle.mh_values.specs.declared.value.Value.{Value}
use Rattle.mh_values.specs.declared.value.Value.TheVariants as value
use Rattle.mh_values.specs.Class.{class_at, class_cast_class, null_pointer_class}
use Rattle.mh_values.specs.Exception.{saying}
use Rattle.mh_script.specs.declared.operand.Register.TheVariants as register
use Rattle.mh_script.specs.declared.operand.TypeOperand.TheVariants as of_type
use Rattle.mh_script.specs.declared.operand.ValueOperand.TheVariants as of_value
use Rattle.mh_script.specs.declared.script.End.{End}
use Rattle.mh_script.specs.declared.script.End.TheVariants as end
use Rattle.mh_script.specs.declared.script.Operation.TheVariants as operation
use Rattle.mh_script.specs.declared.script.Script.{Script}
use Rattle.mh_script.specs.declared.script.Step.{Step}
use Rattle.mh_script.specs.declared.script.Step.TheVariants as step
use Rattle.mh_jobs.specs.declared.constants.ConstBootstrap.{ConstBootstrap}
use Rattle.mh_jobs.specs.declared.constants.ConstJob.{ConstJob}
use Rattle.mh_jobs.specs.declared.job.Argument.TheVariants as argument
use Rattle.mh_jobs.specs.declared.unresolved.Part.{Part}
use Rattle.mh_jobs.specs.declared.unresolved.Part.TheVariants.{Constant}
use Rattle.mh_jobs.specs.declared.unresolved.StaticArguments.{StaticArguments}
use Rattle.mh_jobs.specs.Thrown.{OrThrown, caused, unsupported}
use Rattle.mh_link.specs.Resolved.{resolved}
use Rattle.mh_link.specs.Named.{Constants}
use Rattle.mh_link.specs.Depth.{depth, depth_within, most_depth}
use Rattle.mh_link.specs.ConstScripts.{script_value}
use Rattle.mh_link.specs.Constants.{Serials, too_deep, values, values_of}
use Rattle.mh_link.specs.Asking.{asked_of_call, asked_by, asks, below, with_below}
use Rattle.mh_link.specs.Walks.{visited, walked}
use Rattle.mh_link.proofs.worked.Host.{host}

-- ---- scripts

abbrev script : List Step → End → Script
script steps e = record { method = record { owner = codes "a"; name = codes "f"; descriptor = codes "()V" }; steps = steps; end = e }

-- the last line that gives a literal
abbrev gives : Value → End
gives v = end.Value (of_value.Literal v)

-- the last line that gives the first static argument
abbrev gives_first : End
gives_first = end.Value (of_value.Register (register.Argument 0))

-- the scripts of these examples: one gives its first static argument, one its serial, and one raises an exception
abbrev scripts : List Script
scripts =
    script [] gives_first
    ∷ script (step.Serial (codes "n") ∷ []) (end.Value (of_value.Register (register.Assigned (codes "n"))))
    ∷ script [] (end.Raise (codes "java/lang/ArithmeticException") (codes "x")) ∷ []

abbrev long : Ty
long = ty.Prim primitive.J

-- the constants of some parts
abbrev constants : List ℕ → List Part
constants cs = map (λ c. Constant c) cs

-- static arguments that are constants, and what is thrown after them
abbrev arguments : List ℕ → Option Exc → StaticArguments
arguments cs thrown = record { parts = constants cs; thrown = thrown }

-- a long by the script of a number
abbrev made_by : ℕ → List ℕ → Option Exc → OrThrown ConstBootstrap
made_by n cs thrown = Ok (record { script = record { 0 = n }; name = codes "c"; ty = long; arguments = arguments cs thrown })

-- a constant of that sort
abbrev constant : ℕ → List ℕ → ConstJob
constant n cs = record { number = 0; names = cs; call = made_by n cs None }

-- a constant that is its first argument
abbrev passes : List ℕ → ConstJob
passes cs = constant 0 cs

-- a constant that is its serial
abbrev counts : List ℕ → ConstJob
counts cs = constant 1 cs

-- a constant that raises an exception
abbrev fails : List ℕ → ConstJob
fails cs = constant 2 cs

-- some exception
abbrev refused : Exc
refused = unsupported (codes "type")

-- a constant whose own call is an error
abbrev broken : List ℕ → ConstJob
broken cs = record { number = 0; names = cs; call = Err refused }

abbrev run_of : List ConstJob → Constants
run_of jobs = record { leaves = host; scripts = scripts; jobs = jobs }

-- a call that has these constants as arguments
abbrev site : List ℕ → OrThrown StaticArguments
site cs = Ok (arguments cs None)

-- a boxed long
abbrev boxed_long : ℕ → Value
boxed_long n = value.Boxed (num.J (pos n))

-- what is recorded of the exception that is raised
abbrev raised : Exc
raised = caused (saying (class_at 24) (codes "x"))

-- ---- rows

abbrev chain : Constants
chain = run_of (passes (1 ∷ []) ∷ passes (2 ∷ []) ∷ counts [] ∷ [])

abbrev three : Serials
three = Some 5 ∷ Some 6 ∷ Some 7 ∷ []

each_of_a_chain_is_what_the_last_one_is :
    map (λ c. values_of chain three c) (0 ∷ 1 ∷ 2 ∷ []) ≡ Some (Ok (boxed_long 7)) ∷ Some (Ok (boxed_long 7)) ∷ Some (Ok (boxed_long 7)) ∷ []
unfolding depth_within most_depth values
each_of_a_chain_is_what_the_last_one_is = refl

a_chain_is_asked_from_the_top : asks chain three (site (0 ∷ [])) ≡ 0 ∷ 1 ∷ 2 ∷ []
unfolding depth_within most_depth values below
a_chain_is_asked_from_the_top = refl

abbrev ladder : Constants
ladder = run_of (passes (1 ∷ 1 ∷ []) ∷ passes (2 ∷ 2 ∷ []) ∷ counts [] ∷ [])

a_ladder_stands_there_once : asks ladder three (site (0 ∷ [])) ≡ 0 ∷ 1 ∷ 2 ∷ []
unfolding depth_within most_depth values below
a_ladder_stands_there_once = refl

a_ladder_has_repeats_left_out :
    with_below (asked_by ladder (values_of ladder three)) most_depth (0 ∷ []) ≡ 0 ∷ 1 ∷ 2 ∷ 2 ∷ 1 ∷ 2 ∷ 2 ∷ []
unfolding depth_within most_depth values below
a_ladder_has_repeats_left_out = refl

abbrev ring : Constants
ring = run_of (passes (1 ∷ []) ∷ passes (0 ∷ []) ∷ [])

a_ring_has_no_depth : map (λ c. depth ring c) (0 ∷ 1 ∷ []) ≡ None ∷ None ∷ []
unfolding depth_within most_depth
a_ring_has_no_depth = refl

a_constant_that_names_itself_has_no_depth : depth (run_of (passes (0 ∷ []) ∷ [])) 0 ≡ None
unfolding depth_within most_depth
a_constant_that_names_itself_has_no_depth = refl

a_ring_asks_no_more_than_where_it_is_met : asks ring (Some 1 ∷ None ∷ []) (site (0 ∷ [])) ≡ 0 ∷ []
unfolding depth_within most_depth values below
a_ring_asks_no_more_than_where_it_is_met = refl

a_ring_is_an_error_where_it_is_met : map (λ c. values_of ring (Some 1 ∷ None ∷ []) c) (0 ∷ 1 ∷ []) ≡ Some (Err too_deep) ∷ None ∷ []
unfolding depth_within most_depth values
a_ring_is_an_error_where_it_is_met = refl

-- so many constants, each of which names the next one
abbrev tower : ℕ → ℕ → List ConstJob
tower from zero = counts [] ∷ []
tower from (suc n) = passes (suc from ∷ []) ∷ tower (suc from) n

a_tower_of_64_has_a_depth : depth (run_of (tower 0 63)) 0 ≡ Some 64
unfolding depth_within most_depth
a_tower_of_64_has_a_depth = refl

a_tower_of_65_has_none : map (λ c. depth (run_of (tower 0 64)) c) (0 ∷ 1 ∷ []) ≡ None ∷ Some 64 ∷ []
unfolding depth_within most_depth
a_tower_of_65_has_none = refl

abbrev fan : Constants
fan = run_of (passes (1 ∷ 2 ∷ 3 ∷ []) ∷ counts [] ∷ fails [] ∷ counts [] ∷ [])

abbrev three_of_four : Serials
three_of_four = Some 1 ∷ Some 2 ∷ Some 3 ∷ None ∷ []

an_error_is_the_last_that_is_asked : asks fan three_of_four (site (0 ∷ [])) ≡ 0 ∷ 1 ∷ 2 ∷ []
unfolding depth_within most_depth values below
an_error_is_the_last_that_is_asked = refl

an_error_is_recorded_and_then_as_it_is :
    map (λ c. values_of fan three_of_four c) (0 ∷ 2 ∷ 3 ∷ []) ≡ Some (Err raised) ∷ Some (Err raised) ∷ None ∷ []
unfolding depth_within most_depth values
an_error_is_recorded_and_then_as_it_is = refl

abbrev faulty : Constants
faulty = run_of (broken (1 ∷ []) ∷ counts [] ∷ broken (2 ∷ []) ∷ [])

abbrev two_of_three : Serials
two_of_three = Some 4 ∷ None ∷ Some 5 ∷ []

an_error_in_place_of_a_call_asks_none : asks faulty two_of_three (site (0 ∷ [])) ≡ 0 ∷ []
unfolding depth_within most_depth values below
an_error_in_place_of_a_call_asks_none = refl

no_depth_comes_before_an_error_in_place_of_a_call :
    map (λ c. values_of faulty two_of_three c) (0 ∷ 1 ∷ 2 ∷ []) ≡ Some (Err (caused refused)) ∷ None ∷ Some (Err too_deep) ∷ []
unfolding depth_within most_depth values
no_depth_comes_before_an_error_in_place_of_a_call = refl

a_constant_that_is_named_twice_is_asked_once : asks chain three (site (2 ∷ 2 ∷ [])) ≡ 2 ∷ []
unfolding depth_within most_depth values below
a_constant_that_is_named_twice_is_asked_once = refl

a_constant_that_is_named_twice_is_two_arguments :
    resolved (values_of chain three) (arguments (2 ∷ 2 ∷ []) None) ≡ Ok (argument.Value (boxed_long 7) ∷ argument.Value (boxed_long 7) ∷ [])
unfolding depth_within most_depth values
a_constant_that_is_named_twice_is_two_arguments = refl

-- a constant that names itself behind an argument that is refused
abbrev hidden : Constants
hidden = run_of (record { number = 0; names = 1 ∷ 0 ∷ []; call = made_by 0 (1 ∷ []) (Some refused) } ∷ counts [] ∷ [])

a_name_behind_a_refused_argument_counts_for_the_depth : depth hidden 0 ≡ None
unfolding depth_within most_depth
a_name_behind_a_refused_argument_counts_for_the_depth = refl

what_is_refused_is_thrown_after_the_constants_before_it : asks chain three (Ok (arguments (1 ∷ []) (Some refused))) ≡ 1 ∷ 2 ∷ []
unfolding depth_within most_depth values below
what_is_refused_is_thrown_after_the_constants_before_it = refl

an_error_among_the_constants_comes_before_what_is_refused :
    resolved (values_of fan (None ∷ None ∷ Some 3 ∷ None ∷ [])) (arguments (2 ∷ []) (Some refused)) ≡ Err raised
unfolding depth_within most_depth values
an_error_among_the_constants_comes_before_what_is_refused = refl

abbrev crossing : Constants
crossing = run_of (passes (2 ∷ []) ∷ passes (2 ∷ 3 ∷ []) ∷ passes (3 ∷ []) ∷ counts [] ∷ [])

abbrev four : Serials
four = Some 1 ∷ Some 4 ∷ Some 2 ∷ Some 3 ∷ []

two_calls_that_share_constants_note_each_once :
    fold (λ seen call. walked (asked_by crossing (values_of crossing four)) most_depth seen (asked_of_call (values_of crossing four) call)) []
    (site (0 ∷ []) ∷ site (3 ∷ 1 ∷ []) ∷ [])
    ≡ 0 ∷ 2 ∷ 3 ∷ 1 ∷ []
unfolding depth_within most_depth values below visited
two_calls_that_share_constants_note_each_once = refl

-- ---- the values of scripts

-- what a script of these lines gives as a constant of a type, in the attempt of the serial 4
abbrev value_of : Ty → List Step → End → OrThrown Value
value_of t steps e =
    script_value host.classes (script steps e ∷ []) (record { script = record { 0 = 0 }; name = codes "c"; ty = t; arguments = arguments [] None }) 4
    (argument.Value (value.Text (codes "x")) ∷ argument.Class long ∷ [])

an_int_is_widened_to_a_long : value_of long [] (gives (value.Boxed (num.I (pos 5)))) ≡ Ok (boxed_long 5)
an_int_is_widened_to_a_long = refl

a_text_is_no_long : value_of long [] (gives (value.Text (codes "x"))) ≡ Err (saying class_cast_class (codes "constant"))
a_text_is_no_long = refl

null_is_no_long : value_of long [] (gives value.Null) ≡ Err (saying null_pointer_class (codes "constant"))
null_is_no_long = refl

null_is_a_text : value_of (ty.Class (class_at 8)) [] (gives value.Null) ≡ Ok value.Null
null_is_a_text = refl

the_name_is_a_value : value_of (ty.Class (class_at 8)) [] (end.Value (of_value.Register register.SiteName)) ≡ Ok (value.Text (codes "c"))
the_name_is_a_value = refl

a_class_is_no_value :
    value_of long [] (end.Value (of_value.Register (register.Argument 1))) ≡ Err (saying class_cast_class (codes "arguments"))
a_class_is_no_value = refl

the_serial_is_a_long :
    value_of long (step.Serial (codes "n") ∷ []) (end.Value (of_value.Register (register.Assigned (codes "n")))) ≡ Ok (boxed_long 4)
the_serial_is_a_long = refl

an_attempt_fails_by_its_serial : value_of long (step.FailMod 3 1 ∷ []) (gives value.Null) ≡ Err (saying (class_at 11) (codes "failmod"))
an_attempt_fails_by_its_serial = refl

a_script_that_makes_a_handle_gives_no_constant :
    value_of long (step.FailMod 1 0 ∷ step.Let (codes "h") (operation.Identity of_type.Void) ∷ []) (gives value.Null) ≡ Err (unsupported (codes "handle"))
a_script_that_makes_a_handle_gives_no_constant = refl

a_script_that_returns_a_handle_gives_none : value_of long [] (end.Return (register.Argument 0)) ≡ Err (unsupported (codes "handle"))
a_script_that_returns_a_handle_gives_none = refl
