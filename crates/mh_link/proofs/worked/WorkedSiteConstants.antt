-- Worked examples of call sites that are linked with dynamic constants: what the checker computes of the definitions.
use Rattle.std.specs.Prelude.{◌≡◌, refl, ℕ, pos, List, [], ◌∷◌, codes, length, map, Some, None, Ok}
use Rattle.std.specs.List.{range_with_len}
use Rattle.mh_values.specs.declared.types.MethodTy.{MethodTy}
use Rattle.mh_values.specs.declared.types.Primitive.TheVariants as primitive
use Rattle.mh_values.specs.declared.types.Ty.{Ty}
use Rattle.mh_values.specs.declared.types.Ty.TheVariants as ty
use Rattle.mh_values.specs.declared.value.Num.TheVariants as num
use Rattle.mh_values.specs.declared.value.Value.TheVariants as value
use Rattle.mh_values.specs.Class.{class_cast_class}
use Rattle.mh_values.specs.Exception.{saying}
use Rattle.mh_script.specs.declared.operand.Register.TheVariants as register
use Rattle.mh_script.specs.declared.operand.TypeOperand.TheVariants as of_type
use Rattle.mh_script.specs.declared.operand.ValueOperand.TheVariants as of_value
use Rattle.mh_script.specs.declared.script.End.TheVariants as end
use Rattle.mh_script.specs.declared.script.Operation.TheVariants as operation
use Rattle.mh_script.specs.declared.script.Script.{Script}
use Rattle.mh_script.specs.declared.script.Step.TheVariants as step
use Rattle.mh_jobs.specs.declared.constants.ConstJob.{ConstJob}
use Rattle.mh_jobs.specs.declared.job.Job.{Job}
use Rattle.mh_jobs.specs.declared.job.Method.TheVariants as method
use Rattle.mh_jobs.specs.declared.unresolved.Part.TheVariants.{Constant}
use Rattle.mh_jobs.specs.declared.unresolved.StaticArguments.{StaticArguments}
use Rattle.mh_jobs.specs.Given.{Given, nothing_known}
use Rattle.mh_jobs.specs.Thrown.{caused, unsupported}
use Rattle.mh_link.specs.Asking.{asked_at, below}
use Rattle.mh_link.specs.Constants.{Serials, too_deep, values, values_of}
use Rattle.mh_link.specs.Depth.{depth_within, most_depth}
use Rattle.mh_link.specs.Linked.{Error, Linked}
use Rattle.mh_link.specs.Named.{run_of}
use Rattle.mh_link.specs.Sites.{asks_at, linked_at, with_serials}
use Rattle.mh_link.proofs.worked.CallsOfSites.{calling}
use Rattle.mh_link.proofs.worked.HostLeaves.{host}
use Rattle.mh_link.proofs.worked.Host.{reg, returns, script}

-- ---- what the runs of these examples are given

abbrev long : Ty
long = ty.Prim primitive.J

-- `let n serial`, `value n`
abbrev counting : Script
counting = script (step.Serial (codes "n") ∷ []) (end.Value (of_value.Register (reg (codes "n"))))

-- `let c constant J a0`, `return c`
abbrev constant : Script
constant =
    script (step.Let (codes "c") (operation.Constant (of_type.Descriptor (codes "J")) (of_value.Register (register.Argument 0))) ∷ []) (returns (codes "c"))

-- `value s:x`
abbrev text : Script
text = script [] (end.Value (of_value.Literal (value.Text (codes "x"))))

-- static arguments that are constants
abbrev arguments : List ℕ → StaticArguments
arguments cs = record { parts = map (λ c. Constant c) cs; thrown = None }

-- a long by the script of a number
abbrev made_by : ℕ → ℕ → List ℕ → ConstJob
made_by number n cs =
    record { number = number; names = cs; call = Ok (record { script = record { 0 = n }; name = codes "c"; ty = long; arguments = arguments cs }) }

-- a site that is linked to a constant
abbrev site : ℕ → List ℕ → Job
site number cs =
    let t : MethodTy = record { params = []; ret = Some long } in
    record {
      site = number;
      ty = Some t;
      call = Ok (record { method = method.Script (record { 0 = 1 }); name = codes "f"; ty = t; arguments = arguments cs });
    }

-- a run of these sites and constants
abbrev given : List Job → List ConstJob → Given
given jobs constants =
    record { leaves = host; scripts = counting ∷ constant ∷ text ∷ []; jobs = jobs; constants = constants; values = nothing_known }

-- the constants that each site asks
abbrev asked : Serials → Given → List (List ℕ)
asked table g = map (λ k. asks_at g table k) (range_with_len 0 (length g.jobs))

-- ---- rows

-- two sites have one constant
abbrev shared : Given
shared = given (site 0 (0 ∷ []) ∷ site 1 (0 ∷ []) ∷ []) (made_by 0 0 [] ∷ [])

a_call_of_each_site_gives_the_constant :
    map (λ k. calling (linked_at (with_serials (Some 1 ∷ []) shared) k 1) []) (0 ∷ 1 ∷ [])
    ≡ Some (Ok (Some (value.Prim (num.J (pos 1)))), []) ∷ Some (Ok (Some (value.Prim (num.J (pos 1)))), []) ∷ []
unfolding depth_within most_depth values
a_call_of_each_site_gives_the_constant = refl

each_site_asks_it : asked (Some 1 ∷ []) shared ≡ (0 ∷ []) ∷ (0 ∷ []) ∷ []
unfolding depth_within most_depth values below
each_site_asks_it = refl

-- the constant has another one as argument
abbrev over_another : Given
over_another = given (site 0 (0 ∷ []) ∷ []) (made_by 0 0 (1 ∷ []) ∷ made_by 1 0 [] ∷ [])

a_site_asks_what_its_constant_asks : asked (Some 1 ∷ Some 2 ∷ []) over_another ≡ (0 ∷ 1 ∷ []) ∷ []
unfolding depth_within most_depth values below
a_site_asks_what_its_constant_asks = refl

a_site_looks_at_its_own_arguments_itself : asked_at (values_of (run_of over_another) (Some 1 ∷ Some 2 ∷ [])) (site 0 (0 ∷ [])) ≡ 0 ∷ []
unfolding depth_within most_depth values
a_site_looks_at_its_own_arguments_itself = refl

-- constants that name each other
abbrev ring : Given
ring = given (site 0 (0 ∷ []) ∷ []) (made_by 0 0 (1 ∷ []) ∷ made_by 1 0 (0 ∷ []) ∷ [])

a_ring_is_an_error_of_the_site : linked_at (with_serials (Some 1 ∷ None ∷ []) ring) 0 1 ≡ Error too_deep
unfolding depth_within most_depth values
a_ring_is_an_error_of_the_site = refl

-- a constant whose value does not fit
abbrev ill_fitting : Given
ill_fitting = given (site 0 (0 ∷ []) ∷ []) (made_by 0 2 [] ∷ [])

an_error_of_a_constant_is_recorded_as_it_is :
    linked_at (with_serials (Some 1 ∷ []) ill_fitting) 0 1 ≡ Error (caused (saying class_cast_class (codes "constant")))
unfolding depth_within most_depth values
an_error_of_a_constant_is_recorded_as_it_is = refl

-- where nothing is known of a constant, it is as one that is unsupported
a_constant_that_is_not_known_is_unsupported : linked_at shared 0 1 ≡ Error (caused (unsupported (codes "constant")))
a_constant_that_is_not_known_is_unsupported = refl
