-- The jobs of constants that are made of class files name the constants that their calls have.
use Rattle.std.proofs.Common.{◌≡◌, sym, subst, ap, inl, inr, ℕ, zero, suc, ◌+◌, List, [], ◌∷◌, ◌++◌, length, Option, None, Some, Ok, Err}
use Rattle.std.specs.Prelude.{fold, option_to_list, ok_or, slice_get, codes}
use Rattle.std.specs.Option.{option_map_or}
use Rattle.mh_base.proofs.Inversion.{ok_is}
use Rattle.mh_leaf.specs.LeafTable.{LeafTable}
use Rattle.mh_classfile.specs.declared.constant.Constant.{Constant}
use Rattle.mh_classfile.specs.declared.constant.DynamicView.{DynamicView}
use Rattle.mh_classfile.specs.Class as class_file
use Rattle.mh_script.specs.declared.script.Script.{Script}
use Rattle.mh_jobs.specs.declared.constants.ConstBootstrap.{ConstBootstrap}
use Rattle.mh_jobs.specs.declared.constants.ConstJob.{ConstJob}
use Rattle.mh_jobs.specs.declared.job.Argument.{Argument}
use Rattle.mh_jobs.specs.declared.unresolved.Part.{Part}
use Rattle.mh_jobs.specs.declared.unresolved.Part.TheVariants.{Known, Constant as OfConstant}
use Rattle.mh_jobs.specs.declared.unresolved.StaticArguments.{StaticArguments}
use Rattle.mh_jobs.specs.declared.run_jobs.RunJobs.{RunJobs}
use Rattle.mh_jobs.specs.Constants.{const_call, const_job, const_jobs_from, const_script, const_type, with_constants}
use Rattle.mh_jobs.specs.Job.{argument_of, constants_at, text_of}
use Rattle.mh_jobs.specs.RunJobs.{jobs_of, no_jobs, with_class}
use Rattle.mh_jobs.specs.Parts.{named_constant, constant_or, with_part, static_arguments, names_of}
use Rattle.mh_jobs.specs.Thrown.{OrThrown, ◌>>=◌, unsupported}
use Rattle.mh_jobs.proofs.OfClasses.{either}
use Rattle.mh_jobs.proofs.Parts.{bound-parts}
use Rattle.mh_link.specs.Named.{Name, NamesItsOwn, AreConstJobs}
use Rattle.mh_link.proofs.walking.Places.{has-here, has-right, Within}

-- more names name the same parts
name-more : (names more : List ℕ) (parts : List Part) → Within names more → Name names parts → Name more parts
name-more names more [] within named = tt
name-more names more (Known a ∷ parts) within named = name-more names more parts within named
name-more names more (OfConstant c ∷ parts) within named = (within c named.0, name-more names more parts within named.1)

-- the names of an argument and of others have what stands before the first that is refused
name-first : (o : Option ℕ) (known : OrThrown Argument) (names : List ℕ) (rest : StaticArguments) → Name names rest.parts →
    Name (option_to_list o ++ names) (with_part (constant_or o known) rest).parts
name-first (Some n) known names rest named =
    (has-here n names, name-more names (n ∷ names) rest.parts (λ k h. has-right (n ∷ []) names k h) named)
name-first None (Ok a) names rest named = named
name-first None (Err e) names rest named = tt

pub name-parts : (leaves : LeafTable) (class : class_file.Class) (first : ℕ) (constants : List Constant) →
    Name (names_of class first constants) (static_arguments leaves class first constants).parts
name-parts leaves class first [] = tt
name-parts leaves class first (c ∷ constants) =
    name-first (named_constant class first c) (argument_of leaves c) (names_of class first constants) (static_arguments leaves class first constants)
    (name-parts leaves class first constants)

-- the static arguments of a call are those of its bootstrap method
pub call-arguments : (leaves : LeafTable) (scripts : List Script) (class : class_file.Class) (first : ℕ) (d : DynamicView) (call : ConstBootstrap) →
    const_call leaves scripts class first d ≡ Ok call → call.arguments ≡ static_arguments leaves class first (constants_at class d.bootstrap)
call-arguments leaves scripts class first d call h = cases (slice_get class.bootstraps d.bootstrap) h
  where
    cases : (o : Option class_file.Bootstrap) →
        (ok_or o (unsupported (codes "constant")) >>= (λ (bootstrap : class_file.Bootstrap). const_script leaves.classes scripts bootstrap.handle >>= (λ script.
        const_type leaves.classes d.descriptor >>= (λ t. text_of d.name >>= (λ name.
        Ok (record { script = script; name = name; ty = t; arguments = static_arguments leaves class first bootstrap.arguments })))))) ≡ Ok call →
        call.arguments ≡ static_arguments leaves class first (option_map_or (λ (b : class_file.Bootstrap). b.arguments) o [])
    cases None h = absurd cc
    cases (Some bootstrap) h =
        let script = bound-parts (const_script leaves.classes scripts bootstrap.handle) _ call h in
        let typed = bound-parts (const_type leaves.classes d.descriptor) _ call script.2 in
        let name = bound-parts (text_of d.name) _ call typed.2 in
        ap (λ (c : ConstBootstrap). c.arguments) (sym (ok_is _ call name.2))

-- so a job names its own constants
pub job-names : (leaves : LeafTable) (scripts : List Script) (class : class_file.Class) (first number : ℕ) (d : DynamicView) →
    NamesItsOwn (const_job leaves scripts class first number d)
job-names leaves scripts class first number d call is =
    subst (λ (a : StaticArguments). Name (names_of class first (constants_at class d.bootstrap)) a.parts)
    (sym (call-arguments leaves scripts class first d call is))
    (name-parts leaves class first (constants_at class d.bootstrap))

-- each of these jobs names its own constants
abbrev AllName : List ConstJob → Type 0
AllName jobs = (c : ℕ) (job : ConstJob) → slice_get jobs c ≡ Some job → NamesItsOwn job

some_is : (a b : ConstJob) → ◌≡◌ {A = Option ConstJob} (Some a) (Some b) → a ≡ b
some_is a b h = cc

from-names : (leaves : LeafTable) (scripts : List Script) (class : class_file.Class) (first number : ℕ) (ds : List DynamicView) →
    AllName (const_jobs_from leaves scripts class first number ds)
from-names leaves scripts class first number [] c job h = absurd cc
from-names leaves scripts class first number (d ∷ ds) zero job h =
    subst NamesItsOwn (some_is (const_job leaves scripts class first number d) job h) (job-names leaves scripts class first number d)
from-names leaves scripts class first number (d ∷ ds) (suc c) job h = from-names leaves scripts class first (number + 1) ds c job h

with-names : (leaves : LeafTable) (scripts : List Script) (before : List ConstJob) (class : class_file.Class) → AllName before →
    AllName (with_constants leaves scripts before class)
with-names leaves scripts before class are c job h =
    elim (either before (const_jobs_from leaves scripts class (length before) (length before) class.dynamics) c job h) [
      | inl there ↦ are c job there
      | inr new ↦ from-names leaves scripts class (length before) (length before) class.dynamics new.0 job new.1
    ]

all-name : (leaves : LeafTable) (scripts : List Script) (before : RunJobs) (classes : List class_file.Class) → AllName before.constants →
    AllName (fold (with_class leaves scripts) before classes).constants
all-name leaves scripts before [] are = are
all-name leaves scripts before (class ∷ classes) are =
    all-name leaves scripts (with_class leaves scripts before class) classes (with-names leaves scripts before.constants class are)

-- the jobs of the constants of classes are jobs of constants
pub are-const-jobs : (leaves : LeafTable) (scripts : List Script) (classes : List class_file.Class) →
    AreConstJobs (record { leaves = leaves; scripts = scripts; jobs = (jobs_of leaves scripts classes).constants })
are-const-jobs leaves scripts classes = all-name leaves scripts no_jobs classes (λ c job h. absurd cc)
