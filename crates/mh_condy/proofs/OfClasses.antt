-- The jobs that are made of class files can be resolved.
use Rattle.std.proofs.Common.{◌≡◌, refl, ◌∙◌, ap, subst, ℕ, ◌<◌, List, length, Option, None, Some, Ok}
use Rattle.std.specs.Prelude.{◌+◌, ◌==◌, IfSome, codes, ok_or, option_map, slice_get}
use Rattle.mh_values.specs.declared.class.Class.{Class}
use Rattle.mh_values.specs.declared.value.Exc.{Exc}
use Rattle.mh_leaf.specs.LeafTable.{LeafTable}
use Rattle.mh_classfile.specs.declared.constant.DynamicView.{DynamicView}
use Rattle.mh_classfile.specs.declared.constant.HandleRef.{HandleRef}
use Rattle.mh_classfile.specs.Class as class_file
use Rattle.mh_script.specs.declared.script.MethodName.{MethodName}
use Rattle.mh_script.specs.declared.script.Script.{Script}
use Rattle.mh_script.specs.declared.scripts.ScriptId.{ScriptId}
use Rattle.mh_script.specs.Find.{script_named}
use Rattle.mh_script.proofs.Places.{script_named-within}
use Rattle.mh_jobs.specs.declared.constants.ConstBootstrap.{ConstBootstrap}
use Rattle.mh_jobs.specs.declared.constants.ConstJob.{ConstJob}
use Rattle.mh_jobs.specs.Constants.{const_call, const_job, const_script, const_type}
use Rattle.mh_jobs.specs.Job.{bootstrap_at, method_of, text_of}
use Rattle.mh_jobs.specs.Names.{is_known_owner, script_of}
use Rattle.mh_jobs.specs.Thrown.{OrThrown, as_shown, no_class, no_method, unsupported}
use Rattle.mh_jobs.proofs.Parts.{bound-parts, require-parts}
use Rattle.mh_link.specs.Named.{Constants, NamesItsOwn}
use Rattle.mh_link.proofs.constants.NamedOwn.{job-names}
use Rattle.mh_condy.specs.Runs.{AreConstantJobs, AreResolvable, IsConstJob}

-- the job is made of a Dynamic entry
made-of : (o : Option DynamicView) (make : DynamicView → ConstJob) (job : ConstJob) → option_map make o ≡ Some job → (d : DynamicView) × (make d ≡ job)
made-of None make job h = absurd cc
made-of (Some d) make job h = (d, cc)

-- a script that is found by its texts is there
found : (o : Option ScriptId) (e : Exc) (id : ScriptId) → ok_or o e ≡ Ok id → o ≡ Some id
found (Some other) e id h = cc
found None e id h = absurd cc

named-within : (scripts : List Script) (m : MethodName) (classes : List Class) (id : ScriptId) → script_of as_shown classes scripts m ≡ Ok id →
    id.0 < length scripts
named-within scripts m classes id is =
    let known = require-parts (is_known_owner classes scripts m.owner) (no_class as_shown m.owner)
    (ok_or (script_named scripts m.owner m.name m.descriptor) (no_method as_shown m)) id is in
    let some = found (script_named scripts m.owner m.name m.descriptor) (no_method as_shown m) id known.1 in
    subst (λ (o : Option ScriptId). IfSome o (λ i. i.0 < length scripts)) some
    (script_named-within scripts m.owner m.name m.descriptor (script_named scripts m.owner m.name m.descriptor) refl)

handle-within : (classes : List Class) (scripts : List Script) (h : HandleRef) (id : ScriptId) → const_script classes scripts h ≡ Ok id → id.0 < length scripts
handle-within classes scripts h id is =
    let static = require-parts (h.kind == 6) (unsupported (codes "constant")) (script_of as_shown classes scripts (method_of h)) id is in
    named-within scripts (method_of h) classes id static.1

same_script : (a b : ConstBootstrap) → ◌≡◌ {A = OrThrown ConstBootstrap} (Ok a) (Ok b) → a.script ≡ b.script
same_script a b h = cc

call-within : (leaves : LeafTable) (scripts : List Script) (class : class_file.Class) (first : ℕ) (d : DynamicView) (call : ConstBootstrap) →
    const_call leaves scripts class first d ≡ Ok call → call.script.0 < length scripts
call-within leaves scripts class first d call h =
    let bootstrap = bound-parts (bootstrap_at class d.bootstrap) _ call h in
    let script = bound-parts (const_script leaves.classes scripts bootstrap.0.handle) _ call bootstrap.2 in
    let typed = bound-parts (const_type leaves.classes d.descriptor) _ call script.2 in
    let name = bound-parts (text_of d.name) _ call typed.2 in
    subst (λ (id : ScriptId). id.0 < length scripts) (same_script _ call name.2) (handle-within leaves.classes scripts bootstrap.0.handle script.0 script.1)

job-script : (leaves : LeafTable) (scripts : List Script) (job : ConstJob) → IsConstJob leaves scripts job → (call : ConstBootstrap) → job.call ≡ Ok call →
    call.script.0 < length scripts
job-script leaves scripts job is call called =
    let made = made-of (slice_get is.0.dynamics is.1) (const_job leaves scripts is.0 is.2 (is.2 + is.1)) job is.3 in
    call-within leaves scripts is.0 is.2 made.0 call (ap (λ (j : ConstJob). j.call) made.1 ∙ called)

job-own : (leaves : LeafTable) (scripts : List Script) (job : ConstJob) → IsConstJob leaves scripts job → NamesItsOwn job
job-own leaves scripts job is =
    let made = made-of (slice_get is.0.dynamics is.1) (const_job leaves scripts is.0 is.2 (is.2 + is.1)) job is.3 in
    subst NamesItsOwn made.1 (job-names leaves scripts is.0 is.2 (is.2 + is.1) made.0)

-- the constants of jobs that are made of class files can be resolved, if those that they name are among them
pub are-resolvable : (run : Constants) → AreConstantJobs run → AreResolvable run
are-resolvable run are = record {
  each = λ c job at. record {
    names = job-own run.leaves run.scripts job (are.are c job at);
    places = are.named c job at;
    script = job-script run.leaves run.scripts job (are.are c job at);
  };
  numbered = are.numbered;
}
