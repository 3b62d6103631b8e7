-- The attempts for the jobs of a class: the scripts that they run are there, and every node that they make has a type.
use Rattle.std.proofs.Common.{◌≡◌, refl, subst, Bool, true, false, ℕ, ◌<◌, List, [], ◌∷◌, length, Option, Some, None, Ok, codes}
use Rattle.std.specs.Prelude.{All, IfSome, ok_or, ◌==◌, if◌then◌else◌}
use Rattle.std.proofs.lemmas.List.Elements.{All-cons, All-nil}
use Rattle.mh_base.proofs.Inversion.{ok_is}
use Rattle.mh_values.specs.declared.value.Exc.{Exc}
use Rattle.mh_leaf.specs.LeafTable.{LeafTable}
use Rattle.mh_classfile.specs.declared.constant.HandleRef.{HandleRef}
use Rattle.mh_classfile.specs.declared.constant.SiteView.{SiteView}
use Rattle.mh_classfile.specs.Class as class_file
use Rattle.mh_script.specs.declared.script.MethodName.{MethodName}
use Rattle.mh_script.specs.declared.script.Script.{Script}
use Rattle.mh_script.specs.declared.scripts.ScriptId.{ScriptId}
use Rattle.mh_script.specs.Find.{script_named}
use Rattle.mh_script.proofs.Places.{script_named-within}
use Rattle.mh_jobs.specs.declared.job.BootstrapCall.{BootstrapCall}
use Rattle.mh_jobs.specs.declared.job.Method.{Method}
use Rattle.mh_jobs.specs.declared.job.Method.TheVariants as method
use Rattle.mh_jobs.specs.Job.{method_of, method_named, bootstrap_method}
use Rattle.mh_jobs.specs.Names.{is_built_in, is_known_owner, script_of}
use Rattle.mh_jobs.specs.Sites.{site_bootstrap}
use Rattle.mh_jobs.specs.Thrown.{◌>>=◌, as_shown, no_class, no_method, unsupported}
use Rattle.mh_jobs.proofs.Parts.{bound-parts, require-parts}
use Rattle.mh_link.specs.Concatenation.{concat_of}
use Rattle.mh_link.specs.Linked.{IsThere, called_script, at_start}
use Rattle.mh_link.specs.Made.{nodes, nodes_from, nodes_of_call, nodes_of_method}
use Rattle.mh_jobs.specs.Given.{Found}
use Rattle.mh_link.specs.Resolved.{call_under}
use Rattle.mh_link.proofs.typing.Concatenations.{concat-typed}
use Rattle.mh_link.proofs.typing.Leaves.{call-typed}
use Rattle.mh_link.proofs.typing.Nodes.{AreTyped, IsTyped, thrown-typed, from-typed}
use Rattle.mh_link.proofs.constants.SiteCalls.{call-made}

method-typed : (leaves : LeafTable) (scripts : List Script) (serial : ℕ) (call : BootstrapCall) (m : Method) → AreTyped leaves call →
    All (IsTyped leaves) (nodes_of_method leaves scripts serial call m)
method-typed leaves scripts serial call (method.Script id) are =
    thrown-typed leaves (called_script scripts id) (λ script. nodes_from leaves script.steps script.end (at_start call serial))
    (λ script h. from-typed leaves script.steps script.end (at_start call serial) are)
method-typed leaves scripts serial call method.Concat are =
    thrown-typed leaves (concat_of leaves.classes call) (λ t. t ∷ [])
    (λ t h. All-cons (IsTyped leaves) t [] (call.ty, concat-typed leaves call t h) (All-nil (IsTyped leaves)))

-- every node that the attempt for a call site makes has a type
pub made-typed : (leaves : LeafTable) (scripts : List Script) (class : class_file.Class) (first : ℕ) (site : SiteView) (known : Found) (serial : ℕ) →
    All (IsTyped leaves) (nodes leaves scripts (call_under known (site_bootstrap leaves scripts class first site)) serial)
made-typed leaves scripts class first site known serial =
    thrown-typed leaves (call_under known (site_bootstrap leaves scripts class first site)) (nodes_of_call leaves scripts serial)
    (λ call h. method-typed leaves scripts serial call call.method (call-typed leaves scripts class first site known call h))

found : (o : Option ScriptId) (e : Exc) (id : ScriptId) → ok_or o e ≡ Ok id → o ≡ Some id
found (Some other) e id h = cc
found None e id h = absurd cc

named-within : (scripts : List Script) (m : MethodName) (classes : _) (id : ScriptId) → script_of as_shown classes scripts m ≡ Ok id → id.0 < length scripts
named-within scripts m classes id is =
    let known = require-parts (is_known_owner classes scripts m.owner) (no_class as_shown m.owner)
    (ok_or (script_named scripts m.owner m.name m.descriptor) (no_method as_shown m)) id is in
    let some = found (script_named scripts m.owner m.name m.descriptor) (no_method as_shown m) id known.1 in
    subst (λ (o : Option ScriptId). IfSome o (λ i. i.0 < length scripts)) some
    (script_named-within scripts m.owner m.name m.descriptor (script_named scripts m.owner m.name m.descriptor) refl)

named-there : (classes : _) (scripts : List Script) (m : MethodName) (is_own : Bool) (named : Method) →
    (if is_own then Ok method.Concat else (script_of as_shown classes scripts m >>= (λ id. Ok (method.Script id)))) ≡ Ok named → IsThere scripts named
named-there classes scripts m true named h = subst (IsThere scripts) (ok_is method.Concat named h) tt
named-there classes scripts m false named h =
    let script = bound-parts (script_of as_shown classes scripts m) (λ id. Ok (method.Script id)) named h in
    subst (IsThere scripts) (ok_is (method.Script script.0) named script.2) (named-within scripts m classes script.0 script.1)

handle-there : (classes : _) (scripts : List Script) (h : HandleRef) (named : Method) → bootstrap_method classes scripts h ≡ Ok named → IsThere scripts named
handle-there classes scripts h named is =
    let m = method_of h in
    let static = require-parts (h.kind == 6) (unsupported (codes "constant")) (method_named classes scripts m) named is in
    named-there classes scripts m (is_built_in m) named static.1

-- the script that the call of a site names, if it names one, is there
pub method-there : (leaves : LeafTable) (scripts : List Script) (class : class_file.Class) (first : ℕ) (site : SiteView) (known : Found)
    (call : BootstrapCall) →
    call_under known (site_bootstrap leaves scripts class first site) ≡ Ok call → IsThere scripts call.method
method-there leaves scripts class first site known call h =
    let made = call-made leaves scripts class first site known call h in handle-there leaves.classes scripts made.handle call.method made.method
