-- What the call of a site's bootstrap method is made of, whatever is known of the dynamic constants.
use Rattle.std.proofs.Common.{◌≡◌, ◌∙◌, ap, ℕ, List, Ok}
use Rattle.mh_base.proofs.Inversion.{ok_is}
use Rattle.mh_values.specs.declared.types.MethodTy.{MethodTy}
use Rattle.mh_leaf.specs.LeafTable.{LeafTable}
use Rattle.mh_classfile.specs.declared.constant.Constant.{Constant}
use Rattle.mh_classfile.specs.declared.constant.HandleRef.{HandleRef}
use Rattle.mh_classfile.specs.declared.constant.SiteView.{SiteView}
use Rattle.mh_classfile.specs.Class as class_file
use Rattle.mh_script.specs.declared.script.Script.{Script}
use Rattle.mh_jobs.specs.declared.job.Argument.{Argument}
use Rattle.mh_jobs.specs.declared.job.BootstrapCall.{BootstrapCall}
use Rattle.mh_jobs.specs.declared.job.Method.{Method}
use Rattle.mh_jobs.specs.declared.sites.Bootstrap.{Bootstrap}
use Rattle.mh_jobs.specs.Job.{bootstrap_at, bootstrap_method, site_type, text_of}
use Rattle.mh_jobs.specs.Parts.{static_arguments}
use Rattle.mh_jobs.specs.Sites.{site_bootstrap}
use Rattle.mh_jobs.specs.Thrown.{OrThrown}
use Rattle.mh_jobs.proofs.Parts.{bound-parts}
use Rattle.mh_jobs.specs.Given.{Found}
use Rattle.mh_link.specs.Resolved.{resolved, call_under}

-- the method is that of a handle, the type that of the site, and the arguments are what constants of a class give
pub record IsCall (leaves : LeafTable) (scripts : List Script) (class : class_file.Class) (first : ℕ) (site : SiteView) (known : Found)
    (call : BootstrapCall) : Type 0 where
  pub handle : HandleRef
  pub constants : List Constant
  pub method : bootstrap_method leaves.classes scripts handle ≡ Ok call.method
  pub typed : site_type leaves.classes site ≡ Ok call.ty
  pub given : resolved known (static_arguments leaves class first constants) ≡ Ok call.arguments

-- each call of a site's bootstrap method is made of these
pub call-made : (leaves : LeafTable) (scripts : List Script) (class : class_file.Class) (first : ℕ) (site : SiteView) (known : Found) (call : BootstrapCall) →
    call_under known (site_bootstrap leaves scripts class first site) ≡ Ok call → IsCall leaves scripts class first site known call
call-made leaves scripts class first site known call h =
    let made = bound-parts (site_bootstrap leaves scripts class first site) _ call h in
    let own : Bootstrap = made.0 in
    let given = bound-parts (resolved known own.arguments) _ call made.2 in
    let is = ok_is _ call given.2 in
    let bootstrap = bound-parts (bootstrap_at class site.bootstrap) _ own made.1 in
    let method = bound-parts (bootstrap_method leaves.classes scripts bootstrap.0.handle) _ own bootstrap.2 in
    let ty = bound-parts (site_type leaves.classes site) _ own method.2 in
    let name = bound-parts (text_of site.name) _ own ty.2 in
    let read = ok_is _ own name.2 in
    let of_method : Method → OrThrown Method = λ m. Ok m in
    let of_type : MethodTy → OrThrown MethodTy = λ t. Ok t in
    let of_arguments : List Argument → OrThrown (List Argument) = λ all. Ok all in
    record {
      handle = bootstrap.0.handle;
      constants = bootstrap.0.arguments;
      method = method.1 ∙ ap (λ (b : Bootstrap). of_method b.method) read ∙ ap (λ (c : BootstrapCall). of_method c.method) is;
      typed = ty.1 ∙ ap (λ (b : Bootstrap). of_type b.ty) read ∙ ap (λ (c : BootstrapCall). of_type c.ty) is;
      given = ap (λ (b : Bootstrap). resolved known b.arguments) read ∙ given.1 ∙ ap (λ (c : BootstrapCall). of_arguments c.arguments) is;
    }
