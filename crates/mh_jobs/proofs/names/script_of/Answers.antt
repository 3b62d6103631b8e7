use Rattle.std.proofs.Common.{◌∙◌, sym, ap}
use Rattle.mh_script.specs.Find.{script_named}
use Rattle.mh_jobs.specs.Job.{method_of}
use Rattle.mh_jobs.specs.Thrown.{as_shown}
use Rattle.mh_jobs.proofs.ScriptOwners.{found-script}
use Rattle.mh_jobs.proofs.names.script_of.Goals as goal

pub returns-in-Some : goal.returns-in-Some
returns-in-Some c =
    let scripts = c.args.scripts.now in
    let m = c.args.method.now in
    let texts =
    ap (λ o. script_named scripts o c.bytes.result.now c.bytes-2.result.now) c.bytes-owner.ensures.bytes
    ∙ (ap (λ n. script_named scripts m.owner n c.bytes-2.result.now) c.bytes.ensures.bytes
    ∙ ap (λ d. script_named scripts m.owner m.name d) c.bytes-2.ensures.bytes) in
    found-script as_shown c.args.classes.now scripts (method_of m) c.in-Some.script (sym texts ∙ (sym c.find.ensures.found ∙ c.in-Some.is))
