use Rattle.std.proofs.Common.{subst}
use Rattle.mh_class_bytes.specs.Format.{Checked}
use Rattle.mh_class_pool.specs.declared.fault.ClassKind.{ClassKind}
use Rattle.mh_class_pool.specs.Answers.{Yields}
use Rattle.mh_classfile.specs.Class.{Class}
use Rattle.mh_classfile.proofs.FileLaw.{file_complete, is_found, either}
use Rattle.mh_classfile.proofs.NamedBootstraps.{found-dynamics, found-few, found-have}
use Rattle.mh_classfile.proofs.reader.read.Goals as goal

pub returns-clause-found : goal.returns-clause-found
returns-clause-found c = is_found (λ v. v) c.args.room c.args.bytes.now c.read_exact.result c.read_exact.ensures

pub returns-clause-only : goal.returns-clause-only
returns-clause-only c = λ d s. subst (λ (r : Checked ClassKind Class). Yields (λ v. v) c.read_exact.result r) (file_complete c.args.room c.args.bytes.now d s)
    c.read_exact.ensures

pub returns-clause-either : goal.returns-clause-either
returns-clause-either c = either c.args.room c.args.bytes.now

pub returns-clause-bootstraps : goal.returns-clause-bootstraps
returns-clause-bootstraps c =
    let bytes = c.args.bytes.now in
    let result = c.read_exact.result in
    found-have (λ v. v) c.args.room bytes result (is_found (λ v. v) c.args.room bytes result c.read_exact.ensures)

pub returns-clause-few : goal.returns-clause-few
returns-clause-few c =
    let bytes = c.args.bytes.now in
    let result = c.read_exact.result in
    found-few (λ v. v) c.args.room bytes result (is_found (λ v. v) c.args.room bytes result c.read_exact.ensures)

pub returns-clause-dynamics : goal.returns-clause-dynamics
returns-clause-dynamics c =
    let bytes = c.args.bytes.now in
    let result = c.read_exact.result in
    found-dynamics (λ v. v) c.args.room bytes result (is_found (λ v. v) c.args.room bytes result c.read_exact.ensures)
