use Rattle.std.proofs.Common.{◌≡◌, ◌≤◌, ℕ, List, length, sym, ap, subst, ◌∙◌, arith}
use Rattle.mh_base.proofs.Inversion.{ok_is}
use Rattle.mh_classfile.specs.Class.{Class}
use Rattle.mh_classfile.specs.File.{IsClassFile}
use Rattle.mh_made_class.proofs.Counting.{counted}
use Rattle.mh_class_tests.proofs.made.count_read.Goals as goal

pub returns-clause-same : goal.returns-clause-same
returns-clause-same c =
    let made = c.args.sites.now in
    let room : length made ≤ c.len.result = omega (arith, c.len.ensures) in
    let back = c.in_ok-file.ensures.class c.requires.readable c.len.result room in
    let there : IsClassFile c.len.result c.deref.result.now back.0 = subst (λ (bytes : List ℕ). IsClassFile c.len.result bytes back.0)
    (sym c.deref.ensures.value) back.1 in
    let same : back.0 ≡ c.in_ok-view.view = ok_is back.0 c.in_ok-view.view (c.in_ok-view.ensures.only back.0 there) in
    c.sites.ensures ∙ ap (λ (k : Class). length k.sites) (sym same) ∙ ap length back.2.sites ∙ counted 0 made
