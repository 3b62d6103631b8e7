use Rattle.std.proofs.Common.{◌≡◌, take, map}
use Rattle.mh_form.specs.Erasure.{basic_of}
use Rattle.mh_form.proofs.erasure.shape.Given as goal

abbrev pub invariant-loop-param : goal.invariant-loop-param
invariant-loop-param l = l.params ≡ map basic_of (take l.param-index l.param-items)
