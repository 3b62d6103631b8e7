-- What a put of a value into a chain gives, where the walk had learnt more before it.
use Rattle.std.proofs.Common.{[], ◌∷◌, ◌++◌, ap, ◌∙◌, append_assoc, Result, Ok, Err}
use Rattle.mh_setonce.specs.declared.put.Put.{Put}
use Rattle.mh_setonce.specs.declared.put.Put.TheVariants.{Mine, Theirs}
use Rattle.mh_setonce.specs.declared.put.PutRefused.{PutRefused}
use Rattle.mh_setonce.specs.Puts.{Puts}
use Rattle.mh_setonce.specs.Views.{WalkView}
use Rattle.mh_setonce.specs.Walks.{StartsWith}

pub puts-later :
    {V K : Type 0} (key : V → K) (before mid after : WalkView V) (value : V) (r : Result (Put V) (PutRefused V)) →
    StartsWith mid.nodes before.nodes → Puts key mid after value r → Puts key before after value r
puts-later key before mid after value (Ok (Mine node)) more p =
    (p.0, (more.0 ++ p.1.0, p.1.1 ∙ ap (λ v. v ++ value ∷ []) (ap (λ v. v ++ p.1.0) more.1 ∙ append_assoc before.nodes more.0 p.1.0)))
puts-later key before mid after value (Ok (Theirs node back)) more p = p
puts-later key before mid after value (Err refused) more p = p
