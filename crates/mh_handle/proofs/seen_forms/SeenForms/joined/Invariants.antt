use Rattle.std.proofs.Common.{◌≡◌, ◌++◌, map, take}
use Rattle.mh_handle.specs.Joins.{unasked}
use Rattle.mh_handle.proofs.seen_forms.SeenForms.joined.Given as goal

abbrev pub invariant-loop-form : goal.invariant-loop-form
invariant-loop-form l = l.all ≡ l.self ++ unasked l.self (map (λ f. f.now) (take l.form-index l.form-items))
