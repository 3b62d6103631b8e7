use Rattle.std.proofs.Common.{map}
use Rattle.mh_handle.proofs.passes.Asked.{Searched, turns}
use Rattle.mh_handle.proofs.seen_forms.SeenForms.find.Given as goal

abbrev pub invariant-loop-next : goal.invariant-loop-next
invariant-loop-next g l = Searched (map (λ f. f.now) l.self-inside.forms.items) l.self-inside.places.hashes (g.S.Sought.recipe l.sought) l.next

abbrev pub decreases-loop-next : goal.decreases-loop-next
decreases-loop-next g l = turns l.next
