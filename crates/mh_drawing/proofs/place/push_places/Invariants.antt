use Rattle.std.proofs.Common.{◌≡◌, ◌++◌, take}
use Rattle.mh_drawing.specs.Places.{places_of}
use Rattle.mh_drawing.proofs.place.push_places.Given as goal

abbrev pub invariant-loop-k : goal.invariant-loop-k
invariant-loop-k l = l.places ≡ l.initial.places ++ places_of l.name (take l.k l.view.sites)
