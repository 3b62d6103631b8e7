-- The call sites that the calls of a plan name.
use Rattle.std.specs.Prelude.{ℕ, ◌==◌, List, [], ◌∷◌, if◌then◌else◌, length, map, sum}
use Rattle.std.specs.List.{flat_map, list_any}
use Rattle.mh_plan.specs.declared.call.Call.{Call}
use Rattle.mh_plan.specs.declared.call.Call.TheVariants.{Exact, Generic, Indy}

-- for each thread the sites that its calls name, in the order of the calls
abbrev pub Naming : Type 0
Naming = List (List ℕ)

-- the sites that a call names: a call of a leaf names none
abbrev pub sites_named : Call → List ℕ
sites_named (Exact leaf ty args) = []
sites_named (Generic leaf ty args) = []
sites_named (Indy site args) = site ∷ []

-- the sites that the calls of each thread name
abbrev pub naming_of : List (List Call) → Naming
naming_of threads = map (λ calls. flat_map sites_named calls) threads

-- the different numbers of a list, in the order in which they first occur, without those seen before
abbrev pub first_places : List ℕ → List ℕ → List ℕ
first_places seen [] = []
first_places seen (k ∷ ks) = if list_any (λ s. s == k) seen then first_places seen ks else k ∷ first_places (k ∷ seen) ks

-- the number of pairs of a thread and a site that this thread's calls name
abbrev pub pairs_named : List (List Call) → ℕ
pairs_named threads = sum (map (λ sites. length (first_places [] sites)) (naming_of threads))
