-- Where the constants of each call site stand in the pool.
use Rattle.std.specs.Prelude.{ℕ, ◌+◌, ◌<◌, ◌≤◌, ◌^◌, List, [], ◌∷◌}
use Rattle.mh_made_class.specs.declared.site.MadeArg.{MadeArg}
use Rattle.mh_made_class.specs.declared.site.MadeSite.{MadeSite}
use Rattle.mh_made_class.specs.Sites.{IsMakeableArgument, IsMakeableSite, argument_width, site_width, first_of_sites}

-- a static argument with its first index
pub record PlacedArgument : Type 0 where
  pub first : ℕ
  pub arg : MadeArg

-- static arguments, one after the other from an index on
unfoldable pub arguments_from : ℕ → List MadeArg → List PlacedArgument
arguments_from first [] = []
arguments_from first (arg ∷ args) = record { first = first; arg = arg } ∷ arguments_from (first + argument_width arg) args

-- a call site with its number and its first index
pub record PlacedSite : Type 0 where
  pub number : ℕ
  pub first : ℕ
  pub site : MadeSite

-- the static arguments of a call site stand after seven entries of its own
abbrev pub placed_arguments : PlacedSite → List PlacedArgument
placed_arguments p = arguments_from (p.first + 7) p.site.args

-- call sites, one after the other from a number and an index on
unfoldable pub sites_from : ℕ → ℕ → List MadeSite → List PlacedSite
sites_from number first [] = []
sites_from number first (site ∷ sites) =
    record { number = number; first = first; site = site } ∷ sites_from (number + 1) (first + site_width site) sites

-- the call sites of a made class
abbrev pub placed : List MadeSite → List PlacedSite
placed sites = sites_from 0 first_of_sites sites

-- an argument that can be written, whose indexes fit into 16 bits
pub record IsPlacedArgument (p : PlacedArgument) : Type 0 where
  pub makeable : IsMakeableArgument p.arg
  pub fits : p.first + argument_width p.arg < 2 ^ 16

-- a call site that can be written, whose number and indexes fit into 16 bits
pub record IsPlaced (p : PlacedSite) : Type 0 where
  pub makeable : IsMakeableSite p.site
  pub number : p.number ≤ p.first
  pub fits : p.first + site_width p.site < 2 ^ 16
