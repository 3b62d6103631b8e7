-- A made class is a class file with the call sites that it was made for.
use Rattle.std.proofs.Common.{◌+◌, None, List, [], ◌∷◌, ◌++◌, refl, arith}
use Rattle.std.specs.List.{AllByRecursion, flat_map}
use Rattle.mh_class_pool.specs.declared.entry.Entry.{Entry}
use Rattle.mh_class_pool.specs.Entries.{Slot}
use Rattle.mh_made_class.specs.declared.site.MadeSite.{MadeSite}
use Rattle.mh_made_class.specs.Sites.{AreMakeable}
use Rattle.mh_made_class.specs.Layout.{PlacedArgument, PlacedSite, IsPlaced, IsPlacedArgument, placed, placed_arguments}
use Rattle.mh_made_class.specs.Constants.{common_entries, argument_entries, site_entries}
use Rattle.mh_made_class.proofs.PoolSpelling.{slots_from}
use Rattle.mh_made_class.proofs.Lookups.{Holds, holds, holds_split}
use Rattle.mh_made_class.proofs.Standing.{HasCommon, HasSite, has_common, sites_stand, arguments_stand}
use Rattle.mh_made_class.proofs.InstructionSpelling.{HasCall}
use Rattle.mh_made_class.proofs.BootstrapMethod.{IsNamed, HasBootstrap}
use Rattle.mh_made_class.proofs.Reading.{named_argument}
use Rattle.mh_made_class.proofs.Fitting.{all_from, arguments_placed, sites_placed}
use Rattle.mh_made_class.proofs.Placing.{arguments_few}
use Rattle.mh_made_class.proofs.Counting.{index_fits}

-- two facts of each
pub both_all : {X : Type 0} (P Q : X → Type 0) (xs : List X) → AllByRecursion P xs → AllByRecursion Q xs → AllByRecursion (λ x. P x × Q x) xs
both_all P Q [] h k = tt
both_all P Q (x ∷ xs) h k = ((h.0, k.0), both_all P Q xs h.1 k.1)

-- the entries of a made class
abbrev pub all_entries : List PlacedSite → List Entry
all_entries ps = common_entries ++ flat_map site_entries ps

-- the pool of a made class, by index
abbrev pub slots_of : List PlacedSite → List Slot
slots_of ps = None ∷ slots_from 10 (all_entries ps)

-- the arguments of a call site stand in the pool
abbrev pub HasArguments : List Slot → PlacedSite → Type 0
HasArguments pool p = AllByRecursion (λ a. Holds pool a.first (argument_entries a)) (placed_arguments p)

-- what is known of a made class with its pool
pub record IsStanding (made : List MadeSite) (ps : List PlacedSite) (pool : List Slot) : Type 0 where
  pub common : HasCommon pool
  pub stand : AllByRecursion (HasSite pool) ps
  pub given : AllByRecursion (HasArguments pool) ps
  pub fit : AllByRecursion IsPlaced ps

pub standing : (made : List MadeSite) → AreMakeable made → IsStanding made (placed made) (slots_of (placed made))
standing made h =
    let ps = placed made in
    let pool = slots_of ps in
    let held : Holds pool 1 (all_entries ps) = holds (all_entries ps) (None ∷ []) pool 1 10 refl refl in
    let two = holds_split pool 1 common_entries (flat_map site_entries ps) held in
    let stand = sites_stand pool 0 13 made two.1 in
    record {
      common = has_common pool two.0;
      stand = stand;
      given = all_from (HasSite pool) (HasArguments pool) ps (λ p s. arguments_stand pool (p.first + 7) p.site.args s.args) stand;
      fit = sites_placed 0 13 made h.each (omega arith) h.few;
    }

pub calls_stand : (pool : List Slot) (ps : List PlacedSite) → AllByRecursion (HasSite pool) ps → AllByRecursion IsPlaced ps → AllByRecursion (HasCall pool) ps
calls_stand pool ps stand fit =
    all_from (λ p. HasSite pool p × IsPlaced p) (HasCall pool) ps (λ p h. record { call = h.0.call; fits = omega (arith, h.1.fits) })
    (both_all (HasSite pool) IsPlaced ps stand fit)

argument_named : (pool : List Slot) (a : PlacedArgument) → Holds pool a.first (argument_entries a) → IsPlacedArgument a → IsNamed pool a
argument_named pool a h k = record { named = λ at. named_argument pool a.first at a.arg h; fits = index_fits a.first a.arg k.fits }

bootstrap_stands : (pool : List Slot) (p : PlacedSite) → HasSite pool p → HasArguments pool p → IsPlaced p → HasBootstrap pool p
bootstrap_stands pool p s given h =
    let as_given = placed_arguments p in
    let fits = arguments_placed (p.first + 7) p.site.args h.makeable.args (omega (arith, h.fits)) in
    record {
      handle = s.handle;
      fits = omega (arith, h.fits);
      few = omega (arith, h.fits, arguments_few p.site.args);
      args = all_from (λ a. Holds pool a.first (argument_entries a) × IsPlacedArgument a) (IsNamed pool) as_given (λ a k. argument_named pool a k.0 k.1)
          (both_all (λ a. Holds pool a.first (argument_entries a)) IsPlacedArgument as_given given fits);
    }

pub bootstraps_stand : (pool : List Slot) (ps : List PlacedSite) → AllByRecursion (HasSite pool) ps → AllByRecursion (HasArguments pool) ps →
    AllByRecursion IsPlaced ps → AllByRecursion (HasBootstrap pool) ps
bootstraps_stand pool [] s given fit = tt
bootstraps_stand pool (p ∷ ps) s given fit = (bootstrap_stands pool p s.0 given.0 fit.0, bootstraps_stand pool ps s.1 given.1 fit.1)
