-- One bootstrap method of a made class is spelled.
use Rattle.std.proofs.Common.{◌≡◌, ℕ, ◌+◌, ◌<◌, ◌^◌, List, [], ◌∷◌, ◌++◌, length, map, Ok, refl, sym, subst}
use Rattle.std.proofs.lemmas.List.{append-nil}
use Rattle.std.specs.List.{AllByRecursion, flat_map}
use Rattle.mh_class_bytes.specs.Format.{Spells, repeated, listed}
use Rattle.mh_class_pool.specs.declared.entry.Entry.TheVariants as entries
use Rattle.mh_class_pool.specs.declared.entry.Kind.TheVariants as kinds
use Rattle.mh_class_pool.specs.declared.fault.ClassKind.TheVariants.{BadBootstraps}
use Rattle.mh_class_pool.specs.Entries.{Slot}
use Rattle.mh_class_pool.specs.References.{names}
use Rattle.mh_classfile.specs.Rows.{Row}
use Rattle.mh_classfile.specs.Members.{named_index}
use Rattle.mh_classfile.specs.Bootstraps.{bootstrap as read_bootstrap}
use Rattle.mh_made_class.specs.Layout.{PlacedArgument, PlacedSite, placed_arguments}
use Rattle.mh_made_class.specs.Constants.{u2}
use Rattle.mh_made_class.specs.Parts.{argument_index, bootstrap}
use Rattle.mh_made_class.proofs.Spelling.{u2_is}
use Rattle.mh_made_class.proofs.Lookups.{At}
use Rattle.mh_made_class.proofs.Placing.{arguments-length}
use Rattle.mh_made_class.proofs.Names.{index_spelled}
use Rattle.mh_made_class.proofs.Times.{times_spelled}

-- an argument's index names one
pub record IsNamed (pool : List Slot) (a : PlacedArgument) : Type 0 where
  pub named : (at : ℕ) → names pool kinds.Argument (argument_index a) at ≡ Ok tt
  pub fits : argument_index a < 2 ^ 16

-- a bootstrap method that can be written: its handle stands in the pool, and so do its arguments
pub record HasBootstrap (pool : List Slot) (p : PlacedSite) : Type 0 where
  pub handle : At pool (p.first + 3) (entries.MethodHandle 6 (p.first + 2))
  pub fits : p.first + 3 < 2 ^ 16
  pub few : length p.site.args < 2 ^ 16
  pub args : AllByRecursion (IsNamed pool) (placed_arguments p)

-- the indexes of a bootstrap method
abbrev pub row_of : PlacedSite → Row
row_of p = record { handle = p.first + 3; arguments = map argument_index (placed_arguments p) }

argument_spelled : (pool : List Slot) (a : PlacedArgument) (at : ℕ) → IsNamed pool a →
    Spells (named_index BadBootstraps pool kinds.Argument) at (u2 (argument_index a)) (argument_index a)
unfolding named_index
argument_spelled pool a at n =
    let i = argument_index a in
    (at, [], u2 i, refl, (refl, refl), (i, u2 i, [], refl, (refl, u2_is i n.fits), (tt, [], [], refl, (refl, n.named at), (refl, refl))))

arguments_all : (pool : List Slot) (given : List PlacedArgument) → AllByRecursion (IsNamed pool) given →
    AllByRecursion (λ a. (place : ℕ) → Spells (named_index BadBootstraps pool kinds.Argument) place (u2 (argument_index a)) (argument_index a)) given
arguments_all pool [] all = tt
arguments_all pool (a ∷ given) all = (λ place. argument_spelled pool a place all.0, arguments_all pool given all.1)

bootstrap_spelled : (pool : List Slot) (p : PlacedSite) (at : ℕ) → HasBootstrap pool p → Spells (read_bootstrap pool) at (bootstrap p) (row_of p)
unfolding read_bootstrap
bootstrap_spelled pool p at h =
    let i = p.first + 3 in
    let count = length p.site.args in
    let placed = placed_arguments p in
    let last = flat_map (λ a. u2 (argument_index a)) placed in
    let one = named_index BadBootstraps pool kinds.Argument in
    let all = times_spelled one (λ a. u2 (argument_index a)) argument_index placed [] (at + 2 + 2) (arguments_all pool placed h.args) in (
      i,
      u2 i,
      u2 count ++ last,
      refl,
      index_spelled BadBootstraps pool kinds.MethodHandle i at (entries.MethodHandle 6 (p.first + 2)) h.handle refl h.fits,
      (
        count,
        u2 count,
        last,
        refl,
        (refl, u2_is count h.few),
        (
          map argument_index placed,
          last,
          [],
          sym (append-nil last),
          subst (λ n. Spells (repeated (listed one) n []) (at + 2 + 2) last (map argument_index placed)) (arguments-length (p.first + 7) p.site.args) all,
          (refl, refl),
        ),
      ),
    )

pub bootstraps_all : (pool : List Slot) (ps : List PlacedSite) → AllByRecursion (HasBootstrap pool) ps →
    AllByRecursion (λ p. (place : ℕ) → Spells (read_bootstrap pool) place (bootstrap p) (row_of p)) ps
bootstraps_all pool [] all = tt
bootstraps_all pool (p ∷ ps) all = (λ place. bootstrap_spelled pool p place all.0, bootstraps_all pool ps all.1)
