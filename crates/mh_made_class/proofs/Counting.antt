-- How many parts a made class has, and how long they are.
use Rattle.std.proofs.Common.{◌≡◌, ℕ, suc, ◌+◌, ◌*◌, ◌≤◌, ◌<◌, ◌^◌, List, [], ◌∷◌, ◌++◌, length, sum_by, refl, ap, length-append, append_assoc, arith}
use Rattle.std.proofs.lemmas.List.Sums.{sum_by-cons}
use Rattle.std.specs.List.{AllByRecursion, flat_map}
use Rattle.mh_made_class.specs.declared.site.MadeArg.{MadeArg}
use Rattle.mh_made_class.specs.declared.site.MadeArg.TheVariants as args
use Rattle.mh_made_class.specs.declared.site.MadeSite.{MadeSite}
use Rattle.mh_made_class.specs.Sites.{argument_width, site_width}
use Rattle.mh_made_class.specs.Layout.{PlacedArgument, PlacedSite, placed_arguments, sites_from}
use Rattle.mh_made_class.specs.Constants.{u2, site_entries}
use Rattle.mh_made_class.specs.Parts.{argument_index, index_at, bootstrap, bootstraps}
use Rattle.mh_made_class.specs.ReadBack.{IsReadable, sites_of}
use Rattle.mh_made_class.proofs.PoolSpelling.{entries_width, width-append}
use Rattle.mh_made_class.proofs.Placing.{arguments-length, arguments_few}
use Rattle.mh_made_class.proofs.Standing.{entries_of_site}

pub sites_width : (k b : ℕ) (sites : List MadeSite) → entries_width (flat_map site_entries (sites_from k b sites)) ≡ sum_by site_width sites
unfolding sites_from
sites_width k b [] = refl
sites_width k b (site ∷ sites) =
    let p : PlacedSite = record { number = k; first = b; site = site } in
    let rest = flat_map site_entries (sites_from (k + 1) (b + site_width site) sites) in
    omega (arith, width-append (site_entries p) rest, entries_of_site p, sites_width (k + 1) (b + site_width site) sites, sum_by-cons site_width site sites)

pub sites-length : (k b : ℕ) (sites : List MadeSite) → length (sites_from k b sites) ≡ length sites
unfolding sites_from
sites-length k b [] = refl
sites-length k b (site ∷ sites) = ap suc (sites-length (k + 1) (b + site_width site) sites)

pub few_sites : (sites : List MadeSite) → 7 * length sites ≤ sum_by site_width sites
few_sites [] = omega arith
few_sites (site ∷ sites) = omega (arith, few_sites sites, sum_by-cons site_width site sites)

-- each number is that of a call site
pub numbers_below : (k b count : ℕ) (sites : List MadeSite) → k + length sites ≤ count → AllByRecursion (λ p. p.number < count) (sites_from k b sites)
unfolding sites_from
numbers_below k b count [] le = tt
numbers_below k b count (site ∷ sites) le = (omega (arith, le), numbers_below (k + 1) (b + site_width site) count sites (omega (arith, le)))

pub readable_placed : (k b : ℕ) (sites : List MadeSite) → AllByRecursion IsReadable sites → AllByRecursion (λ p. IsReadable p.site) (sites_from k b sites)
unfolding sites_from
readable_placed k b [] h = tt
readable_placed k b (site ∷ sites) h = (h.0, readable_placed (k + 1) (b + site_width site) sites h.1)

pub index_fits : (first : ℕ) (arg : MadeArg) → first + argument_width arg < 2 ^ 16 → index_at first arg < 2 ^ 16
index_fits first (args.Integer n) h = omega (arith, h)
index_fits first (args.Long n) h = omega (arith, h)
index_fits first (args.Str text) h = omega (arith, h)

indexes-length : (given : List PlacedArgument) → length (flat_map (λ a. u2 (argument_index a)) given) ≡ 2 * length given
indexes-length [] = refl
indexes-length (a ∷ given) = omega (arith, indexes-length given)

bootstrap_few : (p : PlacedSite) → length (bootstrap p) ≤ 2 * site_width p.site
bootstrap_few p = omega (arith, indexes-length (placed_arguments p), arguments-length (p.first + 7) p.site.args, arguments_few p.site.args)

all_few : (k b : ℕ) (sites : List MadeSite) → length (flat_map bootstrap (sites_from k b sites)) ≤ 2 * sum_by site_width sites
unfolding sites_from
all_few k b [] = omega arith
all_few k b (site ∷ sites) =
    let p : PlacedSite = record { number = k; first = b; site = site } in
    let rest = flat_map bootstrap (sites_from (k + 1) (b + site_width site) sites) in
    omega (arith, length-append (bootstrap p) rest, bootstrap_few p, all_few (k + 1) (b + site_width site) sites, sum_by-cons site_width site sites)

pub bootstraps_few : (k b : ℕ) (sites : List MadeSite) → length (bootstraps (sites_from k b sites)) ≤ 2 + 2 * sum_by site_width sites
unfolding bootstraps
bootstraps_few k b sites = omega (arith, all_few k b sites)

-- parts of a file, grouped as they are written and as they are read
pub regrouped : (v q c s n f m a : List ℕ) → v ++ (q ++ c ++ s) ++ n ++ f ++ m ++ a ≡ (v ++ q) ++ ((c ++ s) ++ (n ++ ((f ++ m) ++ a)))
regrouped v q c s n f m a = simp append_assoc refl

-- as many call sites as there are
pub counted : (k : ℕ) (sites : List MadeSite) → length (sites_of k sites) ≡ length sites
counted k [] = refl
counted k (site ∷ sites) = ap suc (counted (k + 1) sites)
