-- What the parts of a made class are read as: its call sites, and its bootstrap methods with their arguments.
use Rattle.std.proofs.Common.{◌≡◌, ℕ, ◌+◌, ◌*◌, ◌/◌, ◌%◌, ◌^◌, ℤ, codes, List, [], ◌∷◌, map, Ok, refl, ap, ◌∙◌}
use Rattle.std.proofs.Math.Nat.{div-add-mod', mul_comm}
use Rattle.std.proofs.lemmas.Int.{to_z-of_z}
use Rattle.std.specs.Int.{cast_unsigned, w32, w64}
use Rattle.std.specs.List.{AllByRecursion}
use Rattle.mh_class_pool.specs.declared.entry.Entry.TheVariants as entries
use Rattle.mh_class_pool.specs.declared.entry.Kind.TheVariants as kinds
use Rattle.mh_class_pool.specs.Entries.{Slot}
use Rattle.mh_class_pool.specs.References.{names}
use Rattle.mh_classfile.specs.declared.constant.Constant.{Constant}
use Rattle.mh_classfile.specs.declared.constant.Constant.TheVariants as constants
use Rattle.mh_classfile.specs.declared.constant.HandleRef.{HandleRef}
use Rattle.mh_classfile.specs.Class.{Bootstrap, argument, handle, bootstrap_of as read_bootstrap, site_view}
use Rattle.mh_made_class.specs.declared.site.MadeArg.{MadeArg}
use Rattle.mh_made_class.specs.declared.site.MadeArg.TheVariants as args
use Rattle.mh_made_class.specs.declared.site.MadeSite.{MadeSite}
use Rattle.mh_made_class.specs.Sites.{argument_width, site_width}
use Rattle.mh_made_class.specs.Layout.{arguments_from, PlacedSite, sites_from, placed_arguments}
use Rattle.mh_made_class.specs.Constants.{bootstrap_type, entries_at, argument_entries}
use Rattle.mh_made_class.specs.Parts.{index_at, argument_index}
use Rattle.mh_made_class.specs.ReadBack.{IsNumber, IsReadable, constant_of, bootstrap_of, site_of, sites_of}
use Rattle.mh_made_class.proofs.Lookups.{Holds}
use Rattle.mh_made_class.proofs.Standing.{HasCommon, HasSite}
use Rattle.mh_made_class.proofs.Good.{named_at}
use Rattle.mh_made_class.proofs.CodeContents.{run_method, sites_found}
use Rattle.mh_made_class.proofs.InstructionSpelling.{site_found}
use Rattle.mh_made_class.proofs.BootstrapMethod.{row_of}

halves : (n : ℕ) → 2 ^ 32 * (n / 2 ^ 32) + n % 2 ^ 32 ≡ n
halves n = ap (λ x. x + n % 2 ^ 32) (mul_comm (2 ^ 32) (n / 2 ^ 32)) ∙ div-add-mod' n (2 ^ 32)

pub named_argument : (pool : List Slot) (first at : ℕ) (arg : MadeArg) → Holds pool first (entries_at first arg) →
    names pool kinds.Argument (index_at first arg) at ≡ Ok tt
named_argument pool first at (args.Integer n) h = named_at pool kinds.Argument first at (entries.Integer (cast_unsigned w32 n)) h.0 refl
named_argument pool first at (args.Long n) h =
    named_at pool kinds.Argument first at (entries.Long (cast_unsigned w64 n / 2 ^ 32) (cast_unsigned w64 n % 2 ^ 32)) h.0 refl
named_argument pool first at (args.Str text) h = named_at pool kinds.Argument (first + 1) at (entries.Str first) h.1.0 refl

argument_read : (pool : List Slot) (first : ℕ) (arg : MadeArg) → Holds pool first (entries_at first arg) → IsNumber arg →
    argument pool (index_at first arg) ≡ constant_of arg
argument_read pool first (args.Integer n) h fits = rw (h.0.1) (ap (λ (z : ℤ). constants.Integer z) (to_z-of_z w32 n fits))
argument_read pool first (args.Long n) h fits = rw (h.0.1, halves) (ap (λ (z : ℤ). constants.Long z) (to_z-of_z w64 n fits))
argument_read pool first (args.Str text) h fits = rw (h.1.0.1, h.0.1) refl

arguments_read : (pool : List Slot) (first : ℕ) (made : List MadeArg) → AllByRecursion (λ a. Holds pool a.first (argument_entries a))
    (arguments_from first made) → AllByRecursion IsNumber made
    → map (argument pool) (map argument_index (arguments_from first made)) ≡ map constant_of made
unfolding arguments_from
arguments_read pool first [] h fits = refl
arguments_read pool first (arg ∷ made) h fits =
    rw (argument_read pool first arg h.0 fits.0) (ap (λ (cs : List Constant). constant_of arg ∷ cs) (arguments_read pool (first + argument_width arg) made h.1
    fits.1))

handle_read : (pool : List Slot) (p : PlacedSite) → HasCommon pool → HasSite pool p → handle pool (p.first + 3) ≡ record {
  kind = 6;
  owner =
      codes "made/Boot";
  name = p.site.script;
  descriptor = bootstrap_type;
}
handle_read pool p c h = rw (h.handle.1, h.method.1, c.boot.1, c.boot_name.1, h.name.1, h.script.1, c.boot_type.1) refl

abbrev bootstrap_with : HandleRef → List Constant → Bootstrap
bootstrap_with h cs = record { handle = h; arguments = cs }

-- Each bootstrap method is read as that of its call site.
pub bootstraps_read : (pool : List Slot) (k b : ℕ) (sites : List MadeSite) → HasCommon pool → AllByRecursion (HasSite pool) (sites_from k b sites)
    → AllByRecursion (λ p. AllByRecursion (λ a. Holds pool a.first (argument_entries a)) (placed_arguments p)) (sites_from k b sites) →
    AllByRecursion IsReadable sites
    → map (read_bootstrap pool) (map row_of (sites_from k b sites)) ≡ map bootstrap_of sites
unfolding sites_from
bootstraps_read pool k b [] c h given readable = refl
bootstraps_read pool k b (site ∷ sites) c h given readable =
    let p : PlacedSite = record { number = k; first = b; site = site } in
    let ref : HandleRef = record { kind = 6; owner = codes "made/Boot"; name = site.script; descriptor = bootstrap_type } in
    let head : read_bootstrap pool (row_of p) ≡ bootstrap_of site =
    ap (λ (r : HandleRef). bootstrap_with r (map (argument pool) (map argument_index (placed_arguments p)))) (handle_read pool p c h.0)
    ∙ ap (bootstrap_with ref) (arguments_read pool (b + 7) site.args given.0 readable.0.args) in
    rw head (ap (λ (bs : List Bootstrap). bootstrap_of site ∷ bs) (bootstraps_read pool (k + 1) (b + site_width site) sites c h.1 given.1 readable.1))

site_read : (pool : List Slot) (p : PlacedSite) → HasCommon pool → HasSite pool p → site_view pool (site_found run_method (5 * p.number) p) ≡ site_of p.number
    p.site
site_read pool p c h = rw (h.call.1, h.call_name.1, c.called.1, h.ty.1, c.run.1, c.run_type.1) refl

-- Each call site that is found is the one that was to be made.
pub sites_read : (pool : List Slot) (k b : ℕ) (sites : List MadeSite) → HasCommon pool → AllByRecursion (HasSite pool) (sites_from k b sites) →
    map (site_view pool) (sites_found (sites_from k b sites)) ≡ sites_of k sites
unfolding sites_from
sites_read pool k b [] c h = refl
sites_read pool k b (site ∷ sites) c h =
    let p : PlacedSite = record { number = k; first = b; site = site } in
    let head = site_read pool p c h.0 in
    rw head (ap (λ (vs : _). site_of k site ∷ vs) (sites_read pool (k + 1) (b + site_width site) sites c h.1))
