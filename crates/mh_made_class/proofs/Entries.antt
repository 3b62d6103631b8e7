-- The references of a made class are good.
use Rattle.std.proofs.Common.{◌≡◌, ℕ, ◌+◌, ◌/◌, ◌%◌, ◌<◌, ◌^◌, ltb, true, codes, None, Some, Ok, List, [], ◌∷◌, refl, ap, arith}
use Rattle.std.proofs.lemmas.Bool.Decides.{nat_tests}
use Rattle.std.specs.Int.{cast_unsigned, w32, w64}
use Rattle.std.specs.List.{AllByRecursion, flat_map}
use Rattle.mh_base.proofs.Lists.{all_append}
use Rattle.mh_values.specs.Grammar.{descriptor_fault}
use Rattle.mh_class_pool.specs.declared.entry.Entry.{Entry}
use Rattle.mh_class_pool.specs.declared.fault.ClassKind.TheVariants.{BadBootstraps}
use Rattle.mh_class_pool.specs.Entries.{Slot}
use Rattle.mh_class_pool.specs.References.{holds}
use Rattle.mh_classfile.specs.File.{has_bootstrap}
use Rattle.mh_made_class.specs.declared.site.MadeArg.{MadeArg}
use Rattle.mh_made_class.specs.declared.site.MadeArg.TheVariants as args
use Rattle.mh_made_class.specs.Layout.{PlacedArgument, PlacedSite, placed_arguments}
use Rattle.mh_made_class.specs.Constants.{bootstrap_type, common_entries, entries_at, argument_entries, site_entries}
use Rattle.mh_made_class.proofs.Lookups.{Holds}
use Rattle.mh_made_class.proofs.Standing.{HasCommon, HasSite}
use Rattle.mh_made_class.proofs.Good.{IsGood, good_text, good_integer, good_long, good_class, good_string, good_name_and_type, good_method, good_handle_of_method, good_call}
use Rattle.mh_made_class.proofs.Writable.{}

entries_good : (pool : List Slot) (first : ℕ) (arg : MadeArg) → Holds pool first (entries_at first arg) → AllByRecursion (IsGood pool) (entries_at first arg)
entries_good pool first (args.Integer n) h = (good_integer pool (cast_unsigned w32 n), tt)
entries_good pool first (args.Long n) h = (good_long pool (cast_unsigned w64 n / 2 ^ 32) (cast_unsigned w64 n % 2 ^ 32), tt)
entries_good pool first (args.Str text) h = (good_text pool text, (good_string pool first text h.0, tt))

arguments_good : (pool : List Slot) (given : List PlacedArgument) → AllByRecursion (λ a. Holds pool a.first (argument_entries a)) given →
    AllByRecursion (IsGood pool) (flat_map argument_entries given)
arguments_good pool [] h = tt
arguments_good pool (a ∷ given) h = all_append (IsGood pool) (argument_entries a) (flat_map argument_entries given) (entries_good pool a.first a.arg h.0)
    (arguments_good pool given h.1)

type_is_descriptor : descriptor_fault bootstrap_type ≡ None
type_is_descriptor = refl

pub site_good : (pool : List Slot) (p : PlacedSite) → HasCommon pool → HasSite pool p → AllByRecursion (λ a. Holds pool a.first (argument_entries a))
    (placed_arguments p) → descriptor_fault p.site.ty ≡ None → AllByRecursion (IsGood pool) (site_entries p)
site_good pool p c h given ty =
    let b = p.first in (
      good_text pool p.site.script,
      (
        good_name_and_type pool b 11 p.site.script bootstrap_type h.script c.boot_type,
        (
          good_method pool 10 9 (b + 1) b 11 p.site.script bootstrap_type c.boot h.name h.script c.boot_type type_is_descriptor,
          (
            good_handle_of_method pool (b + 2) 10 (b + 1) h.method,
            (
              good_text pool p.site.ty,
              (
                good_name_and_type pool 12 (b + 4) (codes "f") p.site.ty c.called h.ty,
                (
                  good_call pool p.number (b + 5) 12 (b + 4) (codes "f") p.site.ty h.call_name c.called h.ty ty,
                  arguments_good pool (placed_arguments p) given,
                ),
              ),
            ),
          ),
        ),
      ),
    )

pub common_good : (pool : List Slot) → HasCommon pool → AllByRecursion (IsGood pool) common_entries
common_good pool c = (
  good_text pool (codes "made/Main"),
  (
    good_class pool 1 (codes "made/Main") c.main_name,
    (
      good_text pool (codes "java/lang/Object"),
      (
        good_class pool 3 (codes "java/lang/Object") c.object_name,
        (
          good_text pool (codes "run"),
          (
            good_text pool (codes "()V"),
            (
              good_text pool (codes "Code"),
              (
                good_text pool (codes "BootstrapMethods"),
                (
                  good_text pool (codes "made/Boot"),
                  (
                    good_class pool 9 (codes "made/Boot") c.boot_name,
                    (good_text pool bootstrap_type, (good_text pool (codes "f"), tt)),
                  ),
                ),
              ),
            ),
          ),
        ),
      ),
    ),
  ),
)

-- an entry that names a bootstrap method names one of so many, wherever it stands
abbrev pub IsBound : ℕ → Entry → Type 0
IsBound count e = (at : ℕ) → has_bootstrap count (Some (at, e)) ≡ Ok tt

entries_bound : (count first : ℕ) (arg : MadeArg) → AllByRecursion (IsBound count) (entries_at first arg)
unfolding has_bootstrap
entries_bound count first (args.Integer n) = (λ at. refl, tt)
entries_bound count first (args.Long n) = (λ at. refl, tt)
entries_bound count first (args.Str text) = (λ at. refl, (λ at. refl, tt))

arguments_bound : (count : ℕ) (given : List PlacedArgument) → AllByRecursion (IsBound count) (flat_map argument_entries given)
arguments_bound count [] = tt
arguments_bound count (a ∷ given) = all_append (IsBound count) (argument_entries a) (flat_map argument_entries given) (entries_bound count a.first a.arg)
    (arguments_bound count given)

pub site_bound : (count : ℕ) (p : PlacedSite) → p.number < count → AllByRecursion (IsBound count) (site_entries p)
unfolding has_bootstrap
site_bound count p lt =
    let below : ltb p.number count ≡ true = grind (arith, nat_tests) in (
      λ at. refl,
      (
        λ at. refl,
        (λ at. refl, (λ at. refl, (λ at. refl, (λ at. refl, (λ at. ap (λ b. holds b at BadBootstraps) below, arguments_bound count (placed_arguments p)))))),
      ),
    )

pub common_bound : (count : ℕ) → AllByRecursion (IsBound count) common_entries
unfolding has_bootstrap
common_bound count = (
  λ at. refl,
  (
    λ at. refl,
    (λ at. refl, (λ at. refl, (λ at. refl, (λ at. refl, (λ at. refl, (λ at. refl, (λ at. refl, (λ at. refl, (λ at. refl, (λ at. refl, tt)))))))))),
  ),
)
