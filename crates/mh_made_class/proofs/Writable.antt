-- The entries of a made class can be written.
use Rattle.std.proofs.Common.{ℕ, ◌+◌, ◌/◌, ◌<◌, ◌^◌, List, [], ◌∷◌, sum_by, refl, arith}
use Rattle.std.proofs.Math.Nat.{div-lt_iff_lt-mul, mod-lt}
use Rattle.std.proofs.lemmas.List.Sums.{sum_by-cons}
use Rattle.std.specs.Int.{cast_unsigned, w32, w64}
use Rattle.std.specs.List.{AllByRecursion, flat_map}
use mir.ValLaws.{of_z_fits}
use Rattle.mh_base.proofs.Lists.{all_append}
use Rattle.mh_class_pool.specs.declared.entry.Entry.TheVariants as entries
use Rattle.mh_made_class.specs.declared.site.MadeArg.{MadeArg}
use Rattle.mh_made_class.specs.declared.site.MadeArg.TheVariants as args
use Rattle.mh_made_class.specs.Sites.{IsShortAscii, IsMakeableArgument, argument_width}
use Rattle.mh_made_class.specs.Layout.{PlacedSite, IsPlaced, arguments_from}
use Rattle.mh_made_class.specs.Constants.{entries_at, argument_entries, site_entries}
use Rattle.mh_made_class.specs.ReadBack.{IsNumber}
use Rattle.mh_made_class.proofs.EntrySpelling.{IsWritableEntry}
use Rattle.mh_made_class.proofs.Fitting.{ascii_sound}

text_writable : (text : List ℕ) → IsShortAscii text → IsWritableEntry (entries.Utf8 text)
text_writable text h = (ascii_sound text h.ascii, h.short)

high_fits : (n : ℕ) → n < 2 ^ 64 → n / 2 ^ 32 < 2 ^ 32
high_fits n lt = (div-lt_iff_lt-mul {x = n} {y = 2 ^ 32} (omega arith)).1 lt

entries_writable : (first : ℕ) (arg : MadeArg) → IsMakeableArgument arg → IsNumber arg → first + argument_width arg < 2 ^ 16 →
    AllByRecursion IsWritableEntry (entries_at first arg)
entries_writable first (args.Integer n) h number fits = ((of_z_fits w32 n number).fits, tt)
entries_writable first (args.Long n) h number fits =
    ((high_fits (cast_unsigned w64 n) (of_z_fits w64 n number).fits, mod-lt (cast_unsigned w64 n) (omega arith)), tt)
entries_writable first (args.Str text) h number fits = (text_writable text h, (omega (arith, fits), tt))

arguments_writable : (first : ℕ) (made : List MadeArg) → AllByRecursion IsMakeableArgument made → AllByRecursion IsNumber made →
    first + sum_by argument_width made < 2 ^ 16
    → AllByRecursion IsWritableEntry (flat_map argument_entries (arguments_from first made))
unfolding arguments_from
arguments_writable first [] h numbers fits = tt
arguments_writable first (arg ∷ made) h numbers fits =
    let rest = flat_map argument_entries (arguments_from (first + argument_width arg) made) in
    let sum = sum_by-cons argument_width arg made in
    all_append IsWritableEntry (entries_at first arg) rest (entries_writable first arg h.0 numbers.0 (omega (arith, fits, sum)))
    (arguments_writable (first + argument_width arg) made h.1 numbers.1 (omega (arith, fits, sum)))

pub site_writable : (p : PlacedSite) → IsPlaced p → AllByRecursion IsNumber p.site.args → AllByRecursion IsWritableEntry (site_entries p)
site_writable p h numbers =
    let fits = h.fits in (
      text_writable p.site.script h.makeable.script,
      (
        (omega (arith, fits), omega arith),
        (
          (omega arith, omega (arith, fits)),
          (
            (refl, omega (arith, fits)),
            (
              text_writable p.site.ty h.makeable.ty,
              (
                (omega arith, omega (arith, fits)),
                (
                  (omega (arith, fits, h.number), omega (arith, fits)),
                  arguments_writable (p.first + 7) p.site.args h.makeable.args numbers (omega (arith, fits)),
                ),
              ),
            ),
          ),
        ),
      ),
    )
