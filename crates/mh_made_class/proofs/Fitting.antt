-- What is placed in the pool of a made class can be written.
use Rattle.std.proofs.Common.{◌≡◌, ℕ, suc, ◌+◌, ◌≤◌, ◌<◌, ◌^◌, true, ltb, List, [], ◌∷◌, length, sum_by, refl, ap, arith}
use Rattle.std.proofs.lemmas.Bool.Decides.{nat_tests}
use Rattle.std.proofs.lemmas.List.Sums.{sum_by-cons}
use Rattle.std.specs.List.{AllByRecursion, flat_map}
use Rattle.mh_base.proofs.Lists.{all_append}
use Rattle.mh_class_bytes.specs.Mutf8.{sound_len, sound_from, unit_len}
use Rattle.mh_made_class.specs.declared.site.MadeArg.{MadeArg}
use Rattle.mh_made_class.specs.declared.site.MadeSite.{MadeSite}
use Rattle.mh_made_class.specs.Sites.{IsMakeableArgument, IsMakeableSite, argument_width, site_width}
use Rattle.mh_made_class.specs.Layout.{IsPlacedArgument, arguments_from, IsPlaced, sites_from}
use Rattle.mh_made_class.specs.Constants.{common_entries}
use Rattle.mh_made_class.proofs.EntrySpelling.{IsWritableEntry}

-- what each part has, all have
pub all_parts : {X Y : Type 0} (P : Y → Type 0) (f : X → List Y) (xs : List X) → AllByRecursion (λ x. AllByRecursion P (f x)) xs →
    AllByRecursion P (flat_map f xs)
all_parts P f [] h = tt
all_parts P f (x ∷ xs) h = all_append P (f x) (flat_map f xs) h.0 (all_parts P f xs h.1)

-- one for each
pub all_from : {X : Type 0} (P Q : X → Type 0) (xs : List X) → ((x : X) → P x → Q x) → AllByRecursion P xs → AllByRecursion Q xs
all_from P Q [] f h = tt
all_from P Q (x ∷ xs) f h = (f x h.0, all_from P Q xs f h.1)

-- A text of the characters U+0001 to U+007F is modified UTF-8.
pub ascii_sound : (text : List ℕ) → AllByRecursion (λ c. (0 < c) × (c < 128)) text → sound_len text ≡ length text
unfolding sound_from unit_len
ascii_sound [] h = refl
ascii_sound (b ∷ bytes) h =
    let low : ltb 0 b ≡ true = grind (arith, nat_tests, h.0.0) in
    let high : ltb b 128 ≡ true = grind (arith, nat_tests, h.0.1) in
    rw (low, high) (ap suc (ascii_sound bytes h.1))

pub arguments_placed : (first : ℕ) (made : List MadeArg) → AllByRecursion IsMakeableArgument made → first + sum_by argument_width made < 2 ^ 16 →
    AllByRecursion IsPlacedArgument (arguments_from first made)
unfolding arguments_from
arguments_placed first [] h fits = tt
arguments_placed first (arg ∷ made) h fits = (
  record { makeable = h.0; fits = omega (arith, fits, sum_by-cons argument_width arg made) },
  arguments_placed (first + argument_width arg) made h.1 (omega (arith, fits, sum_by-cons argument_width arg made)),
)

pub sites_placed : (number first : ℕ) (sites : List MadeSite) → AllByRecursion IsMakeableSite sites → number ≤ first → first + sum_by site_width sites < 2 ^ 16
    → AllByRecursion IsPlaced (sites_from number first sites)
unfolding sites_from
sites_placed number first [] h le fits = tt
sites_placed number first (site ∷ sites) h le fits = (
  record { makeable = h.0; number = le; fits = omega (arith, fits, sum_by-cons site_width site sites) },
  sites_placed (number + 1) (first + site_width site) sites h.1 (omega (arith, le)) (omega (arith, fits, sum_by-cons site_width site sites)),
)

pub common_writable : AllByRecursion IsWritableEntry common_entries
unfolding sound_from unit_len
common_writable = (
  (refl, omega arith),
  (
    omega arith,
    (
      (refl, omega arith),
      (
        omega arith,
        (
          (refl, omega arith),
          (
            (refl, omega arith),
            (
              (refl, omega arith),
              (
                (refl, omega arith),
                ((refl, omega arith), (omega arith, ((refl, omega arith), ((refl, omega arith), tt)))),
              ),
            ),
          ),
        ),
      ),
    ),
  ),
)
