-- The class file that is made from a number is accepted, and its call sites have jobs of one type.
use Rattle.std.proofs.Common.{◌≡◌, ◌∙◌, refl, ℕ, zero, suc, ◌+◌, ◌*◌, ◌%◌, ◌<◌, ◌≤◌, pos, List, ◌++◌, length, map, codes, Ok, length-append, mul-suc, arith}
use Rattle.std.specs.Int.{w32}
use Rattle.std.specs.Int.RustNames.{FitsSigned}
use Rattle.std.specs.List.{AllByRecursion, flat_map, range_with_len}
use Rattle.std.proofs.lemmas.Int.{ints}
use Rattle.std.proofs.lemmas.List.FromFn.{length-map-range_with_len}
use Rattle.mh_values.proofs.Sound.{descriptor_sound}
use Rattle.mh_classfile.specs.Class.{Class}
use Rattle.mh_classfile.specs.File.{class_or_fault}
use Rattle.mh_classfile.proofs.FileLaw.{file_complete}
use Rattle.mh_made_class.specs.Layout.{PlacedSite, arguments_from, placed, sites_from}
use Rattle.mh_made_class.specs.Sites.{pool_count}
use Rattle.mh_made_class.specs.Constants.{common_entries, entry_bytes, pool_of, site_entries, u2}
use Rattle.mh_made_class.specs.Parts.{attribute, bootstrap, bootstraps, class_attributes, code, code_contents, instruction, methods}
use Rattle.mh_made_class.specs.File.{made_class}
use Rattle.mh_made_class.specs.ReadBack.{HasSites, IsReadable}
use Rattle.mh_made_class.proofs.MadeFile.{reads_back}
use Rattle.mh_generated.specs.Counts.{site_count}
use Rattle.mh_generated.specs.Sites.{class_file, constant_of, site_of, sites_of}
use Rattle.mh_generated.proofs.Makeable.{makeable}
use Rattle.mh_runtime.specs.Passes.{most_sites}

-- ---- a class of these call sites

readable : (number site : ℕ) → IsReadable (site_of number site)
readable number site =
    let low : (number + site) % 1000 < 1000 = omega arith in
    let fits : FitsSigned w32 (pos (constant_of number site)) = omega (arith, ints) in
    record { ty = descriptor_sound (codes "(I)I") refl; args = (fits, tt) }

all-readable : (number first count : ℕ) → AllByRecursion IsReadable (map (site_of number) (range_with_len first count))
all-readable number first zero = tt
all-readable number first (suc count) = (readable number first, all-readable number (first + 1) count)

pub few-sites : (number : ℕ) → length (sites_of number) ≤ most_sites
few-sites number =
    let low : number % 64 < 64 = omega arith in
    omega (arith, length-map-range_with_len (site_of number) 0 (site_count number))

-- the class
pub class-made : (number : ℕ) → (c : Class) × (class_or_fault most_sites (class_file number) ≡ Ok c) × HasSites (sites_of number) c
unfolding class_file
class-made number =
    let made = reads_back (sites_of number) (makeable number) (all-readable number 0 (site_count number)) most_sites (few-sites number) in
    (made.0, file_complete most_sites (made_class (sites_of number)) made.0 made.1, made.2)

-- ---- its length

-- parts of so many bytes for each call site
parts-length : (f : PlacedSite → List ℕ) (width number : ℕ) →
    ((k first site : ℕ) → length (f (record { number = k; first = first; site = site_of number site })) ≡ width) →
    (k first from count : ℕ) → length (flat_map f (sites_from k first (map (site_of number) (range_with_len from count)))) ≡ width * count
unfolding sites_from
parts-length f width number each k first from zero = omega arith
parts-length f width number each k first from (suc count) =
    let here = each k first from in
    let rest = parts-length f width number each (k + 1) (first + 8) (from + 1) count in
    let part = f (record { number = k; first = first; site = site_of number from }) in
    let parts = flat_map f (sites_from (k + 1) (first + 8) (map (site_of number) (range_with_len (from + 1) count))) in
    omega (arith, length-append part parts, mul-suc width count)

entries-length : (number k first site : ℕ) →
    length (flat_map entry_bytes (site_entries (record { number = k; first = first; site = site_of number site }))) ≡ 43
unfolding entry_bytes arguments_from
entries-length number k first site = refl

instruction-length : (number k first site : ℕ) → length (instruction (record { number = k; first = first; site = site_of number site })) ≡ 5
instruction-length number k first site = refl

bootstrap-length : (number k first site : ℕ) → length (bootstrap (record { number = k; first = first; site = site_of number site })) ≡ 6
unfolding arguments_from
bootstrap-length number k first site = refl

-- ---- the length of the file

all-parts : (f : PlacedSite → List ℕ) (width number : ℕ) →
    ((k first site : ℕ) → length (f (record { number = k; first = first; site = site_of number site })) ≡ width) →
    length (flat_map f (placed (sites_of number))) ≡ width * site_count number
all-parts f width number each = parts-length f width number each 0 13 0 (site_count number)

code-length : (number : ℕ) → length (code_contents (placed (sites_of number))) ≡ 13 + 5 * site_count number
unfolding code_contents code
code-length number =
    let ps = placed (sites_of number) in
    let n = all-parts instruction 5 number (instruction-length number) in
    simp length-append (omega arith)

common-length : length (flat_map entry_bytes common_entries) ≡ 212
unfolding entry_bytes
common-length = refl

pool-length : (number count : ℕ) → length (pool_of count (placed (sites_of number))) ≡ 214 + 43 * site_count number
unfolding pool_of
pool-length number count =
    let n = all-parts (λ p. flat_map entry_bytes (site_entries p)) 43 number (entries-length number) in
    let common = flat_map entry_bytes common_entries in
    let own = flat_map (λ p. flat_map entry_bytes (site_entries p)) (placed (sites_of number)) in
    let front : length (u2 count ++ common) ≡ 2 + length common = length-append (u2 count) common in
    length-append (u2 count ++ common) own ∙ omega (arith, common-length)

methods-length : (number : ℕ) → length (methods (placed (sites_of number))) ≡ 29 + 5 * site_count number
unfolding methods attribute
methods-length number = simp length-append (omega (arith, code-length number))

attributes-length : (number : ℕ) → length (class_attributes (placed (sites_of number))) ≡ 10 + 6 * site_count number
unfolding class_attributes attribute bootstraps
attributes-length number =
    let n = all-parts bootstrap 6 number (bootstrap-length number) in
    simp length-append (omega arith)

pub class-short : (number : ℕ) → length (class_file number) ≤ 1048576
unfolding class_file made_class
class-short number =
    let ps = placed (sites_of number) in
    let count = pool_count (sites_of number) in
    let low : number % 64 < 64 = omega arith in
    simp length-append (omega (arith, pool-length number count, methods-length number, attributes-length number))
