-- A class file can be made for the call sites.
use Rattle.std.proofs.Common.{◌≡◌, ◌∙◌, refl, ℕ, zero, suc, ◌+◌, ◌*◌, ◌%◌, ◌<◌, map, codes, arith}
use Rattle.std.specs.Prelude.{sum_by}
use Rattle.std.specs.List.{AllByRecursion, range_with_len}
use Rattle.std.proofs.lemmas.List.Sums.{sum_by-cons}
use Rattle.mh_made_class.specs.Sites.{AreMakeable, IsMakeableSite, IsShortAscii, site_width}
use Rattle.mh_generated.specs.Counts.{site_count}
use Rattle.mh_generated.specs.Sites.{site_of, sites_of}

link_short : IsShortAscii (codes "link")
link_short = record {
  ascii = ((omega arith, omega arith), ((omega arith, omega arith), ((omega arith, omega arith), ((omega arith, omega arith), tt))));
  short = omega arith;
}

type_short : IsShortAscii (codes "(I)I")
type_short = record {
  ascii = ((omega arith, omega arith), ((omega arith, omega arith), ((omega arith, omega arith), ((omega arith, omega arith), tt))));
  short = omega arith;
}

site-makeable : (number site : ℕ) → IsMakeableSite (site_of number site)
site-makeable number site = record { script = link_short; ty = type_short; args = (tt, tt) }

-- each of them can be written
each-makeable : (number first count : ℕ) → AllByRecursion IsMakeableSite (map (site_of number) (range_with_len first count))
each-makeable number first zero = tt
each-makeable number first (suc count) = (site-makeable number first, each-makeable number (first + 1) count)

-- each takes eight indexes
width : (number first count : ℕ) → sum_by site_width (map (site_of number) (range_with_len first count)) ≡ 8 * count
width number first zero = refl
width number first (suc count) =
    let rest = width number (first + 1) count in
    let others = map (site_of number) (range_with_len (first + 1) count) in
    let more : 8 + sum_by site_width others ≡ 8 * suc count = omega arith in
    sum_by-cons site_width (site_of number first) others ∙ more

-- so there are few
pub makeable : (number : ℕ) → AreMakeable (sites_of number)
makeable number =
    let all = width number 0 (site_count number) in
    let few : number % 64 < 64 = omega arith in
    record { each = each-makeable number 0 (site_count number); few = omega arith }
