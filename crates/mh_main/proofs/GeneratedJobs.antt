-- The jobs of the call sites that are made from a number: each takes an int.
use Rattle.std.proofs.Common.{◌≡◌, ◌∙◌, refl, ap, ℕ, zero, suc, ◌+◌, ◌<◌, List, [], ◌∷◌, length, map, arith}
use Rattle.std.specs.List.{range_with_len}
use Rattle.std.proofs.lemmas.List.FromFn.{length-map-range_with_len}
use Rattle.mh_leaf.specs.LeafTable.{LeafTable}
use Rattle.mh_classfile.specs.Class as class_file
use Rattle.mh_made_class.specs.ReadBack.{HasSites, sites_of as sites_read}
use Rattle.mh_made_class.proofs.Counting.{counted}
use Rattle.mh_script.specs.declared.script.Script.{Script}
use Rattle.mh_jobs.specs.Jobs.{jobs_from, params_at}
use Rattle.mh_jobs.specs.RunJobs.{jobs_of, no_jobs}
use Rattle.mh_jobs.proofs.OfClasses.{with_class-length}
use Rattle.mh_generated.specs.Counts.{site_count}
use Rattle.mh_generated.specs.Sites.{site_of, sites_of}
use Rattle.mh_main.proofs.GeneratedCalls.{TakeInts, int_type}

-- each of them takes an int
take-int : (leaves : LeafTable) (all : List Script) (c : class_file.Class) (number first count at from k : ℕ) → k < count →
    params_at (jobs_from leaves all c 0 at (sites_read from (map (site_of number) (range_with_len first count)))) k ≡ int_type ∷ []
take-int leaves all c number first zero at from k low = absurd (omega arith)
take-int leaves all c number first (suc count) at from zero low = refl
take-int leaves all c number first (suc count) at from (suc k) low =
    let lower : k < count = omega arith in
    take-int leaves all c number (first + 1) count (at + 1) (from + 1) k lower

-- and there is one for each call site
pub jobs-made : (leaves : LeafTable) (all : List Script) (c : class_file.Class) (number : ℕ) → HasSites (sites_of number) c →
    TakeInts (jobs_of leaves all (c ∷ [])).sites (site_count number)
jobs-made leaves all c number has = record {
  count =
      omega (
        arith,
        with_class-length leaves all no_jobs c,
        ap length has.sites,
        counted 0 (sites_of number),
        length-map-range_with_len (site_of number) 0 (site_count number),
      );
  params = λ k low.
      ap (λ sites. params_at (jobs_from leaves all c 0 0 sites) k) has.sites ∙ take-int leaves all c number 0 (site_count number) 0 0 k low;
}
