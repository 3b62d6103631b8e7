-- The header of a made class is spelled, and its bytes are grouped as they are read.
use Rattle.std.proofs.Common.{◌≡◌, ℕ, ◌<◌, ◌^◌, true, ltb, List, [], ◌++◌, refl, sym, ap, ◌∙◌, arith}
use Rattle.std.proofs.lemmas.Bool.Decides.{nat_tests}
use Rattle.std.proofs.lemmas.Grind.{flat_map-append}
use Rattle.std.specs.List.{flat_map}
use Rattle.mh_base.proofs.Lists.{flat_map_twice}
use Rattle.mh_class_bytes.specs.Format.{Spells}
use Rattle.mh_classfile.specs.File.{header}
use Rattle.mh_made_class.specs.declared.site.MadeSite.{MadeSite}
use Rattle.mh_made_class.specs.Sites.{pool_count}
use Rattle.mh_made_class.specs.Layout.{PlacedSite, placed}
use Rattle.mh_made_class.specs.Constants.{u2, u4, entry_bytes, common_entries, site_entries, pool_of}
use Rattle.mh_made_class.specs.Parts.{methods, class_attributes}
use Rattle.mh_made_class.specs.File.{version, class_names, fields, made_class}
use Rattle.mh_made_class.proofs.Spelling.{u2_is}
use Rattle.mh_made_class.proofs.Counting.{regrouped}
use Rattle.mh_made_class.proofs.WholeClass.{all_entries}

pub header_spelled : (count : ℕ) → 0 < count → count < 2 ^ 16 → Spells header 0 (version ++ u2 count) count
unfolding header
header_spelled count pos few =
    let q = u2 count in
    let some : ltb 0 count ≡ true = grind (arith, nat_tests) in (
      0,
      [],
      version ++ q,
      refl,
      (refl, refl),
      (
        0xCAFEBABE,
        u4 0xCAFEBABE,
        u2 0 ++ u2 61 ++ q,
        refl,
        (refl, refl),
        (
          tt,
          [],
          u2 0 ++ u2 61 ++ q,
          refl,
          (refl, refl),
          (
            0,
            u2 0,
            u2 61 ++ q,
            refl,
            (refl, refl),
            (
              6,
              [],
              u2 61 ++ q,
              refl,
              (refl, refl),
              (
                61,
                u2 61,
                q,
                refl,
                (refl, refl),
                (
                  tt,
                  [],
                  q,
                  refl,
                  (refl, refl),
                  (
                    8,
                    [],
                    q,
                    refl,
                    (refl, refl),
                    (
                      count,
                      q,
                      [],
                      refl,
                      (refl, u2_is count few),
                      (tt, [], [], refl, (refl, some), (refl, refl)),
                    ),
                  ),
                ),
              ),
            ),
          ),
        ),
      ),
    )

-- the entries of the pool, as they are written
pool_bytes : (ps : List PlacedSite) → flat_map entry_bytes common_entries ++ flat_map (λ p. flat_map entry_bytes (site_entries p)) ps ≡ flat_map entry_bytes
    (all_entries ps)
pool_bytes ps =
    ap (λ xs. flat_map entry_bytes common_entries ++ xs) (sym (flat_map_twice entry_bytes site_entries ps)) ∙
    sym (flat_map-append entry_bytes common_entries (flat_map site_entries ps))

-- the bytes of the class file, as they are read
abbrev pub parts_of : List MadeSite → List ℕ
parts_of made =
    let ps = placed made in
    (version ++ u2 (pool_count made)) ++ (flat_map entry_bytes (all_entries ps) ++ (class_names ++ ((fields ++ methods ps) ++ class_attributes ps)))

pub made_is : (made : List MadeSite) → made_class made ≡ parts_of made
unfolding made_class pool_of
made_is made =
    let ps = placed made in
    regrouped version (u2 (pool_count made)) (flat_map entry_bytes common_entries) (flat_map (λ p. flat_map entry_bytes (site_entries p)) ps) class_names fields
    (methods ps) (class_attributes ps)
    ∙ ap (λ xs. (version ++ u2 (pool_count made)) ++ (xs ++ (class_names ++ ((fields ++ methods ps) ++ class_attributes ps)))) (pool_bytes ps)
