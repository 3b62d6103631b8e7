-- The bytes of a made class are a class file, by parts.
use Rattle.std.proofs.Common.{◌≡◌, ℕ, ◌+◌, ◌≤◌, None, Some, Option, List, [], ◌∷◌, ◌++◌, length, map, refl, sym, subst, ◌∙◌, length-append, arith}
use Rattle.std.proofs.lemmas.Bool.{eq-eqb}
use Rattle.std.proofs.lemmas.List.{append-nil, length-map}
use Rattle.std.specs.List.{AllByRecursion, flat_map}
use Rattle.mh_class_bytes.specs.Format.{Spells}
use Rattle.mh_classfile.specs.Rows.{Row}
use Rattle.mh_classfile.specs.Class.{Class, class_of}
use Rattle.mh_classfile.specs.File.{class_file, IsClassFile}
use Rattle.mh_made_class.specs.declared.site.MadeSite.{MadeSite}
use Rattle.mh_made_class.specs.Sites.{AreMakeable, pool_count}
use Rattle.mh_made_class.specs.Layout.{placed}
use Rattle.mh_made_class.specs.Constants.{u2, entry_bytes, common_entries, site_entries}
use Rattle.mh_made_class.specs.Parts.{methods, class_attributes}
use Rattle.mh_made_class.specs.File.{version, class_names, fields, made_class}
use Rattle.mh_made_class.specs.ReadBack.{IsReadable, ReadsBack}
use Rattle.mh_made_class.proofs.PoolSpelling.{entries_width, width-append, few_entries, entries_spelled}
use Rattle.mh_made_class.proofs.MethodSpelling.{members_spelled}
use Rattle.mh_made_class.proofs.CodeContents.{sites_found}
use Rattle.mh_made_class.proofs.Names.{class_names_spelled}
use Rattle.mh_made_class.proofs.BootstrapMethod.{row_of}
use Rattle.mh_made_class.proofs.BootstrapSpelling.{class_attributes_spelled}
use Rattle.mh_made_class.proofs.Reading.{sites_read, bootstraps_read}
use Rattle.mh_made_class.proofs.Counting.{sites_width, sites-length, few_sites, numbers_below, readable_placed, bootstraps_few}
use Rattle.mh_made_class.proofs.WholeClass.{all_entries, slots_of, standing, calls_stand, bootstraps_stand}
use Rattle.mh_made_class.proofs.Checks.{entries_writable, pool_good, pool_bound}
use Rattle.mh_made_class.proofs.HeaderSpelling.{header_spelled, parts_of, made_is}

-- the class that a made class is
abbrev class_made : List MadeSite → Class
class_made made = let ps = placed made in class_of (slots_of ps) (sites_found ps) (map row_of ps)

file_spelled : (made : List MadeSite) (room : ℕ) → AreMakeable made → AllByRecursion IsReadable made → length made ≤ room →
    Spells (class_file room (length (parts_of made))) 0 (parts_of made) (class_made made)
unfolding class_file
file_spelled made room h readable few =
    let ps = placed made in
    let pool = slots_of ps in
    let es = all_entries ps in
    let count = pool_count made in
    let k = standing made h in
    let able = readable_placed 0 13 made readable in
    let e = flat_map entry_bytes es in
    let m = fields ++ methods ps in
    let a = class_attributes ps in
    let width : 1 + entries_width es ≡ count = omega (arith, width-append common_entries (flat_map site_entries ps), sites_width 0 13 made) in
    let most : length es ≤ count = omega (arith, few_entries es, width) in
    let n : length ps ≡ length made = sites-length 0 13 made in
    let rows : Option (List Row) = Some (map row_of ps) in
    let row_count : length (map row_of ps) ≡ length made = length-map ps row_of ∙ n in
    let total : 10 + length e + 0 + 8 + length m + length a + 0 ≡ length (parts_of made) =
    omega (arith, length-append e (class_names ++ (m ++ a)), length-append m a) in
    let at = 10 + length e + 0 in (
      count,
      version ++ u2 count,
      e ++ (class_names ++ (m ++ a)),
      refl,
      header_spelled count (omega arith) h.few,
      (
        pool,
        e,
        class_names ++ (m ++ a),
        refl,
        entries_spelled es count count (None ∷ []) 10 width most (entries_writable ps k.fit able),
        (
          tt,
          [],
          class_names ++ (m ++ a),
          refl,
          (refl, pool_good made ps k able),
          (
            tt,
            class_names,
            m ++ a,
            refl,
            class_names_spelled pool at k.common,
            (
              sites_found ps,
              m,
              a,
              refl,
              members_spelled pool room (at + 8) 13 made k.common few (omega (arith, few_sites made, h.few)) (calls_stand pool ps k.stand k.fit),
              (
                rows,
                a,
                [],
                sym (append-nil a),
                class_attributes_spelled pool ps (at + 8 + length m) k.common (omega (arith, few_sites made, h.few, n))
                    (omega (arith, bootstraps_few 0 13 made, h.few)) (bootstraps_stand pool ps k.stand k.given k.fit),
                (
                  at + 8 + length m + length a,
                  [],
                  [],
                  refl,
                  (refl, refl),
                  (
                    tt,
                    [],
                    [],
                    refl,
                    (refl, eq-eqb (at + 8 + length m + length a) (length (parts_of made)) (omega (arith, total))),
                    (
                      tt,
                      [],
                      [],
                      refl,
                      (refl, pool_bound (length (map row_of ps)) ps (numbers_below 0 13 (length (map row_of ps)) made (omega (arith, row_count)))),
                      (refl, refl),
                    ),
                  ),
                ),
              ),
            ),
          ),
        ),
      ),
    )

-- A made class is read back.
pub reads_back : (made : List MadeSite) → AreMakeable made → ReadsBack made (made_class made)
reads_back made h readable room few =
    let ps = placed made in
    let k = standing made h in
    let is_file : IsClassFile room (made_class made) (class_made made) =
    subst (λ (bytes : List ℕ). Spells (class_file room (length bytes)) 0 bytes (class_made made)) (sym (made_is made)) (file_spelled made room h readable few)
    in (
      class_made made,
      is_file,
      record {
        sites = sites_read (slots_of ps) 0 13 made k.common k.stand;
        bootstraps = bootstraps_read (slots_of ps) 0 13 made k.common k.stand k.given readable;
      },
    )
