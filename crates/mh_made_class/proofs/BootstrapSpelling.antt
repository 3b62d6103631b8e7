-- The bootstrap methods of a made class are spelled.
use Rattle.std.proofs.Common.{◌≡◌, ℕ, ◌+◌, ◌<◌, ◌^◌, true, codes, List, [], ◌++◌, length, map, Option, None, Some, refl, sym, ap, arith}
use Rattle.std.proofs.lemmas.List.{append-nil}
use Rattle.std.specs.List.{AllByRecursion, flat_map}
use Rattle.std.specs.Str.{bytes_eq}
use Rattle.mh_class_bytes.specs.Format.{Spells, check, done, ◌>>=◌, repeated}
use Rattle.mh_class_pool.specs.declared.entry.Entry.TheVariants as entries
use Rattle.mh_class_pool.specs.declared.entry.Kind.TheVariants as kinds
use Rattle.mh_class_pool.specs.declared.fault.ClassKind.TheVariants.{Truncated, BadBootstraps}
use Rattle.mh_class_pool.specs.Entries.{ClassPart, Slot, text, text_of}
use Rattle.mh_classfile.specs.Rows.{Row}
use Rattle.mh_classfile.specs.Members.{passed_contents}
use Rattle.mh_classfile.specs.Bootstraps.{bootstrap as read_bootstrap, bootstraps as read_bootstraps, bootstraps_attribute, class_attribute, class_attributes as read_class_attributes}
use Rattle.mh_made_class.specs.Layout.{PlacedSite}
use Rattle.mh_made_class.specs.Constants.{u2, u4}
use Rattle.mh_made_class.specs.Parts.{attribute, bootstrap, bootstraps, class_attributes}
use Rattle.mh_made_class.proofs.Spelling.{u2_is, u4_is, where_true}
use Rattle.mh_made_class.proofs.Standing.{HasCommon}
use Rattle.mh_made_class.proofs.Names.{index_spelled}
use Rattle.mh_made_class.proofs.Times.{times_spelled}
use Rattle.mh_made_class.proofs.BootstrapMethod.{HasBootstrap, row_of, bootstraps_all}

contents_spelled : (pool : List Slot) (ps : List PlacedSite) (at : ℕ) → length ps < 2 ^ 16 → AllByRecursion (HasBootstrap pool) ps →
    Spells (read_bootstraps pool) at (bootstraps ps) (map row_of ps)
unfolding read_bootstraps bootstraps
contents_spelled pool ps at few all = (
  length ps,
  u2 (length ps),
  flat_map bootstrap ps,
  refl,
  (refl, u2_is (length ps) few),
  times_spelled (read_bootstrap pool) bootstrap row_of ps [] (at + 2)
      (bootstraps_all pool ps all),
)

-- a BootstrapMethods attribute, the first time
abbrev rows_read : List Slot → ℕ → ClassPart (Option (List Row))
rows_read pool at = do
  once ← check true at BadBootstraps
  rows ← bootstraps_attribute pool
  done (Some rows)

-- another attribute
abbrev other_read : ClassPart (Option (List Row))
other_read = do
  skipped ← passed_contents Truncated
  done None

attribute_spelled : (pool : List Slot) (ps : List PlacedSite) (at : ℕ) → HasCommon pool → length ps < 2 ^ 16 → length (bootstraps ps) < 2 ^ 32 →
    AllByRecursion (HasBootstrap pool) ps
    → Spells (class_attribute pool None) at (attribute 8 (bootstraps ps)) (Some (map row_of ps))
unfolding class_attribute bootstraps_attribute attribute
attribute_spelled pool ps at c few short all =
    let contents = bootstraps ps in
    let len = length contents in
    let rest = u4 len ++ contents in
    let word = codes "BootstrapMethods" in
    let is_bootstraps : bytes_eq (text pool 8) word ≡ true = ap (λ s. bytes_eq (text_of s) word) c.bootstraps.1 in
    let rows : Option (List Row) = Some (map row_of ps) in (
      at,
      [],
      u2 8 ++ rest,
      refl,
      (refl, refl),
      (
        8,
        u2 8,
        rest,
        refl,
        index_spelled Truncated pool kinds.Utf8 8 (at + 0) (entries.Utf8 word) c.bootstraps refl (omega arith),
        where_true (bytes_eq (text pool 8) word) (rows_read pool at) other_read (at + 0 + 2) rest rows is_bootstraps (
          tt,
          [],
          rest,
          refl,
          (refl, refl),
          (
            map row_of ps,
            rest,
            [],
            sym (append-nil rest),
            (len, u4 len, contents, refl, (refl, u4_is len short), (refl, contents_spelled pool ps (at + 0 + 2 + 0 + 4) few all)),
            (refl, refl),
          ),
        ),
      ),
    )

pub class_attributes_spelled : (pool : List Slot) (ps : List PlacedSite) (at : ℕ) → HasCommon pool → length ps < 2 ^ 16 → length (bootstraps ps) < 2 ^ 32 →
    AllByRecursion (HasBootstrap pool) ps
    → Spells (read_class_attributes pool) at (class_attributes ps) (Some (map row_of ps))
unfolding read_class_attributes class_attributes repeated
class_attributes_spelled pool ps at c few short all =
    let last = attribute 8 (bootstraps ps) in
    let rows : Option (List Row) = Some (map row_of ps) in
    (1, u2 1, last, refl, (refl, refl), (rows, last, [], sym (append-nil last), attribute_spelled pool ps (at + 2) c few short all, (refl, refl)))
