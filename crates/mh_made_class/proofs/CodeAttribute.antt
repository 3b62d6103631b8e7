-- The Code attribute of a made class is spelled.
use Rattle.std.proofs.Common.{◌≡◌, ℕ, ◌+◌, ◌*◌, ◌≤◌, ◌<◌, ◌^◌, Bool, true, false, codes, List, [], ◌++◌, length, refl, sym, ap, arith}
use Rattle.std.proofs.lemmas.List.{append-nil}
use Rattle.std.specs.List.{AllByRecursion}
use Rattle.std.specs.Str.{bytes_eq}
use Rattle.mh_class_bytes.specs.Format.{Spells, check, done, ◌>>=◌}
use Rattle.mh_class_pool.specs.declared.entry.Entry.TheVariants as entries
use Rattle.mh_class_pool.specs.declared.entry.Kind.TheVariants as kinds
use Rattle.mh_class_pool.specs.declared.fault.ClassKind.TheVariants.{Truncated, BadCode}
use Rattle.mh_class_pool.specs.Entries.{ClassPart, Slot, text, text_of}
use Rattle.mh_classfile.specs.declared.site.Site.{Site}
use Rattle.mh_classfile.specs.Members.{passed_contents, method_attribute, code_attribute}
use Rattle.mh_made_class.specs.declared.site.MadeSite.{MadeSite}
use Rattle.mh_made_class.specs.Layout.{sites_from}
use Rattle.mh_made_class.specs.Constants.{u2, u4}
use Rattle.mh_made_class.specs.Parts.{attribute, code_contents}
use Rattle.mh_made_class.proofs.Spelling.{u4_is, where_true}
use Rattle.mh_made_class.proofs.Standing.{HasCommon}
use Rattle.mh_made_class.proofs.InstructionSpelling.{HasCall}
use Rattle.mh_made_class.proofs.Names.{index_spelled}
use Rattle.mh_made_class.proofs.CodeContents.{run_method, sites_found, contents_spelled, contents_length}

-- a Code attribute, the first time
abbrev code_read : List Slot → ℕ → ℕ → ClassPart (Bool × List Site)
code_read pool room at = do
  once ← check true at BadCode
  sites ← code_attribute pool run_method room []
  done (true, sites)

-- another attribute
abbrev other_read : Bool × List Site → ClassPart (Bool × List Site)
other_read so_far = do
  skipped ← passed_contents Truncated
  done so_far

pub attribute_spelled : (pool : List Slot) (room at b : ℕ) (sites : List MadeSite) → HasCommon pool → length sites ≤ room → 5 * length sites + 1 < 2 ^ 16 →
    AllByRecursion (HasCall pool) (sites_from 0 b sites)
    → Spells (method_attribute pool run_method room (false, [])) at (attribute 7 (code_contents (sites_from 0 b sites)))
    (true, sites_found (sites_from 0 b sites))
unfolding method_attribute code_attribute attribute
attribute_spelled pool room at b sites c few fits calls =
    let ps = sites_from 0 b sites in
    let contents = code_contents ps in
    let len = length contents in
    let rest = u4 len ++ contents in
    let is_code : bytes_eq (text pool 7) (codes "Code") ≡ true = ap (λ s. bytes_eq (text_of s) (codes "Code")) c.code.1 in
    let found : Bool × List Site = (true, sites_found ps) in (
      at,
      [],
      u2 7 ++ rest,
      refl,
      (refl, refl),
      (
        7,
        u2 7,
        rest,
        refl,
        index_spelled Truncated pool kinds.Utf8 7 (at + 0) (entries.Utf8 (codes "Code")) c.code refl (omega arith),
        where_true (bytes_eq (text pool 7) (codes "Code")) (code_read pool room at) (other_read (false, [])) (at + 0 + 2) rest found is_code (
          tt,
          [],
          rest,
          refl,
          (refl, refl),
          (
            sites_found ps,
            rest,
            [],
            sym (append-nil rest),
            (
              len,
              u4 len,
              contents,
              refl,
              (refl, u4_is len (omega (arith, contents_length b sites))),
              (
                refl,
                contents_spelled pool room (at + 0 + 2 + 0 + 4) b
                    sites few fits calls,
              ),
            ),
            (refl, refl),
          ),
        ),
      ),
    )
