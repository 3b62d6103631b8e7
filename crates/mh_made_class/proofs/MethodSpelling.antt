-- The names of a made class and its one method are spelled.
use Rattle.std.proofs.Common.{ℕ, ◌+◌, ◌*◌, ◌≤◌, ◌<◌, ◌^◌, Bool, true, codes, List, [], ◌++◌, length, refl, sym, arith}
use Rattle.std.proofs.lemmas.List.{append-nil}
use Rattle.std.specs.List.{AllByRecursion}
use Rattle.mh_class_bytes.specs.Format.{Spells, repeated}
use Rattle.mh_class_pool.specs.declared.entry.Entry.TheVariants as entries
use Rattle.mh_class_pool.specs.declared.entry.Kind.TheVariants as kinds
use Rattle.mh_class_pool.specs.declared.fault.ClassKind.TheVariants.{Truncated}
use Rattle.mh_class_pool.specs.Entries.{Slot}
use Rattle.mh_classfile.specs.declared.site.Site.{Site}
use Rattle.mh_classfile.specs.Members.{member, members, method}
use Rattle.mh_made_class.specs.declared.site.MadeSite.{MadeSite}
use Rattle.mh_made_class.specs.Layout.{sites_from}
use Rattle.mh_made_class.specs.Constants.{u2}
use Rattle.mh_made_class.specs.Parts.{attribute, code_contents, methods}
use Rattle.mh_made_class.specs.File.{fields}
use Rattle.mh_made_class.proofs.Standing.{HasCommon}
use Rattle.mh_made_class.proofs.InstructionSpelling.{HasCall}
use Rattle.mh_made_class.proofs.Names.{index_spelled}
use Rattle.mh_made_class.proofs.CodeContents.{run_method, sites_found}
use Rattle.mh_made_class.proofs.CodeAttribute.{attribute_spelled}

method_spelled : (pool : List Slot) (room at b : ℕ) (sites : List MadeSite) → HasCommon pool → length sites ≤ room → 5 * length sites + 1 < 2 ^ 16 →
    AllByRecursion (HasCall pool) (sites_from 0 b sites)
    → Spells (method pool room []) at (u2 0x0009 ++ u2 5 ++ u2 6 ++ u2 1 ++ attribute 7 (code_contents (sites_from 0 b sites)))
    (sites_found (sites_from 0 b sites))
unfolding method member repeated
method_spelled pool room at b sites c few fits calls =
    let ps = sites_from 0 b sites in
    let last = attribute 7 (code_contents ps) in
    let found : Bool × List Site = (true, sites_found ps) in (
      run_method,
      u2 0x0009 ++ u2 5 ++ u2 6,
      u2 1 ++ last,
      refl,
      (
        0x0009,
        u2 0x0009,
        u2 5 ++ u2 6,
        refl,
        (refl, refl),
        (
          5,
          u2 5,
          u2 6,
          refl,
          index_spelled Truncated pool kinds.Utf8 5 (at + 2) (entries.Utf8 (codes "run")) c.run refl (omega arith),
          (6, u2 6, [], refl, index_spelled Truncated pool kinds.Utf8 6 (at + 2 + 2) (entries.Utf8 (codes "()V")) c.run_type refl (omega arith), (refl, refl)),
        ),
      ),
      (
        1,
        u2 1,
        last,
        refl,
        (refl, refl),
        (
          found,
          last,
          [],
          sym (append-nil last),
          (
            found,
            last,
            [],
            sym (append-nil last),
            attribute_spelled pool room (at + 6 + 2) b sites c few fits calls,
            (refl, refl),
          ),
          (refl, refl),
        ),
      ),
    )

pub members_spelled : (pool : List Slot) (room at b : ℕ) (sites : List MadeSite) → HasCommon pool → length sites ≤ room → 5 * length sites + 1 < 2 ^ 16 →
    AllByRecursion (HasCall pool) (sites_from 0 b sites)
    → Spells (members pool room) at (fields ++ methods (sites_from 0 b sites)) (sites_found (sites_from 0 b sites))
unfolding members methods repeated
members_spelled pool room at b sites c few fits calls =
    let ps = sites_from 0 b sites in
    let one = u2 0x0009 ++ u2 5 ++ u2 6 ++ u2 1 ++ attribute 7 (code_contents ps) in (
      0,
      u2 0,
      u2 1 ++ one,
      refl,
      (refl, refl),
      (
        tt,
        [],
        u2 1 ++ one,
        refl,
        (refl, refl),
        (
          1,
          u2 1,
          one,
          refl,
          (refl, refl),
          (sites_found ps, one, [], sym (append-nil one), method_spelled pool room (at + 2 + 0 + 2) b sites c few fits calls, (refl, refl)),
        ),
      ),
    )
