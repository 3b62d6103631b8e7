-- Indexes that name an entry, and the names of a made class.
use Rattle.std.proofs.Common.{◌≡◌, ℕ, ◌+◌, ◌<◌, ◌^◌, true, List, [], ◌++◌, refl, arith}
use Rattle.mh_class_bytes.specs.Format.{Spells, repeated}
use Rattle.mh_class_pool.specs.declared.entry.Entry.{Entry}
use Rattle.mh_class_pool.specs.declared.entry.Entry.TheVariants as entries
use Rattle.mh_class_pool.specs.declared.entry.Kind.{Kind}
use Rattle.mh_class_pool.specs.declared.entry.Kind.TheVariants as kinds
use Rattle.mh_class_pool.specs.declared.fault.ClassKind.{ClassKind}
use Rattle.mh_class_pool.specs.declared.fault.ClassKind.TheVariants.{Truncated}
use Rattle.mh_class_pool.specs.Entries.{Slot, is_kind}
use Rattle.mh_classfile.specs.Members.{named_index, class_names as read_class_names}
use Rattle.mh_made_class.specs.Constants.{u2}
use Rattle.mh_made_class.specs.File.{class_names}
use Rattle.mh_made_class.proofs.Spelling.{u2_is}
use Rattle.mh_made_class.proofs.Lookups.{At}
use Rattle.mh_made_class.proofs.Standing.{HasCommon}
use Rattle.mh_made_class.proofs.Good.{named_at}

pub index_spelled : (short : ClassKind) (pool : List Slot) (kind : Kind) (i at : ℕ) (e : Entry) → At pool i e → is_kind kind e ≡ true → i < 2 ^ 16 →
    Spells (named_index short pool kind) at (u2 i) i
unfolding named_index
index_spelled short pool kind i at e s k lt =
    (at, [], u2 i, refl, (refl, refl), (i, u2 i, [], refl, (refl, u2_is i lt), (tt, [], [], refl, (refl, named_at pool kind i at e s k), (refl, refl))))

pub class_names_spelled : (pool : List Slot) (at : ℕ) → HasCommon pool → Spells (read_class_names pool) at class_names tt
unfolding read_class_names repeated
class_names_spelled pool at c = (
  0x21,
  u2 0x21,
  u2 2 ++ u2 4 ++ u2 0,
  refl,
  (refl, refl),
  (
    2,
    u2 2,
    u2 4 ++ u2 0,
    refl,
    index_spelled Truncated pool kinds.Class 2 (at + 2) (entries.Class 1) c.main refl (omega arith),
    (
      at + 2 + 2,
      [],
      u2 4 ++ u2 0,
      refl,
      (refl, refl),
      (
        4,
        u2 4,
        u2 0,
        refl,
        (refl, refl),
        (
          tt,
          [],
          u2 0,
          refl,
          (refl, named_at pool kinds.Class 4 (at + 2 + 2) (entries.Class 3) c.object refl),
          (0, u2 0, [], refl, (refl, refl), (refl, refl)),
        ),
      ),
    ),
  ),
)
