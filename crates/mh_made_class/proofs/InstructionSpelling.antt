-- An instruction of a made class is spelled: a call site, or the return at the end.
use Rattle.std.proofs.Common.{◌≡◌, ℕ, ◌+◌, ◌-◌, ◌<◌, ◌^◌, Bool, true, List, [], ◌∷◌, ◌++◌, refl}
use Rattle.mh_class_bytes.specs.Format.{Spells}
use Rattle.mh_class_pool.specs.declared.entry.Entry.TheVariants as entries
use Rattle.mh_class_pool.specs.declared.entry.Kind.TheVariants as kinds
use Rattle.mh_class_pool.specs.Entries.{Slot}
use Rattle.mh_classfile.specs.declared.site.Method.{Method}
use Rattle.mh_classfile.specs.declared.site.Site.{Site}
use Rattle.mh_classfile.specs.Code.{instruction as read_instruction, call_site, operands, ordinary, passed}
use Rattle.mh_made_class.specs.Layout.{PlacedSite}
use Rattle.mh_made_class.specs.Constants.{u2}
use Rattle.mh_made_class.specs.Parts.{instruction}
use Rattle.mh_made_class.proofs.Spelling.{u2_is}
use Rattle.mh_made_class.proofs.Lookups.{At}
use Rattle.mh_made_class.proofs.Good.{named_at}

-- the call entry of a call site, whose index fits
pub record HasCall (pool : List Slot) (p : PlacedSite) : Type 0 where
  pub call : At pool (p.first + 6) (entries.InvokeDynamic p.number (p.first + 5))
  pub fits : p.first + 6 < 2 ^ 16

abbrev pub site_found : Method → ℕ → PlacedSite → Site
site_found m pc p = record { method = m; pc = pc; index = p.first + 6 }

pub one_spelled : (pool : List Slot) (m : Method) (has_room : Bool) (start at : ℕ) (p : PlacedSite) → HasCall pool p → has_room ≡ true →
    Spells (read_instruction pool m has_room start) at (instruction p) (site_found m (at - start) p ∷ [])
unfolding read_instruction call_site operands
one_spelled pool m has_room start at p h room =
    let i = p.first + 6 in
    let rest = u2 i ++ u2 0 in (
      at,
      [],
      instruction p,
      refl,
      (refl, refl),
      (
        0xBA,
        0xBA ∷ [],
        rest,
        refl,
        (refl, refl),
        (
          site_found m (at - start) p,
          rest,
          [],
          refl,
          (
            (i, 0),
            rest,
            [],
            refl,
            (i, u2 i, u2 0, refl, (refl, u2_is i h.fits), (0, u2 0, [], refl, (refl, refl), (refl, refl))),
            (
              tt,
              [],
              [],
              refl,
              (refl, named_at pool kinds.InvokeDynamic i at (entries.InvokeDynamic p.number (p.first + 5)) h.call refl),
              (tt, [], [], refl, (refl, refl), (tt, [], [], refl, (refl, room), (refl, refl))),
            ),
          ),
          (refl, refl),
        ),
      ),
    )

pub return_spelled : (pool : List Slot) (m : Method) (has_room : Bool) (start at : ℕ) → Spells (read_instruction pool m has_room start) at (0xB1 ∷ []) []
unfolding read_instruction ordinary passed
return_spelled pool m has_room start at = (
  at,
  [],
  0xB1 ∷ [],
  refl,
  (refl, refl),
  (
    0xB1,
    0xB1 ∷ [],
    [],
    refl,
    (refl, refl),
    (
      tt,
      [],
      [],
      refl,
      ([], [], [], refl, (refl, refl), (refl, refl)),
      (refl, refl),
    ),
  ),
)
