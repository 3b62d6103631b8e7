-- An entry of the pool is spelled by the bytes that are written of it.
use Rattle.std.proofs.Common.{◌≡◌, ℕ, ◌+◌, ◌<◌, ◌^◌, Bool, true, false, not, ◌&&◌, ◌==◌, List, [], ◌∷◌, ◌++◌, length, refl, sym, ap}
use Rattle.std.proofs.lemmas.Bool.{eq-eqb}
use Rattle.std.proofs.lemmas.List.{append-nil}
use Rattle.byteorder.specs.Endian.{big_number}
use Rattle.mh_class_bytes.specs.Mutf8.{sound_len}
use Rattle.mh_class_bytes.specs.Format.{Spells, choose}
use Rattle.mh_class_pool.specs.declared.entry.Entry.{Entry}
use Rattle.mh_class_pool.specs.declared.entry.Entry.TheVariants as entries
use Rattle.mh_class_pool.specs.Tags.{CONSTANT_Dynamic}
use Rattle.mh_class_pool.specs.Entries.{entry, utf8, utf8_bytes, contents, numeric, named, paired, handle, is_wide, is_wide_tag}
use Rattle.mh_made_class.specs.Constants.{u2, u4, entry_bytes}
use Rattle.mh_made_class.proofs.Spelling.{u2_is, u4_is}

-- an entry whose numbers fit, and whose text is one
abbrev pub IsWritableEntry : Entry → Type 0
IsWritableEntry (entries.Utf8 text) = (sound_len text ≡ length text) × (length text < 2 ^ 16)
IsWritableEntry (entries.Integer n) = n < 2 ^ 32
IsWritableEntry (entries.Long high low) = (high < 2 ^ 32) × (low < 2 ^ 32)
IsWritableEntry (entries.Class name) = name < 2 ^ 16
IsWritableEntry (entries.Str text) = text < 2 ^ 16
IsWritableEntry (entries.Methodref class name) = (class < 2 ^ 16) × (name < 2 ^ 16)
IsWritableEntry (entries.NameAndType name descriptor) = (name < 2 ^ 16) × (descriptor < 2 ^ 16)
IsWritableEntry (entries.MethodHandle kind reference) = (kind ≡ 6) × (reference < 2 ^ 16)
IsWritableEntry (entries.InvokeDynamic bootstrap name) = (bootstrap < 2 ^ 16) × (name < 2 ^ 16)
IsWritableEntry _ = ⊥

-- What is spelled after a tag but that of a Dynamic entry is an entry, at any index but the last for one that takes two.
after_tag : (is_last is_full : Bool) (at tag : ℕ) (rest : List ℕ) (e : Entry) → tag ≡ big_number 1 (tag ∷ []) → (is_last && is_wide_tag tag) ≡ false →
    (tag == CONSTANT_Dynamic) ≡ false → Spells (choose (tag == 1) utf8 (contents tag at)) (at + 0 + 1 + 0 + 0) rest e →
    Spells (entry is_last is_full) at (tag ∷ rest) e
unfolding entry
after_tag is_last is_full at tag rest e is last other inside = (
  at,
  [],
  tag ∷ rest,
  refl,
  (refl, refl),
  (
    tag,
    tag ∷ [],
    rest,
    refl,
    (refl, is),
    (tt, [], rest, refl, (refl, ap not last), (tt, [], rest, refl, (refl, ap not (few is_full)), inside)),
  ),
)
  where
    few : (full : Bool) → (full && (tag == CONSTANT_Dynamic)) ≡ false
    few true = other
    few false = refl

text_spelled : (at : ℕ) (text : List ℕ) → IsWritableEntry (entries.Utf8 text) → Spells utf8 at (u2 (length text) ++ text) (entries.Utf8 text)
unfolding utf8 utf8_bytes
text_spelled at text w =
    let all = u2 (length text) ++ text in (
      at,
      [],
      all,
      refl,
      (refl, refl),
      (
        text,
        all,
        [],
        sym (append-nil all),
        (length text, u2 (length text), text, refl, (refl, u2_is (length text) w.1), (refl, refl)),
        (tt, [], [], refl, (refl, eq-eqb _ _ w.0), (refl, refl)),
      ),
    )

-- An entry is spelled by its bytes, at any index but the last for one that takes two.
pub entry_spelled : (is_last is_full : Bool) (at : ℕ) (e : Entry) → IsWritableEntry e → (is_last && is_wide e) ≡ false →
    Spells (entry is_last is_full) at (entry_bytes e) e
unfolding entry_bytes contents numeric named paired handle
entry_spelled is_last is_full at (entries.Utf8 text) w last =
    after_tag is_last is_full at 1 (u2 (length text) ++ text) (entries.Utf8 text) refl last refl (text_spelled (at + 0 + 1 + 0 + 0) text w)
entry_spelled is_last is_full at (entries.Integer n) w last =
    after_tag is_last is_full at 3 (u4 n) (entries.Integer n) refl last refl (n, u4 n, [], refl, (refl, u4_is n w), (refl, refl))
entry_spelled is_last is_full at (entries.Long high low) w last =
    after_tag is_last is_full at 5 (u4 high ++ u4 low) (entries.Long high low) refl last refl
    (high, u4 high, u4 low, refl, (refl, u4_is high w.0), (low, u4 low, [], refl, (refl, u4_is low w.1), (refl, refl)))
entry_spelled is_last is_full at (entries.Class name) w last =
    after_tag is_last is_full at 7 (u2 name) (entries.Class name) refl last refl (name, u2 name, [], refl, (refl, u2_is name w), (refl, refl))
entry_spelled is_last is_full at (entries.Str text) w last =
    after_tag is_last is_full at 8 (u2 text) (entries.Str text) refl last refl (text, u2 text, [], refl, (refl, u2_is text w), (refl, refl))
entry_spelled is_last is_full at (entries.Methodref class name) w last =
    after_tag is_last is_full at 10 (u2 class ++ u2 name) (entries.Methodref class name) refl last refl
    (class, u2 class, u2 name, refl, (refl, u2_is class w.0), (name, u2 name, [], refl, (refl, u2_is name w.1), (refl, refl)))
entry_spelled is_last is_full at (entries.NameAndType name descriptor) w last =
    after_tag is_last is_full at 12 (u2 name ++ u2 descriptor) (entries.NameAndType name descriptor) refl last refl
    (name, u2 name, u2 descriptor, refl, (refl, u2_is name w.0), (descriptor, u2 descriptor, [], refl, (refl, u2_is descriptor w.1), (refl, refl)))
entry_spelled is_last is_full at (entries.MethodHandle kind reference) w last =
    after_tag is_last is_full at 15 (kind ∷ u2 reference) (entries.MethodHandle kind reference) refl last refl
    (kind, kind ∷ [], u2 reference, refl, (refl, rw (w.0) refl), (reference, u2 reference, [], refl, (refl, u2_is reference w.1), (refl, refl)))
entry_spelled is_last is_full at (entries.InvokeDynamic bootstrap name) w last =
    after_tag is_last is_full at 18 (u2 bootstrap ++ u2 name) (entries.InvokeDynamic bootstrap name) refl last refl
    (bootstrap, u2 bootstrap, u2 name, refl, (refl, u2_is bootstrap w.0), (name, u2 name, [], refl, (refl, u2_is name w.1), (refl, refl)))
entry_spelled is_last is_full at entries.Float w last = absurd w
entry_spelled is_last is_full at entries.Double w last = absurd w
entry_spelled is_last is_full at (entries.Fieldref class name) w last = absurd w
entry_spelled is_last is_full at (entries.InterfaceMethodref class name) w last = absurd w
entry_spelled is_last is_full at (entries.MethodType name) w last = absurd w
entry_spelled is_last is_full at (entries.Dynamic bootstrap name) w last = absurd w
entry_spelled is_last is_full at (entries.Module name) w last = absurd w
entry_spelled is_last is_full at (entries.Package name) w last = absurd w
