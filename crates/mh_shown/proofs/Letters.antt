-- The texts of basic types, of lists of them and of shapes end by themselves.
use Rattle.std.proofs.Common.{◌≡◌, refl, sym, ◌∙◌, ap, ℕ, ◌==◌, false, List, [], ◌∷◌, ◌++◌, flat_map, drop, append_assoc, None, Some}
use Rattle.mh_form.specs.declared.basic.Basic.TheVariants.{L, I, J}
use Rattle.mh_form.specs.declared.basic.BasicRet.TheVariants.{V, Is}
use Rattle.mh_edit.specs.declared.key.RetEntry.TheVariants.{Keep, New}
use Rattle.mh_shown.specs.KeyText.{basic_text, basics_text, ret_text, shape_text, entry_text, entries_text, ret_entry_text}
use Rattle.mh_shown.proofs.Cuts.{Cuts, Avoids, apart, list-cut}

pub basic-cut : Cuts basic_text
basic-cut L L r s e = (refl, ap (drop 1) e)
basic-cut I I r s e = (refl, ap (drop 1) e)
basic-cut J J r s e = (refl, ap (drop 1) e)
basic-cut a b r s e = absurd (apart (basic_text a ++ r) (basic_text b ++ s) refl e)

-- no letter of a basic type is this character
pub basic-avoids : (c : ℕ) → (76 == c) ≡ false → (73 == c) ≡ false → (74 == c) ≡ false → Avoids c basic_text
basic-avoids c l i j L r s e = apart (76 ∷ r) (c ∷ s) l e
basic-avoids c l i j I r s e = apart (73 ∷ r) (c ∷ s) i e
basic-avoids c l i j J r s e = apart (74 ∷ r) (c ∷ s) j e

pub ret-cut : Cuts ret_text
ret-cut V V r s e = (refl, ap (drop 1) e)
ret-cut V (Is b) r s e = absurd (basic-avoids 86 refl refl refl b s r (sym e))
ret-cut (Is a) V r s e = absurd (basic-avoids 86 refl refl refl a r s e)
ret-cut (Is a) (Is b) r s e = let k = basic-cut a b r s e in (ap Is k.0, k.1)

pub ret-avoids : Avoids 45 ret_text
ret-avoids V r s e = apart (86 ∷ r) (45 ∷ s) refl e
ret-avoids (Is a) r s e = basic-avoids 45 refl refl refl a r s e

-- a list in parentheses
parens-cut : {A : Type 0} (f : A → List ℕ) → Cuts f → Avoids 41 f → Cuts (λ xs. 40 ∷ (flat_map f xs ++ 41 ∷ []))
parens-cut f cuts avoids xs ys r s e =
    list-cut f cuts avoids xs ys r s
    (sym (append_assoc (flat_map f xs) (41 ∷ []) r) ∙ ap (drop 1) e ∙ append_assoc (flat_map f ys) (41 ∷ []) s)

pub basics-cut : Cuts basics_text
basics-cut = parens-cut basic_text basic-cut (basic-avoids 41 refl refl refl)

pub shape-cut : Cuts shape_text
shape-cut a b r s e =
    let k = basics-cut a.params b.params (ret_text a.ret ++ r) (ret_text b.ret ++ s)
    (sym (append_assoc (basics_text a.params) (ret_text a.ret) r) ∙ e ∙ append_assoc (basics_text b.params) (ret_text b.ret) s) in
    let m = ret-cut a.ret b.ret r s k.1 in
    (ap (λ params. record { params = params; ret = a.ret }) k.0 ∙ ap (λ ret. record { params = b.params; ret = ret }) m.0, m.1)

entry-cut : Cuts entry_text
entry-cut None None r s e = (refl, ap (drop 1) e)
entry-cut None (Some b) r s e = absurd (basic-avoids 45 refl refl refl b s r (sym e))
entry-cut (Some a) None r s e = absurd (basic-avoids 45 refl refl refl a r s e)
entry-cut (Some a) (Some b) r s e = let k = basic-cut a b r s e in (ap Some k.0, k.1)

entry-avoids : Avoids 41 entry_text
entry-avoids None r s e = apart (45 ∷ r) (41 ∷ s) refl e
entry-avoids (Some a) r s e = basic-avoids 41 refl refl refl a r s e

pub entries-cut : Cuts entries_text
entries-cut = parens-cut entry_text entry-cut entry-avoids

pub ret_entry-cut : Cuts ret_entry_text
ret_entry-cut Keep Keep r s e = (refl, ap (drop 1) e)
ret_entry-cut Keep (New b) r s e = absurd (ret-avoids b s r (sym e))
ret_entry-cut (New a) Keep r s e = absurd (ret-avoids a r s e)
ret_entry-cut (New a) (New b) r s e = let k = ret-cut a b r s e in (ap New k.0, k.1)
