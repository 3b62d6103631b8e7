-- References that were read are written as their tokens.
use Rattle.std.proofs.Common.{◌≡◌, sym, ap, ◌∙◌, ℕ, ◌&&◌, List, ◌∷◌, ◌++◌, codes, Option, Some, option_and_then, append_assoc}
use Rattle.mh_base.specs.Ascii.{colon, full_stop}
use Rattle.mh_base.specs.Lines.{cut_at}
use Rattle.mh_texts.proofs.Cuts.{cut_is}
use Rattle.mh_base.proofs.Inversion.{then_some, if_some}
use Rattle.mh_leaves.specs.Reference.{Texts, is_class_name, is_method_name, if_named, reference_of, reference_text}

in_parts : (owner name descriptor : List ℕ) →
    owner ++ codes "." ++ name ++ codes ":" ++ descriptor ≡ owner ++ full_stop ∷ (name ++ colon ∷ descriptor)
in_parts owner name descriptor =
    append_assoc (owner ++ codes "." ++ name) (codes ":") descriptor
    ∙ append_assoc (owner ++ codes ".") name (colon ∷ descriptor)
    ∙ append_assoc owner (codes ".") (name ++ colon ∷ descriptor)

-- `OWNER.NAME:DESC`
pub reference-text : (token : List ℕ) (texts : Texts) → reference_of token ≡ Some texts → reference_text texts ≡ token
reference-text token texts h =
    let named : List ℕ × List ℕ → List ℕ × List ℕ → Option Texts = λ front back.
    if_named (record { owner = front.0; name = back.0; descriptor = back.1 }) in
    let front = then_some (λ f. option_and_then (named f) (cut_at colon f.1)) (cut_at full_stop token) texts h in
    let back = then_some (named front.0) (cut_at colon front.0.1) texts front.2 in
    let are = if_some (is_class_name front.0.0 && is_method_name back.0.0)
    (record { owner = front.0.0; name = back.0.0; descriptor = back.0.1 }) texts back.2 in
    ap reference_text (sym are.1)
    ∙ in_parts front.0.0 back.0.0 back.0.1
    ∙ ap (λ t. front.0.0 ++ full_stop ∷ t) (sym (cut_is colon front.0.1 back.0 back.1).0)
    ∙ sym (cut_is full_stop token front.0 front.1).0
