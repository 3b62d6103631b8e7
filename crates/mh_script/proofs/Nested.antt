-- Maps whose keys are texts, one within another: what is found where one key of each is written.
use Rattle.std.proofs.Common.{◌≡◌, sym, ap, subst, ◌∙◌, inl, inr, ℕ, Bool, ◌&&◌, ◌||◌, cond, List, Option, None, Some, option_and_then}
use Rattle.std.proofs.lemmas.Bool.{cases_Bool}
use Rattle.std.proofs.lemmas.Slice.Eq.{bytes_eq-Decides}
use Rattle.std.specs.BTreeMap.{BTreeMap}
use Rattle.std.specs.Global.{Vec}
use Rattle.std.specs.Option.{is_some}
use Rattle.std.specs.Str.{bytes_eq}
use Rattle.mh_base.specs.TextMaps.{at_text, WritesText}
use Rattle.mh_base.proofs.TextMaps.{at_text-other}

-- what a map has at a text after another text was written
pub at_text-written : {X : Type 0} (old new : BTreeMap (Vec ℕ) X) (key text : List ℕ) (there : Option X) → WritesText old new key there →
    at_text new text ≡ cond (bytes_eq key text) there (at_text old text)
at_text-written old new key text there h =
    elim (cases_Bool (bytes_eq key text)) [
      | inl e ↦
          let is : key ≡ text = (bytes_eq-Decides key text).0 e in
          subst (λ l. at_text new l ≡ there) is h.1 ∙ ap (λ b. cond b there (at_text old text)) (sym e)
      | inr e ↦ at_text-other old new key text there h e ∙ ap (λ b. cond b there (at_text old text)) (sym e)
    ]

-- what is found within the map of a key that was taken out and put in again
pub found-within : {X : Type 0} (old rest new : BTreeMap (Vec ℕ) X) (key text : List ℕ) (inner : X) (find : X → Option ℕ) (test : Bool) (n : ℕ) →
    WritesText old rest key None → WritesText rest new key (Some inner) → find inner ≡ cond test (Some n) (option_and_then find (at_text old key)) →
    option_and_then find (at_text new text) ≡ cond (bytes_eq key text && test) (Some n) (option_and_then find (at_text old text))
found-within old rest new key text inner find test n taken put here =
    elim (cases_Bool (bytes_eq key text)) [
      | inl e ↦
          let is : key ≡ text = (bytes_eq-Decides key text).0 e in
          ap (option_and_then find) (at_text-written rest new key text (Some inner) put ∙ ap (λ b. cond b (Some inner) (at_text rest text)) e)
          ∙ here ∙ ap (λ l. cond test (Some n) (option_and_then find (at_text old l))) is
          ∙ sym (ap (λ b. cond (b && test) (Some n) (option_and_then find (at_text old text))) e)
      | inr e ↦
          ap (option_and_then find) (at_text-written rest new key text (Some inner) put ∙ ap (λ b. cond b (Some inner) (at_text rest text)) e
          ∙ at_text-written old rest key text None taken ∙ ap (λ b. cond b None (at_text old text)) e)
          ∙ sym (ap (λ b. cond (b && test) (Some n) (option_and_then find (at_text old text))) e)
    ]

-- something stands under the key of a map that was taken out and put in again
pub known-within : {X : Type 0} (old rest new : BTreeMap (Vec ℕ) X) (key text : List ℕ) (inner : X) → WritesText old rest key None →
    WritesText rest new key (Some inner) → is_some (at_text new text) ≡ (bytes_eq key text || is_some (at_text old text))
known-within old rest new key text inner taken put =
    elim (cases_Bool (bytes_eq key text)) [
      | inl e ↦
          ap is_some (at_text-written rest new key text (Some inner) put ∙ ap (λ b. cond b (Some inner) (at_text rest text)) e)
          ∙ sym (ap (λ b. b || is_some (at_text old text)) e)
      | inr e ↦
          ap is_some (at_text-written rest new key text (Some inner) put ∙ ap (λ b. cond b (Some inner) (at_text rest text)) e
          ∙ at_text-written old rest key text None taken ∙ ap (λ b. cond b None (at_text old text)) e)
          ∙ sym (ap (λ b. b || is_some (at_text old text)) e)
    ]
