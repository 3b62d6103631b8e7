-- The fault of a text is the first place at which it continues none of its language.
use Rattle.std.proofs.Common.{◌≡◌, refl, sym, ap, subst, ◌∙◌, suc, ℕ, ◌+◌, ◌<◌, ◌≤◌, true, false, if◌then◌else◌, List, [], ◌∷◌, ◌++◌, length, take, inl, inr, Option, None, Some, arith}
use Rattle.std.proofs.lemmas.Bool.{cases_Bool}
use Rattle.std.specs.Option.{option_map_or}
use Rattle.mh_base.proofs.Inversion.{some_is}
use Rattle.mh_values.specs.declared.descriptor.Place.{Place}
use Rattle.mh_values.specs.declared.descriptor.Place.TheVariants as place
use Rattle.mh_values.specs.declared.descriptor.Standing.{Standing}
use Rattle.mh_values.specs.declared.descriptor.Standing.TheVariants as standing
use Rattle.mh_values.specs.Grammar.{after_type, next, is_end, first_bad, descriptor_fault, type_fault, types_fault}
use Rattle.mh_values.specs.Spelling.{IsFirstBad, IsMethodDescriptor, IsTypeText, AreTypeTexts}
use Rattle.mh_values.proofs.Beginnings.{Accepts, accepts_on}
use Rattle.mh_values.proofs.Complete.{descriptor_complete, type_complete, types_complete}
use Rattle.mh_values.proofs.Sound.{descriptor_sound, type_sound, types_sound}

-- ---- from each place some text goes on to its end

accepts_after : (p : Place) → (rest : List ℕ) × Accepts (after_type p) rest
accepts_after (place.Parameter n) = (41 ∷ 86 ∷ [], λ at. refl)
accepts_after place.Listed = ([], λ at. refl)
accepts_after place.Last = ([], λ at. refl)

accepts_from : (s : Standing) → (rest : List ℕ) × Accepts s rest
accepts_from standing.Front = (40 ∷ 41 ∷ 86 ∷ [], λ at. refl)
accepts_from (standing.Parameters n) = (41 ∷ 86 ∷ [], λ at. refl)
accepts_from standing.Close = (86 ∷ [], λ at. refl)
accepts_from standing.Alone = (73 ∷ [], λ at. refl)
accepts_from (standing.Types some) = (73 ∷ [], λ at. refl)
accepts_from (standing.Dimensions p k) = let rest = accepts_after p in (73 ∷ rest.0, accepts_on (standing.Dimensions p k) (after_type p) 73 rest.0 refl rest.1)
accepts_from (standing.Name p has) =
    let rest = accepts_after p in (
      97 ∷ 59 ∷ rest.0,
      accepts_on (standing.Name p has) (standing.Name p true) 97 (59 ∷ rest.0) refl (accepts_on (standing.Name p true) (after_type p) 59 rest.0
          refl rest.1),
    )
accepts_from standing.End = ([], λ at. refl)

-- ---- where a text goes wrong

-- what is known where a text goes wrong, from where it stands on
record GoesWrong (s : Standing) (text : List ℕ) (n : ℕ) : Type 0 where
  within : n ≤ length text
  before : (rest : List ℕ) × Accepts s (take n text ++ rest)
  here : n < length text → (rest : List ℕ) (at : ℕ) → first_bad at s (take (n + 1) text ++ rest) ≡ None → ⊥

wrong_here : (s : Standing) (b : ℕ) (bs : List ℕ) → next s b ≡ None → GoesWrong s (b ∷ bs) 0
wrong_here s b bs told = record {
  within = omega arith;
  before = accepts_from s;
  here = λ h rest at none.
      let wrong : first_bad at s (b ∷ rest) ≡ Some at = ap (λ o. option_map_or (λ n. first_bad (at + 1) n rest) o (Some at)) told in
      cc;
}

wrong_later : (s n : Standing) (b : ℕ) (bs : List ℕ) (k : ℕ) → next s b ≡ Some n → GoesWrong n bs k → GoesWrong s (b ∷ bs) (suc k)
wrong_later s n b bs k told wrong = record {
  within = omega (arith, wrong.within);
  before = (wrong.before.0, accepts_on s n b (take k bs ++ wrong.before.0) told wrong.before.1);
  here = λ h rest at none.
      let shorter : k < length bs = omega arith in
      let later : first_bad at s (take (suc k + 1) (b ∷ bs) ++ rest) ≡ first_bad (at + 1) n (take (k + 1) bs ++ rest) =
      ap (λ j. first_bad at s (take j (b ∷ bs) ++ rest)) one_more ∙ ap (λ o. option_map_or (λ m. first_bad (at + 1) m (take (k + 1) bs ++ rest)) o (Some at))
      told in
      wrong.here shorter rest (at + 1) (sym later ∙ none);
}
  where
    one_more : suc k + 1 ≡ suc (k + 1)
    one_more = omega arith

wrong_end : (s : Standing) → GoesWrong s [] 0
wrong_end s = record {
  within = omega arith;
  before = accepts_from s;
  here = λ h rest at none. absurd (omega (arith, h));
}

at_end : (s : Standing) (at p : ℕ) → (if is_end s then None else Some at) ≡ Some p → p ≡ at + 0
at_end s at p told =
    elim (cases_Bool (is_end s)) [
      | inl e ↦ let is : None ≡ Some p = sym (ap (λ t. if t then None else Some at) e) ∙ told in cc
      | inr e ↦ let is : Some at ≡ Some p = sym (ap (λ t. if t then None else Some at) e) ∙ told in omega (arith, some_is at p is)
    ]

wrong_on : (s : Standing) (b : ℕ) (bs : List ℕ) (at p : ℕ) (o : Option Standing) → next s b ≡ o → ((n : Standing) → first_bad (at + 1) n bs ≡ Some p →
    (k : ℕ) × (p ≡ at + 1 + k) × GoesWrong n bs k) → option_map_or (λ n. first_bad (at + 1) n bs) o (Some at) ≡ Some p → (k : ℕ) × (p ≡ at + k)
    × GoesWrong s (b ∷ bs) k
wrong_on s b bs at p None told more is = (0, omega (arith, some_is at p is), wrong_here s b bs told)
wrong_on s b bs at p (Some n) told more is =
    let later = more n is in
    (suc later.0, omega (arith, later.1), wrong_later s n b bs later.0 told later.2)

goes_wrong : (text : List ℕ) (at : ℕ) (s : Standing) (p : ℕ) → first_bad at s text ≡ Some p → (k : ℕ) × (p ≡ at + k) × GoesWrong s text k
goes_wrong [] at s p told = (0, at_end s at p told, wrong_end s)
goes_wrong (b ∷ bs) at s p told = wrong_on s b bs at p (next s b) refl (λ n h. goes_wrong bs (at + 1) n p h) told

-- the fault of a text is its first bad place, where the texts of a language are those that have none
first_bad_of : (Is : List ℕ → Type 0) (start : Standing) → ((text : List ℕ) → first_bad 0 start text ≡ None → Is text) →
    ((text : List ℕ) → Is text → first_bad 0 start text ≡ None) → (text : List ℕ) (p : ℕ) → first_bad 0 start text ≡ Some p → IsFirstBad Is text p
first_bad_of Is start sound complete text p told =
    let wrong = goes_wrong text 0 start p told in
    let n : ℕ = wrong.0 in
    let same : n ≡ p = omega (arith, wrong.1) in
    subst (IsFirstBad Is text) same (record {
      within = wrong.2.within;
      before = (wrong.2.before.0, sound (take n text ++ wrong.2.before.0) (wrong.2.before.1 0));
      here = λ h rest d. wrong.2.here h rest 0 (complete (take (n + 1) text ++ rest) d);
      none = λ d. let none = complete text d in cc;
    })

pub descriptor_first_bad : (text : List ℕ) (p : ℕ) → descriptor_fault text ≡ Some p → IsFirstBad IsMethodDescriptor text p
descriptor_first_bad = first_bad_of IsMethodDescriptor standing.Front descriptor_sound descriptor_complete

pub type_first_bad : (text : List ℕ) (p : ℕ) → type_fault text ≡ Some p → IsFirstBad IsTypeText text p
type_first_bad = first_bad_of IsTypeText standing.Alone type_sound type_complete

pub types_first_bad : (text : List ℕ) (p : ℕ) → types_fault text ≡ Some p → IsFirstBad AreTypeTexts text p
types_first_bad = first_bad_of AreTypeTexts (standing.Types false) types_sound types_complete
