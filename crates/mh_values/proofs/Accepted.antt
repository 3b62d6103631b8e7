-- The first byte of a type, and what is then spelled.
use Rattle.std.proofs.Common.{◌≡◌, refl, sym, ap, subst, ◌∙◌, suc, ℕ, ◌==◌, inl, inr, false, if◌then◌else◌, lit≤, List, [], ◌∷◌, ◌++◌, replicate, None, Some, append_assoc, arith}
use Rattle.std.proofs.lemmas.Bool.{cases_Bool, eqb-true, ne_eqb}
use Rattle.mh_base.proofs.Inversion.{some_is}
use Rattle.mh_values.specs.declared.descriptor.Place.{Place}
use Rattle.mh_values.specs.declared.descriptor.Place.TheVariants as place
use Rattle.mh_values.specs.declared.descriptor.Standing.{Standing}
use Rattle.mh_values.specs.declared.descriptor.Standing.TheVariants as standing
use Rattle.mh_values.specs.Grammar.{is_base, after_type, element, begun, slots_from}
use Rattle.mh_values.specs.Spelling.{Element, element_slots, letter, named, element_text, IsElement, spelled_slots}
use Rattle.mh_values.proofs.Goes.{After, DimensionsFrom, NameFrom, Goes, BeginsType}

-- ---- one byte more

pub after_whole : (p : Place) (text : List ℕ) → Goes (after_type p) text → After p text
after_whole (place.Parameter n) text h = h
after_whole place.Listed text h = h
after_whole place.Last text h = h

-- an element that begins with a byte
pub record BeginsElement (p : Place) (b : ℕ) (text : List ℕ) : Type 0 where
  pub element : Element
  pub rest : List ℕ
  pub good : IsElement element
  pub slots : slots_from b ≡ spelled_slots (record { dimensions = 0; element = element })
  pub after : After p rest
  pub is : text ≡ element_text element ++ rest

pub begins_element : (p : Place) (b : ℕ) (bs : List ℕ) (s : Standing) → element p b ≡ Some s → Goes s bs → BeginsElement p b (b ∷ bs)
begins_element p b bs s told goes =
    elim (cases_Bool (b == 76)) [
      | inl e ↦
          let is : Some (standing.Name p false) ≡ Some s =
          sym (ap (λ t. if t then Some (standing.Name p false) else (if is_base b then Some (after_type p) else None)) e) ∙ told in
          let n : NameFrom p false bs = subst (λ t. Goes t bs) (sym (some_is _ _ is)) goes in
          record {
            element = named n.name;
            rest = n.rest;
            good = (n.one refl, n.good);
            slots = ap slots_from (eqb-true b 76 e);
            after = n.after;
            is = ap (λ c. c ∷ bs) (eqb-true b 76 e) ∙ ap (λ t. 76 ∷ t) (n.is ∙ sym (append_assoc n.name (59 ∷ []) n.rest));
          }
      | inr e ↦ elim (cases_Bool (is_base b)) [
        | inl base ↦
            let is : Some (after_type p) ≡ Some s = sym (ap (λ t. if t then Some (standing.Name p false) else (if is_base b then Some (after_type p) else None))
            e ∙
            ap (λ t. if t then Some (after_type p) else None) base) ∙ told in
            record {
              element = letter b;
              rest = bs;
              good = base;
              slots = refl;
              after = after_whole p bs (subst (λ t. Goes t bs) (sym (some_is _ _ is)) goes);
              is = refl;
            }
        | inr base ↦
            let is : None ≡ Some s = sym (ap (λ t. if t then Some (standing.Name p false) else (if is_base b then Some (after_type p) else None)) e ∙
            ap (λ t. if t then Some (after_type p) else None) base) ∙ told in
            cc
      ]
    ]

-- an array takes one slot
array_slots : (m : ℕ) (e : Element) → 1 ≡ spelled_slots (record { dimensions = suc m; element = e })
array_slots m e = sym (ap (λ t. if t then element_slots e else 1) (ne_eqb (suc m) 0 (λ h. cc)))

pub begins_type : (p : Place) (b : ℕ) (bs : List ℕ) (s : Standing) → begun p b ≡ Some s → Goes s bs → BeginsType p b (b ∷ bs)
begins_type p b bs s told goes =
    elim (cases_Bool (b == 91)) [
      | inl e ↦
          let is : Some (standing.Dimensions p 1) ≡ Some s = sym (ap (λ t. if t then Some (standing.Dimensions p 1) else element p b) e) ∙ told in
          let d : DimensionsFrom p 1 bs = subst (λ t. Goes t bs) (sym (some_is _ _ is)) goes in
          record {
            type = record { dimensions = suc d.more; element = d.element };
            rest = d.rest;
            good = (omega (arith, d.few (lit≤ tt)), d.good);
            slots = ap slots_from (eqb-true b 91 e) ∙ array_slots d.more d.element;
            after = d.after;
            is = ap (λ c. c ∷ bs) (eqb-true b 91 e) ∙ ap (λ t. 91 ∷ t) (d.is ∙ sym (append_assoc (replicate d.more 91) (element_text d.element) d.rest));
          }
      | inr e ↦
          let begins = begins_element p b bs s (sym (ap (λ t. if t then Some (standing.Dimensions p 1) else element p b) e) ∙ told) goes in
          record {
            type = record { dimensions = 0; element = begins.element };
            rest = begins.rest;
            good = (lit≤ tt, begins.good);
            slots = begins.slots;
            after = begins.after;
            is = begins.is;
          }
    ]
