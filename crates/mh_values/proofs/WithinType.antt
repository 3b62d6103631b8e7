-- One byte more of a text, within a type: what is then spelled.
use Rattle.std.proofs.Common.{◌≡◌, refl, sym, ap, subst, ◌∙◌, suc, ℕ, ◌+◌, ◌==◌, inl, inr, Bool, true, ◌||◌, if◌then◌else◌, nat_le, List, [], ◌∷◌, None, Some, arith}
use Rattle.std.proofs.lemmas.Bool.{cases_Bool, eqb-true, leb-true, and_from, not_from_false, or_from}
use Rattle.std.specs.List.{list_all}
use Rattle.mh_base.proofs.Inversion.{some_is}
use Rattle.mh_values.specs.declared.descriptor.Place.{Place}
use Rattle.mh_values.specs.declared.descriptor.Standing.{Standing}
use Rattle.mh_values.specs.declared.descriptor.Standing.TheVariants as standing
use Rattle.mh_values.specs.Grammar.{after_type, element, next}
use Rattle.mh_values.specs.Spelling.{is_name_byte}
use Rattle.mh_values.proofs.Accepted.{begins_element, after_whole}
use Rattle.mh_values.proofs.Goes.{DimensionsFrom, NameFrom, Goes}

pub dimensions_step : (p : Place) (k b : ℕ) (s : Standing) (bs : List ℕ) → next (standing.Dimensions p k) b ≡ Some s → Goes s bs → DimensionsFrom p k (b ∷ bs)
dimensions_step p k b s bs told goes =
    elim (cases_Bool (b == 91)) [
      | inl e ↦
          let more : (if nat_le (k + 1) 255 then Some (standing.Dimensions p (k + 1)) else None) ≡ Some s =
          sym (ap (λ t. if t then (if nat_le (k + 1) 255 then Some (standing.Dimensions p (k + 1)) else None) else element p b) e) ∙ told in
          elim (cases_Bool (nat_le (k + 1) 255)) [
            | inl few ↦
                let is : Some (standing.Dimensions p (k + 1)) ≡ Some s = sym (ap (λ t. if t then Some (standing.Dimensions p (k + 1)) else None) few) ∙ more in
                let d : DimensionsFrom p (k + 1) bs = subst (λ t. Goes t bs) (sym (some_is _ _ is)) goes in
                record {
                  more = suc d.more;
                  element = d.element;
                  rest = d.rest;
                  few = λ h. omega (arith, d.few (leb-true _ _ few));
                  good = d.good;
                  after = d.after;
                  is = ap (λ c. c ∷ bs) (eqb-true b 91 e) ∙ ap (λ t. 91 ∷ t) d.is;
                }
            | inr few ↦ let is : None ≡ Some s = sym (ap (λ t. if t then Some (standing.Dimensions p (k + 1)) else None) few) ∙ more in cc
          ]
      | inr e ↦
          let begins =
          begins_element p b bs s (sym (ap (λ t. if t then (if nat_le (k + 1) 255 then Some (standing.Dimensions p (k + 1)) else None) else element p b) e)
          ∙ told) goes in
          record {
            more = 0;
            element = begins.element;
            rest = begins.rest;
            few = λ h. omega arith;
            good = begins.good;
            after = begins.after;
            is = begins.is;
          }
    ]

pub name_step : (p : Place) (has : Bool) (b : ℕ) (s : Standing) (bs : List ℕ) → next (standing.Name p has) b ≡ Some s → Goes s bs → NameFrom p has (b ∷ bs)
name_step p has b s bs told goes =
    elim (cases_Bool (b == 59)) [
      | inl e ↦
          let more : (if has then Some (after_type p) else None) ≡ Some s =
          sym (ap (λ t. if t then (if has then Some (after_type p) else None) else (if b == 46 || b == 91 then None else Some (standing.Name p true))) e) ∙
          told in
          elim (cases_Bool has) [
            | inl some ↦
                let is : Some (after_type p) ≡ Some s = sym (ap (λ t. if t then Some (after_type p) else None) some) ∙ more in
                record {
                  name = [];
                  rest = bs;
                  good = refl;
                  one = λ h. cc;
                  after = after_whole p bs (subst (λ t. Goes t bs) (sym (some_is _ _ is)) goes);
                  is = ap (λ c. c ∷ bs) (eqb-true b 59 e);
                }
            | inr some ↦ let is : None ≡ Some s = sym (ap (λ t. if t then Some (after_type p) else None) some) ∙ more in cc
          ]
      | inr e ↦
          let more : (if b == 46 || b == 91 then None else Some (standing.Name p true)) ≡ Some s =
          sym (ap (λ t. if t then (if has then Some (after_type p) else None) else (if b == 46 || b == 91 then None else Some (standing.Name p true))) e) ∙
          told in
          elim (cases_Bool (b == 46 || b == 91)) [
            | inl bad ↦ let is : None ≡ Some s = sym (ap (λ t. if t then None else Some (standing.Name p true)) bad) ∙ more in cc
            | inr bad ↦
                let is : Some (standing.Name p true) ≡ Some s = sym (ap (λ t. if t then None else Some (standing.Name p true)) bad) ∙ more in
                let n : NameFrom p true bs = subst (λ t. Goes t bs) (sym (some_is _ _ is)) goes in
                record {
                  name = b ∷ n.name;
                  rest = n.rest;
                  good = and_from (is_name_byte b) (list_all is_name_byte n.name) (not_from_false (b == 59 || (b == 46 || b == 91))
                      (or_from (b == 59) (b == 46 || b == 91) e bad)) n.good;
                  one = λ h. omega arith;
                  after = n.after;
                  is = ap (λ t. b ∷ t) n.is;
                }
          ]
    ]
