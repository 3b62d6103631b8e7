-- A text without a fault is spelled by the grammar.
use Rattle.std.proofs.Common.{◌≡◌, refl, sym, ap, subst, ◌∙◌, ℕ, ◌+◌, ◌≤◌, ◌==◌, inl, inr, Bool, true, false, if◌then◌else◌, nat_le, lit≤, List, [], ◌∷◌, ◌++◌, Option, None, Some, append_assoc, arith}
use Rattle.std.proofs.lemmas.List.{append-nil}
use Rattle.std.proofs.lemmas.Bool.{cases_Bool, eqb-true, leb-true}
use Rattle.std.specs.Option.{option_map_or}
use Rattle.mh_base.proofs.Inversion.{some_is}
use Rattle.mh_values.specs.declared.descriptor.Place.TheVariants as place
use Rattle.mh_values.specs.declared.descriptor.Standing.{Standing}
use Rattle.mh_values.specs.declared.descriptor.Standing.TheVariants as standing
use Rattle.mh_values.specs.Grammar.{begun, slots_from, parameter, next, is_end, first_bad, descriptor_fault, type_fault, types_fault}
use Rattle.mh_values.specs.Spelling.{spelled_text, texts_of, return_spelled, IsMethodDescriptor, IsTypeText, AreTypeTexts}
use Rattle.mh_values.proofs.Accepted.{begins_type}
use Rattle.mh_values.proofs.Goes.{ParametersFrom, TypesFrom, ReturnFrom, Goes, BeginsType}
use Rattle.mh_values.proofs.WithinType.{dimensions_step, name_step}

-- ---- one byte more, from each place

front_step : (b : ℕ) (s : Standing) (bs : List ℕ) → next standing.Front b ≡ Some s → Goes s bs → IsMethodDescriptor (b ∷ bs)
front_step b s bs told goes =
    elim (cases_Bool (b == 40)) [
      | inl e ↦
          let is : Some (standing.Parameters 0) ≡ Some s = sym (ap (λ t. if t then Some (standing.Parameters 0) else None) e) ∙ told in
          let from : ParametersFrom 0 bs = subst (λ t. Goes t bs) (sym (some_is _ _ is)) goes in
          record {
            params = from.params;
            ret = from.ret;
            spelled = from.spelled;
            returns = from.returns;
            few = omega (arith, from.few (lit≤ tt));
            is = ap (λ c. c ∷ bs) (eqb-true b 40 e) ∙ ap (λ t. 40 ∷ t) from.is;
          }
      | inr e ↦ let is : None ≡ Some s = sym (ap (λ t. if t then Some (standing.Parameters 0) else None) e) ∙ told in cc
    ]

-- a parameter before others
one_more : (n : ℕ) (b : ℕ) (text : List ℕ) → n + slots_from b ≤ 255 → BeginsType (place.Parameter (n + slots_from b)) b text → ParametersFrom n text
one_more n b text few begins =
    let rest = begins.after in
    record {
      params = begins.type ∷ rest.params;
      ret = rest.ret;
      spelled = (begins.good, rest.spelled);
      returns = rest.returns;
      few = λ h. omega (arith, rest.few few, begins.slots);
      is = begins.is ∙ ap (λ t. spelled_text begins.type ++ t) rest.is ∙
          sym (append_assoc (spelled_text begins.type) (texts_of rest.params) (41 ∷ return_spelled rest.ret));
    }

parameters_step : (n b : ℕ) (s : Standing) (bs : List ℕ) → next (standing.Parameters n) b ≡ Some s → Goes s bs → ParametersFrom n (b ∷ bs)
parameters_step n b s bs told goes =
    elim (cases_Bool (b == 41)) [
      | inl e ↦
          let is : Some standing.Close ≡ Some s = sym (ap (λ t. if t then Some standing.Close else parameter n b) e) ∙ told in
          let ends : ReturnFrom bs = subst (λ t. Goes t bs) (sym (some_is _ _ is)) goes in
          record {
            params = [];
            ret = ends.0;
            spelled = tt;
            returns = ends.1;
            few = λ h. omega arith;
            is = ap (λ c. c ∷ bs) (eqb-true b 41 e) ∙ ap (λ t. 41 ∷ t) ends.2;
          }
      | inr e ↦
          let more : parameter n b ≡ Some s = sym (ap (λ t. if t then Some standing.Close else parameter n b) e) ∙ told in
          elim (cases_Bool (nat_le (n + slots_from b) 255)) [
            | inl few ↦
                let begun_so : begun (place.Parameter (n + slots_from b)) b ≡ Some s =
                sym (ap (λ t. if t then begun (place.Parameter (n + slots_from b)) b else None) few) ∙ more in
                one_more n b (b ∷ bs) (leb-true _ _ few) (begins_type (place.Parameter (n + slots_from b)) b bs s begun_so goes)
            | inr few ↦ let is : None ≡ Some s = sym (ap (λ t. if t then begun (place.Parameter (n + slots_from b)) b else None) few) ∙ more in cc
          ]
    ]

close_step : (b : ℕ) (s : Standing) (bs : List ℕ) → next standing.Close b ≡ Some s → Goes s bs → ReturnFrom (b ∷ bs)
close_step b s bs told goes =
    elim (cases_Bool (b == 86)) [
      | inl e ↦
          let is : Some standing.End ≡ Some s = sym (ap (λ t. if t then Some standing.End else begun place.Last b) e) ∙ told in
          let ends : bs ≡ [] = subst (λ t. Goes t bs) (sym (some_is _ _ is)) goes in
          (None, tt, ap (λ c. c ∷ bs) (eqb-true b 86 e) ∙ ap (λ t. 86 ∷ t) ends)
      | inr e ↦
          let begins = begins_type place.Last b bs s (sym (ap (λ t. if t then Some standing.End else begun place.Last b) e) ∙ told) goes in
          (Some begins.type, begins.good, begins.is ∙ ap (λ t. spelled_text begins.type ++ t) begins.after ∙ append-nil (spelled_text begins.type))
    ]

alone_step : (b : ℕ) (s : Standing) (bs : List ℕ) → next standing.Alone b ≡ Some s → Goes s bs → Goes standing.Alone (b ∷ bs)
alone_step b s bs told goes =
    let begins = begins_type place.Last b bs s told goes in
    (begins.type, begins.good, begins.is ∙ ap (λ t. spelled_text begins.type ++ t) begins.after ∙ append-nil (spelled_text begins.type))

types_step : (some : Bool) (b : ℕ) (s : Standing) (bs : List ℕ) → next (standing.Types some) b ≡ Some s → Goes s bs → TypesFrom some (b ∷ bs)
types_step some b s bs told goes =
    let begins = begins_type place.Listed b bs s told goes in
    record {
      types = begins.type ∷ begins.after.types;
      spelled = (begins.good, begins.after.spelled);
      one = λ h. omega arith;
      is = begins.is ∙ ap (λ t. spelled_text begins.type ++ t) begins.after.is;
    }

step_goes : (s : Standing) (b : ℕ) (n : Standing) (bs : List ℕ) → next s b ≡ Some n → Goes n bs → Goes s (b ∷ bs)
step_goes standing.Front b n bs told goes = front_step b n bs told goes
step_goes (standing.Parameters k) b n bs told goes = parameters_step k b n bs told goes
step_goes standing.Close b n bs told goes = close_step b n bs told goes
step_goes standing.Alone b n bs told goes = alone_step b n bs told goes
step_goes (standing.Types some) b n bs told goes = types_step some b n bs told goes
step_goes (standing.Dimensions p k) b n bs told goes = dimensions_step p k b n bs told goes
step_goes (standing.Name p has) b n bs told goes = name_step p has b n bs told goes
step_goes standing.End b n bs told goes = cc

-- ---- the end

end_goes : (at : ℕ) (s : Standing) → (if is_end s then None else Some at) ≡ None → Goes s []
end_goes at standing.Front told = cc
end_goes at (standing.Parameters n) told = cc
end_goes at standing.Close told = cc
end_goes at standing.Alone told = cc
end_goes at (standing.Types true) told = record { types = []; spelled = tt; one = λ h. cc; is = refl }
end_goes at (standing.Types false) told = cc
end_goes at (standing.Dimensions p k) told = cc
end_goes at (standing.Name p has) told = cc
end_goes at standing.End told = refl

on : (at : ℕ) (s : Standing) (b : ℕ) (bs : List ℕ) (o : Option Standing) → next s b ≡ o → ((n : Standing) → first_bad (at + 1) n bs ≡ None → Goes n bs) →
    option_map_or (λ n. first_bad (at + 1) n bs) o (Some at) ≡ None → Goes s (b ∷ bs)
on at s b bs None told more none = cc
on at s b bs (Some n) told more none = step_goes s b n bs told (more n none)

-- what has no fault is spelled
pub goes_to_end : (text : List ℕ) (at : ℕ) (s : Standing) → first_bad at s text ≡ None → Goes s text
goes_to_end [] at s none = end_goes at s none
goes_to_end (b ∷ bs) at s none = on at s b bs (next s b) refl (λ n h. goes_to_end bs (at + 1) n h) none

pub descriptor_sound : (text : List ℕ) → descriptor_fault text ≡ None → IsMethodDescriptor text
descriptor_sound text none = goes_to_end text 0 standing.Front none

pub type_sound : (text : List ℕ) → type_fault text ≡ None → IsTypeText text
type_sound text none =
    let t = goes_to_end text 0 standing.Alone none in
    record { type = t.0; spelled = t.1; is = t.2 }

pub types_sound : (text : List ℕ) → types_fault text ≡ None → AreTypeTexts text
types_sound text none =
    let from : TypesFrom false text = goes_to_end text 0 (standing.Types false) none in
    record { types = from.types; one = from.one refl; spelled = from.spelled; is = from.is }
