-- A text cut at its commas, and the texts with commas before them.
use Rattle.std.proofs.Common.{◌≡◌, refl, sym, ap, ◌∙◌, ℕ, ◌==◌, inl, inr, List, [], ◌∷◌, ◌++◌, flat_map}
use Rattle.std.proofs.lemmas.Bool.{cases_Bool, eqb-true}
use Rattle.std.proofs.lemmas.List.Concat.{flat_map-cons}
use Rattle.std.proofs.lemmas.List.Splits.{slice_split-cons_yes, slice_split-cons_no}
use Rattle.std.specs.List.{slice_split, onto_first}
use Rattle.mh_texts.proofs.ArrayTrip.{AllLack}
use Rattle.mh_base.proofs.Cuts.{Lacks}

-- texts, each after a comma
abbrev pub commaed : List (List ℕ) → List ℕ
commaed texts = flat_map (λ text. 44 ∷ text) texts

-- a text cut at its commas
pub record IsSplit (text : List ℕ) : Type 0 where
  pub first : List ℕ
  pub more : List (List ℕ)
  pub split : slice_split (λ b. b == 44) text ≡ first ∷ more
  pub is : text ≡ first ++ commaed more
  pub lacks : Lacks 44 first
  pub all_lack : AllLack more

pub is_split : (text : List ℕ) → IsSplit text
is_split [] = record { first = []; more = []; split = refl; is = refl; lacks = tt; all_lack = tt }
is_split (b ∷ bs) =
    let rest = is_split bs in
    elim (cases_Bool (b == 44)) [
      | inl e ↦ record {
        first = [];
        more = rest.first ∷ rest.more;
        split = slice_split-cons_yes (λ c. c == 44) b bs e ∙ ap (λ ps. [] ∷ ps) rest.split;
        is = ap (λ c. c ∷ bs) (eqb-true b 44 e) ∙ ap (λ t. 44 ∷ t) rest.is ∙ sym (flat_map-cons (λ text. 44 ∷ text) rest.first rest.more);
        lacks = tt;
        all_lack = (rest.lacks, rest.all_lack);
      }
      | inr e ↦ record {
        first = b ∷ rest.first;
        more = rest.more;
        split = slice_split-cons_no (λ c. c == 44) b bs e ∙ ap (onto_first b) rest.split;
        is = ap (λ t. b ∷ t) rest.is;
        lacks = (e, rest.lacks);
        all_lack = rest.all_lack;
      }
    ]
