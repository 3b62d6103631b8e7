-- What types mean among classes that are spelled by the grammar, one after the other.
use Rattle.std.proofs.Common.{◌≡◌, refl, sym, ap, subst, ◌∙◌, ℕ, ◌+◌, List, [], ◌∷◌, ◌++◌, length, map, flat_map, Result, Ok, Err, append_assoc, length-append, arith}
use Rattle.mh_values.specs.declared.class.Class.{Class}
use Rattle.mh_values.specs.declared.descriptor.DescriptorError.{DescriptorError}
use Rattle.mh_values.specs.declared.types.Ty.{Ty}
use Rattle.mh_values.specs.Descriptor.{found_then, type_meant, types_meant}
use Rattle.mh_values.specs.ReadAs.{IsNoType}
use Rattle.mh_values.specs.Spelling.{Spelled, spelled_text, AreSpelled, texts_of}
use Rattle.mh_values.specs.TypeText.{type_text}
use Rattle.mh_values.proofs.SpelledTypes.{TypeSaid, type_said}

-- the first type that is none, after others from a place on
pub record NoTypeAfter (classes : List Class) (from : ℕ) (ts : List Spelled) (error : DescriptorError) : Type 0 where
  pub before : List Ty
  pub type : Spelled
  pub rest : List ℕ
  pub is : texts_of ts ≡ flat_map (type_text classes) before ++ (spelled_text type ++ rest)
  pub none : IsNoType classes (from + length (flat_map (type_text classes) before)) type error

-- what is said of types from a place on
abbrev pub TypesSaid : List Class → ℕ → List Spelled → Result (List Ty) DescriptorError → Type 0
TypesSaid classes from ts (Ok us) = texts_of ts ≡ flat_map (type_text classes) us
TypesSaid classes from ts (Err error) = NoTypeAfter classes from ts error

-- after a type that there is
one_more : (classes : List Class) (from : ℕ) (t : Spelled) (ts : List Spelled) (s : Ty) (q : Result (List Ty) DescriptorError) →
    spelled_text t ≡ type_text classes s → TypesSaid classes (from + length (spelled_text t)) ts q →
    TypesSaid classes from (t ∷ ts) (found_then q (λ us. Ok (s ∷ us)))
one_more classes from t ts s (Ok us) here said = ap (λ u. u ++ texts_of ts) here ∙ ap (λ u. type_text classes s ++ u) said
one_more classes from t ts s (Err error) here said =
    let first : List ℕ = type_text classes s in
    let others : List ℕ = flat_map (type_text classes) said.before in
    let place : from + length (spelled_text t) + length others ≡ from + length (first ++ others) = omega (arith, ap length here, length-append first others) in
    record {
      before = s ∷ said.before;
      type = said.type;
      rest = said.rest;
      is = ap (λ u. u ++ texts_of ts) here ∙ ap (λ u. first ++ u) said.is ∙ sym (append_assoc first others (spelled_text said.type ++ said.rest));
      none = subst (λ n. IsNoType classes n said.type error) place said.none;
    }

first_said : (classes : List Class) (from : ℕ) (t : Spelled) (ts : List Spelled) (r : Result Ty DescriptorError) (q : Result (List Ty) DescriptorError) →
    TypeSaid classes from t r → TypesSaid classes (from + length (spelled_text t)) ts q →
    TypesSaid classes from (t ∷ ts) (found_then r (λ s. found_then q (λ us. Ok (s ∷ us))))
first_said classes from t ts (Ok s) q here said = one_more classes from t ts s q here said
first_said classes from t ts (Err error) q here said = record {
  before = [];
  type = t;
  rest = texts_of ts;
  is = refl;
  none = subst (λ n. IsNoType classes n t error) (omega arith) here;
}

pub types_said : (classes : List Class) (from : ℕ) (ts : List Spelled) → AreSpelled ts →
    TypesSaid classes from ts (types_meant classes from (map spelled_text ts))
types_said classes from [] good = refl
types_said classes from (t ∷ ts) good =
    first_said classes from t ts (type_meant classes from (spelled_text t)) (types_meant classes (from + length (spelled_text t)) (map spelled_text ts))
    (type_said classes from t good.0) (types_said classes (from + length (spelled_text t)) ts good.1)
