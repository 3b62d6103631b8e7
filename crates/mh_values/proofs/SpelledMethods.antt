-- What a method descriptor that is spelled by the grammar means among classes.
use Rattle.std.proofs.Common.{◌≡◌, refl, sym, ap, subst, ◌∙◌, ℕ, ◌+◌, ◌-◌, ◌==◌, false, if◌then◌else◌, List, [], ◌∷◌, ◌++◌, length, map, flat_map, take, Option, None, Some, slice_get, Result, Ok, Err, append_assoc, length-append, arith}
use Rattle.std.proofs.lemmas.List.{append-nil}
use Rattle.std.specs.Option.{option_map_or}
use Rattle.mh_values.specs.declared.class.Class.{Class}
use Rattle.mh_values.specs.declared.descriptor.DescriptorError.{DescriptorError}
use Rattle.mh_values.specs.declared.types.MethodTy.{MethodTy}
use Rattle.mh_values.specs.declared.types.Ty.{Ty}
use Rattle.mh_values.specs.Descriptor.{pieces, found_then, type_meant, types_meant, return_meant, last_of, method_of, method_meant}
use Rattle.mh_values.specs.ReadAs.{IsNoType, IsFirstNoType, BeginsMethod, parameters, all}
use Rattle.mh_values.specs.Spelling.{Spelled, spelled_text, AreSpelled, texts_of, IsReturn, return_spelled, IsMethodDescriptor}
use Rattle.mh_values.specs.TypeText.{type_text, return_text, method_type_text}
use Rattle.mh_values.proofs.Beginnings.{spelled_begins}
use Rattle.mh_values.proofs.LastTwo.{all_but_two, the_last}
use Rattle.mh_values.proofs.SpelledLists.{TypesSaid, types_said}
use Rattle.mh_values.proofs.SpelledPieces.{spelled_pieces}
use Rattle.mh_values.proofs.SpelledTypes.{TypeSaid, type_said}

-- ---- the return type

-- what is said of a return type at a place
abbrev ReturnSaid : List Class → ℕ → Option Spelled → Result (Option Ty) DescriptorError → Type 0
ReturnSaid classes from ret (Ok r) = return_spelled ret ≡ return_text classes r
ReturnSaid classes from None (Err error) = ⊥
ReturnSaid classes from (Some t) (Err error) = IsNoType classes from t error

return_by : (classes : List Class) (from : ℕ) (t : Spelled) (r : Result Ty DescriptorError) → TypeSaid classes from t r →
    ReturnSaid classes from (Some t) (found_then r (λ s. Ok (Some s)))
return_by classes from t (Ok s) said = said
return_by classes from t (Err error) said = said

return_said : (classes : List Class) (from : ℕ) (ret : Option Spelled) → IsReturn ret →
    ReturnSaid classes from ret (return_meant classes from (return_spelled ret))
return_said classes from None good = refl
return_said classes from (Some t) good =
    let begins = spelled_begins t.dimensions t.element good.0 good.1 in
    let no_void : option_map_or (λ b. b == 86) (slice_get (spelled_text t) 0) false ≡ false =
    ap (λ u. option_map_or (λ b. b == 86) (slice_get u 0) false) begins.is ∙ begins.no_void in
    subst (ReturnSaid classes from (Some t))
    (sym (ap (λ c. if c then Ok None else found_then (type_meant classes from (spelled_text t)) (λ s. Ok (Some s))) no_void))
    (return_by classes from t (type_meant classes from (spelled_text t)) (type_said classes from t good))

return_piece : (ret : Option Spelled) → IsReturn ret → pieces false (return_spelled ret) ≡ return_spelled ret ∷ []
return_piece None good = refl
return_piece (Some t) good =
    let one : texts_of (t ∷ []) ++ [] ≡ spelled_text t = append-nil (texts_of (t ∷ [])) ∙ append-nil (spelled_text t) in
    ap (pieces false) (sym one) ∙ spelled_pieces (t ∷ []) [] (good, tt)

-- ---- the whole

-- the answer for a text of the grammar that has a refusal
abbrev MethodSaid : List Class → List ℕ → Result MethodTy DescriptorError → Type 0
MethodSaid classes text (Ok t) = text ≡ method_type_text classes t
MethodSaid classes text (Err error) = IsFirstNoType classes (BeginsMethod classes) text error

abbrev text_of : List Spelled → Option Spelled → List ℕ
text_of params ret = 40 ∷ (texts_of params ++ 41 ∷ return_spelled ret)

-- the parameters have types
return_refused : (classes : List Class) (params : List Spelled) (ret : Option Spelled) (ps : List Ty) (r : Result (Option Ty) DescriptorError) →
    texts_of params ≡ flat_map (type_text classes) ps → ReturnSaid classes (1 + length (texts_of params) + 1) ret r →
    MethodSaid classes (text_of params ret) (found_then r (λ r. Ok (record { params = ps; ret = r })))
return_refused classes params ret ps (Ok r) front said =
    ap (λ u. 40 ∷ (u ++ 41 ∷ return_spelled ret)) front
    ∙ ap (λ u. 40 ∷ (flat_map (type_text classes) ps ++ 41 ∷ u)) said
    ∙ ap (λ u. 40 ∷ u) (sym (append_assoc (flat_map (type_text classes) ps) (41 ∷ []) (return_text classes r)))
return_refused classes params None ps (Err error) front said = absurd said
return_refused classes params (Some t) ps (Err error) front said =
    let before : List ℕ = flat_map (type_text classes) ps in
    let place : 1 + length (texts_of params) + 1 ≡ length (40 ∷ (before ++ 41 ∷ [])) = omega (arith, ap length front, length-append before (41 ∷ [])) in
    record {
      front = 40 ∷ (before ++ 41 ∷ []);
      type = t;
      rest = [];
      is = ap (λ u. 40 ∷ (u ++ 41 ∷ spelled_text t)) front
          ∙ ap (λ u. 40 ∷ u) (sym (append_assoc before (41 ∷ []) (spelled_text t)))
          ∙ ap (λ u. 40 ∷ ((before ++ 41 ∷ []) ++ u)) (sym (append-nil (spelled_text t)));
      before = all ps;
      none = subst (λ n. IsNoType classes n t error) place said;
    }

method_by : (classes : List Class) (params : List Spelled) (ret : Option Spelled) (q : Result (List Ty) DescriptorError)
    (r : Result (Option Ty) DescriptorError) →
    TypesSaid classes 1 params q → ReturnSaid classes (1 + length (texts_of params) + 1) ret r →
    MethodSaid classes (text_of params ret) (found_then q (λ ps. found_then r (λ r. Ok (record { params = ps; ret = r }))))
method_by classes params ret (Ok ps) r front back = return_refused classes params ret ps r front back
method_by classes params ret (Err error) r front back =
    let before : List ℕ = flat_map (type_text classes) front.before in
    record {
      front = 40 ∷ before;
      type = front.type;
      rest = front.rest ++ 41 ∷ return_spelled ret;
      is = ap (λ u. 40 ∷ (u ++ 41 ∷ return_spelled ret)) front.is
          ∙ ap (λ u. 40 ∷ u) (append_assoc before (spelled_text front.type ++ front.rest) (41 ∷ return_spelled ret))
          ∙ ap (λ u. 40 ∷ (before ++ u)) (append_assoc (spelled_text front.type) front.rest (41 ∷ return_spelled ret));
      before = parameters front.before;
      none = subst (λ n. IsNoType classes n front.type error) (omega arith) front.none;
    }

-- parameters and return type together
abbrev joined : Result (List Ty) DescriptorError → Result (Option Ty) DescriptorError → Result MethodTy DescriptorError
joined q r = found_then q (λ params. found_then r (λ ret. Ok (record { params = params; ret = ret })))

-- what a text of the grammar means
spelled_said : (classes : List Class) (params : List Spelled) (ret : Option Spelled) → AreSpelled params → IsReturn ret →
    MethodSaid classes (text_of params ret) (method_meant classes (text_of params ret))
spelled_said classes params ret good returns =
    let texts = map spelled_text params in
    let last = return_spelled ret in
    let parts = texts ++ (41 ∷ []) ∷ last ∷ [] in
    let end = length (text_of params ret) in
    let cut : pieces false (texts_of params ++ 41 ∷ last) ≡ parts =
    spelled_pieces params (41 ∷ last) good ∙ ap (λ ps. texts ++ (41 ∷ []) ∷ ps) (return_piece ret returns) in
    let place : end - length last ≡ 1 + length (texts_of params) + 1 = omega (arith, length-append (texts_of params) (41 ∷ last)) in
    let front : types_meant classes 1 (take (length parts - 2) parts) ≡ types_meant classes 1 texts =
    ap (types_meant classes 1) (all_but_two texts (41 ∷ []) last) in
    let back : return_meant classes (end - length (last_of parts)) (last_of parts) ≡ return_meant classes (1 + length (texts_of params) + 1) last =
    ap (λ l. return_meant classes (end - length l) l) (the_last texts (41 ∷ []) last) ∙ ap (λ n. return_meant classes n last) place in
    let both : method_meant classes (text_of params ret) ≡ joined (types_meant classes 1 texts) (return_meant classes (1 + length (texts_of params) + 1) last) =
    ap (method_of classes end) cut
    ∙ ap (λ q. joined q (return_meant classes (end - length (last_of parts)) (last_of parts))) front
    ∙ ap (joined (types_meant classes 1 texts)) back in
    subst (MethodSaid classes (text_of params ret)) (sym both) (method_by classes params ret (types_meant classes 1 texts)
    (return_meant classes (1 + length (texts_of params) + 1) last) (types_said classes 1 params good) (return_said classes _ ret returns))

pub method_said : (classes : List Class) (text : List ℕ) → IsMethodDescriptor text → MethodSaid classes text (method_meant classes text)
method_said classes text d = subst (λ t. MethodSaid classes t (method_meant classes t)) (sym d.is) (spelled_said classes d.params d.ret d.spelled d.returns)
