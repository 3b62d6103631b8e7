-- What is used as another type ends as that type says, where its part ends as its own type says.
use Rattle.std.proofs.Common.{◌≡◌, refl, sym, subst, ℕ, true, false, Bool, cond, List, [], ◌∷◌, Option, Some, None, is_some, Result, Ok, Err, pos}
use Rattle.std.specs.Prelude.{option_to_list}
use Rattle.std.specs.Result.{result_map_both}
use Rattle.std.proofs.lemmas.Bool.{and_parts}
use Rattle.mh_values.specs.declared.class.Class.{Class}
use Rattle.mh_values.specs.declared.types.Ty.{Ty}
use Rattle.mh_values.specs.declared.types.Ty.TheVariants as ty
use Rattle.mh_values.specs.declared.types.MethodTy.{MethodTy}
use Rattle.mh_values.specs.declared.value.Exc.{Exc}
use Rattle.mh_values.specs.declared.value.Value.{Value}
use Rattle.mh_values.specs.Class.{is_subclass, throwable_class}
use Rattle.mh_values.specs.Classes.{AreClasses}
use Rattle.mh_values.specs.Computation.{Gave, found, and_then}
use Rattle.mh_values.specs.HasType.{has_type, HaveTypes}
use Rattle.mh_values.specs.Returns.{Returns}
use Rattle.mh_values.proofs.PrimitiveNumbers.{number-is, zero-lies}
use Rattle.mh_convert.specs.declared.conv.Conv.{Conv}
use Rattle.mh_convert.specs.declared.conv.Rules.{Rules}
use Rattle.mh_convert.specs.Conversion.{can, conv, default_of, value_conversion, ret_conversion_of, ret_conv}
use Rattle.mh_convert.proofs.Typed.{conv-typed, conv-throws}
use Rattle.mh_tree.specs.Rows.{can_all, convert_row}
use Rattle.mh_tree.specs.Meaning.{Done, or_throw, then_others, conv_all, conv_result}
use Rattle.mh_tree.specs.Sound.{Body, IsSound}
use Rattle.mh_tree.proofs.RowParts.{convert_row-parts}
use Rattle.mh_tree.proofs.Returning.{returns-then}

-- a value of the type, or an exception
abbrev pub Converts : List Class → Result Value Exc → Ty → Type 0
Converts classes (Ok v) t = has_type classes v t ≡ true
Converts classes (Err e) t = is_subclass classes e.class throwable_class ≡ true

-- values of the types, or an exception
abbrev pub ConvertAll : List Class → Result (List Value) Exc → List Ty → Type 0
ConvertAll classes (Ok vs) ts = HaveTypes classes vs ts
ConvertAll classes (Err e) ts = is_subclass classes e.class throwable_class ≡ true

converts-is : (by : Rules) (classes : List Class) → AreClasses classes →
    (s t : Ty) (v : Value) (r : Result Value Exc) → can by classes s t ≡ true → has_type classes v s ≡ true
    → conv by classes s t v ≡ r → Converts classes r t
converts-is by classes are s t v (Ok w) allowed typed is = conv-typed by classes s t v w allowed typed is
converts-is by classes are s t v (Err e) allowed typed is = conv-throws by classes are s t v e is

pub conv-converts : (by : Rules) (classes : List Class) → AreClasses classes →
    (s t : Ty) (v : Value) → can by classes s t ≡ true → has_type classes v s ≡ true →
    Converts classes (conv by classes s t v) t
conv-converts by classes are s t v allowed typed = converts-is by classes are s t v (conv by classes s t v) allowed typed refl

in_front : (classes : List Class) (r : Result Value Exc) (rs : Result (List Value) Exc) (t : Ty) (ts : List Ty) → Converts classes r t →
    ConvertAll classes rs ts → ConvertAll classes (then_others r rs) (t ∷ ts)
in_front classes (Ok v) (Ok vs) t ts h k = (h, k)
in_front classes (Ok v) (Err e) t ts h k = k
in_front classes (Err e) rs t ts h k = h

pub conv_all-converts : (by : Rules) (classes : List Class) → AreClasses classes → (ss ts : List Ty) (vs : List Value) → can_all by classes ss ts ≡ true →
    HaveTypes classes vs ss → ConvertAll classes (conv_all by classes ss ts vs) ts
conv_all-converts by classes are [] [] vs allowed have = tt
conv_all-converts by classes are (s ∷ ss) (t ∷ ts) [] allowed have = absurd have
conv_all-converts by classes are (s ∷ ss) (t ∷ ts) (v ∷ vs) allowed have =
    let q = and_parts (can by classes s t) (can_all by classes ss ts) allowed in
    in_front classes (conv by classes s t v) (conv_all by classes ss ts vs) t ts (conv-converts by classes are s t v q.0 have.0)
    (conv_all-converts by classes are ss ts vs q.1 have.1)
conv_all-converts by classes are [] (t ∷ ts) vs allowed have = absurd cc
conv_all-converts by classes are (s ∷ ss) [] vs allowed have = absurd cc

pub throw-returns : (classes : List Class) (r : Result (List Value) Exc) (ts : List Ty) (ret : Option Ty) (next : List Value → Done) → ConvertAll classes r ts →
    ((vs : List Value) → HaveTypes classes vs ts → Returns classes (next vs) ret) → Returns classes (or_throw r next) ret
throw-returns classes (Ok vs) ts ret next h more = more vs h
throw-returns classes (Err e) ts ret next h more = h

-- ---- results

pub default-typed : (classes : List Class) (t : Ty) → has_type classes (default_of t) t ≡ true
default-typed classes (ty.Prim p) = number-is p (pos 0) (zero-lies p)
default-typed classes (ty.Class c) = refl
default-typed classes (ty.Array c) = refl

-- how the end of a return conversion is shown
abbrev pub shown : Result (Option Value) Exc → Done
shown r = or_throw r (λ v. Gave v [])

value-shown : (classes : List Class) (r : Result Value Exc) (t : Ty) → Converts classes r t → Returns classes (shown (result_map_both (λ w. Some w) (λ e. e) r))
    (Some t)
value-shown classes (Ok v) t h = h
value-shown classes (Err e) t h = h

abbrev pair : Ty → Ty → Conv
pair s t = record { from = s; to = t }

-- a result that is converted as an argument is
value-result : (by : Rules) (classes : List Class) → AreClasses classes → (s t : Ty) (v : Value) (b : Bool) → can by classes s t ≡ b →
    is_some (value_conversion (cond b (Some (pair s t)) None)) ≡ true → has_type classes v s ≡ true →
    Returns classes (found (value_conversion (cond b (Some (pair s t)) None)) (λ c. shown (ret_conv by classes c (Some v)))) (Some t)
value-result by classes are s t v true allowed there typed = value-shown classes (conv by classes s t v) t (conv-converts by classes are s t v allowed typed)
value-result by classes are s t v false allowed there typed = absurd cc

pub conv_result-returns : (by : Rules) (classes : List Class) → AreClasses classes →
    (s t : Option Ty) (r : Option Value) → is_some (ret_conversion_of by classes s t) ≡ true →
    HaveTypes classes (option_to_list r) (option_to_list s) → Returns classes (conv_result by classes s t r) t
conv_result-returns by classes are None None None there have = tt
conv_result-returns by classes are None None (Some v) there have = absurd have
conv_result-returns by classes are (Some s) None r there have = tt
conv_result-returns by classes are None (Some t) r there have = default-typed classes t
conv_result-returns by classes are (Some s) (Some t) (Some v) there have = value-result by classes are s t v (can by classes s t) refl there have.0
conv_result-returns by classes are (Some s) (Some t) None there have = absurd have

pub convert-sound : (by : Rules) (classes : List Class) → AreClasses classes →
    (body : Body) (t : MethodTy) (weight : ℕ) (asked u : MethodTy) → IsSound classes body t →
    convert_row by classes t weight asked ≡ Ok u →
    IsSound classes (λ args n. or_throw (conv_all by classes asked.params t.params args) (λ converted. and_then (body converted n) n
    (λ r k. conv_result by classes t.ret asked.ret r))) u
convert-sound by classes are body t weight asked u sound typed =
    let q = convert_row-parts by classes t weight asked u typed in
    subst (IsSound classes (λ args n. or_throw (conv_all by classes asked.params t.params args) (λ converted. and_then (body converted n) n
    (λ r k. conv_result by classes t.ret asked.ret r)))) (sym q.2)
    (λ args n have.
    throw-returns classes (conv_all by classes asked.params t.params args) t.params asked.ret (λ converted. and_then (body converted n) n
    (λ r k. conv_result by classes t.ret asked.ret r))
    (conv_all-converts by classes are asked.params t.params args q.0 have) (λ converted have'.
    returns-then classes (body converted n) t.ret asked.ret n (λ r k. conv_result by classes t.ret asked.ret r) (sound converted n have')
    (λ r k given. conv_result-returns by classes are t.ret asked.ret r q.1 given)))
