-- Entries, conversions and parameters of a conversion to another type, and what it leaves of a body.
use Rattle.std.proofs.Common.{◌≡◌, refl, sym, ap, ap₂, suc, ◌+◌, Bool, true, false, cond, ◌&&◌, List, [], ◌∷◌, ◌++◌, length, map, Option, Some, None, is_some, add-zero, arith}
use Rattle.std.proofs.lemmas.Bool.{and_parts}
use Rattle.std.specs.Prelude.{option_to_list, not, ◌==◌}
use Rattle.mh_values.specs.declared.class.Class.{Class}
use Rattle.mh_values.specs.declared.types.Primitive.{Primitive}
use Rattle.mh_values.specs.declared.types.Ty.{Ty}
use Rattle.mh_values.specs.declared.types.Ty.TheVariants as ty
use Rattle.mh_values.proofs.PrimitiveLaws.{same_primitive-is}
use Rattle.mh_convert.specs.declared.conv.Conv.{Conv}
use Rattle.mh_convert.specs.declared.conv.RetConv.{RetConv}
use Rattle.mh_convert.specs.declared.conv.Rules.{Rules}
use Rattle.mh_convert.specs.Conversion.{can, is_trivial}
use Rattle.mh_tree.specs.Rows.{can_all}
use Rattle.mh_form.specs.declared.basic.Basic.{Basic}
use Rattle.mh_form.specs.declared.basic.BasicRet.{BasicRet}
use Rattle.mh_form.specs.declared.body.FormBody.{FormBody}
use Rattle.mh_form.specs.declared.name.Name.TheVariants.{Ret}
use Rattle.mh_form.specs.Erasure.{basic_of}
use Rattle.mh_edit.specs.declared.key.RetEntry.{RetEntry}
use Rattle.mh_edit.specs.declared.key.RetEntry.TheVariants.{Keep, New}
use Rattle.mh_edit.specs.Applied.{conv_count, conv_params, returning}
use Rattle.mh_edit.specs.Law.{ret_field, ret_fields}
use Rattle.mh_handle.specs.Recipe.{are_trivial, entries_of}
use Rattle.mh_handle.specs.Stands.{IsMade}
use Rattle.mh_handle.specs.Converting.{conversion_between, convs_of}
use Rattle.mh_handle.proofs.standing.Standing.{suc-positive}

-- ---- entries, conversions and parameters, one for each

pub lengths : (by : Rules) (classes : List Class) (ss ts : List Ty) → can_all by classes ss ts ≡ true → length ss ≡ length ts
lengths by classes [] [] h = refl
lengths by classes [] (t ∷ ts) h = absurd cc
lengths by classes (s ∷ ss) [] h = absurd cc
lengths by classes (s ∷ ss) (t ∷ ts) h = ap suc (lengths by classes ss ts (and_parts (can by classes s t) (can_all by classes ss ts) h).1)

pub length-entries : (by : Rules) (classes : List Class) (ss ts : List Ty) → can_all by classes ss ts ≡ true → length (entries_of classes ss ts) ≡ length ts
length-entries by classes [] [] h = refl
length-entries by classes [] (t ∷ ts) h = absurd cc
length-entries by classes (s ∷ ss) [] h = absurd cc
length-entries by classes (s ∷ ss) (t ∷ ts) h = ap suc (length-entries by classes ss ts (and_parts (can by classes s t) (can_all by classes ss ts) h).1)

count-one : (b : Bool) (c : Basic) (es : List (Option Basic)) (d : Conv) (ds : List Conv) → length ds ≡ conv_count es →
    length (cond b ds (d ∷ ds)) ≡ conv_count (cond b None (Some c) ∷ es)
count-one true c es d ds h = h
count-one false c es d ds h = let e : suc (length ds) ≡ conv_count es + 1 = omega arith in e

pub count-convs : (classes : List Class) (ss ts : List Ty) → length (convs_of classes ss ts) ≡ conv_count (entries_of classes ss ts)
count-convs classes [] ts = refl
count-convs classes (s ∷ ss) [] = refl
count-convs classes (s ∷ ss) (t ∷ ts) =
    count-one (is_trivial classes s t) (basic_of s) (entries_of classes ss ts) (conversion_between s t) (convs_of classes ss ts) (count-convs classes ss ts)

-- a type below another one has its basic type
below-basic : (classes : List Class) (s t : Ty) → is_trivial classes s t ≡ true → basic_of t ≡ basic_of s
below-basic classes (ty.Prim p) (ty.Prim q) h = ap (λ (r : Primitive). basic_of (ty.Prim r)) (sym (same_primitive-is p q h))
below-basic classes (ty.Class c) (ty.Class d) h = refl
below-basic classes (ty.Array c) (ty.Class d) h = refl
below-basic classes (ty.Array c) (ty.Array d) h = refl
below-basic classes s t h = absurd cc

param-one : (b : Bool) (c d : Basic) (es : List (Option Basic)) (cs ds : List Basic) → (b ≡ true → c ≡ d) → conv_params es cs ≡ ds →
    conv_params (cond b None (Some d) ∷ es) (c ∷ cs) ≡ d ∷ ds
param-one true c d es cs ds same h = ap₂ (λ (x : Basic) (xs : List Basic). x ∷ xs) (same refl) h
param-one false c d es cs ds same h = ap (λ xs. d ∷ xs) h

pub params-converted : (by : Rules) (classes : List Class) (ss ts : List Ty) → can_all by classes ss ts ≡ true →
    conv_params (entries_of classes ss ts) (map basic_of ts) ≡ map
    basic_of ss
params-converted by classes [] [] h = refl
params-converted by classes [] (t ∷ ts) h = absurd cc
params-converted by classes (s ∷ ss) [] h = absurd cc
params-converted by classes (s ∷ ss) (t ∷ ts) h =
    param-one (is_trivial classes s t) (basic_of t) (basic_of s) (entries_of classes ss ts) (map basic_of ts) (map basic_of ss) (below-basic classes s t)
    (params-converted by classes ss ts (and_parts (can by classes s t) (can_all by classes ss ts) h).1)

-- the same where nothing is converted
pub params-kept : (by : Rules) (classes : List Class) (ss ts : List Ty) → can_all by classes ss ts ≡ true → are_trivial classes ss ts ≡ true →
    map basic_of ts ≡ map basic_of ss
params-kept by classes [] [] h k = refl
params-kept by classes [] (t ∷ ts) h k = absurd cc
params-kept by classes (s ∷ ss) [] h k = absurd cc
params-kept by classes (s ∷ ss) (t ∷ ts) h k =
    let p = and_parts (is_trivial classes s t) (are_trivial classes ss ts) k in
    ap₂ (λ (x : Basic) (xs : List Basic). x ∷ xs) (below-basic classes s t p.0)
    (params-kept by classes ss ts (and_parts (can by classes s t) (can_all by classes ss ts) h).1 p.1)

-- the field of a result's conversion
pub some-is : (o : Option RetConv) → is_some o ≡ true → (c : RetConv) × (o ≡ Some c)
some-is None h = absurd cc
some-is (Some c) h = (c, refl)

pub ret-one : (by : Rules) (b : Bool) (r : BasicRet) (o : Option RetConv) (c : RetConv) → o ≡ Some c →
    cond b [] (map (ret_field by) (option_to_list o)) ≡ ret_fields by (cond b Keep (New r)) c
ret-one by true r o c is = refl
ret-one by false r o c is = ap (λ p. map (ret_field by) (option_to_list p)) is

-- ---- the body

not-empty : {A : Type 0} (xs ys : List A) (y : A) → (length (xs ++ y ∷ ys) == 0) ≡ false
not-empty [] ys y = suc-positive (length ys)
not-empty (x ∷ xs) ys y = suc-positive (length (xs ++ y ∷ ys))

pub returning-made : (re : RetEntry) (body : FormBody) → IsMade body → IsMade (returning re body)
returning-made Keep body h = h
returning-made (New r) body h = ap (λ b. b && not (is_some (returning (New r) body).out)) (not-empty body.names [] (Ret body.fields body.out))

pub returning-fields : (by : Rules) (re : RetEntry) (c : RetConv) (body : FormBody) → (returning re body).fields ≡ body.fields + length (ret_fields by re c)
returning-fields by Keep c body = sym (add-zero body.fields)
returning-fields by (New r) c body = refl

pub returning-params : (re : RetEntry) (body : FormBody) → (returning re body).params ≡ body.params
returning-params Keep body = refl
returning-params (New r) body = refl
