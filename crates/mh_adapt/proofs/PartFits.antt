-- The keys of Collect, Fold and FilterReturn fit the bodies of handles, where their rows give a type, and the bodies that they make have the type's shape.
use Rattle.std.proofs.Common.{◌≡◌, refl, sym, ap, ap₂, ◌∙◌, ℕ, ◌+◌, ◌-◌, ◌≤◌, true, false, not, List, [], drop, length, length-append, length-drop, map, Option, Some, None, nat_le, arith}
use Rattle.std.specs.Prelude.{slice_get, IsTrue}
use Rattle.std.specs.Option.{option_map, option_map_or}
use Rattle.std.proofs.lemmas.Bool.{and_from, le-leb}
use Rattle.std.proofs.lemmas.List.{length-map}
use Rattle.std.proofs.lemmas.Option.{slice_get-map, slice_get_within}
use Rattle.mh_values.specs.declared.types.Ty.{Ty}
use Rattle.mh_values.specs.declared.types.MethodTy.{MethodTy}
use Rattle.mh_values.specs.Computation.{spliced}
use Rattle.mh_values.specs.Same.{begins_with_types}
use Rattle.mh_values.proofs.SameTypes.{begins_with-rest, same_return-is}
use Rattle.mh_tree.specs.Rows.{count_of, folded, gives_at}
use Rattle.mh_tree.proofs.SoundAdapters.{at_most}
use Rattle.mh_form.specs.declared.basic.Basic.{Basic}
use Rattle.mh_form.specs.declared.body.FormBody.{FormBody}
use Rattle.mh_form.specs.Erasure.{basic_of, basic_ret_of}
use Rattle.mh_edit.specs.declared.key.Key.TheVariants as key
use Rattle.mh_edit.specs.Fit.{fits, is_nothing, is_same_basic, taken_by, takes_result}
use Rattle.mh_edit.proofs.Places.{length-spliced}
use Rattle.mh_handle.proofs.standing.Erasing.{spliced-map}
use Rattle.mh_handle.proofs.recipes.Basics.{same_basic-itself}

-- a part's result takes the place of as many parameters, erased or not
pub taken-count : (ret : Option Ty) → taken_by (basic_ret_of ret) ≡ count_of ret
taken-count None = refl
taken-count (Some t) = refl

-- what a part's result takes the place of is there
pub gives-room : (ret : Option Ty) (place : ℕ) (params : List Ty) → gives_at ret place params ≡ true → place + count_of ret ≤ length params
gives-room None place params h = let k = at_most place (length params) h in omega (arith, k)
gives-room (Some r) place params h = let k = slice_get_within params place r (same_return-is (slice_get params place) (Some r) h) in omega (arith, k)

takes-given : (ret : Option Ty) (place : ℕ) (params : List Ty) → gives_at ret place params ≡ true →
    takes_result (map basic_of params) place (basic_ret_of ret) ≡ true
takes-given None place params h = ap (nat_le place) (length-map params basic_of) ∙ h
takes-given (Some r) place params h =
    let there : slice_get params place ≡ Some r = same_return-is (slice_get params place) (Some r) h in
    ap (λ o. option_map_or (is_same_basic (basic_of r)) o false) (slice_get-map basic_of params place ∙ ap (option_map basic_of) there) ∙
    same_basic-itself (basic_of r)

pub collect-fits :
    (params : List Ty) (place : ℕ) (basics : List Basic) (ret : Option Ty) (body : FormBody) →
    gives_at ret place params ≡ true →
    not (is_nothing body) ≡ true →
    body.params ≡ map basic_of params →
    IsTrue (fits (key.Collect place basics (basic_ret_of ret)) body)
collect-fits params place basics ret body gives begun shaped =
    and_from (not (is_nothing body)) (takes_result body.params place (basic_ret_of ret)) begun
    (ap (λ ps. takes_result ps place (basic_ret_of ret)) shaped ∙ takes-given ret place params gives)

-- the parameters that a combiner takes come after the one for which it gives a value
pub fold-room :
    (t : MethodTy) (place : ℕ) (c : MethodTy) →
    gives_at c.ret place t.params ≡ true →
    begins_with_types (drop place (folded t place c)) c.params ≡ true →
    place + length c.params + count_of c.ret ≤ length t.params
fold-room t place c gives begins =
    let rest = begins_with-rest (drop place (folded t place c)) c.params begins in
    let room = gives-room c.ret place t.params gives in
    let all : length (folded t place c) + count_of c.ret ≡ length t.params + 0 = length-spliced place (count_of c.ret) [] t.params room in
    let after : length (folded t place c) - place ≡ length c.params + length rest.0 = sym (length-drop place (folded t place c)) ∙
    (ap length rest.1 ∙ length-append c.params rest.0) in
    omega (arith, room, all, after)

pub fold-fits :
    (t : MethodTy) (place : ℕ) (c : MethodTy) (body : FormBody) →
    gives_at c.ret place t.params ≡ true →
    begins_with_types (drop place (folded t place c)) c.params ≡ true →
    not (is_nothing body) ≡ true →
    body.params ≡ map basic_of t.params →
    IsTrue (fits (key.Fold place (length c.params) (basic_ret_of c.ret)) body)
fold-fits t place c body gives begins begun shaped =
    let room = fold-room t place c gives begins in
    let taken = taken-count c.ret in
    let many : length body.params ≡ length t.params = ap length shaped ∙ length-map t.params basic_of in
    let fit : nat_le (place + length c.params + taken_by (basic_ret_of c.ret)) (length body.params) ≡ true = le-leb _ _ (omega (arith, room, taken, many)) in
    and_from (not (is_nothing body)) _ begun
    (and_from (takes_result body.params place (basic_ret_of c.ret)) _ (ap (λ ps. takes_result ps place (basic_ret_of c.ret)) shaped ∙
    takes-given c.ret place t.params gives) fit)

-- parameters put in for what a part's result takes the place of, erased
pub parted-shape :
    (params new : List Ty) (place : ℕ) (ret : Option Ty) (old : List Basic) →
    old ≡ map basic_of params →
    spliced place (taken_by (basic_ret_of ret)) (map basic_of new) old ≡ map basic_of (spliced place (count_of ret) new params)
parted-shape params new place ret old shaped =
    ap₂ (λ c ps. spliced place c (map basic_of new) ps) (taken-count ret) shaped ∙ sym (spliced-map basic_of place (count_of ret) new params)
