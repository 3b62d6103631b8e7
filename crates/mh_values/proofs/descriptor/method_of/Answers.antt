use Rattle.std.proofs.Common.{◌≡◌, ◌≤◌, ◌-◌, ◌∙◌, sym, ap, subst, List, ℕ, map, length, take, Ok, Err, Bor, Option, Result, arith}
use Rattle.std.proofs.lemmas.List.{length-map, take-map}
use Rattle.mh_values.specs.declared.class.Class.{Class}
use Rattle.mh_values.specs.declared.types.Ty.{Ty}
use Rattle.mh_values.specs.declared.descriptor.DescriptorError.{DescriptorError}
use Rattle.mh_values.proofs.TypesRead.{TellsType-part, TellsType-err, TellsType-handed, bytes_of-take}
use Rattle.mh_values.specs.Descriptor.{bytes_of, found_then, types_meant, return_meant, last_of, method_of, TellsType}
use Rattle.mh_values.proofs.descriptor.method_of.Goals as goal

abbrev said : List (Bor (List ℕ)) → List (List ℕ)
said texts = map (λ x. x.now) texts

-- the texts of the parameters
front : (texts : List (Bor (List ℕ))) (n : ℕ) → n ≡ length texts - 2 → said (take n texts) ≡ take (length (said texts) - 2) (said texts)
front texts n is = sym (take-map (λ x. x.now) n texts) ∙ ap (λ k. take k (said texts)) (is ∙ ap (λ k. k - 2) (sym (length-map texts (λ x. x.now))))

pub types_of-requires : goal.types_of-requires
types_of-requires c =
    let texts = c.args.texts.now in
    let few : bytes_of (said (take c.saturating_sub.result texts)) ≤ bytes_of (said texts) =
    subst (λ ts. bytes_of ts ≤ bytes_of (said texts)) (take-map (λ x. x.now) c.saturating_sub.result texts) (bytes_of-take c.saturating_sub.result (said texts))
    in
    omega (arith, c.requires.texts)

pub returns-in_err-params : goal.returns-in_err-params
returns-in_err-params c =
    let params = ap (λ ts. types_meant c.args.classes.now 1 ts) (front c.args.texts.now c.saturating_sub.result c.saturating_sub.ensures) in
    TellsType-handed c.from_residual.result c.in_err-params.field-0.0 _ c.from_residual.ensures.1 (TellsType-part c.in_err-params.field-0.0 _ _
    (subst (λ m. TellsType {A = List Ty} (Err c.in_err-params.field-0.0) m) params c.in_err-params.ensures))

-- where the parameters have types, the return type decides
decided : (classes : List Class) (end : ℕ) (texts : List (Bor (List ℕ))) (n at : ℕ) (last : List ℕ) (params : List Ty)
    (ret : Result (Option Ty) DescriptorError) → n ≡ length texts - 2 → last ≡ last_of (said texts) → at ≡ end - length last →
    types_meant classes 1 (said (take n texts)) ≡ Ok params → ret ≡ return_meant classes at last →
    method_of classes end (said texts) ≡ found_then ret (λ r. Ok (record { params = params; ret = r }))
decided classes end texts n at last params ret few ends place meant told =
    let typed : types_meant classes 1 (take (length (said texts) - 2) (said texts)) ≡ Ok params = ap (types_meant classes 1) (sym (front texts n few)) ∙
    meant in
    let returned : return_meant classes (end - length (last_of (said texts))) (last_of (said texts)) ≡ ret =
    ap (λ l. return_meant classes (end - length l) l) (sym ends) ∙ ap (λ k. return_meant classes k last) (sym place) ∙ sym told in
    ap (λ r. found_then r (λ ts. found_then (return_meant classes (end - length (last_of (said texts))) (last_of (said texts)))
    (λ r. Ok (record { params = ts; ret = r })))) typed
    ∙ ap (λ r. found_then r (λ r. Ok (record { params = params; ret = r }))) returned

pub returns-in_err-ret : goal.returns-in_err-ret
returns-in_err-ret c =
    let place : c.saturating_sub-2.result ≡ c.args.end - length c.last_of-last.result.now = omega arith in
    let whole = decided c.args.classes.now c.args.end c.args.texts.now c.saturating_sub.result c.saturating_sub-2.result c.last_of-last.result.now
    c.in_ok-params.params (Err c.in_err-ret.field-0.0) c.saturating_sub.ensures c.last_of-last.ensures place c.in_ok-params.ensures c.in_err-ret.ensures in
    TellsType-handed c.from_residual-in_err-ret.result c.in_err-ret.field-0.0 _ c.from_residual-in_err-ret.ensures.1
    (TellsType-err c.in_err-ret.field-0.0 _ whole)

pub returns : goal.returns
returns c =
    let place : c.saturating_sub-2.result ≡ c.args.end - length c.last_of-last.result.now = omega arith in
    decided c.args.classes.now c.args.end c.args.texts.now c.saturating_sub.result c.saturating_sub-2.result c.last_of-last.result.now c.in_ok-params.params
    (Ok c.in_ok-ret.ret) c.saturating_sub.ensures c.last_of-last.ensures place c.in_ok-params.ensures c.in_ok-ret.ensures
