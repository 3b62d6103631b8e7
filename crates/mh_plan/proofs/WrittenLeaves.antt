-- The leaf and the type of a call that was read are written as their tokens.
use Rattle.std.proofs.Common.{◌≡◌, refl, sym, ap, ap₂, ◌∙◌, inl, inr, ℕ, ◌<◌, ◌==◌, Bool, true, ◌&&◌, List, [], ◌++◌, codes, length, drop, position, slice_get, Option, None, Some, Result, Ok, Err, arith}
use Rattle.std.proofs.lemmas.Bool.{and_parts, eqb-true}
use Rattle.std.proofs.lemmas.Bool.Decides.{Decides-eqb}
use Rattle.std.proofs.lemmas.List.Quantifiers.{position-Some}
use Rattle.std.proofs.lemmas.Option.{slice_get_cases}
use Rattle.std.proofs.lemmas.Slice.Eq.{bytes_eq-Decides, starts_is}
use Rattle.std.specs.List.{starts_with}
use Rattle.std.specs.Option.{option_map_or}
use Rattle.std.specs.Prelude.{nat_eq}
use Rattle.std.specs.Str.{bytes_eq}
use Rattle.mh_values.specs.declared.class.Class.{Class}
use Rattle.mh_values.specs.declared.class.ClassId.{ClassId}
use Rattle.mh_values.specs.declared.descriptor.DescriptorError.{DescriptorError}
use Rattle.mh_values.specs.declared.types.MethodTy.{MethodTy}
use Rattle.mh_values.specs.declared.value.LeafId.{LeafId}
use Rattle.mh_values.specs.Class.{class_at}
use Rattle.mh_values.specs.Classes.{class_named, name_of}
use Rattle.mh_values.specs.Descriptor.{desc}
use Rattle.mh_values.specs.ReadAs.{IsMethodTypeRead}
use Rattle.mh_values.specs.TypeText.{method_type_text}
use Rattle.mh_values.proofs.ReadBy.{method_read}
use Rattle.mh_base.proofs.Inversion.{by_test, some_is, none_is_not, then_some}
use Rattle.mh_values.proofs.NamedClass.{named_is}
use Rattle.mh_leaf.specs.declared.leaf.Leaf.{Leaf}
use Rattle.mh_leaf.specs.LeafTable.{LeafTable}
use Rattle.mh_leaves.specs.declared.naming.How.TheVariants.{Any}
use Rattle.mh_leaves.specs.Find.{has_texts, is_called, leaf_numbered, leaf_called, find_leaf}
use Rattle.mh_leaves.specs.Manifest.{type_if_read}
use Rattle.mh_leaves.specs.Reference.{Texts, reference_of, reference_text}
use Rattle.mh_leaves.proofs.Once.{position-within}
use Rattle.mh_script.proofs.References.{reference-text}
use Rattle.mh_plan.specs.Plan.{leaf_texts, leaf_if_found, leaf_named}
use Rattle.mh_plan.specs.Written.{leaf_reference_text, leaf_text}

-- ---- the texts of a leaf

leaf_texts-text : (token : List ℕ) (texts : Texts) → leaf_texts token ≡ Some texts → codes "leaf:" ++ reference_text texts ≡ token
leaf_texts-text token texts told =
    by_test (starts_with nat_eq token (codes "leaf:")) (reference_of (drop 5 token)) None (Some texts) told
    (λ begins is.
    ap (λ t. codes "leaf:" ++ t) (reference-text (drop 5 token) texts is) ∙ sym ((starts_is Decides-eqb token (codes "leaf:") _ refl).0 begins))
    (λ begins is. none_is_not texts is)

-- ---- the leaf that is found

-- the first item that passes a test
first_is : {A : Type 0} (f : A → Bool) (xs : List A) (i : ℕ) → position f xs ≡ Some i → (x : A) × (slice_get xs i ≡ Some x) × (f x ≡ true)
first_is f xs i h =
    elim ((slice_get_cases xs i).1) [
      | inl found ↦ (found.0, found.2, ap f (sym found.3) ∙ (position-Some f xs i found.0 h).1)
      | inr past ↦ let within : i < length xs = position-within f xs (Some i) (sym h) in absurd (omega (arith, within, past.0))
    ]

-- a leaf that was found by its texts has them
has_texts-text : (classes : List Class) (owner : ClassId) (texts : Texts) (leaf : Leaf) → class_named classes texts.owner ≡ Some owner →
    is_called owner texts.name texts.descriptor Any leaf ≡ true → leaf_reference_text classes leaf ≡ reference_text texts
has_texts-text classes owner texts leaf named called =
    let all = and_parts (has_texts owner texts.name texts.descriptor leaf) true called in
    let outer = and_parts (leaf.owner.0 == owner.0 && bytes_eq leaf.name texts.name) (bytes_eq leaf.descriptor texts.descriptor) all.0 in
    let inner = and_parts (leaf.owner.0 == owner.0) (bytes_eq leaf.name texts.name) outer.0 in
    let owned : name_of classes leaf.owner ≡ texts.owner =
    ap (λ n. name_of classes (class_at n)) (eqb-true leaf.owner.0 owner.0 inner.0) ∙ named_is classes texts.owner owner named in
    ap₂ (λ o n. o ++ codes "." ++ n ++ codes ":" ++ leaf.descriptor) owned ((bytes_eq-Decides leaf.name texts.name).0 inner.1)
    ∙ ap (λ d. texts.owner ++ codes "." ++ texts.name ++ codes ":" ++ d) ((bytes_eq-Decides leaf.descriptor texts.descriptor).0 outer.1)

placed : (table : LeafTable) (owner : ClassId) (texts : Texts) (id : LeafId) (o : Option ℕ) → class_named table.classes texts.owner ≡ Some owner →
    position (is_called owner texts.name texts.descriptor Any) table.leaves ≡ o → leaf_if_found (leaf_numbered o) ≡ Some id →
    leaf_text table id ≡ codes "leaf:" ++ reference_text texts
placed table owner texts id None named found is = cc
placed table owner texts id (Some at) named found is =
    let first = first_is (is_called owner texts.name texts.descriptor Any) table.leaves at found in
    let same : at ≡ id.0 = ap (λ o. option_map_or (λ (l : LeafId). l.0) o 0) is in
    ap (λ t. codes "leaf:" ++ t) (
    ap (λ n. option_map_or (leaf_reference_text table.classes) (slice_get table.leaves n) []) (sym same)
    ∙ ap (λ o. option_map_or (leaf_reference_text table.classes) o []) first.1
    ∙ has_texts-text table.classes owner texts first.0 named first.2
    )

owned : (table : LeafTable) (texts : Texts) (id : LeafId) (o : Option ClassId) → class_named table.classes texts.owner ≡ o →
    leaf_if_found (leaf_called o texts.name texts.descriptor Any table.leaves) ≡ Some id → leaf_text table id ≡ codes "leaf:" ++ reference_text texts
owned table texts id None named is = cc
owned table texts id (Some owner) named is =
    placed table owner texts id (position (is_called owner texts.name texts.descriptor Any) table.leaves) named refl is

-- a leaf is written as the token that it was found by
pub leaf_text-is : (table : LeafTable) (token : List ℕ) (id : LeafId) → leaf_named table token ≡ Some id → leaf_text table id ≡ token
leaf_text-is table token id told =
    let texts = then_some (λ (t : Texts). leaf_if_found (find_leaf table t.owner t.name t.descriptor Any)) (leaf_texts token) id told in
    owned table texts.0 id (class_named table.classes texts.0.owner) refl texts.2 ∙ leaf_texts-text token texts.0 texts.1

-- ---- types

read_is : (classes : List Class) (asked : List ℕ) (r : Result MethodTy DescriptorError) (t : MethodTy) → IsMethodTypeRead classes asked r →
    type_if_read r ≡ Some t → method_type_text classes t ≡ asked
read_is classes asked (Ok u) t read told = ap (method_type_text classes) (sym (some_is u t told)) ∙ sym read.1
read_is classes asked (Err error) t read told = none_is_not t told

-- a type is written as the token that it was read of
pub type_text-is : (classes : List Class) (asked : List ℕ) (t : MethodTy) → type_if_read (desc classes asked) ≡ Some t → method_type_text classes t ≡ asked
type_text-is classes asked t told = read_is classes asked (desc classes asked) t (method_read classes asked) told
