-- The words of kinds and of leaves' lines: what each was read from.
use Rattle.std.proofs.Common.{◌≡◌, refl, sym, ap, ◌∙◌, inl, inr, ℕ, Bool, true, false, ◌&&◌, if◌then◌else◌, List, [], ◌∷◌, ◌++◌, codes, drop, Option, None, Some}
use Rattle.std.proofs.lemmas.Bool.{cases_Bool, and_parts}
use Rattle.std.proofs.lemmas.Bool.Decides.{Decides-eqb}
use Rattle.std.proofs.lemmas.Slice.Eq.{bytes_eq-Decides, starts_is}
use Rattle.std.specs.List.{list_all, starts_with}
use Rattle.std.specs.Option.{option_map, option_and_then, option_or}
use Rattle.std.specs.Prelude.{nat_eq}
use Rattle.std.specs.Str.{bytes_eq}
use Rattle.mh_values.specs.declared.class.Class.{Class}
use Rattle.mh_values.specs.declared.class.ClassId.{ClassId}
use Rattle.mh_values.specs.Classes.{class_named}
use Rattle.mh_leaf.specs.declared.leaf.Kind.{Kind}
use Rattle.mh_leaf.specs.declared.leaf.Kind.TheVariants as kind
use Rattle.mh_leaves.specs.Kinds.{word_kinds, kind_of_row, word_kind}
use Rattle.mh_leaves.specs.Manifest.{thrown_name, throw_kind, kind_among, is_virtual_word}
use Rattle.mh_leaves.specs.Reference.{is_class_name}
use Rattle.mh_leaves.specs.Written.{kind_text, leaf_word}
use Rattle.mh_values.proofs.NamedClass.{named_is}

-- ---- words alone

-- each row has the word of its kind
abbrev AreTold : List Class → List (List ℕ × Kind) → Type 0
AreTold classes rows = list_all (λ row. bytes_eq (kind_text classes row.1) row.0) rows ≡ true

-- those of the table have it
pub rows_told : (classes : List Class) → AreTold classes word_kinds
rows_told classes = refl

row_told : (classes : List Class) (rows : List (List ℕ × Kind)) (word : List ℕ) (found : Kind) → AreTold classes rows → kind_of_row rows word ≡ Some found →
    kind_text classes found ≡ word
row_told classes [] word found told h = absurd cc
row_told classes (row ∷ rows) word found told h =
    let parts = and_parts (bytes_eq (kind_text classes row.1) row.0) (list_all (λ row. bytes_eq (kind_text classes row.1) row.0) rows) told in
    let rest = kind_of_row rows word in
    elim (cases_Bool (bytes_eq word row.0)) [
      | inl e ↦
          let here : Some row.1 ≡ Some found = sym (ap (λ b. if b then Some row.1 else rest) e) ∙ h in
          let same : row.1 ≡ found = cc in
          ap (kind_text classes) (sym same) ∙ ((bytes_eq-Decides (kind_text classes row.1) row.0).0 parts.0 ∙ sym ((bytes_eq-Decides word row.0).0 e))
      | inr e ↦ row_told classes rows word found parts.1 (sym (ap (λ b. if b then Some row.1 else rest) e) ∙ h)
    ]

-- ---- `throw:CLASS`

pub thrown_is : (word name : List ℕ) → thrown_name word ≡ Some name → word ≡ codes "throw:" ++ name
thrown_is word name h =
    elim (cases_Bool (starts_with nat_eq word (codes "throw:") && is_class_name (drop 6 word))) [
      | inl e ↦
          let parts = and_parts (starts_with nat_eq word (codes "throw:")) (is_class_name (drop 6 word)) e in
          let here : Some (drop 6 word) ≡ Some name = sym (ap (λ b. if b then Some (drop 6 word) else None) e) ∙ h in
          let same : drop 6 word ≡ name = cc in
          (starts_is Decides-eqb word (codes "throw:") _ refl).0 parts.0 ∙ ap (λ n. codes "throw:" ++ n) same
      | inr e ↦ let none : None ≡ Some name = sym (ap (λ b. if b then Some (drop 6 word) else None) e) ∙ h in absurd cc
    ]

throws_told : (classes : List Class) (o : Option ClassId) (name : List ℕ) (found : Kind) → class_named classes name ≡ o →
    option_map kind.Throw o ≡ Some found → kind_text classes found ≡ codes "throw:" ++ name
throws_told classes None name found named h = absurd cc
throws_told classes (Some class) name found named h =
    let same : kind.Throw class ≡ found = cc in
    ap (kind_text classes) (sym same) ∙ ap (λ n. codes "throw:" ++ n) (named_is classes name class named)

throw_told : (classes : List Class) (word : List ℕ) (o : Option (List ℕ)) (found : Kind) → thrown_name word ≡ o →
    option_and_then (λ name. option_map kind.Throw (class_named classes name)) o ≡ Some found → kind_text classes found ≡ word
throw_told classes word None found is h = absurd cc
throw_told classes word (Some name) found is h = throws_told classes (class_named classes name) name found refl h ∙ sym (thrown_is word name is)

-- ---- any kind

first_of_two : (x y : Option Kind) (found : Kind) (P : Type 0) → (x ≡ Some found → P) → (y ≡ Some found → P) → option_or x y ≡ Some found → P
first_of_two None y found P first second h = second h
first_of_two (Some k) y found P first second h = first h

-- the text of the kind of a word is the word
pub kind_is : (classes : List Class) (word : List ℕ) (found : Kind) → kind_among classes word ≡ Some found → kind_text classes found ≡ word
kind_is classes word found h =
    first_of_two (word_kind word) (throw_kind classes word) found (kind_text classes found ≡ word) (row_told classes word_kinds word found (rows_told classes))
    (throw_told classes word (thrown_name word) found refl) h

-- ---- leaves' lines

-- a leaf's line begins with its word
pub leaf_word_is : (word : List ℕ) (is_virtual : Bool) → is_virtual_word word ≡ Some is_virtual → word ≡ leaf_word is_virtual
leaf_word_is word is_virtual h =
    elim (cases_Bool (bytes_eq word (codes "static"))) [
      | inl e ↦
          let here : Some false ≡ Some is_virtual =
          sym (ap (λ b. if b then Some false else (if bytes_eq word (codes "virtual") then Some true else None)) e) ∙ h in
          let same : false ≡ is_virtual = cc in
          (bytes_eq-Decides word (codes "static")).0 e ∙ ap leaf_word same
      | inr e ↦
          let later : (if bytes_eq word (codes "virtual") then Some true else None) ≡ Some is_virtual =
          sym (ap (λ b. if b then Some false else (if bytes_eq word (codes "virtual") then Some true else None)) e) ∙ h in
          elim (cases_Bool (bytes_eq word (codes "virtual"))) [
            | inl f ↦
                let here : Some true ≡ Some is_virtual = sym (ap (λ b. if b then Some true else None) f) ∙ later in
                let same : true ≡ is_virtual = cc in
                (bytes_eq-Decides word (codes "virtual")).0 f ∙ ap leaf_word same
            | inr f ↦ let none : None ≡ Some is_virtual = sym (ap (λ b. if b then Some true else None) f) ∙ later in absurd cc
          ]
    ]
