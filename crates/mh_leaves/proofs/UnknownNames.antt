-- A line that is refused for a class that is not there names one.
use Rattle.std.proofs.Common.{◌≡◌, refl, sym, ◌∙◌, zero, suc, inl, inr, ℕ, Bool, true, false, ◌||◌, List, [], ◌∷◌, Option, None, Some, is_some, Contains, arith}
use Rattle.std.proofs.lemmas.Bool.{and_cases, and_parts, or_parts}
use Rattle.std.specs.List.{list_all}
use Rattle.std.specs.Option.{option_map, option_and_then, option_or}
use Rattle.mh_base.proofs.Slices.{not_some}
use Rattle.mh_values.specs.declared.class.Class.{Class}
use Rattle.mh_values.specs.declared.class.ClassId.{ClassId}
use Rattle.mh_values.specs.Classes.{class_named}
use Rattle.mh_values.specs.Grammar.{descriptor_fault}
use Rattle.mh_values.proofs.Sound.{descriptor_sound}
use Rattle.mh_leaf.specs.declared.leaf.Kind.{Kind}
use Rattle.mh_leaf.specs.declared.leaf.Kind.TheVariants as kind
use Rattle.mh_leaves.specs.Kinds.{word_kind}
use Rattle.mh_leaves.specs.Manifest.{thrown_name, is_kind_word, kind_among, knows_names, has_known_classes, is_leaf_text}
use Rattle.mh_leaves.specs.Names.{descriptor_names}
use Rattle.mh_leaves.specs.Reference.{Texts}
use Rattle.mh_leaves.specs.Unknown.{LeafNamesUnknown, as_thrown, in_types}
use Rattle.mh_leaves.proofs.KnownNames.{names_known}
use Rattle.mh_leaves.proofs.Words.{thrown_is}

-- ---- descriptors

not_all : {A : Type 0} (test : A → Bool) (xs : List A) → list_all test xs ≡ false → (x : A) × Contains xs x × (test x ≡ false)
not_all test [] h = absurd cc
not_all test (x ∷ xs) h =
    elim (and_cases (test x) (list_all test xs) h) [
      | inl here ↦ (x, (zero, omega arith, refl), here)
      | inr later ↦ let more = not_all test xs later in (more.0, (suc more.1.0, omega (arith, more.1.1), more.1.2), more.2)
    ]

pub unknown_type : (classes : List Class) (owner text word : List ℕ) → has_known_classes classes text ≡ false → LeafNamesUnknown classes owner text word
unknown_type classes owner text word h =
    let parts = or_parts (is_some (descriptor_fault text)) (knows_names classes text) h in
    let d = descriptor_sound text (not_some (descriptor_fault text) parts.0) in
    let name = not_all (λ name. is_some (class_named classes name)) (descriptor_names d) (sym (names_known classes text d) ∙ parts.1) in
    in_types d name.0 name.1 (not_some (class_named classes name.0) name.2)

-- ---- kinds

no_class : (o : Option ClassId) → option_map kind.Throw o ≡ None → o ≡ None
no_class None h = refl
no_class (Some class) h = absurd cc

thrown_there : (classes : List Class) (x : Option Kind) (t : Option (List ℕ)) → (is_some x || is_some t) ≡ true →
    option_or x (option_and_then (λ name. option_map kind.Throw (class_named classes name)) t) ≡ None →
    (name : List ℕ) × (t ≡ Some name) × (class_named classes name ≡ None)
thrown_there classes (Some x) t word h = absurd cc
thrown_there classes None None word h = absurd cc
thrown_there classes None (Some name) word h = (name, refl, no_class (class_named classes name) h)

pub unknown_thrown : (classes : List Class) (owner text word : List ℕ) → is_kind_word word ≡ true → kind_among classes word ≡ None →
    LeafNamesUnknown classes owner text word
unknown_thrown classes owner text word is none =
    let name = thrown_there classes (word_kind word) (thrown_name word) is none in
    as_thrown name.0 (thrown_is word name.0 name.1) name.2

-- a leaf's line has the word of a kind
pub kind_word_of : (texts : Texts) (word : List ℕ) → is_leaf_text texts word ≡ true → is_kind_word word ≡ true
kind_word_of texts word h = (and_parts _ (is_kind_word word) h).1
