-- What each class and each leaf of a manifest was read from; it stays so when more are read.
use Rattle.std.proofs.Common.{◌≡◌, sym, subst, ℕ, ◌==◌, true, false, not, ◌&&◌, List, [], ◌∷◌, ◌++◌, length, append_assoc, append-nil, is_some, nat_le, Some}
use Rattle.std.specs.List.{list_any}
use Rattle.mh_values.specs.declared.class.Class.{Class}
use Rattle.mh_values.specs.declared.class.ClassId.{ClassId}
use Rattle.mh_values.specs.Classes.{class_named, most_classes}
use Rattle.mh_values.specs.Slots.{slots_of_all}
use Rattle.mh_leaf.specs.declared.leaf.Leaf.{Leaf}
use Rattle.mh_leaf.specs.Outcome.{is_well_typed}
use Rattle.mh_leaves.specs.Find.{has_texts}
use Rattle.mh_leaves.specs.Manifest.{kind_among, has_known_classes, is_leaf_text}
use Rattle.mh_leaves.specs.Reference.{is_class_name}
use Rattle.mh_leaves.specs.Registered.{IsDescribed, most_leaves}
use Rattle.mh_base.proofs.LineTokens.{AreTokens}
use Rattle.mh_leaves.proofs.Meanings.{class_named-grown, desc-grown}
use Rattle.mh_leaves.proofs.Steady.{known-steady, kind-steady, typed-steady}

-- ---- classes

-- a class is that of a line after these classes
pub record IsDeclared (before : List Class) (class : Class) : Type 0 where
  pub superclass : ClassId
  pub above : List ℕ
  pub is : class.superclass ≡ Some superclass
  pub found : class_named before above ≡ Some superclass
  pub names : (is_class_name class.name && is_class_name above) ≡ true
  pub new : not (is_some (class_named before class.name)) ≡ true
  pub room : not (length before == most_classes) ≡ true
  pub tokens : AreTokens (class.name ∷ above ∷ [])

-- so is each class of a list, after those before it
abbrev pub AreDeclared : List Class → List Class → Type 0
AreDeclared before [] = Unit {0}
AreDeclared before (class ∷ rest) = IsDeclared before class × AreDeclared (before ++ class ∷ []) rest

pub declared-more : (before rest : List Class) (class : Class) → AreDeclared before rest → IsDeclared (before ++ rest) class →
    AreDeclared before (rest ++ class ∷ [])
declared-more before [] class are is = (subst (λ cs. IsDeclared cs class) (append-nil before) is, tt)
declared-more before (x ∷ rest) class are is =
    (are.0, declared-more (before ++ x ∷ []) rest class are.1 (subst (λ cs. IsDeclared cs class) (sym (append_assoc before (x ∷ []) rest)) is))

-- ---- leaves

-- a leaf is that of a line among these classes
pub record IsMade (classes : List Class) (leaf : Leaf) : Type 0 where
  pub owner : List ℕ
  pub word : List ℕ
  pub owned : class_named classes owner ≡ Some leaf.owner
  pub kind : kind_among classes word ≡ Some leaf.kind
  pub text : is_leaf_text (record { owner = owner; name = leaf.name; descriptor = leaf.descriptor }) word ≡ true
  pub known : has_known_classes classes leaf.descriptor ≡ true
  pub described : IsDescribed classes leaf
  pub few : nat_le (slots_of_all leaf.ty.params) 254 ≡ true
  pub typed : is_well_typed classes leaf ≡ true
  pub tokens : AreTokens (owner ∷ leaf.name ∷ leaf.descriptor ∷ word ∷ [])

-- a leaf may come after these
pub record IsNext (classes : List Class) (before : List Leaf) (leaf : Leaf) : Type 0 where
  pub made : IsMade classes leaf
  pub new : list_any (has_texts leaf.owner leaf.name leaf.descriptor) before ≡ false
  pub room : not (length before == most_leaves) ≡ true

-- so may each leaf of a list, after those before it
abbrev pub AreMade : List Class → List Leaf → List Leaf → Type 0
AreMade classes before [] = Unit {0}
AreMade classes before (leaf ∷ rest) = IsNext classes before leaf × AreMade classes (before ++ leaf ∷ []) rest

pub made-more : (classes : List Class) (before rest : List Leaf) (leaf : Leaf) → AreMade classes before rest → IsNext classes (before ++ rest) leaf →
    AreMade classes before (rest ++ leaf ∷ [])
made-more classes before [] leaf are is = (subst (λ ls. IsNext classes ls leaf) (append-nil before) is, tt)
made-more classes before (x ∷ rest) leaf are is =
    (are.0, made-more classes (before ++ x ∷ []) rest leaf are.1 (subst (λ ls. IsNext classes ls leaf) (sym (append_assoc before (x ∷ []) rest)) is))

-- ---- classes put after the others

made-steady : (classes more : List Class) (leaf : Leaf) → IsMade classes leaf → IsMade (classes ++ more) leaf
made-steady classes more leaf is = record {
  owner = is.owner;
  word = is.word;
  owned = class_named-grown classes more is.owner leaf.owner is.owned;
  kind = kind-steady classes more is.word leaf.kind is.kind;
  text = is.text;
  known = known-steady classes more leaf.descriptor is.known;
  described = (is.described.0, desc-grown classes more leaf.descriptor is.described.0 is.described.1, is.described.2);
  few = is.few;
  typed = typed-steady classes more leaf is.typed;
  tokens = is.tokens;
}

pub all_made-steady : (classes more : List Class) (before rest : List Leaf) → AreMade classes before rest → AreMade (classes ++ more) before rest
all_made-steady classes more before [] are = tt
all_made-steady classes more before (leaf ∷ rest) are = (
  record { made = made-steady classes more leaf are.0.made; new = are.0.new; room = are.0.room },
  all_made-steady classes more (before ++ leaf ∷ []) rest are.1,
)
