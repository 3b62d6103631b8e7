-- What a leaf's line needs of the classes stays so when classes are put after the others.
use Rattle.std.proofs.Common.{◌≡◌, refl, ap, ◌∙◌, zero, suc, inl, inr, ℕ, ◌≤◌, ◌==◌, true, List, [], ◌∷◌, ◌++◌, length, length-append, is_some, Option, None, Some, arith}
use Rattle.std.proofs.lemmas.Bool.{and_parts, and_from, or_cases, or_left, or_right}
use Rattle.std.specs.List.{list_all, slice_split}
use Rattle.std.specs.Option.{option_map, option_map_or, option_and_then, option_or}
use Rattle.mh_base.specs.Lines.{cut_at}
use Rattle.mh_values.specs.declared.class.Class.{Class}
use Rattle.mh_values.specs.declared.class.ClassId.{ClassId}
use Rattle.mh_values.specs.Class.{superclass_of, reaches_within, throwable_class}
use Rattle.mh_values.specs.Classes.{class_named}
use Rattle.mh_values.specs.Grammar.{descriptor_fault}
use Rattle.mh_values.proofs.Subclasses.{through}
use Rattle.mh_leaf.specs.declared.leaf.Kind.{Kind}
use Rattle.mh_leaf.specs.declared.leaf.Kind.TheVariants as kind
use Rattle.mh_leaf.specs.declared.leaf.Leaf.{Leaf}
use Rattle.mh_leaf.specs.Outcome.{is_kind_type, throws_exceptions, is_well_typed}
use Rattle.mh_leaves.specs.Kinds.{word_kind}
use Rattle.mh_leaves.specs.Manifest.{thrown_name, throw_kind, kind_among, knows_name, knows_names, has_known_classes}
use Rattle.mh_leaves.proofs.Growing.{superclass-grown}
use Rattle.mh_leaves.proofs.Meanings.{class_named-grown}

-- ---- names in descriptors

there : (o p : Option ClassId) → ((c : ClassId) → o ≡ Some c → p ≡ Some c) → is_some o ≡ true → is_some p ≡ true
there None p grown h = absurd cc
there (Some c) p grown h = ap is_some (grown c refl)

part_known : (classes more : List Class) (o : Option (List ℕ × List ℕ)) →
    option_map_or (λ parts. is_some (class_named classes parts.1)) o true ≡ true →
    option_map_or (λ parts. is_some (class_named (classes ++ more) parts.1)) o true ≡ true
part_known classes more None h = refl
part_known classes more (Some parts) h =
    there (class_named classes parts.1) (class_named (classes ++ more) parts.1) (class_named-grown classes more parts.1) h

pieces_known : (classes more : List Class) (pieces : List (List ℕ)) → list_all (knows_name classes) pieces ≡ true →
    list_all (knows_name (classes ++ more)) pieces ≡ true
pieces_known classes more [] h = refl
pieces_known classes more (piece ∷ pieces) h =
    let parts = and_parts (knows_name classes piece) (list_all (knows_name classes) pieces) h in
    and_from (knows_name (classes ++ more) piece) (list_all (knows_name (classes ++ more)) pieces) (part_known classes more (cut_at 76 piece) parts.0)
    (pieces_known classes more pieces parts.1)

pub known-steady : (classes more : List Class) (text : List ℕ) → has_known_classes classes text ≡ true → has_known_classes (classes ++ more) text ≡ true
known-steady classes more text h =
    let none = is_some (descriptor_fault text) in
    elim (or_cases none (knows_names classes text) h) [
      | inl bad ↦ or_left none (knows_names (classes ++ more) text) bad
      | inr known ↦ or_right none (knows_names (classes ++ more) text) (pieces_known classes more (slice_split (λ b. b == 59) text) known)
    ]

-- ---- kinds

thrown-steady : (o p : Option ClassId) (found : Kind) → ((c : ClassId) → o ≡ Some c → p ≡ Some c) → option_map kind.Throw o ≡ Some found →
    option_map kind.Throw p ≡ Some found
thrown-steady None p found grown h = absurd cc
thrown-steady (Some c) p found grown h = ap (option_map kind.Throw) (grown c refl) ∙ h

throw-steady : (classes more : List Class) (o : Option (List ℕ)) (found : Kind) →
    option_and_then (λ name. option_map kind.Throw (class_named classes name)) o ≡ Some found →
    option_and_then (λ name. option_map kind.Throw (class_named (classes ++ more) name)) o ≡ Some found
throw-steady classes more None found h = h
throw-steady classes more (Some name) found h =
    thrown-steady (class_named classes name) (class_named (classes ++ more) name) found (class_named-grown classes more name) h

or-steady : (x y z : Option Kind) (found : Kind) → (y ≡ Some found → z ≡ Some found) → option_or x y ≡ Some found → option_or x z ≡ Some found
or-steady None y z found grown h = grown h
or-steady (Some k) y z found grown h = h

pub kind-steady : (classes more : List Class) (word : List ℕ) (found : Kind) → kind_among classes word ≡ Some found →
    kind_among (classes ++ more) word ≡ Some found
kind-steady classes more word found h =
    or-steady (word_kind word) (throw_kind classes word) (throw_kind (classes ++ more) word) found (throw-steady classes more (thrown_name word) found) h

-- ---- exceptions

through-steady : (classes more : List Class) (b : ClassId) (steps longer : ℕ) (o p : Option ClassId) → ((c : ClassId) → o ≡ Some c → p ≡ Some c) →
    ((c : ClassId) → reaches_within steps classes c b ≡ true → reaches_within longer (classes ++ more) c b ≡ true) → through steps classes b o ≡ true →
    through longer (classes ++ more) b p ≡ true
through-steady classes more b steps longer None p grown further h = absurd cc
through-steady classes more b steps longer (Some c) p grown further h = ap (through longer (classes ++ more) b) (grown c refl) ∙ further c h

reaches-steady : (classes more : List Class) (a b : ClassId) (steps longer : ℕ) → steps ≤ longer → reaches_within steps classes a b ≡ true →
    reaches_within longer (classes ++ more) a b ≡ true
reaches-steady classes more a b zero zero fits h = h
reaches-steady classes more a b zero (suc longer) fits h = or_left (a.0 == b.0) _ h
reaches-steady classes more a b (suc steps) zero fits h = absurd (omega (arith, fits))
reaches-steady classes more a b (suc steps) (suc longer) fits h =
    let up = through steps classes b (superclass_of classes a) in
    let more_up = through longer (classes ++ more) b (superclass_of (classes ++ more) a) in
    elim (or_cases (a.0 == b.0) up h) [
      | inl here ↦ or_left (a.0 == b.0) more_up here
      | inr further ↦ or_right (a.0 == b.0) more_up (through-steady classes more b steps longer (superclass_of classes a) (superclass_of (classes ++ more) a)
          (superclass-grown classes more a) (λ c k. reaches-steady classes more c b steps longer (omega (arith, fits)) k) further)
    ]

throws-steady : (classes more : List Class) (k : Kind) → throws_exceptions classes k ≡ true → throws_exceptions (classes ++ more) k ≡ true
throws-steady classes more (kind.Throw class) h =
    reaches-steady classes more class throwable_class (length classes) (length (classes ++ more)) (omega (arith, length-append classes more)) h
throws-steady classes more kind.Iadd h = refl
throws-steady classes more kind.Isub h = refl
throws-steady classes more kind.Imul h = refl
throws-steady classes more kind.Idiv h = refl
throws-steady classes more kind.Ladd h = refl
throws-steady classes more kind.Ieq h = refl
throws-steady classes more kind.Ilt h = refl
throws-steady classes more kind.Not h = refl
throws-steady classes more kind.Concat h = refl
throws-steady classes more kind.Length h = refl
throws-steady classes more kind.Same h = refl
throws-steady classes more kind.First h = refl
throws-steady classes more kind.Pick h = refl
throws-steady classes more kind.Tick h = refl
throws-steady classes more kind.Note h = refl

pub typed-steady : (classes more : List Class) (leaf : Leaf) → is_well_typed classes leaf ≡ true → is_well_typed (classes ++ more) leaf ≡ true
typed-steady classes more leaf h =
    let parts = and_parts (is_kind_type leaf.kind leaf.ty) (throws_exceptions classes leaf.kind) h in
    and_from (is_kind_type leaf.kind leaf.ty) (throws_exceptions (classes ++ more) leaf.kind) parts.0 (throws-steady classes more leaf.kind parts.1)
