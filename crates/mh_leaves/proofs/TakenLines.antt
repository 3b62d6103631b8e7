-- A line that is taken leaves classes and leaves that are those of lines.
use Rattle.std.proofs.Common.{◌≡◌, refl, sym, ap, subst, ◌∙◌, ℕ, ◌==◌, Bool, true, false, not, List, [], ◌∷◌, ◌++◌, length, append_assoc, append-nil, Option, Some, Result, Ok, Err}
use Rattle.std.proofs.lemmas.Bool.{not-true}
use Rattle.std.specs.List.{list_any}
use Rattle.std.specs.Option.{option_map_or}
use Rattle.mh_base.proofs.Inversion.{ok_is}
use Rattle.mh_values.specs.declared.class.Class.{Class}
use Rattle.mh_values.specs.declared.class.ClassId.{ClassId}
use Rattle.mh_values.specs.declared.descriptor.DescriptorError.{DescriptorError}
use Rattle.mh_values.specs.declared.types.MethodTy.{MethodTy}
use Rattle.mh_values.specs.Class.{builtin_classes}
use Rattle.mh_values.specs.Classes.{class_named, class_of, most_classes}
use Rattle.mh_values.specs.Descriptor.{desc}
use Rattle.mh_leaf.specs.declared.leaf.Kind.{Kind}
use Rattle.mh_leaf.specs.declared.leaf.Leaf.{Leaf}
use Rattle.mh_leaf.specs.LeafTable.{LeafTable}
use Rattle.mh_leaves.specs.declared.manifest.ManifestKind.TheVariants.{UnknownClass, BadDescriptor, TooMany}
use Rattle.mh_leaves.specs.Find.{has_texts}
use Rattle.mh_leaves.specs.Manifest.{kind_among, type_if_read, has_known_classes, is_repeated, is_leaf_text, leaf_of_line, leaf_added, owned_leaf, leaf_line, class_added, three_tokens}
use Rattle.mh_leaves.specs.Reference.{Texts}
use Rattle.mh_leaves.specs.Registered.{nothing_registered, with_class, with_leaf}
use Rattle.mh_base.proofs.Conditions.{passes, passes_some}
use Rattle.mh_leaves.proofs.LineParts.{Answer, class_line-parts, three_tokens-parts, with_owner, leaf_line-parts, typed, leaf_added-parts}
use Rattle.mh_base.proofs.LineTokens.{AreTokens}
use Rattle.mh_leaves.proofs.MadeOf.{IsDeclared, AreDeclared, declared-more, IsNext, AreMade, made-more, all_made-steady}

-- the classes that are not built in, and the leaves, are those of lines
pub record IsRead (table : LeafTable) : Type 0 where
  pub declared : List Class
  pub classes : table.classes ≡ builtin_classes ++ declared
  pub are_declared : AreDeclared builtin_classes declared
  pub are_made : AreMade table.classes [] table.leaves

pub nothing-read : IsRead nothing_registered
nothing-read = record { declared = []; classes = sym (append-nil builtin_classes); are_declared = tt; are_made = tt }

-- ---- a class more

class-read : (table : LeafTable) (name : List ℕ) (superclass : ClassId) → IsRead table → IsDeclared table.classes (class_of name (Some superclass)) →
    IsRead (with_class table name superclass)
class-read table name superclass old is =
    let class = class_of name (Some superclass) in
    record {
      declared = old.declared ++ class ∷ [];
      classes = ap (λ cs. cs ++ class ∷ []) old.classes ∙ append_assoc builtin_classes old.declared (class ∷ []);
      are_declared = declared-more builtin_classes old.declared class old.are_declared (subst (λ cs. IsDeclared cs class) old.classes is);
      are_made = all_made-steady table.classes (class ∷ []) [] table.leaves old.are_made;
    }

class-taken : (table next : LeafTable) (name : List ℕ) (superclass : ClassId) → IsRead (with_class table name superclass) →
    ◌≡◌ {A = Answer} (Ok (with_class table name superclass)) (Ok next) → IsRead next
class-taken table next name superclass new is = subst IsRead (ok_is (with_class table name superclass) next is) new

pub three-read : (table next : LeafTable) (word name superclass : List ℕ) → AreTokens (name ∷ superclass ∷ []) → IsRead table →
    three_tokens table word name superclass ≡ Ok next → IsRead next
three-read table next word name superclass tokens old h =
    let front = three_tokens-parts table word name superclass (Ok next) (λ e. cc) h in
    let line = class_line-parts table name superclass (Ok next) (λ e. cc) (λ e. cc) front.1 in
    let found = passes_some (class_named table.classes superclass) UnknownClass (class_added table name) (Ok next) (λ e. cc) line.rest in
    let added : Answer = Ok (with_class table name found.0) in
    let room = passes (not (length table.classes == most_classes)) TooMany added (Ok next) (λ e. cc) found.2 in
    class-taken table next name found.0 (class-read table name found.0 old (record {
      superclass = found.0;
      above = superclass;
      is = refl;
      found = found.1;
      names = line.names;
      new = line.new;
      room = room.0;
      tokens = tokens;
    })) room.1

-- ---- a leaf more

leaf-read : (table : LeafTable) (leaf : Leaf) → IsRead table → IsNext table.classes table.leaves leaf → IsRead (with_leaf table leaf)
leaf-read table leaf old is = record {
  declared = old.declared;
  classes = old.classes;
  are_declared = old.are_declared;
  are_made = made-more table.classes [] table.leaves leaf old.are_made is;
}

read_is : (r : Result MethodTy DescriptorError) (t : MethodTy) → type_if_read r ≡ Some t → r ≡ Ok t
read_is (Ok u) t h = let same : u ≡ t = cc in ap Ok same
read_is (Err e) t h = absurd cc

new_is : (o : Option ClassId) (owner : ClassId) (f : ClassId → Bool) → o ≡ Some owner → not (option_map_or f o false) ≡ true → f owner ≡ false
new_is o owner f is h = not-true (f owner) (ap (λ p. not (option_map_or f p false)) (sym is) ∙ h)

-- what holds of the texts of a leaf's line that is taken
record IsTaken (table : LeafTable) (texts : Texts) (word : List ℕ) (owner : ClassId) (kind : Kind) : Type 0 where
  text : is_leaf_text texts word ≡ true
  new : not (is_repeated table texts) ≡ true
  owned : class_named table.classes texts.owner ≡ Some owner
  kinded : kind_among table.classes word ≡ Some kind
  tokens : AreTokens (texts.owner ∷ texts.name ∷ texts.descriptor ∷ word ∷ [])

leaf-taken : (table next : LeafTable) (leaf : Leaf) → IsRead (with_leaf table leaf) → ◌≡◌ {A = Answer} (Ok (with_leaf table leaf)) (Ok next) → IsRead next
leaf-taken table next leaf new is = subst IsRead (ok_is (with_leaf table leaf) next is) new

typed-read : (table next : LeafTable) (is_virtual : Bool) (texts : Texts) (word : List ℕ) (owner : ClassId) (kind : Kind) (t : MethodTy) → IsRead table →
    IsTaken table texts word owner kind → has_known_classes table.classes texts.descriptor ≡ true → desc table.classes texts.descriptor ≡ Ok t →
    leaf_added table (leaf_of_line is_virtual texts owner kind t) ≡ Ok next → IsRead next
typed-read table next is_virtual texts word owner kind t old taken known means h =
    let added = leaf_added-parts table (leaf_of_line is_virtual texts owner kind t) (Ok next) (λ e. cc) (λ e. cc) (λ e. cc) h in
    leaf-taken table next (leaf_of_line is_virtual texts owner kind t) (leaf-read table (leaf_of_line is_virtual texts owner kind t) old (record {
      made = record {
        owner = texts.owner;
        word = word;
        owned = taken.owned;
        kind = taken.kinded;
        text = taken.text;
        known = known;
        described = (t, means, refl);
        few = added.few;
        typed = added.typed;
        tokens = taken.tokens;
      };
      new = new_is (class_named table.classes texts.owner) owner (λ o. list_any (has_texts o texts.name texts.descriptor) table.leaves) taken.owned taken.new;
      room = added.room;
    })) added.is

owned-read : (table next : LeafTable) (is_virtual : Bool) (texts : Texts) (word : List ℕ) (owner : ClassId) (kind : Kind) → IsRead table →
    IsTaken table texts word owner kind → owned_leaf table is_virtual texts owner kind ≡ Ok next → IsRead next
owned-read table next is_virtual texts word owner kind old taken h =
    let known = passes (has_known_classes table.classes texts.descriptor) UnknownClass (typed table is_virtual texts owner kind) (Ok next) (λ e. cc) h in
    let meant = passes_some (type_if_read (desc table.classes texts.descriptor)) BadDescriptor
    (λ t. leaf_added table (leaf_of_line is_virtual texts owner kind t)) (Ok next) (λ e. cc) known.1 in
    typed-read table next is_virtual texts word owner kind meant.0 old taken known.0 (read_is (desc table.classes texts.descriptor) meant.0 meant.1) meant.2

pub leaf_line-read : (table next : LeafTable) (is_virtual : Bool) (texts : Texts) (word : List ℕ) →
    AreTokens (texts.owner ∷ texts.name ∷ texts.descriptor ∷ word ∷ []) → IsRead table → leaf_line table is_virtual texts word ≡ Ok next → IsRead next
leaf_line-read table next is_virtual texts word tokens old h =
    let line = leaf_line-parts table is_virtual texts word (Ok next) (λ e. cc) (λ e. cc) h in
    let owned = passes_some (class_named table.classes texts.owner) UnknownClass (with_owner table is_virtual texts word) (Ok next) (λ e. cc) line.rest in
    let kinded = passes_some (kind_among table.classes word) UnknownClass (λ kind. owned_leaf table is_virtual texts owned.0 kind) (Ok next) (λ e. cc) owned.2
    in
    owned-read table next is_virtual texts word owned.0 kinded.0 old
    (record { text = line.text; new = line.new; owned = owned.1; kinded = kinded.1; tokens = tokens }) kinded.2
