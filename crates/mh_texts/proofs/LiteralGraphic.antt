-- What is written of a value that was read: it is not empty, and its bytes are graphic where those of what was read are.
use Rattle.std.proofs.Common.{◌≡◌, refl, sym, ap, subst, ◌∙◌, ℕ, ◌<◌, true, not, ◌==◌, List, [], ◌∷◌, ◌++◌, codes, length, Some, arith}
use Rattle.std.proofs.lemmas.Bool.{and_parts, and_from}
use Rattle.std.proofs.lemmas.List.Concat.{flat_map-cons}
use Rattle.std.proofs.lemmas.List.Folds.{list_all-append}
use Rattle.std.specs.List.{list_all}
use Rattle.mh_values.specs.declared.class.Class.{Class}
use Rattle.mh_values.specs.declared.types.Comp.{Comp}
use Rattle.mh_values.specs.declared.value.Cell.{Cell}
use Rattle.mh_values.specs.declared.value.Cell.TheVariants as cell
use Rattle.mh_values.specs.declared.value.Value.{Value}
use Rattle.mh_values.specs.declared.value.Value.TheVariants as value
use Rattle.mh_values.specs.Classes.{name_of}
use Rattle.mh_values.specs.TypeText.{component_text}
use Rattle.mh_texts.specs.Characters.{is_graphic}
use Rattle.mh_texts.specs.Literal.{literal_of}
use Rattle.mh_texts.specs.LiteralText.{item_written, items_written, literal_text}
use Rattle.mh_texts.specs.Spells.{SpellsItem, SpellsMore, SpellsItems, SpellsArray, Spells}
use Rattle.mh_texts.proofs.LiteralAgain.{component_is, more_written}
use Rattle.mh_texts.proofs.LiteralBytes.{item_passes}
use Rattle.mh_texts.proofs.SpelledValues.{value_spelled}

-- graphic bytes alone
abbrev pub AreGraphic : List ℕ → Type 0
AreGraphic text = list_all is_graphic text ≡ true

joined : (xs ys : List ℕ) → AreGraphic xs → AreGraphic ys → AreGraphic (xs ++ ys)
joined xs ys x y = list_all-append is_graphic xs ys ∙ and_from (list_all is_graphic xs) (list_all is_graphic ys) x y

parted : (xs ys : List ℕ) → AreGraphic (xs ++ ys) → AreGraphic xs × AreGraphic ys
parted xs ys all = and_parts (list_all is_graphic xs) (list_all is_graphic ys) (sym (list_all-append is_graphic xs ys) ∙ all)

item_graphic : (classes : List Class) (item : Cell) (token : List ℕ) → SpellsItem classes item token → AreGraphic token →
    AreGraphic (item_written (name_of classes) item)
item_graphic classes item token is all =
    item_passes classes is_graphic (λ b of_item. (and_parts (is_graphic b) (not (b == 44)) of_item).0) item token is all

more_graphic : (classes : List Class) (c : Comp) (items : List Cell) (text : List ℕ) → SpellsMore classes c text items → AreGraphic text →
    AreGraphic (more_written classes items)
more_graphic classes c [] text is all = refl
more_graphic classes c (item ∷ items) text is all =
    let one : List ℕ = item_written (name_of classes) item in
    let parts = parted is.0 is.1 (subst AreGraphic is.2 all) in
    ap (list_all is_graphic) (flat_map-cons (λ other. codes "," ++ item_written (name_of classes) other) item items)
    ∙ joined one (more_written classes items) (item_graphic classes item is.0 is.3.spelled parts.0) (more_graphic classes c items is.1 is.4 parts.1)

items_graphic : (classes : List Class) (c : Comp) (items : List Cell) (text : List ℕ) → SpellsItems classes c text items → AreGraphic text →
    AreGraphic (items_written (name_of classes) items)
items_graphic classes c [] text is all = refl
items_graphic classes c (item ∷ items) text is all =
    let parts = parted is.0 is.1 (subst AreGraphic is.2 all) in
    joined (item_written (name_of classes) item) (more_written classes items) (item_graphic classes item is.0 is.3.spelled parts.0)
    (more_graphic classes c items is.1 is.4 parts.1)

array_graphic : (classes : List Class) (c : Comp) (items : List Cell) (text : List ℕ) → SpellsArray classes c items text → AreGraphic text →
    AreGraphic (((component_text classes c ++ codes "[") ++ items_written (name_of classes) items) ++ codes "]")
array_graphic classes c items text is all =
    let front : List ℕ = component_text classes c in
    let inside : List ℕ = items_written (name_of classes) items in
    let parts = parted is.front (91 ∷ (is.inside ++ 93 ∷ [])) (subst AreGraphic is.is all) in
    let first : AreGraphic front = ap (list_all is_graphic) (component_is classes is.front c is.type) ∙ parts.0 in
    let items_are : AreGraphic inside = items_graphic classes c items is.inside is.items_are (parted is.inside (93 ∷ []) parts.1).0 in
    joined ((front ++ codes "[") ++ inside) (codes "]") (joined (front ++ codes "[") inside (joined front (codes "[") first refl) items_are) refl

value_graphic : (classes : List Class) (v : Value) (token : List ℕ) → Spells classes v token → AreGraphic token → AreGraphic (literal_text classes v)
value_graphic classes (value.Prim n) token is all = item_graphic classes (cell.Prim n) token is all
value_graphic classes (value.Boxed n) token is all = item_graphic classes (cell.Boxed n) token is all
value_graphic classes (value.Text s) token is all = item_graphic classes (cell.Text s) token is all
value_graphic classes (value.Object c k) token is all = item_graphic classes (cell.Object c k) token is all
value_graphic classes (value.Thrown e) token is all = item_graphic classes (cell.Thrown e) token is all
value_graphic classes (value.Array c items) token is all =
    array_graphic classes c items is.text is.spelled (subst AreGraphic is.is all)
value_graphic classes value.Null token is all = refl

-- where the bytes of a literal are graphic, so are those of what is written of its value: neither a space nor LF is among them
pub literal_text-graphic : (classes : List Class) (token : List ℕ) (v : Value) → literal_of classes token ≡ Some v → list_all is_graphic token ≡ true →
    list_all is_graphic (literal_text classes v) ≡ true
literal_text-graphic classes token v told all = value_graphic classes v token (value_spelled classes token v told) all

-- the literal of a value is not empty
pub literal_text-some : (classes : List Class) (v : Value) → 0 < length (literal_text classes v)
literal_text-some classes (value.Prim n) = omega arith
literal_text-some classes (value.Boxed n) = omega arith
literal_text-some classes (value.Text s) = omega arith
literal_text-some classes (value.Object c k) = omega arith
literal_text-some classes (value.Thrown e) = omega arith
literal_text-some classes (value.Array c items) = omega arith
literal_text-some classes value.Null = omega arith
