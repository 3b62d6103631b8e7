-- What is written of a value that was read is read as the value, and has graphic bytes alone where what was read has.
use Rattle.std.proofs.Common.{◌≡◌, refl, sym, ap, subst, ◌∙◌, ℕ, not, ◌==◌, List, [], ◌∷◌, ◌++◌, codes, flat_map, Some, Result, Ok, Err, IfOk}
use Rattle.std.proofs.lemmas.Bool.{and_parts}
use Rattle.std.proofs.lemmas.List.Concat.{flat_map-cons}
use Rattle.mh_values.specs.declared.class.Class.{Class}
use Rattle.mh_values.specs.declared.types.Comp.{Comp}
use Rattle.mh_values.specs.declared.types.Comp.TheVariants as comp
use Rattle.mh_values.specs.declared.value.Cell.{Cell}
use Rattle.mh_values.specs.declared.value.Cell.TheVariants as cell
use Rattle.mh_values.specs.declared.value.Value.{Value}
use Rattle.mh_values.specs.declared.value.Value.TheVariants as value
use Rattle.mh_values.specs.Classes.{name_of}
use Rattle.mh_values.specs.TypeText.{component_text}
use Rattle.mh_values.proofs.NamedClass.{named_is}
use Rattle.mh_texts.specs.declared.literal.LiteralError.{LiteralError}
use Rattle.mh_texts.specs.Characters.{is_graphic}
use Rattle.mh_texts.specs.Literal.{literal_of, TellsLiteral}
use Rattle.mh_texts.specs.LiteralText.{item_written, items_written, literal_text}
use Rattle.mh_texts.specs.Spells.{SpellsComponent, SpellsItemOf, SpellsMore, SpellsItems, SpellsArray, Spells}
use Rattle.mh_texts.proofs.LiteralBytes.{item_passes}
use Rattle.mh_texts.proofs.RoundTrip.{array_parts}
use Rattle.mh_texts.proofs.SpelledValues.{value_spelled, value_read}
use Rattle.mh_texts.proofs.ItemAgain.{item_again}

-- ---- arrays

pub component_is : (classes : List Class) (text : List ℕ) (c : Comp) → SpellsComponent classes text c → component_text classes c ≡ text
component_is classes text (comp.Prim p) is = sym is
component_is classes text (comp.Class c) is = ap (λ name. 76 ∷ (name ++ 59 ∷ [])) (named_is classes is.name c is.named) ∙ sym is.is

one_again : (classes : List Class) (c : Comp) (text : List ℕ) (item : Cell) → SpellsItemOf classes c text item →
    SpellsItemOf classes c (item_written (name_of classes) item) item
one_again classes c text item is = record {
  spelled = item_again classes item text is.spelled;
  typed = is.typed;
  cut = item_passes classes (λ b. not (b == 44)) (λ b of_item. (and_parts (is_graphic b) (not (b == 44)) of_item).1) item text is.spelled is.cut;
}

-- items, each after a comma
abbrev pub more_written : List Class → List Cell → List ℕ
more_written classes items = flat_map (λ other. codes "," ++ item_written (name_of classes) other) items

more_again : (classes : List Class) (c : Comp) (items : List Cell) (text : List ℕ) → SpellsMore classes c text items →
    SpellsMore classes c (more_written classes items) items
more_again classes c [] text is = refl
more_again classes c (item ∷ items) text is = (
  item_written (name_of classes) item,
  more_written classes items,
  flat_map-cons (λ other. codes "," ++ item_written (name_of classes) other) item items,
  one_again classes c is.0 item is.3,
  more_again classes c items is.1 is.4,
)

items_again : (classes : List Class) (c : Comp) (items : List Cell) (text : List ℕ) → SpellsItems classes c text items →
    SpellsItems classes c (items_written (name_of classes) items) items
items_again classes c [] text is = refl
items_again classes c (item ∷ items) text is = (
  item_written (name_of classes) item,
  more_written classes items,
  refl,
  one_again classes c is.0 item is.3,
  more_again classes c items is.1 is.4,
)

array_again : (classes : List Class) (c : Comp) (items : List Cell) (text : List ℕ) → SpellsArray classes c items text →
    SpellsArray classes c items (((component_text classes c ++ codes "[") ++ items_written (name_of classes) items) ++ codes "]")
array_again classes c items text is = record {
  front = component_text classes c;
  inside = items_written (name_of classes) items;
  is = array_parts (component_text classes c) (items_written (name_of classes) items);
  type = subst (λ t. SpellsComponent classes t c) (sym (component_is classes is.front c is.type)) is.type;
  items_are = items_again classes c items is.inside is.items_are;
  few = is.few;
}

-- ---- values

value_again : (classes : List Class) (v : Value) (token : List ℕ) → Spells classes v token → Spells classes v (literal_text classes v)
value_again classes (value.Prim n) token is = item_again classes (cell.Prim n) token is
value_again classes (value.Boxed n) token is = item_again classes (cell.Boxed n) token is
value_again classes (value.Text s) token is = item_again classes (cell.Text s) token is
value_again classes (value.Object c k) token is = item_again classes (cell.Object c k) token is
value_again classes (value.Thrown e) token is = item_again classes (cell.Thrown e) token is
value_again classes (value.Array c items) token is = record {
  text = ((component_text classes c ++ codes "[") ++ items_written (name_of classes) items) ++ codes "]";
  is = refl;
  spelled = array_again classes c items is.text is.spelled;
}
value_again classes value.Null token is = refl

-- what is written of a value that was read is read as it
pub literal_of-again : (classes : List Class) (token : List ℕ) (v : Value) → literal_of classes token ≡ Some v →
    literal_of classes (literal_text classes v) ≡ Some v
literal_of-again classes token v told = value_read classes v (literal_text classes v) (value_again classes v token (value_spelled classes token v told))

-- the same of an answer that tells it
pub told_again : (classes : List Class) (token : List ℕ) (r : Result Value LiteralError) → TellsLiteral r (literal_of classes token) →
    IfOk r (λ v. literal_of classes (literal_text classes v) ≡ Some v)
told_again classes token (Ok v) told = literal_of-again classes token v told
told_again classes token (Err error) told = tt
