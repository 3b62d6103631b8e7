-- Literals: a value is read exactly where the token spells it.
use Rattle.std.proofs.Common.{◌≡◌, sym, ap, subst, ◌∙◌, ℕ, ◌-◌, if◌then◌else◌, nat_le, List, [], ◌∷◌, ◌++◌, codes, length, take, drop, None, Some, Result, Ok, Err, option_and_then}
use Rattle.std.proofs.lemmas.Bool.{leb-true, le-leb}
use Rattle.std.proofs.lemmas.List.{take-append-drop}
use Rattle.std.proofs.lemmas.Slice.Eq.{bytes_eq-Decides}
use Rattle.std.specs.Str.{bytes_eq}
use Rattle.mh_base.specs.Lines.{cut_at}
use Rattle.mh_values.specs.declared.class.Class.{Class}
use Rattle.mh_values.specs.declared.types.Comp.{Comp}
use Rattle.mh_values.specs.declared.value.Cell.{Cell}
use Rattle.mh_values.specs.declared.value.Cell.TheVariants as cell
use Rattle.mh_values.specs.declared.value.Value.{Value}
use Rattle.mh_values.specs.declared.value.Value.TheVariants as value
use Rattle.mh_values.specs.Array.{value_of_item}
use Rattle.mh_values.specs.Descriptor.{type_desc}
use Rattle.mh_texts.specs.declared.literal.LiteralError.{LiteralError}
use Rattle.mh_texts.specs.declared.literal.LiteralError.TheVariants as literal_error
use Rattle.mh_texts.specs.Literal.{item_of, component_of, listed, if_few, unclosed, array_of_literal, literal_of, TellsLiteral}
use Rattle.mh_texts.specs.Spells.{SpellsArray, SpellsItem, Spells, TellsSpelling}
use Rattle.mh_texts.proofs.Cuts.{cut_is, cut_read}
use Rattle.mh_base.proofs.Inversion.{by_test, some_is, none_is_not, map_some, then_some}
use Rattle.mh_texts.proofs.RoundTrip.{unclosed_trip, item_literal}
use Rattle.mh_texts.proofs.SpelledArrays.{listed_spelled, listed_read}
use Rattle.mh_texts.proofs.SpelledComponents.{component_spelled, component_read, no_bracket_in}
use Rattle.mh_texts.proofs.SpelledItems.{item_spelled, item_read}

-- ---- arrays

unclosed_is : (text inside : List ℕ) → unclosed text ≡ Some inside → text ≡ inside ++ 93 ∷ []
unclosed_is text inside told =
    let n : ℕ = length text - 1 in
    by_test (bytes_eq (drop n text) (93 ∷ [])) (Some (take n text)) None (Some inside) told
    (λ e is. sym (take-append-drop n text) ∙ ap (λ r. take n text ++ r) ((bytes_eq-Decides _ _).0 e) ∙ ap (λ f. f ++ 93 ∷ []) (some_is _ inside is))
    (λ e is. none_is_not inside is)

-- an array that is read, and the text that spells it
record ArraySaid (classes : List Class) (text : List ℕ) (v : Value) : Type 0 where
  component : Comp
  items : List Cell
  is : value.Array component items ≡ v
  spelled : SpellsArray classes component items text

array_spelled : (classes : List Class) (text : List ℕ) (v : Value) → array_of_literal classes text ≡ Some v → ArraySaid classes text v
array_spelled classes text v told =
    let parts = then_some _ (cut_at 91 text) v told in
    let component = then_some _ (component_of (type_desc classes parts.0.0)) v parts.2 in
    let inside = then_some _ (unclosed parts.0.1) v component.2 in
    let items = then_some (if_few component.0) (listed classes component.0 inside.0) v inside.2 in
    by_test (nat_le (length items.0) 254) (Some (value.Array component.0 items.0)) None (Some v) items.2
    (λ few is. record {
      component = component.0;
      items = items.0;
      is = some_is _ v is;
      spelled = record {
        front = parts.0.0;
        inside = inside.0;
        is = (cut_is 91 text parts.0 parts.1).0 ∙ ap (λ t. parts.0.0 ++ 91 ∷ t) (unclosed_is parts.0.1 inside.0 inside.1);
        type = component_spelled classes parts.0.0 component.0 component.1;
        items_are = listed_spelled classes component.0 inside.0 items.0 items.1;
        few = leb-true _ _ few;
      };
    })
    (λ few is. none_is_not v is)

array_read : (classes : List Class) (c : Comp) (items : List Cell) (text : List ℕ) → SpellsArray classes c items text →
    array_of_literal classes text ≡ Some (value.Array c items)
array_read classes c items text is =
    ap (array_of_literal classes) is.is
    ∙ ap (option_and_then (λ parts. option_and_then (λ d. option_and_then (λ inside. option_and_then (if_few d) (listed classes d inside)) (unclosed parts.1))
    (component_of (type_desc classes parts.0)))) (cut_read 91 is.front (is.inside ++ 93 ∷ []) (no_bracket_in classes is.front c is.type))
    ∙ ap (option_and_then (λ d. option_and_then (λ inside. option_and_then (if_few d) (listed classes d inside)) (unclosed (is.inside ++ 93 ∷ []))))
    (component_read classes is.front c is.type)
    ∙ ap (option_and_then (λ inside. option_and_then (if_few c) (listed classes c inside))) (unclosed_trip is.inside)
    ∙ ap (option_and_then (if_few c)) (listed_read classes c is.inside items is.items_are)
    ∙ ap (λ t. if t then Some (value.Array c items) else None) (le-leb (length items) 254 is.few)

-- ---- values

item_value : (classes : List Class) (item : Cell) (token : List ℕ) → SpellsItem classes item token → Spells classes (value_of_item item) token
item_value classes (cell.Prim n) token is = is
item_value classes (cell.Boxed n) token is = is
item_value classes (cell.Text s) token is = is
item_value classes (cell.Object c k) token is = is
item_value classes (cell.Thrown e) token is = is
item_value classes cell.Null token is = is

-- a token that is read spells what was read
pub value_spelled : (classes : List Class) (token : List ℕ) (v : Value) → literal_of classes token ≡ Some v → Spells classes v token
value_spelled classes token v told =
    by_test (bytes_eq (take 2 token) (codes "a:")) _ _ (Some v) told
    (λ e is.
    let said = array_spelled classes (drop 2 token) v is in
    subst (λ w. Spells classes w token) said.is
    (record { text = drop 2 token; is = sym (take-append-drop 2 token) ∙ ap (λ t. t ++ drop 2 token) ((bytes_eq-Decides _ _).0 e); spelled = said.spelled }))
    (λ e is.
    let read = map_some value_of_item (item_of classes token) v is in
    subst (λ w. Spells classes w token) read.2 (item_value classes read.0 token (item_spelled classes token read.0 read.1)))

item_of_value_read : (classes : List Class) (item : Cell) (token : List ℕ) → SpellsItem classes item token →
    literal_of classes token ≡ Some (value_of_item item)
item_of_value_read classes item token is = item_literal classes token item (item_read classes token item is)

-- a token that spells a value is read as it
pub value_read : (classes : List Class) (v : Value) (token : List ℕ) → Spells classes v token → literal_of classes token ≡ Some v
value_read classes (value.Prim n) token is = item_of_value_read classes (cell.Prim n) token is
value_read classes (value.Boxed n) token is = item_of_value_read classes (cell.Boxed n) token is
value_read classes (value.Text s) token is = item_of_value_read classes (cell.Text s) token is
value_read classes (value.Object c k) token is = item_of_value_read classes (cell.Object c k) token is
value_read classes (value.Thrown e) token is = item_of_value_read classes (cell.Thrown e) token is
value_read classes (value.Array c items) token is = ap (literal_of classes) is.is ∙ array_read classes c items is.text is.spelled
value_read classes value.Null token is = item_of_value_read classes cell.Null token is

-- an answer that tells the meaning tells what the token spells
pub told_spelled : (classes : List Class) (token : List ℕ) (r : Result Value LiteralError) → TellsLiteral r (literal_of classes token) →
    TellsSpelling classes token r
told_spelled classes token (Ok v) told =
    (value_spelled classes token v told, λ other is. some_is other v (sym (value_read classes other token is) ∙ told))
told_spelled classes token (Err literal_error.NoMemory) told = tt
told_spelled classes token (Err literal_error.Bad) told = λ v is. none_is_not v (sym told ∙ value_read classes v token is)
