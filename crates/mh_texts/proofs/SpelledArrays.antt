-- Arrays: what is read is what the text spells.
use Rattle.std.proofs.Common.{◌≡◌, refl, sym, ap, subst, ◌∙◌, ℕ, ◌<◌, if◌then◌else◌, List, [], ◌∷◌, ◌++◌, length, None, Some, option_map, option_and_then, length-append, arith}
use Rattle.std.proofs.lemmas.List.Concat.{flat_map-cons}
use Rattle.mh_values.specs.declared.class.Class.{Class}
use Rattle.mh_values.specs.declared.types.Comp.{Comp}
use Rattle.mh_values.specs.declared.value.Cell.{Cell}
use Rattle.mh_values.specs.HasType.{is_item_of}
use Rattle.mh_texts.specs.Literal.{if_item, items_of, item_of, listed}
use Rattle.mh_texts.specs.Spells.{SpellsItemOf, SpellsMore, SpellsItems}
use Rattle.mh_texts.proofs.ArrayTrip.{AllLack, split_joined, listed_some}
use Rattle.mh_texts.proofs.CommaCuts.{commaed, is_split}
use Rattle.mh_texts.proofs.Cuts.{lacks_each, each_lacks}
use Rattle.mh_base.proofs.Inversion.{by_test, some_is, none_is_not, map_some, then_some}
use Rattle.mh_base.proofs.Cuts.{Lacks}
use Rattle.mh_texts.proofs.SpelledItems.{item_spelled, item_read}

-- ---- items

-- an item of the type that is read from a text
one_spelled : (classes : List Class) (c : Comp) (text : List ℕ) (item : Cell) → Lacks 44 text →
    option_and_then (if_item classes c) (item_of classes text) ≡ Some item → SpellsItemOf classes c text item
one_spelled classes c text item lacks told =
    let read = then_some (if_item classes c) (item_of classes text) item told in
    by_test (is_item_of classes c read.0) (Some read.0) None (Some item) read.2
    (λ typed is. subst (SpellsItemOf classes c text) (some_is read.0 item is)
    (record { spelled = item_spelled classes text read.0 read.1; typed = typed; cut = each_lacks 44 text lacks }))
    (λ typed is. none_is_not item is)

one_read : (classes : List Class) (c : Comp) (text : List ℕ) (item : Cell) → SpellsItemOf classes c text item →
    option_and_then (if_item classes c) (item_of classes text) ≡ Some item
one_read classes c text item is =
    ap (option_and_then (if_item classes c)) (item_read classes text item is.spelled) ∙ ap (λ t. if t then Some item else None) is.typed

-- the items of texts, one by one
record FirstItem (classes : List Class) (c : Comp) (text : List ℕ) (texts : List (List ℕ)) (items : List Cell) : Type 0 where
  item : Cell
  more : List Cell
  is : item ∷ more ≡ items
  first : option_and_then (if_item classes c) (item_of classes text) ≡ Some item
  others : items_of classes c texts ≡ Some more

first_item : (classes : List Class) (c : Comp) (text : List ℕ) (texts : List (List ℕ)) (items : List Cell) → items_of classes c (text ∷ texts) ≡ Some items →
    FirstItem classes c text texts items
first_item classes c text texts items told =
    let one = then_some _ (option_and_then (if_item classes c) (item_of classes text)) items told in
    let rest = map_some _ (items_of classes c texts) items one.2 in
    record { item = one.0; more = rest.0; is = rest.2; first = one.1; others = rest.1 }

more_spelled : (classes : List Class) (c : Comp) (texts : List (List ℕ)) (items : List Cell) → AllLack texts → items_of classes c texts ≡ Some items →
    SpellsMore classes c (commaed texts) items
more_spelled classes c [] items lack told = subst (SpellsMore classes c []) (some_is [] items told) refl
more_spelled classes c (text ∷ texts) items lack told =
    let read = first_item classes c text texts items told in
    subst (SpellsMore classes c (commaed (text ∷ texts))) read.is (
      text,
      commaed texts,
      flat_map-cons (λ t. 44 ∷ t) text texts,
      one_spelled classes c text read.item lack.0 read.first,
      more_spelled classes c texts read.more lack.1 read.others,
    )

-- texts that spell items, each after a comma
record AreCut (classes : List Class) (c : Comp) (text : List ℕ) (items : List Cell) : Type 0 where
  texts : List (List ℕ)
  is : text ≡ commaed texts
  lack : AllLack texts
  read : items_of classes c texts ≡ Some items

items_read : (classes : List Class) (c : Comp) (text : List ℕ) (texts : List (List ℕ)) (item : Cell) (items : List Cell) → SpellsItemOf classes c text item →
    items_of classes c texts ≡ Some items → items_of classes c (text ∷ texts) ≡ Some (item ∷ items)
items_read classes c text texts item items one others =
    ap (option_and_then (λ i. option_map (λ is. i ∷ is) (items_of classes c texts))) (one_read classes c text item one)
    ∙ ap (option_map (λ is. item ∷ is)) others

more_read : (classes : List Class) (c : Comp) (items : List Cell) (text : List ℕ) → SpellsMore classes c text items → AreCut classes c text items
more_read classes c [] text is = record { texts = []; is = is; lack = tt; read = refl }
more_read classes c (item ∷ items) text is =
    let rest = more_read classes c items is.1 is.4 in
    record {
      texts = is.0 ∷ rest.texts;
      is = is.2 ∙ ap (λ t. 44 ∷ (is.0 ++ t)) rest.is ∙ sym (flat_map-cons (λ t. 44 ∷ t) is.0 rest.texts);
      lack = (lacks_each 44 is.0 is.3.cut, rest.lack);
      read = items_read classes c is.0 rest.texts item items is.3 rest.read;
    }

-- ---- between the brackets

pub listed_spelled : (classes : List Class) (c : Comp) (text : List ℕ) (items : List Cell) → listed classes c text ≡ Some items →
    SpellsItems classes c text items
listed_spelled classes c [] items told = subst (SpellsItems classes c []) (some_is [] items told) refl
listed_spelled classes c (b ∷ bs) items told =
    let split = is_split (b ∷ bs) in
    let read = first_item classes c split.first split.more items (sym (ap (items_of classes c) split.split) ∙ told) in
    subst (SpellsItems classes c (b ∷ bs)) read.is (
      split.first,
      commaed split.more,
      split.is,
      one_spelled classes c split.first read.item split.lacks read.first,
      more_spelled classes c split.more read.more split.all_lack read.others,
    )

-- no item is spelled by no bytes
some_text : (classes : List Class) (text : List ℕ) (item : Cell) → item_of classes text ≡ Some item → 0 < length text
some_text classes [] item told = none_is_not item told
some_text classes (b ∷ bs) item told = omega arith

pub listed_read : (classes : List Class) (c : Comp) (text : List ℕ) (items : List Cell) → SpellsItems classes c text items → listed classes c text ≡ Some items
listed_read classes c text [] is = ap (listed classes c) is
listed_read classes c text (item ∷ items) is =
    let rest = more_read classes c items is.1 is.4 in
    let joined : text ≡ is.0 ++ commaed rest.texts = is.2 ∙ ap (λ t. is.0 ++ t) rest.is in
    let one : 0 < length is.0 = some_text classes is.0 item (item_read classes is.0 item is.3.spelled) in
    let some : 0 < length (is.0 ++ commaed rest.texts) = omega (arith, one, length-append is.0 (commaed rest.texts)) in
    ap (listed classes c) joined
    ∙ listed_some classes c (is.0 ++ commaed rest.texts) some
    ∙ ap (items_of classes c) (split_joined is.0 rest.texts (lacks_each 44 is.0 is.3.cut) rest.lack)
    ∙ items_read classes c is.0 rest.texts item items is.3 rest.read
