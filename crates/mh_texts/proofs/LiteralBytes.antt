-- The bytes of what is written of an item: graphic ones without a comma, or those of what was read.
use Rattle.std.proofs.Common.{◌≡◌, refl, sym, ap, ◌∙◌, ℕ, ◌-◌, ◌≤◌, pos, Bool, true, List, [], ◌∷◌, ◌++◌, codes, append_assoc, arith}
use Rattle.std.proofs.lemmas.Bool.{and_parts, and_from}
use Rattle.std.specs.Fmt.{decimal}
use Rattle.std.specs.List.{list_all}
use Rattle.mh_values.specs.declared.class.Class.{Class}
use Rattle.mh_values.specs.declared.class.ClassId.{ClassId}
use Rattle.mh_values.specs.declared.types.Primitive.{Primitive}
use Rattle.mh_values.specs.declared.value.Exc.{Exc}
use Rattle.mh_values.specs.declared.value.Num.{Num}
use Rattle.mh_values.specs.declared.value.Num.TheVariants as num
use Rattle.mh_values.specs.declared.value.Cell.{Cell}
use Rattle.mh_values.specs.declared.value.Cell.TheVariants as cell
use Rattle.mh_values.specs.Classes.{name_of}
use Rattle.mh_values.specs.Primitives.{primitive_of}
use Rattle.mh_values.proofs.NamedClass.{named_is}
use Rattle.mh_texts.specs.LiteralText.{mark_of, number_text, prim_text, boxed_text, string_text, item_written}
use Rattle.mh_texts.specs.Spells.{SpellsNumber, SpellsObject, SpellsException, SpellsItem}
use Rattle.mh_texts.proofs.Marks.{mark-low, mark-high}
use Rattle.mh_texts.proofs.NumberTrip.{within_long}
use Rattle.mh_texts.proofs.ItemBytes.{is_of_item, AreOfItem, from_minus, signed_is, bool_is, text_is}

-- ---- items

number_is : (n : Num) (text : List ℕ) → SpellsNumber text n → AreOfItem (number_text n)
number_is (num.Z b) text is = bool_is b
number_is (num.B n) text is = signed_is n (within_long (num.B n) is.0)
number_is (num.C n) text is = signed_is (pos n) (within_long (num.C n) is.0)
number_is (num.S n) text is = signed_is n (within_long (num.S n) is.0)
number_is (num.I n) text is = signed_is n (within_long (num.I n) is.0)
number_is (num.J n) text is = signed_is n is.0

mark_under : (p : Primitive) → mark_of p ≤ 126
mark_under p = omega (arith, mark-high p)

prim_is : (n : Num) (text : List ℕ) → SpellsNumber text n → AreOfItem (prim_text n)
prim_is n text is =
    let p = primitive_of n in
    and_from (is_of_item (mark_of p)) (list_all is_of_item (number_text n)) (from_minus (mark_of p) (omega (arith, mark-low p)) (mark_under p))
    (number_is n text is)

boxed_is : (n : Num) (text : List ℕ) → SpellsNumber text n → AreOfItem (boxed_text n)
boxed_is n text is =
    let p = primitive_of n in
    and_from (is_of_item (mark_of p - 32)) (list_all is_of_item (number_text n))
    (from_minus (mark_of p - 32) (omega (arith, mark-low p)) (omega (arith, mark_under p))) (number_is n text is)

-- what is written of an object is what was read
pub object_is : (classes : List Class) (c : ClassId) (k : ℕ) (text : List ℕ) → SpellsObject classes text c k →
    (name_of classes c ++ codes "#") ++ decimal k ≡ text
object_is classes c k text is =
    append_assoc (name_of classes c) (codes "#") (decimal k) ∙ ap (λ name. name ++ 35 ∷ decimal k) (named_is classes is.name c is.named) ∙ sym is.is

-- and of an exception
pub exception_is : (classes : List Class) (e : Exc) (text : List ℕ) → SpellsException classes text e → name_of classes e.class ≡ text
exception_is classes e text is = ap (λ (x : Exc). name_of classes x.class) is.is ∙ named_is classes text is.class is.named

all_weaker : (test : ℕ → Bool) → ((b : ℕ) → is_of_item b ≡ true → test b ≡ true) → (text : List ℕ) → AreOfItem text → list_all test text ≡ true
all_weaker test each [] all = refl
all_weaker test each (b ∷ bs) all =
    let parts = and_parts (is_of_item b) (list_all is_of_item bs) all in
    and_from (test b) (list_all test bs) (each b parts.0) (all_weaker test each bs parts.1)

-- a test that the bytes of what was read pass, and all bytes that any item may have, those of what is written pass
pub item_passes : (classes : List Class) (test : ℕ → Bool) → ((b : ℕ) → is_of_item b ≡ true → test b ≡ true) → (item : Cell) (token : List ℕ) →
    SpellsItem classes item token → list_all test token ≡ true → list_all test (item_written (name_of classes) item) ≡ true
item_passes classes test each (cell.Prim n) token is all = all_weaker test each (prim_text n) (prim_is n is.text is.spelled)
item_passes classes test each (cell.Boxed n) token is all = all_weaker test each (boxed_text n) (boxed_is n is.text is.spelled)
item_passes classes test each (cell.Text s) token is all = all_weaker test each (string_text s) (text_is s)
item_passes classes test each (cell.Object c k) token is all =
    ap (λ text. list_all test (codes "o:" ++ text)) (object_is classes c k is.text is.spelled) ∙ ap (list_all test) (sym is.is) ∙ all
item_passes classes test each (cell.Thrown e) token is all =
    ap (λ text. list_all test (codes "x:" ++ text)) (exception_is classes e is.text is.spelled) ∙ ap (list_all test) (sym is.is) ∙ all
item_passes classes test each cell.Null token is all = ap (list_all test) (sym is) ∙ all
