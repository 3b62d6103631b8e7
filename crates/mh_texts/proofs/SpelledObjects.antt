-- Objects and exceptions: what is read is what the text spells.
use Rattle.std.proofs.Common.{◌≡◌, refl, ap, ◌∙◌, ℕ, if◌then◌else◌, List, ◌∷◌, ◌++◌, None, Some, option_and_then}
use Rattle.std.specs.Fmt.{decimal}
use Rattle.mh_base.specs.Lines.{cut_at}
use Rattle.mh_values.specs.declared.class.Class.{Class}
use Rattle.mh_values.specs.declared.class.ClassId.{ClassId}
use Rattle.mh_values.specs.declared.value.Cell.{Cell}
use Rattle.mh_values.specs.declared.value.Cell.TheVariants as cell
use Rattle.mh_values.specs.Class.{is_subclass, throwable_class}
use Rattle.mh_values.specs.Classes.{class_named}
use Rattle.mh_values.specs.Exception.{bare}
use Rattle.mh_texts.specs.Literal.{has_own_literal, if_object, object_of, if_exception, exception_of}
use Rattle.mh_texts.specs.Number.{unsigned_of}
use Rattle.mh_texts.specs.Spells.{SpellsObject, SpellsException}
use Rattle.mh_texts.proofs.Cuts.{cut_is, cut_read}
use Rattle.mh_base.proofs.Inversion.{by_test, some_is, none_is_not, then_some}
use Rattle.mh_texts.proofs.NumberTrip.{unsigned_trip}
use Rattle.mh_texts.proofs.SpelledNumbers.{unsigned_spelled}

-- an object that is read, and the text that spells it
pub record ObjectSaid (classes : List Class) (text : List ℕ) (item : Cell) : Type 0 where
  pub class : ClassId
  pub number : ℕ
  pub is : cell.Object class number ≡ item
  pub spelled : SpellsObject classes text class number

pub object_spelled : (classes : List Class) (text : List ℕ) (item : Cell) → object_of classes text ≡ Some item → ObjectSaid classes text item
object_spelled classes text item told =
    let parts = then_some _ (cut_at 35 text) item told in
    let class = then_some _ (class_named classes parts.0.0) item parts.2 in
    let number = then_some _ (unsigned_of parts.0.1) item class.2 in
    let cut = cut_is 35 text parts.0 parts.1 in
    let digits = unsigned_spelled parts.0.1 number.0 number.1 in
    by_test (has_own_literal classes class.0) None (Some (cell.Object class.0 number.0)) (Some item) number.2 (λ own is. none_is_not item is)
    (λ own is. record {
      class = class.0;
      number = number.0;
      is = some_is _ item is;
      spelled = record {
        name = parts.0.0;
        is = cut.0 ∙ ap (λ t. parts.0.0 ++ 35 ∷ t) digits.1;
        cut = cut.1;
        named = class.1;
        plain = own;
        small = digits.0;
      };
    })

pub object_read : (classes : List Class) (text : List ℕ) (class : ClassId) (number : ℕ) → SpellsObject classes text class number →
    object_of classes text ≡ Some (cell.Object class number)
object_read classes text class number is =
    ap (object_of classes) is.is
    ∙ ap (option_and_then (λ parts. option_and_then (λ d. option_and_then (λ n. if_object classes n d) (unsigned_of parts.1)) (class_named classes parts.0)))
    (cut_read 35 is.name (decimal number) is.cut)
    ∙ ap (option_and_then (λ d. option_and_then (λ n. if_object classes n d) (unsigned_of (decimal number)))) is.named
    ∙ ap (option_and_then (λ n. if_object classes n class)) (unsigned_trip number is.small)
    ∙ ap (λ t. if t then None else Some (cell.Object class number)) is.plain

-- an exception that is read
pub record ExceptionSaid (classes : List Class) (text : List ℕ) (item : Cell) : Type 0 where
  pub class : ClassId
  pub is : cell.Thrown (bare class) ≡ item
  pub spelled : SpellsException classes text (bare class)

pub exception_spelled : (classes : List Class) (text : List ℕ) (item : Cell) → exception_of classes text ≡ Some item → ExceptionSaid classes text item
exception_spelled classes text item told =
    let class = then_some (if_exception classes) (class_named classes text) item told in
    by_test (is_subclass classes class.0 throwable_class) (Some (cell.Thrown (bare class.0))) None (Some item) class.2
    (λ below is. record {
      class = class.0;
      is = some_is _ item is;
      spelled = record { class = class.0; is = refl; named = class.1; throwable = below };
    })
    (λ below is. none_is_not item is)
