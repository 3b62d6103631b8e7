-- A class put at the end of a list of classes: what the list and the map of names then say.
use Rattle.std.proofs.Common.{◌≡◌, sym, ap, subst, ◌∙◌, ℕ, ◌+◌, ◌≤◌, inl, inr, List, [], ◌∷◌, ◌++◌, length, None, Some, arith, length-append, length-take, take}
use Rattle.std.proofs.lemmas.List.{take-append-le}
use Rattle.std.proofs.lemmas.Bool.{cases_Bool}
use Rattle.std.proofs.lemmas.Slice.Eq.{bytes_eq-Decides}
use Rattle.std.specs.BTreeMap.{BTreeMap}
use Rattle.std.specs.Global.{Vec}
use Rattle.std.specs.Str.{bytes_eq}
use Rattle.mh_base.specs.TextMaps.{WritesText}
use Rattle.mh_base.proofs.TextMaps.{at_text-other}
use Rattle.mh_values.specs.declared.class.Class.{Class}
use Rattle.mh_values.specs.declared.class.ClassId.{ClassId}
use Rattle.mh_values.specs.Class.{class_at}
use Rattle.mh_values.specs.ClassNumbers.{class_number, IsRegistry, IsWithin}
use Rattle.mh_values.specs.Classes.{class_named, AreClasses, AreOrdered, most_classes}
use Rattle.mh_values.proofs.Longer.{ascending-add, distinct-add, class_named-new, class_named-other}

-- ---- the map

found-add : (m n : BTreeMap (Vec ℕ) ClassId) (xs : List Class) (y : Class) (key : List ℕ) (v : ClassId) →
    ((name : List ℕ) → class_number m name ≡ class_named xs name) → WritesText m n key (Some v) → class_named xs key ≡ None → y.name ≡ key →
    v ≡ class_at (length xs) → (name : List ℕ) →
    class_number n name ≡ class_named (xs ++ y ∷ []) name
found-add m n xs y key v old updates new same here name =
    elim (cases_Bool (bytes_eq key name)) [
      | inl e ↦
          let is : key ≡ name = (bytes_eq-Decides key name).0 e in
          subst (λ l. class_number n l ≡ class_named (xs ++ y ∷ []) l) is (updates.1 ∙ ap Some here ∙ sym (class_named-new xs y key new same))
      | inr e ↦ at_text-other m n key name (Some v) updates e ∙ old name ∙ sym (class_named-other xs y name (ap (λ l. bytes_eq l name) same ∙ e))
    ]

pub registry-add : (m n : BTreeMap (Vec ℕ) ClassId) (xs ys : List Class) (y : Class) (key : List ℕ) (v : ClassId) → IsRegistry m xs →
    WritesText m n key (Some v) → class_named xs key ≡ None → y.name ≡ key
    → IsWithin (length xs) y.superclass → v.0 ≡ length xs → ys ≡ xs ++ y ∷ [] → IsRegistry n ys
registry-add m n xs ys y key v old updates new same within here pushed =
    subst (λ l. IsRegistry n l) (sym pushed) (record {
      ordered = record {
        ascending = ascending-add xs y old.ordered.ascending within;
        distinct = distinct-add xs y old.ordered.distinct (ap (class_named xs) same ∙ new);
      };
      found = found-add m n xs y key v old.found updates new same (ap class_at here);
    })

-- ---- after the built-in classes

pub classes-add : (xs ys : List Class) (y : Class) → AreClasses xs → (length xs ≡ most_classes → ⊥) → ys ≡ xs ++ y ∷ [] → AreOrdered ys → AreClasses ys
classes-add xs ys y old not_most pushed ordered =
    let front : length (take 28 xs) ≡ 28 = ap length old.builtin in
    let enough : 28 ≤ length xs = omega (arith, length-take 28 xs) in
    let more : length ys ≡ length xs + 1 = ap length pushed ∙ length-append xs (y ∷ []) in
    record {
      builtin = ap (take 28) pushed ∙ take-append-le 28 xs (y ∷ []) enough ∙ old.builtin;
      few = omega (arith, old.few, not_most);
      ordered = ordered;
    }
