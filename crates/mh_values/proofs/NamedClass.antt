-- The class that is found by a name has the name.
use Rattle.std.proofs.Common.{◌≡◌, sym, ap, ◌∙◌, suc, ℕ, ◌+◌, inl, inr, if◌then◌else◌, List, [], ◌∷◌, Some, arith}
use Rattle.std.proofs.lemmas.Bool.{cases_Bool}
use Rattle.std.proofs.lemmas.Slice.Eq.{bytes_eq-Decides}
use Rattle.std.specs.Str.{bytes_eq}
use Rattle.mh_base.proofs.Inversion.{some_is}
use Rattle.mh_values.specs.declared.class.Class.{Class}
use Rattle.mh_values.specs.declared.class.ClassId.{ClassId}
use Rattle.mh_values.specs.Class.{class_at}
use Rattle.mh_values.specs.Classes.{class_named, named_from, name_of}

named_from_is : (n : ℕ) (classes : List Class) (name : List ℕ) (c : ClassId) → named_from n classes name ≡ Some c →
    (k : ℕ) × (c.0 ≡ n + k) × (name_of classes (class_at k) ≡ name)
named_from_is n [] name c found = cc
named_from_is n (class ∷ classes) name c found =
    elim (cases_Bool (bytes_eq class.name name)) [
      | inl e ↦
          let here : Some (class_at n) ≡ Some c = sym (ap (λ t. if t then Some (class_at n) else named_from (n + 1) classes name) e) ∙ found in
          (0, omega (arith, ap (λ class. class.0) (some_is (class_at n) c here)), (bytes_eq-Decides class.name name).0 e)
      | inr e ↦
          let later : named_from (n + 1) classes name ≡ Some c = sym (ap (λ t. if t then Some (class_at n) else named_from (n + 1) classes name) e) ∙ found in
          let more = named_from_is (n + 1) classes name c later in
          (suc more.0, omega (arith, more.1), more.2)
    ]

pub named_is : (classes : List Class) (name : List ℕ) (c : ClassId) → class_named classes name ≡ Some c → name_of classes c ≡ name
named_is classes name c found =
    let more = named_from_is 0 classes name c found in
    let at : c.0 ≡ more.0 = omega (arith, more.1) in
    ap (λ n. name_of classes (class_at n)) at ∙ more.2
