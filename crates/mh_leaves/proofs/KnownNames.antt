-- The classes are known that a method descriptor names exactly where those of its types are.
use Rattle.std.proofs.Common.{◌≡◌, refl, sym, ap, ◌∙◌, zero, suc, ℕ, ◌==◌, Bool, true, false, ◌&&◌, ◌||◌, List, [], ◌∷◌, ◌++◌, replicate, Option, None, Some, is_some, append_assoc}
use Rattle.std.proofs.lemmas.Bool.{and_parts, or_parts, not-true}
use Rattle.std.proofs.lemmas.List.{append-nil}
use Rattle.std.proofs.lemmas.List.Folds.{list_all-append}
use Rattle.std.proofs.lemmas.List.Splits.{slice_split_none, slice_split_at}
use Rattle.std.specs.List.{list_all}
use Rattle.std.specs.Option.{option_map_or}
use Rattle.mh_base.proofs.Cuts.{Lacks, Lacks-append, all_lack, cut_found, cut_none}
use Rattle.mh_values.specs.declared.class.Class.{Class}
use Rattle.mh_values.specs.Classes.{class_named}
use Rattle.mh_values.specs.Spelling.{Element, letter, named, Spelled, element_text, spelled_text, is_name_byte, IsElement, AreSpelled, texts_of, IsReturn, return_spelled, IsMethodDescriptor}
use Rattle.mh_values.proofs.Beginnings.{base_other}
use Rattle.mh_leaves.specs.Manifest.{knows_name, knows_names}
use Rattle.mh_leaves.specs.Names.{element_names, type_names, return_names, are_classes}

-- ---- pieces that end with `;`

name_lacks : (name : List ℕ) → list_all is_name_byte name ≡ true → Lacks 59 name
name_lacks [] good = tt
name_lacks (b ∷ bs) good =
    let parts = and_parts (is_name_byte b) (list_all is_name_byte bs) good in
    ((or_parts (b == 59) (b == 46 || b == 91) (not-true _ parts.0)).0, name_lacks bs parts.1)

-- what stands before a name: it has neither the `L` of a class nor the end of one
record IsClean (front : List ℕ) : Type 0 where
  names : Lacks 76 front
  ends : Lacks 59 front

clean_push : (front : List ℕ) (b : ℕ) → IsClean front → (b == 76) ≡ false → (b == 59) ≡ false → IsClean (front ++ b ∷ [])
clean_push front b clean no_name no_end = record {
  names = Lacks-append 76 front (b ∷ []) clean.names (no_name, tt);
  ends = Lacks-append 59 front (b ∷ []) clean.ends (no_end, tt);
}

at_name : (classes : List Class) (front name rest : List ℕ) → IsClean front → list_all is_name_byte name ≡ true →
    knows_names classes (front ++ (76 ∷ (name ++ 59 ∷ rest))) ≡ (is_some (class_named classes name) && knows_names classes rest)
at_name classes front name rest clean good =
    let lacks : Lacks 59 (front ++ 76 ∷ name) = Lacks-append 59 front (76 ∷ name) clean.ends (refl, name_lacks name good) in
    ap (knows_names classes) (sym (append_assoc front (76 ∷ name) (59 ∷ rest)))
    ∙ ap (list_all (knows_name classes)) (slice_split_at (λ b. b == 59) (front ++ 76 ∷ name) 59 rest (all_lack 59 (front ++ 76 ∷ name) lacks) refl)
    ∙ ap (λ o. option_map_or (λ parts. is_some (class_named classes parts.1)) o true && knows_names classes rest) (cut_found 76 front name clean.names)

at_end : (classes : List Class) (front : List ℕ) → IsClean front → knows_names classes front ≡ true
at_end classes front clean =
    ap (list_all (knows_name classes)) (slice_split_none (λ b. b == 59) front (all_lack 59 front clean.ends))
    ∙ ap (λ o. option_map_or (λ parts. is_some (class_named classes parts.1)) o true && true) (cut_none 76 front clean.names)

-- ---- types

-- after a text that names these classes
record Scans (classes : List Class) (front text : List ℕ) (names : List (List ℕ)) : Type 0 where
  after : List ℕ
  clean : IsClean after
  is : (rest : List ℕ) → knows_names classes (front ++ (text ++ rest)) ≡ (are_classes classes names && knows_names classes (after ++ rest))

and_true : (t : Bool) → (t && true) ≡ t
and_true true = refl
and_true false = refl

and_assoc : (a b c : Bool) → (a && (b && c)) ≡ ((a && b) && c)
and_assoc true b c = refl
and_assoc false b c = refl

scan_type : (classes : List Class) (n : ℕ) (e : Element) (front : List ℕ) → IsClean front → IsElement e →
    Scans classes front (replicate n 91 ++ element_text e) (element_names e)
scan_type classes zero (letter b) front clean good = record {
  after = front ++ b ∷ [];
  clean = clean_push front b clean (base_other b 76 good refl) (base_other b 59 good refl);
  is = λ rest. ap (knows_names classes) (sym (append_assoc front (b ∷ []) rest));
}
scan_type classes zero (named name) front clean good = record {
  after = [];
  clean = record { names = tt; ends = tt };
  is = λ rest.
      ap (λ t. knows_names classes (front ++ (76 ∷ t))) (append_assoc name (59 ∷ []) rest)
      ∙ at_name classes front name rest clean good.1
      ∙ ap (λ t. t && knows_names classes rest) (sym (and_true (is_some (class_named classes name))));
}
scan_type classes (suc n) e front clean good =
    let more = scan_type classes n e (front ++ 91 ∷ []) (clean_push front 91 clean refl refl) good in
    record {
      after = more.after;
      clean = more.clean;
      is = λ rest.
          ap (knows_names classes) (sym (append_assoc front (91 ∷ []) ((replicate n 91 ++ element_text e) ++ rest))) ∙ more.is rest;
    }

scan_types : (classes : List Class) (ts : List Spelled) (front : List ℕ) → IsClean front → AreSpelled ts → Scans classes front (texts_of ts) (type_names ts)
scan_types classes [] front clean good = record { after = front; clean = clean; is = λ rest. refl }
scan_types classes (t ∷ ts) front clean good =
    let first = scan_type classes t.dimensions t.element front clean good.0.1 in
    let more = scan_types classes ts first.after first.clean good.1 in
    let here = are_classes classes (element_names t.element) in
    let others = are_classes classes (type_names ts) in
    record {
      after = more.after;
      clean = more.clean;
      is = λ rest.
          ap (λ u. knows_names classes (front ++ u)) (append_assoc (spelled_text t) (texts_of ts) rest)
          ∙ first.is (texts_of ts ++ rest)
          ∙ ap (λ k. here && k) (more.is rest)
          ∙ and_assoc here others (knows_names classes (more.after ++ rest))
          ∙ ap (λ k. k && knows_names classes (more.after ++ rest))
          (sym (list_all-append (λ name. is_some (class_named classes name)) (element_names t.element) (type_names ts)));
    }

-- ---- method descriptors

return_known : (classes : List Class) (front : List ℕ) (ret : Option Spelled) → IsClean front → IsReturn ret →
    knows_names classes (front ++ return_spelled ret) ≡ are_classes classes (return_names ret)
return_known classes front None clean good = at_end classes (front ++ 86 ∷ []) (clean_push front 86 clean refl refl)
return_known classes front (Some t) clean good =
    let type = scan_type classes t.dimensions t.element front clean good.1 in
    let names = are_classes classes (element_names t.element) in
    ap (λ u. knows_names classes (front ++ u)) (sym (append-nil (spelled_text t)))
    ∙ type.is []
    ∙ ap (λ u. names && knows_names classes u) (append-nil type.after)
    ∙ ap (λ k. names && k) (at_end classes type.after type.clean)
    ∙ and_true names

pub names_known : (classes : List Class) (text : List ℕ) → (d : IsMethodDescriptor text) →
    knows_names classes text ≡ are_classes classes (type_names d.params ++ return_names d.ret)
names_known classes text d =
    let params = scan_types classes d.params (40 ∷ []) (record { names = (refl, tt); ends = (refl, tt) }) d.spelled in
    let names = are_classes classes (type_names d.params) in
    let back = return_known classes (params.after ++ 41 ∷ []) d.ret (clean_push params.after 41 params.clean refl refl) d.returns in
    ap (knows_names classes) d.is
    ∙ params.is (41 ∷ return_spelled d.ret)
    ∙ ap (λ t. names && knows_names classes t) (sym (append_assoc params.after (41 ∷ []) (return_spelled d.ret)))
    ∙ ap (λ k. names && k) back
    ∙ sym (list_all-append (λ name. is_some (class_named classes name)) (type_names d.params) (return_names d.ret))
