-- How elements and types begin, and that a text which begins so goes on to its end.
use Rattle.std.proofs.Common.{◌≡◌, refl, sym, ap, subst, ◌∙◌, zero, suc, ℕ, ◌+◌, ◌<◌, ◌≤◌, ◌==◌, Bool, true, false, ◌||◌, if◌then◌else◌, nat_le, List, [], ◌∷◌, ◌++◌, length, replicate, None, Some, append_assoc, arith}
use Rattle.std.proofs.lemmas.Bool.{ne_eqb, le-leb, and_parts, not-true, or_parts}
use Rattle.std.specs.List.{list_all}
use Rattle.std.specs.Option.{option_map_or}
use Rattle.mh_values.specs.declared.descriptor.Place.{Place}
use Rattle.mh_values.specs.declared.descriptor.Standing.{Standing}
use Rattle.mh_values.specs.declared.descriptor.Standing.TheVariants as standing
use Rattle.mh_values.specs.Grammar.{is_base, after_type, element, begun, slots_from, next, first_bad}
use Rattle.mh_values.specs.Spelling.{Element, letter, named, Spelled, element_text, spelled_text, is_name_byte, element_slots, IsElement, spelled_slots}

-- a text that goes on to its end, wherever its places are counted from
abbrev pub Accepts : Standing → List ℕ → Type 0
Accepts s text = (at : ℕ) → first_bad at s text ≡ None

-- one byte more
pub accepts_on : (s n : Standing) (b : ℕ) (bs : List ℕ) → next s b ≡ Some n → Accepts n bs → Accepts s (b ∷ bs)
accepts_on s n b bs told more at = ap (λ o. option_map_or (λ m. first_bad (at + 1) m bs) o (Some at)) told ∙ more (at + 1)

-- ---- names and elements

name_accepts : (p : Place) (has : Bool) (name rest : List ℕ) → list_all is_name_byte name ≡ true → (has ≡ false → 0 < length name) →
    Accepts (after_type p) rest →
    Accepts (standing.Name p has) (name ++ 59 ∷ rest)
name_accepts p true [] rest good one more = accepts_on (standing.Name p true) (after_type p) 59 rest refl more
name_accepts p false [] rest good one more = absurd (omega (arith, one refl))
name_accepts p has (b ∷ bs) rest good one more =
    let parts = and_parts (is_name_byte b) (list_all is_name_byte bs) good in
    let others = or_parts (b == 59) (b == 46 || b == 91) (not-true _ parts.0) in
    let goes : next (standing.Name p has) b ≡ Some (standing.Name p true) =
    ap (λ t. if t then (if has then Some (after_type p) else None) else (if b == 46 || b == 91 then None else Some (standing.Name p true))) others.0
    ∙ ap (λ t. if t then None else Some (standing.Name p true)) others.1 in
    accepts_on (standing.Name p has) (standing.Name p true) b (bs ++ 59 ∷ rest) goes (name_accepts p true bs rest parts.1 (λ h. cc) more)

-- a letter of a primitive type is none of these
pub base_other : (b c : ℕ) → is_base b ≡ true → is_base c ≡ false → (b == c) ≡ false
base_other b c base other = ne_eqb b c (λ e. let same : is_base b ≡ is_base c = ap is_base e in cc)

-- how an element begins
pub record Begins (e : Element) : Type 0 where
  pub first : ℕ
  pub more : List ℕ
  pub is : element_text e ≡ first ∷ more
  pub slots : slots_from first ≡ element_slots e
  pub no_array : (first == 91) ≡ false
  pub no_close : (first == 41) ≡ false
  pub no_void : (first == 86) ≡ false
  pub goes : (p : Place) (rest : List ℕ) → Accepts (after_type p) rest → (s : Standing) × (element p first ≡ Some s) × Accepts s (more ++ rest)

element_begins : (e : Element) → IsElement e → Begins e
element_begins (letter b) good = record {
  first = b;
  more = [];
  is = refl;
  slots = refl;
  no_array = base_other b 91 good refl;
  no_close = base_other b 41 good refl;
  no_void = base_other b 86 good refl;
  goes = λ p rest more. (
    after_type p,
    ap (λ t. if t then Some (standing.Name p false) else (if is_base b then Some (after_type p) else None))
        (base_other b 76 good refl) ∙ ap (λ t. if t then Some (after_type p) else None) good,
    more,
  );
}
element_begins (named name) good = record {
  first = 76;
  more = name ++ 59 ∷ [];
  is = refl;
  slots = refl;
  no_array = refl;
  no_close = refl;
  no_void = refl;
  goes = λ p rest more. (
    standing.Name p false,
    refl,
    subst (Accepts (standing.Name p false)) (sym (append_assoc name (59 ∷ []) rest))
        (name_accepts p false name rest good.1 (λ h. good.0) more),
  );
}

-- ---- dimensions

dimensions_accept : (p : Place) (e : Element) (rest : List ℕ) → IsElement e → Accepts (after_type p) rest → (m k : ℕ) → k + m ≤ 255 →
    Accepts (standing.Dimensions p k) (replicate m 91 ++ (element_text e ++ rest))
dimensions_accept p e rest good more zero k few =
    let begins = element_begins e good in
    let goes = begins.goes p rest more in
    let step : next (standing.Dimensions p k) begins.first ≡ Some goes.0 =
    ap (λ t. if t then (if nat_le (k + 1) 255 then Some (standing.Dimensions p (k + 1)) else None) else element p begins.first) begins.no_array ∙ goes.1 in
    subst (λ t. Accepts (standing.Dimensions p k) (t ++ rest)) (sym begins.is) (accepts_on (standing.Dimensions p k) goes.0 begins.first (begins.more ++ rest)
    step goes.2)
dimensions_accept p e rest good more (suc m) k few =
    let step : next (standing.Dimensions p k) 91 ≡ Some (standing.Dimensions p (k + 1)) =
    ap (λ t. if t then Some (standing.Dimensions p (k + 1)) else None) (le-leb (k + 1) 255 (omega arith)) in
    accepts_on (standing.Dimensions p k) (standing.Dimensions p (k + 1)) 91 (replicate m 91 ++ (element_text e ++ rest)) step
    (dimensions_accept p e rest good more m (k + 1) (omega arith))

-- ---- types

-- how a type begins
pub record BeginsSpelled (t : Spelled) : Type 0 where
  pub first : ℕ
  pub more : List ℕ
  pub is : spelled_text t ≡ first ∷ more
  pub slots : slots_from first ≡ spelled_slots t
  pub no_close : (first == 41) ≡ false
  pub no_void : (first == 86) ≡ false
  pub goes : (p : Place) (rest : List ℕ) → Accepts (after_type p) rest → (s : Standing) × (begun p first ≡ Some s) × Accepts s (more ++ rest)

pub spelled_begins : (dimensions : ℕ) (e : Element) → dimensions ≤ 255 → IsElement e → BeginsSpelled (record { dimensions = dimensions; element = e })
spelled_begins zero e few good =
    let begins = element_begins e good in
    record {
      first = begins.first;
      more = begins.more;
      is = begins.is;
      slots = begins.slots;
      no_close = begins.no_close;
      no_void = begins.no_void;
      goes = λ p rest more.
          let goes = begins.goes p rest more in
          (goes.0, ap (λ t. if t then Some (standing.Dimensions p 1) else element p begins.first) begins.no_array ∙ goes.1, goes.2);
    }
spelled_begins (suc m) e few good = record {
  first = 91;
  more = replicate m 91 ++ element_text e;
  is = refl;
  slots = sym (ap (λ t. if t then element_slots e else 1) (ne_eqb (suc m) 0 (λ h. cc)));
  no_close = refl;
  no_void = refl;
  goes = λ p rest more. (
    standing.Dimensions p 1,
    refl,
    subst (Accepts (standing.Dimensions p 1)) (sym (append_assoc (replicate m 91) (element_text e) rest))
        (dimensions_accept p e rest good more m 1 (omega arith)),
  );
}
