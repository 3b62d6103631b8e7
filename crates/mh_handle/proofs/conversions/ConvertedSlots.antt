-- Converting the erasures of values gives the erasures of the converted values.
use Rattle.std.proofs.Common.{◌≡◌, refl, sym, ap, ◌∙◌, subst, ℕ, Bool, true, false, cond, if◌then◌else◌, List, [], ◌∷◌, map, Option, Some, None, Result, Ok, Err}
use Rattle.std.proofs.lemmas.Bool.{and_parts}
use Rattle.std.specs.Prelude.{option_to_list}
use Rattle.std.specs.Result.{result_map_both}
use Rattle.mh_values.specs.declared.class.Class.{Class}
use Rattle.mh_values.specs.declared.types.Ty.{Ty}
use Rattle.mh_values.specs.declared.value.Exc.{Exc}
use Rattle.mh_values.specs.declared.value.Value.{Value}
use Rattle.mh_values.specs.Classes.{AreClasses}
use Rattle.mh_values.specs.Computation.{Ran, Gave, Threw, Stuck, and_then, found, mapped}
use Rattle.mh_values.specs.HasType.{has_type, HaveTypes}
use Rattle.mh_convert.specs.declared.conv.Conv.{Conv}
use Rattle.mh_convert.specs.declared.conv.RetConv.{RetConv}
use Rattle.mh_convert.specs.declared.conv.RetConv.TheVariants as ret
use Rattle.mh_convert.specs.declared.conv.Rules.{Rules}
use Rattle.mh_convert.specs.Conversion.{can, conv, is_trivial, ret_conv, ret_conversion_of, value_conversion}
use Rattle.mh_convert.proofs.Typed.{trivial-keeps}
use Rattle.mh_leaf.specs.LeafTable.{LeafTable}
use Rattle.mh_tree.specs.Rows.{can_all}
use Rattle.mh_tree.specs.Meaning.{or_throw, value_and_more, then_others, conv_all, conv_result}
use Rattle.mh_tree.proofs.SoundConversions.{shown}
use Rattle.mh_form.specs.declared.basic.Basic.{Basic}
use Rattle.mh_form.specs.declared.basic.BasicRet.TheVariants.{V, Is}
use Rattle.mh_form.specs.declared.slot.Slot.{Slot}
use Rattle.mh_form.specs.Erasure.{basic_of, erased, erased_option, erased_ran, typed}
use Rattle.mh_form.specs.Slots.{converted, slot_or_throw}
use Rattle.mh_form.proofs.Computations.{and_then-pure}
use Rattle.mh_form.proofs.ErasureLaws.{erased-typed}
use Rattle.mh_edit.specs.declared.key.RetEntry.TheVariants as entry
use Rattle.mh_edit.specs.Law.{converting_slots, ret_entry_on, returned}
use Rattle.mh_handle.specs.Recipe.{entries_of, ret_entry_of}
use Rattle.mh_handle.specs.Converting.{conversion_between, convs_of}

-- one value
pub converted-erased :
    (by : Rules) (classes : List Class) (s t : Ty) (v : Value) → can by classes s t ≡ true → has_type classes v s ≡ true →
    converted by classes (conversion_between s t) (erased v) ≡ slot_or_throw (conv by classes s t v)
converted-erased by classes s t v allowed have =
    ap (λ b. if b then found (typed classes s (erased v)) (λ w. slot_or_throw (conv by classes s t w)) else Stuck) allowed
    ∙ ap (λ o. found o (λ w. slot_or_throw (conv by classes s t w))) (erased-typed classes s v have)

-- what goes on with values, with one in front
in_front :
    {B : Type 0} (v : Value) (others : Result (List Value) Exc) (next : List Slot → Ran B) →
    or_throw others (λ vs. next (erased v ∷ map erased vs)) ≡ or_throw (value_and_more v others) (λ vs. next (map erased vs))
in_front v (Ok vs) next = refl
in_front v (Err e) next = refl

module _
    {B : Type 0} (entries : List (Option Basic)) (convs : List (Slot → Ran Slot)) (xs : List Slot) (n : ℕ) (others : Result (List Value) Exc)
    (same : (next : List Slot → ℕ → Ran B) → converting_slots entries convs xs n next ≡ or_throw others (λ vs. next (map erased vs) n))
  where
    first-converted :
        (r : Result Value Exc) (next : List Slot → ℕ → Ran B) →
        and_then (slot_or_throw r) n (λ y k. converting_slots entries convs xs k (λ ys m. next (y ∷ ys) m)) ≡ or_throw (then_others r others)
        (λ vs. next (map erased vs) n)
    first-converted (Ok w) next =
        and_then-pure (erased w) n (λ y k. converting_slots entries convs xs k (λ ys m. next (y ∷ ys) m))
        ∙ (same (λ ys m. next (erased w ∷ ys) m) ∙ in_front w others (λ ys. next ys n))
    first-converted (Err e) next = refl

-- an argument, whether its conversion changes something or not, and then the others
argument-converted :
    {B : Type 0} (by : Rules) (classes : List Class) → AreClasses classes → (s t : Ty) (v : Value) (trivial : Bool)
    (entries : List (Option Basic)) (convs : List Conv) (xs : List Slot) (n : ℕ) (others : Result (List Value) Exc) (next : List Slot → ℕ → Ran B) →
    is_trivial classes s t ≡ trivial → can by classes s t ≡ true → has_type classes v s ≡ true →
    ((next : List Slot → ℕ → Ran B) → converting_slots entries (map (converted by classes) convs) xs n next ≡ or_throw others (λ vs. next (map erased vs) n)) →
    converting_slots ((if trivial then None else Some (basic_of s)) ∷ entries)
    (map (converted by classes) (if trivial then convs else conversion_between s t ∷ convs)) (erased v ∷ xs) n next
    ≡ or_throw (then_others (conv by classes s t v) others) (λ vs. next (map erased vs) n)
argument-converted by classes are s t v true entries convs xs n others next is allowed have same =
    same (λ ys m. next (erased v ∷ ys) m)
    ∙ (in_front v others (λ ys. next ys n)
    ∙ ap (λ r. or_throw (then_others r others) (λ vs. next (map erased vs) n)) (sym (trivial-keeps by classes are s t v is have)))
argument-converted by classes are s t v false entries convs xs n others next is allowed have same =
    let funs = map (converted by classes) convs in
    ap (λ r. and_then r n (λ y k. converting_slots entries funs xs k (λ ys m. next (y ∷ ys) m))) (converted-erased by classes s t v allowed have)
    ∙ first-converted entries funs xs n others same (conv by classes s t v) next

-- arguments
pub arguments-converted :
    {B : Type 0} (by : Rules) (classes : List Class) → AreClasses classes → (ss ts : List Ty) (args : List Value) (n : ℕ) (next : List Slot → ℕ → Ran B) →
    can_all by classes ss ts ≡ true → HaveTypes classes args ss →
    converting_slots (entries_of classes ss ts) (map (converted by classes) (convs_of classes ss ts)) (map erased args) n next
    ≡ or_throw (conv_all by classes ss ts args) (λ vs. next (map erased vs) n)
arguments-converted by classes are [] [] [] n next allowed have = refl
arguments-converted by classes are [] [] (v ∷ vs) n next allowed have = absurd have
arguments-converted by classes are [] (t ∷ ts) args n next allowed have = absurd cc
arguments-converted by classes are (s ∷ ss) [] args n next allowed have = absurd cc
arguments-converted by classes are (s ∷ ss) (t ∷ ts) [] n next allowed have = absurd have
arguments-converted by classes are (s ∷ ss) (t ∷ ts) (v ∷ vs) n next allowed have =
    let q = and_parts (can by classes s t) (can_all by classes ss ts) allowed in
    argument-converted by classes are s t v (is_trivial classes s t) (entries_of classes ss ts) (convs_of classes ss ts) (map erased vs) n
    (conv_all by classes ss ts vs) next
    refl q.0 have.0 (λ more. arguments-converted by classes are ss ts vs n more q.1 have.1)

-- ---- results

-- an allowed conversion of a result that is a value
value-conversion-is : (b : Bool) (p : Conv) (c : RetConv) → value_conversion (cond b (Some p) None) ≡ Some c → (b ≡ true) × (c ≡ ret.Value p)
value-conversion-is true p c h = (refl, cc)
value-conversion-is false p c h = absurd cc

-- a converted value as a result, erased before or after
erased-shown : (b : Basic) (r : Result Value Exc) → mapped (λ (s : Slot). Some s) (slot_or_throw r) ≡ erased_ran
    (shown (result_map_both (λ w. Some w) (λ e. e) r))
erased-shown b (Ok w) = refl
erased-shown b (Err e) = refl

returned-some : (b : Basic) (r : Ran Slot) → returned (Is b) (mapped Some r) ≡ mapped Some r
returned-some b (Gave s calls) = refl
returned-some b (Threw e calls) = refl
returned-some b Stuck = refl

value-converted :
    (by : Rules) (table : LeafTable) → AreClasses table.classes → (s t : Ty) (v : Value) (trivial : Bool) →
    is_trivial table.classes s t ≡ trivial → can by table.classes s t ≡ true → has_type table.classes v s ≡ true →
    ret_entry_on by table (if trivial then entry.Keep else entry.New (Is (basic_of t))) (ret.Value (conversion_between s t)) (Some (erased v))
    ≡ erased_ran (shown (result_map_both (λ w. Some w) (λ e. e) (conv by table.classes s t v)))
value-converted by table are s t v true is allowed have =
    ap (λ r. erased_ran (shown (result_map_both (λ w. Some w) (λ e. e) r))) (sym (trivial-keeps by table.classes are s t v is have))
value-converted by table are s t v false is allowed have =
    returned-some (basic_of t) (converted by table.classes (conversion_between s t) (erased v))
    ∙ (ap (mapped Some) (converted-erased by table.classes s t v allowed have) ∙ erased-shown (basic_of t) (conv by table.classes s t v))

-- a result
pub result-converted :
    (by : Rules) (table : LeafTable) → AreClasses table.classes → (s t : Option Ty) (c : RetConv) (r : Option Value) →
    ret_conversion_of by table.classes s t ≡ Some c → HaveTypes table.classes (option_to_list r) (option_to_list s) →
    ret_entry_on by table (ret_entry_of table.classes s t) c (erased_option r) ≡ erased_ran (conv_result by table.classes s t r)
result-converted by table are None None c None is have = refl
result-converted by table are None None c (Some v) is have = absurd have
result-converted by table are (Some s) None c r is have =
    let e : ret.Discard ≡ c = cc in ap (λ x. ret_entry_on by table (entry.New V) x (erased_option r)) (sym e)
result-converted by table are None (Some t) c r is have =
    let e : ret.Default t ≡ c = cc in ap (λ x. ret_entry_on by table (entry.New (Is (basic_of t))) x (erased_option r)) (sym e)
result-converted by table are (Some s) (Some t) c None is have = absurd have
result-converted by table are (Some s) (Some t) c (Some v) is have =
    let q = value-conversion-is (can by table.classes s t) (conversion_between s t) c is in
    let whole : erased_ran (conv_result by table.classes (Some s) (Some t) (Some v)) ≡ erased_ran (shown (ret_conv by table.classes c (Some v))) =
    ap (λ o. erased_ran (found o (λ d. shown (ret_conv by table.classes d (Some v))))) is in
    let P : RetConv → Type 0 = λ d. ret_entry_on by table (ret_entry_of table.classes (Some s) (Some t)) d (Some (erased v)) ≡ erased_ran
    (shown (ret_conv by table.classes d (Some v))) in
    subst P (sym q.1) (value-converted by table are s t v (is_trivial table.classes s t) refl q.0 have.0) ∙ sym whole
