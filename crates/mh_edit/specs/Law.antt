-- The law of each key: what the run of the new body is, given the run of the old one.
use Rattle.std.specs.Prelude.{ℕ, ◌+◌, ◌-◌, ◌≡◌, List, [], ◌∷◌, ◌++◌, Option, Some, None, take, drop, get_or, length, map, slice_get, if◌then◌else◌}
use Rattle.std.specs.declared.sync.Arc.{Arc}
use Rattle.std.specs.declared.alloc.Global.{Global}
use Rattle.mh_values.specs.declared.class.ClassId.{ClassId}
use Rattle.mh_values.specs.declared.types.Comp.{Comp}
use Rattle.mh_values.specs.declared.value.LeafId.{LeafId}
use Rattle.mh_values.specs.declared.value.Value.TheVariants as value
use Rattle.mh_values.specs.Computation.{Ran, Gave, Stuck, Refines, and_then, found, mapped, guarded, spliced, is_caught}
use Rattle.mh_leaf.specs.Ending.{picked_by}
use Rattle.mh_convert.specs.declared.conv.Conv.{Conv}
use Rattle.mh_convert.specs.declared.conv.RetConv.{RetConv}
use Rattle.mh_convert.specs.declared.conv.Rules.{Rules}
use Rattle.mh_convert.specs.declared.conv.Rules.TheVariants as rules
use Rattle.mh_leaf.specs.LeafTable.{LeafTable}
use Rattle.mh_pieces.specs.declared.piece.Piece.{Piece}
use Rattle.mh_form.specs.declared.basic.Basic.{Basic}
use Rattle.mh_form.specs.declared.basic.BasicRet.{BasicRet}
use Rattle.mh_form.specs.declared.basic.BasicRet.TheVariants as basic_ret
use Rattle.mh_form.specs.declared.body.FormBody.{FormBody}
use Rattle.mh_form.specs.declared.name.LoopCounts.{LoopCounts}
use Rattle.mh_form.specs.declared.slot.Slot.{Slot}
use Rattle.mh_form.specs.declared.slot.Slot.TheVariants as slot
use Rattle.mh_form.specs.declared.field.Bound.{Bound}
use Rattle.mh_form.specs.declared.field.Field.{Field}
use Rattle.mh_form.specs.declared.field.Field.TheVariants as field
use Rattle.mh_form.specs.Slots.{called, converted, filled, given, holds_one, joined_slots, made_array, none_as_zero, raised_slot, ret_converted, spread_slots}
use Rattle.mh_form.specs.Run.{finally_run, loop_run, picked, run_on, run_bound}
use Rattle.mh_edit.specs.declared.key.Key.{Key}
use Rattle.mh_edit.specs.declared.key.Key.TheVariants as key
use Rattle.mh_edit.specs.declared.key.RetEntry.{RetEntry}
use Rattle.mh_edit.specs.declared.key.RetEntry.TheVariants as entry
use Rattle.mh_edit.specs.Applied.{conv_count, counts_of}
use Rattle.mh_edit.specs.Fit.{taken_by}

-- a result, adapted to a basic return type: nothing if that is void, otherwise a slot
abbrev pub result_as : BasicRet → Option Slot → Option Slot
result_as basic_ret.V r = None
result_as (basic_ret.Is b) r = Some (none_as_zero r)

-- a run whose result is adapted to a basic return type
abbrev pub returned : BasicRet → Ran (Option Slot) → Ran (Option Slot)
returned ret r = mapped (result_as ret) r

-- the slots of a result, if any
abbrev pub slots_of_result : Option Slot → List Slot
slots_of_result None = []
slots_of_result (Some s) = s ∷ []

-- Converts the arguments that have an entry, from left to right, each by the next conversion. The first exception ends the run.
abbrev pub converting_slots : {B : Type 0} → List (Option Basic) → List (Slot → Ran Slot) → List Slot → ℕ → (List Slot → ℕ → Ran B) → Ran B
converting_slots [] convs [] n next = next [] n
converting_slots (None ∷ entries) convs (x ∷ xs) n next = converting_slots entries convs xs n (λ ys k. next (x ∷ ys) k)
converting_slots (Some b ∷ entries) (conv ∷ convs) (x ∷ xs) n next =
    and_then (conv x) n (λ y k. converting_slots entries convs xs k (λ ys m. next (y ∷ ys) m))
converting_slots _ _ _ n next = Stuck

-- the field of a conversion by the rules
abbrev pub conv_field : Rules → Conv → Field
conv_field rules.AsType c = field.Conv c
conv_field rules.Explicit c = field.Explicit c

-- the field of a return conversion by the rules
abbrev pub ret_field : Rules → RetConv → Field
ret_field rules.AsType c = field.Ret c
ret_field rules.Explicit c = field.ExplicitRet c

-- the fields of a return conversion by the rules: one if there is an entry
abbrev pub ret_fields : Rules → RetEntry → RetConv → List Field
ret_fields by entry.Keep c = []
ret_fields by (entry.New ret) c = ret_field by c ∷ []

-- a result, converted by the rules if there is an entry
abbrev pub ret_entry_on : Rules → LeafTable → RetEntry → RetConv → Option Slot → Ran (Option Slot)
ret_entry_on by table entry.Keep c r = Gave r []
ret_entry_on by table (entry.New ret) c r = returned ret (ret_converted by table.classes c r)

-- the new body calls the leaf in its field on all arguments
abbrev pub LeafRootLaw : List Basic → BasicRet → FormBody → Type 0
LeafRootLaw params ret new =
    (table : LeafTable) (l : LeafId) (args : List Slot) (n : ℕ) →
    length args ≡ length params →
    Refines (returned ret (called table l args n)) (run_on table new (field.Leaf l ∷ []) args n)

-- the new body gives the slot in its field
abbrev pub ConstRootLaw : FormBody → Type 0
ConstRootLaw new =
    (table : LeafTable) (s : Slot) (n : ℕ) → run_on table new (field.Val s ∷ []) [] n ≡ Gave (Some s) []

-- the new body gives its argument
abbrev pub IdentityRootLaw : FormBody → Type 0
IdentityRootLaw new = (table : LeafTable) (s : Slot) (n : ℕ) → run_on table new [] (s ∷ []) n ≡ Gave (Some s) []

-- the new body throws its argument
abbrev pub ThrowRootLaw : FormBody → Type 0
ThrowRootLaw new =
    (table : LeafTable) (s : Slot) (n : ℕ) → Refines (raised_slot s) (run_on table new [] (s ∷ []) n)

-- the new body runs a test on the first arguments, and then one of two parts on all arguments
abbrev pub GuardRootLaw : List Basic → BasicRet → ℕ → FormBody → Type 0
GuardRootLaw params ret test new =
    (table : LeafTable) (c t e : Arc Bound Global) (args : List Slot) (n : ℕ) →
    length args ≡ length params →
    Refines
    (and_then (filled (run_bound table c.value (take test args) n)) n
    (λ s k. returned ret (run_bound table (if holds_one s then t.value else e.value) args k)))
    (run_on table new (field.Part c ∷ field.Part t ∷ field.Part e ∷ []) args n)

-- The new body runs a part on all arguments. If the part throws an exception of the class or below it,
-- the handler runs on the exception and the first arguments.
abbrev pub CatchRootLaw : List Basic → BasicRet → ℕ → FormBody → Type 0
CatchRootLaw params ret kept new =
    (table : LeafTable) (t : Arc Bound Global) (c : ClassId) (h : Arc Bound Global) (args : List Slot) (n : ℕ) →
    length args ≡ length params →
    Refines
    (returned ret
    (guarded (run_bound table t.value args n) (is_caught table.classes c) n
    (λ e k. run_bound table h.value (slot.L (value.Thrown e) ∷ take kept args) k)))
    (run_on table new (field.Part t ∷ field.Class c ∷ field.Part h ∷ []) args n)

-- The new body runs a part on all arguments, and then in any case its cleanup. The cleanup gets null and the result, or the exception and the default, and then
-- the first arguments.
abbrev pub TryRootLaw : List Basic → BasicRet → ℕ → FormBody → Type 0
TryRootLaw params ret kept new =
    (table : LeafTable) (t c : Arc Bound Global) (args : List Slot) (n : ℕ) →
    length args ≡ length params →
    Refines
    (returned ret (mapped Some (finally_run (run_bound table t.value) (run_bound table c.value) kept ret args n)))
    (run_on table new (field.Part t ∷ field.Part c ∷ []) args n)

-- the part that the int in a slot picks: the case of that number, or the other part if there is none
abbrev pub case_of : {A : Type 0} → A → List A → Slot → Option A
case_of other cases (slot.I z) = Some (picked_by z (λ k. get_or cases k other) other)
case_of other cases s = None

-- the new body runs on all arguments the part that the first of them picks
abbrev pub SwitchRootLaw : List Basic → BasicRet → ℕ → FormBody → Type 0
SwitchRootLaw params ret count new =
    (table : LeafTable) (f : Arc Bound Global) (cases : List (Arc Bound Global)) (args : List Slot) (n : ℕ) →
    length cases ≡ count →
    length args ≡ length params →
    Refines
    (found (slice_get args 0) (λ s. found (case_of f cases s) (λ part. returned ret (run_bound table part.value args n))))
    (run_on table new (field.Part f ∷ map field.Part cases) args n)

-- the new body runs the parts of a loop, each on this many of the first arguments
abbrev pub LoopRootLaw : List Basic → BasicRet → LoopCounts → FormBody → Type 0
LoopRootLaw params ret counts new =
    (table : LeafTable) (i s b : Arc Bound Global) (args : List Slot) (n : ℕ) →
    length args ≡ length params →
    Refines
    (returned ret (mapped Some
    (loop_run (run_bound table i.value) (run_bound table s.value) (run_bound table b.value) counts ret args n)))
    (run_on table new (field.Part i ∷ field.Part s ∷ field.Part b ∷ []) args n)

-- the new body joins the pieces with all arguments
abbrev pub ConcatRootLaw : List Basic → BasicRet → FormBody → Type 0
ConcatRootLaw params ret new =
    (table : LeafTable) (pieces : List Piece) (args : List Slot) (n : ℕ) →
    length args ≡ length params →
    Refines (returned ret (mapped Some (joined_slots table.classes pieces args))) (run_on table new (field.Joined pieces ∷ []) args n)

-- the new body runs the old one on its arguments and, at the position, the slot in the new field
abbrev pub BindLaw : ℕ → FormBody → FormBody → Type 0
BindLaw pos old new =
    (table : LeafTable) (fields : List Field) (s : Slot) (args : List Slot) (n : ℕ) →
    length fields ≡ old.fields →
    length args + 1 ≡ length old.params →
    Refines
    (run_on table old fields (spliced pos 0 (s ∷ []) args) n)
    (run_on table new (fields ++ field.Val s ∷ []) args n)

-- the new body runs the old one on its arguments without those that were added
abbrev pub AddLaw : ℕ → ℕ → FormBody → FormBody → Type 0
AddLaw pos put old new =
    (table : LeafTable) (fields : List Field) (args : List Slot) (n : ℕ) →
    length fields ≡ old.fields →
    length args ≡ length old.params + put →
    Refines (run_on table old fields (spliced pos put [] args) n) (run_on table new fields args n)

-- the new body runs the old one on the arguments that the order names
abbrev pub PermuteLaw : ℕ → List ℕ → FormBody → FormBody → Type 0
PermuteLaw count reorder old new =
    (table : LeafTable) (fields : List Field) (args : List Slot) (n : ℕ) →
    length fields ≡ old.fields →
    length args ≡ count →
    Refines (found (picked args reorder) (λ xs. run_on table old fields xs n)) (run_on table new fields args n)

-- The new body runs a part on some arguments, and then the old body with the part's result in their place. A void part leaves nothing there.
abbrev pub CollectLaw : ℕ → ℕ → BasicRet → FormBody → FormBody → Type 0
CollectLaw pos put ret old new =
    (table : LeafTable) (fields : List Field) (part : Arc Bound Global) (args : List Slot) (n : ℕ) →
    length fields ≡ old.fields →
    length args + taken_by ret ≡ length old.params + put →
    Refines
    (and_then (filled (run_bound table part.value (take put (drop pos args)) n)) n
    (λ s k. run_on table old fields (spliced pos put (given ret s) args) k))
    (run_on table new (fields ++ field.Part part ∷ []) args n)

-- The new body runs a part on some arguments from a position on, and then the old body with the part's result put in there.
-- A void part puts in nothing.
abbrev pub FoldLaw : ℕ → ℕ → BasicRet → FormBody → FormBody → Type 0
FoldLaw pos count ret old new =
    (table : LeafTable) (fields : List Field) (part : Arc Bound Global) (args : List Slot) (n : ℕ) →
    length fields ≡ old.fields →
    length args + taken_by ret ≡ length old.params →
    Refines
    (and_then (filled (run_bound table part.value (take count (drop pos args)) n)) n
    (λ s k. run_on table old fields (spliced pos 0 (given ret s) args) k))
    (run_on table new (fields ++ field.Part part ∷ []) args n)

-- the new body runs the old one, and then a part on its result, if any
abbrev pub FilterReturnLaw : BasicRet → FormBody → FormBody → Type 0
FilterReturnLaw ret old new =
    (table : LeafTable) (fields : List Field) (part : Arc Bound Global) (args : List Slot) (n : ℕ) →
    length fields ≡ old.fields →
    length args ≡ length old.params →
    Refines
    (and_then (run_on table old fields args n) n
    (λ r k. returned ret (run_bound table part.value (slots_of_result r) k)))
    (run_on table new (fields ++ field.Part part ∷ []) args n)

-- the new body converts the arguments that have an entry, runs the old body, and converts its result, by the rules that its fields name
abbrev pub ConvertLaw : List (Option Basic) → RetEntry → FormBody → FormBody → Type 0
ConvertLaw entries ret old new =
    (by : Rules) (table : LeafTable) (fields : List Field) (convs : List Conv) (c : RetConv) (args : List Slot) (n : ℕ) →
    length fields ≡ old.fields →
    length convs ≡ conv_count entries →
    length args ≡ length old.params →
    Refines
    (converting_slots entries (map (converted by table.classes) convs) args n
    (λ xs k. and_then (run_on table old fields xs k) k (λ r m. ret_entry_on by table ret c r)))
    (run_on table new (fields ++ (map (conv_field by) convs ++ ret_fields by ret c)) args n)

-- the new body checks that the array at a position has `count` items, and runs the old body with these items in the array's place
abbrev pub SpreadLaw : ℕ → ℕ → FormBody → FormBody → Type 0
SpreadLaw pos count old new =
    (table : LeafTable) (fields : List Field) (args : List Slot) (n : ℕ) →
    length fields ≡ old.fields →
    length args + count ≡ length old.params + 1 →
    Refines
    (found (slice_get args pos) (λ s. and_then (spread_slots count s) n (λ items k. run_on table old fields (spliced pos 1 items args) k)))
    (run_on table new fields args n)

-- the new body makes an array of `count` arguments from a position on, and runs the old body with the array in their place
abbrev pub GatherLaw : ℕ → ℕ → FormBody → FormBody → Type 0
GatherLaw pos count old new =
    (table : LeafTable) (fields : List Field) (c : Comp) (args : List Slot) (n : ℕ) →
    length fields ≡ old.fields →
    length args + 1 ≡ length old.params + count →
    Refines
    (and_then (made_array table.classes c (take count (drop pos args))) n
    (λ s k. run_on table old fields (spliced pos count (s ∷ []) args) k))
    (run_on table new (fields ++ field.Comp c ∷ []) args n)

-- The law of a key: for all arguments and fields, what the run of the new body is, given the run of the old one.
-- `Refines` claims nothing if the run that it names first is stuck, as that of an ill-formed part is.
abbrev pub Law : Key → FormBody → FormBody → Type 0
Law (key.LeafRoot shape) old new = LeafRootLaw shape.params shape.ret new
Law (key.ConstRoot b) old new = ConstRootLaw new
Law (key.IdentityRoot b) old new = IdentityRootLaw new
Law (key.ThrowRoot ret) old new = ThrowRootLaw new
Law (key.GuardRoot shape test) old new = GuardRootLaw shape.params shape.ret test new
Law (key.CatchRoot shape handler) old new = CatchRootLaw shape.params shape.ret handler new
Law (key.TryRoot shape cleanup) old new = TryRootLaw shape.params shape.ret cleanup new
Law (key.SwitchRoot shape count) old new = SwitchRootLaw shape.params shape.ret count new
Law (key.LoopRoot shape iterations init turns) old new = LoopRootLaw shape.params shape.ret (counts_of iterations init turns) new
Law (key.ConcatRoot shape) old new = ConcatRootLaw shape.params shape.ret new
Law (key.Bind pos) old new = BindLaw pos old new
Law (key.Add pos basics) old new = AddLaw pos (length basics) old new
Law (key.Permute basics reorder) old new = PermuteLaw (length basics) reorder old new
Law (key.Collect pos basics ret) old new = CollectLaw pos (length basics) ret old new
Law (key.Fold pos count ret) old new = FoldLaw pos count ret old new
Law (key.FilterReturn ret) old new = FilterReturnLaw ret old new
Law (key.Convert params ret) old new = ConvertLaw params ret old new
Law (key.Spread count b) old new = SpreadLaw (length old.params - count) count old new
Law (key.Gather count b) old new = GatherLaw (length old.params - 1) count old new
