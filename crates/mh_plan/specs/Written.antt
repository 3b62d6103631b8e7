-- A plan written as text: for each thread the line `thread`, and then a line for each of its calls.
use Rattle.std.specs.Prelude.{ℕ, List, [], ◌∷◌, ◌++◌, codes, flat_map, map, slice_get}
use Rattle.std.specs.Fmt.{decimal}
use Rattle.std.specs.Option.{option_map_or}
use Rattle.mh_base.specs.Lines.{line_text}
use Rattle.mh_values.specs.declared.class.Class.{Class}
use Rattle.mh_values.specs.declared.value.LeafId.{LeafId}
use Rattle.mh_values.specs.declared.value.Value.{Value}
use Rattle.mh_values.specs.Classes.{name_of}
use Rattle.mh_values.specs.TypeText.{method_type_text}
use Rattle.mh_texts.specs.LiteralText.{literal_text}
use Rattle.mh_leaf.specs.declared.leaf.Leaf.{Leaf}
use Rattle.mh_leaf.specs.LeafTable.{LeafTable}
use Rattle.mh_leaves.specs.Reference.{reference_text}
use Rattle.mh_plan.specs.declared.call.Call.{Call}
use Rattle.mh_plan.specs.declared.call.Call.TheVariants.{Exact, Generic, Indy}

-- `OWNER.NAME:DESC` of a leaf
abbrev pub leaf_reference_text : List Class → Leaf → List ℕ
leaf_reference_text classes leaf = reference_text (record { owner = name_of classes leaf.owner; name = leaf.name; descriptor = leaf.descriptor })

-- `leaf:OWNER.NAME:DESC` of a leaf of the table
abbrev pub leaf_text : LeafTable → LeafId → List ℕ
leaf_text table id = codes "leaf:" ++ option_map_or (leaf_reference_text table.classes) (slice_get table.leaves id.0) []

-- the literals of arguments
abbrev pub argument_texts : List Class → List Value → List (List ℕ)
argument_texts classes values = map (literal_text classes) values

-- the tokens of a call's line: `exact leaf:REF M ARG ..`, `generic leaf:REF M ARG ..` or `indy N ARG ..`
abbrev pub call_tokens : LeafTable → Call → List (List ℕ)
call_tokens table (Exact leaf t values) =
    codes "exact" ∷ leaf_text table leaf ∷ method_type_text table.classes t ∷ argument_texts table.classes values
call_tokens table (Generic leaf t values) =
    codes "generic" ∷ leaf_text table leaf ∷ method_type_text table.classes t ∷ argument_texts table.classes values
call_tokens table (Indy site values) = codes "indy" ∷ decimal site ∷ argument_texts table.classes values

-- the lines of calls
abbrev pub call_lines : LeafTable → List Call → List ℕ
call_lines table calls = flat_map (λ call. line_text (call_tokens table call)) calls

-- the lines of a thread
abbrev pub thread_lines : LeafTable → List Call → List ℕ
thread_lines table calls = line_text (codes "thread" ∷ []) ++ call_lines table calls

-- the text of a plan
abbrev pub plan_text : LeafTable → List (List Call) → List ℕ
plan_text table threads = flat_map (thread_lines table) threads
