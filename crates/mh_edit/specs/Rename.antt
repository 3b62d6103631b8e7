-- How an edit places new names: before the old names, whose places are then renamed, or one name after them.
use Rattle.std.specs.Prelude.{ℕ, ◌+◌, ◌-◌, List, [], ◌∷◌, ◌++◌, length, Option, map, nat_lt, if◌then◌else◌, slice_index}
use Rattle.std.specs.List.{range_with_len}
use Rattle.std.specs.Option.{option_map}
use Rattle.mh_values.specs.Computation.{spliced}
use Rattle.mh_form.specs.declared.basic.Basic.{Basic}
use Rattle.mh_form.specs.declared.body.FormBody.{FormBody}
use Rattle.mh_form.specs.declared.name.Name.{Name}
use Rattle.mh_form.specs.declared.name.Name.TheVariants.{Get, Call, Link, Select, Guarded, Finally, Switch, Loop, Conv, Cast, Ret, MakeArray, CheckArray, Elem, Join, Raise}

-- a name with its places renamed; fields keep their numbers
abbrev pub renamed : (ℕ → ℕ) → Name → Name
renamed to (Get f) = Get f
renamed to (Call f args) = Call f (map to args)
renamed to (Link f args) = Link f (map to args)
renamed to (Select i f g args) = Select (to i) f g (map to args)
renamed to (Guarded f c h args kept) = Guarded f c h (map to args) kept
renamed to (Finally f h args kept ret) = Finally f h (map to args) kept ret
renamed to (Switch i first count args) = Switch (to i) first count (map to args)
renamed to (Loop first args counts ret) = Loop first (map to args) counts ret
renamed to (Conv f i) = Conv f (to i)
renamed to (Cast f i) = Cast f (to i)
renamed to (Ret f i) = Ret f (option_map to i)
renamed to (MakeArray f args) = MakeArray f (map to args)
renamed to (CheckArray i count) = CheckArray (to i) count
renamed to (Elem i k) = Elem (to i) k
renamed to (Join f args) = Join f (map to args)
renamed to (Raise i) = Raise (to i)

-- The new place of an old one. The table has the new places of the old parameters. Slots of the old names begin at the base.
abbrev pub place_by : List ℕ → ℕ → ℕ → ℕ
place_by table base p = if nat_lt p (length table) then slice_index table p else (p - length table) + base

-- a body with new parameters, names before the old ones, and more fields; the table has the new places of the old parameters
abbrev pub reframed : FormBody → List Basic → List Name → List ℕ → ℕ → FormBody
reframed body params before table more =
    let to = place_by table (length params + length before) in
    record {
      params = params;
      fields = body.fields + more;
      names = before ++ map (renamed to) body.names;
      out = option_map to body.out;
    }

-- The new places of the old parameters: those before `pos` keep theirs, those after it move by `put`.
-- The places in the middle stand for the parameters that were taken out.
abbrev pub table : ℕ → ℕ → List ℕ → ℕ → List ℕ
table pos put mid rest = range_with_len 0 pos ++ (mid ++ range_with_len (pos + put) rest)

-- A body with new parameters in place of those taken out at a position. The names before the old ones compute what the old body takes there.
abbrev pub edited : FormBody → ℕ → ℕ → List Basic → List Name → List ℕ → ℕ → FormBody
edited body pos taken basics before mid more =
    reframed body (spliced pos taken basics body.params) before (table pos (length basics) mid (length body.params - (pos + taken))) more

-- a body with one more name and field, and its result at another place
abbrev pub ending_with : FormBody → Name → Option ℕ → FormBody
ending_with body name out =
    record {
      params = body.params;
      fields = body.fields + 1;
      names = body.names ++ name ∷ [];
      out = out;
    }
