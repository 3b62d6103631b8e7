-- The body that a key makes of a body.
use Rattle.std.specs.Prelude.{ℕ, ◌+◌, ◌-◌, List, [], ◌∷◌, Option, None, Some, length, map, replicate}
use Rattle.std.specs.List.{range_with_len}
use Rattle.mh_form.specs.declared.basic.Basic.{Basic}
use Rattle.mh_form.specs.declared.basic.Basic.TheVariants as basic
use Rattle.mh_form.specs.declared.basic.BasicRet.{BasicRet}
use Rattle.mh_form.specs.declared.basic.BasicRet.TheVariants as basic_ret
use Rattle.mh_form.specs.declared.basic.Shape.{Shape}
use Rattle.mh_form.specs.declared.body.FormBody.{FormBody}
use Rattle.mh_form.specs.declared.name.LoopCounts.{LoopCounts}
use Rattle.mh_form.specs.declared.name.Name.{Name}
use Rattle.mh_form.specs.declared.name.Name.TheVariants as name
use Rattle.mh_form.specs.Slots.{given}
use Rattle.mh_edit.specs.declared.key.Key.{Key}
use Rattle.mh_edit.specs.declared.key.Key.TheVariants as key
use Rattle.mh_edit.specs.declared.key.RetEntry.{RetEntry}
use Rattle.mh_edit.specs.declared.key.RetEntry.TheVariants as entry
use Rattle.mh_edit.specs.Fit.{taken_by}
use Rattle.mh_edit.specs.Rename.{reframed, edited, ending_with}

-- the place of a result: none if it is void
abbrev pub out_of : BasicRet → ℕ → Option ℕ
out_of basic_ret.V p = None
out_of (basic_ret.Is b) p = Some p

-- the name of a conversion: a cast if both basic types are those of references, otherwise a conversion
abbrev pub conv_name : Basic → Basic → ℕ → ℕ → Name
conv_name basic.L basic.L f i = name.Cast f i
conv_name b c f i = name.Conv f i

-- one conversion for each entry; fields are counted from `f`, places from `i`
abbrev pub conv_names : List (Option Basic) → List Basic → ℕ → ℕ → List Name
conv_names (None ∷ entries) (c ∷ params) f i = conv_names entries params f (i + 1)
conv_names (Some b ∷ entries) (c ∷ params) f i = conv_name b c f i ∷ conv_names entries params (f + 1) (i + 1)
conv_names _ _ f i = []

-- the places of the old parameters: their own, or that of the slot of their conversion
abbrev pub conv_table : List (Option Basic) → ℕ → ℕ → List ℕ
conv_table [] i made = []
conv_table (None ∷ entries) i made = i ∷ conv_table entries (i + 1) made
conv_table (Some b ∷ entries) i made = made ∷ conv_table entries (i + 1) (made + 1)

-- the parameters before conversion: an entry gives its basic type, and no entry leaves the old one
abbrev pub conv_params : List (Option Basic) → List Basic → List Basic
conv_params (None ∷ entries) (c ∷ params) = c ∷ conv_params entries params
conv_params (Some b ∷ entries) (c ∷ params) = b ∷ conv_params entries params
conv_params _ _ = []

-- how many entries there are
abbrev pub conv_count : List (Option Basic) → ℕ
conv_count [] = 0
conv_count (None ∷ entries) = conv_count entries
conv_count (Some b ∷ entries) = conv_count entries + 1

-- a body with its parameters converted
abbrev pub converting : List (Option Basic) → FormBody → FormBody
converting entries body =
    reframed body (conv_params entries body.params) (conv_names entries body.params body.fields 0)
    (conv_table entries 0 (length body.params)) (conv_count entries)

-- a body whose last name takes its result
abbrev pub finishing : (Option ℕ → Name) → BasicRet → FormBody → FormBody
finishing last ret body = ending_with body (last body.out) (out_of ret (length body.params + length body.names))

-- a body with its result converted, if there is an entry
abbrev pub returning : RetEntry → FormBody → FormBody
returning entry.Keep body = body
returning (entry.New ret) body = finishing (name.Ret body.fields) ret body

-- the place of a result as a list: empty if there is no result
abbrev pub places_of : Option ℕ → List ℕ
places_of None = []
places_of (Some p) = p ∷ []

-- one name for each of `count` items of the array at a place, beginning at item `from`
abbrev pub elem_names : ℕ → ℕ → ℕ → List Name
elem_names array from count = map (λ k. name.Elem array k) (range_with_len from count)

-- the places of all arguments
abbrev pub all_places : Shape → List ℕ
all_places shape = range_with_len 0 (length shape.params)

-- a body of one name, which gives the result
abbrev pub named_body : Shape → ℕ → Name → FormBody
named_body shape fields name = record { params = shape.params; fields = fields; names = name ∷ []; out = out_of shape.ret (length shape.params) }

-- calls a leaf
abbrev pub leaf_body : Shape → FormBody
leaf_body shape = named_body shape 1 (name.Call 0 (all_places shape))

-- gets a constant
abbrev pub constant_body : FormBody
constant_body = record { params = []; fields = 1; names = name.Get 0 ∷ []; out = Some 0 }

-- gives its argument
abbrev pub identity_body : Basic → FormBody
identity_body b = record { params = b ∷ []; fields = 0; names = []; out = Some 0 }

-- throws its argument
abbrev pub throw_body : BasicRet → FormBody
throw_body ret = record { params = basic.L ∷ []; fields = 0; names = name.Raise 0 ∷ []; out = out_of ret 1 }

-- runs a test on the first arguments, and then one of two parts on all
abbrev pub guard_body : Shape → ℕ → FormBody
guard_body shape test =
    let count = length shape.params in
    record {
      params = shape.params;
      fields = 3;
      names = name.Link 0 (range_with_len 0 test) ∷ name.Select count 1 2 (range_with_len 0 count) ∷ [];
      out = out_of shape.ret (count + 1);
    }

-- runs a part on all arguments, guarded by a handler
abbrev pub catch_body : Shape → ℕ → FormBody
catch_body shape handler = named_body shape 3 (name.Guarded 0 1 2 (all_places shape) handler)

-- runs a part on all arguments, and then in any case its cleanup
abbrev pub try_body : Shape → ℕ → FormBody
try_body shape cleanup = named_body shape 2 (name.Finally 0 1 (all_places shape) cleanup shape.ret)

-- runs on all arguments the part that the first of them picks
abbrev pub switch_body : Shape → ℕ → FormBody
switch_body shape count = named_body shape (count + 1) (name.Switch 0 0 count (all_places shape))

-- runs a loop on all arguments
abbrev pub loop_body : Shape → LoopCounts → FormBody
loop_body shape counts = named_body shape 3 (name.Loop 0 (all_places shape) counts shape.ret)

-- how many arguments each part of a loop takes
abbrev pub counts_of : ℕ → ℕ → ℕ → LoopCounts
counts_of iterations init body = record { iterations = iterations; init = init; body = body }

-- joins pieces, with all arguments
abbrev pub concat_body : Shape → FormBody
concat_body shape = named_body shape 1 (name.Join 0 (all_places shape))

-- a body with a constant in place of a parameter
abbrev pub binding : ℕ → FormBody → FormBody
binding pos body = edited body pos 1 [] (name.Get body.fields ∷ []) ((length body.params - 1) ∷ []) 1

-- a body with parameters added, which it does not use
abbrev pub adding : ℕ → List Basic → FormBody → FormBody
adding pos basics body = edited body pos 0 basics [] [] 0

-- a body with its parameters replaced: the old parameter i is the new one at `reorder[i]`
abbrev pub permuting : List Basic → List ℕ → FormBody → FormBody
permuting basics reorder body = reframed body basics [] reorder 0

-- a body that first runs a part on added parameters; the part's result takes the place of one parameter
abbrev pub collecting : ℕ → List Basic → BasicRet → FormBody → FormBody
collecting pos basics ret body =
    edited body pos (taken_by ret) basics
    (name.Link body.fields (range_with_len pos (length basics)) ∷ [])
    (given ret (length body.params + length basics - taken_by ret)) 1

-- a body that first runs a part on parameters that stay; the part's result takes the place of one before them
abbrev pub folding : ℕ → ℕ → BasicRet → FormBody → FormBody
folding pos count ret body =
    edited body pos (taken_by ret) []
    (name.Link body.fields (range_with_len pos count) ∷ [])
    (given ret (length body.params - taken_by ret)) 1

-- a body that last runs a part on its result
abbrev pub filtering : BasicRet → FormBody → FormBody
filtering ret body = finishing (λ out. name.Link body.fields (places_of out)) ret body

-- a body with one array in place of its last parameters, which are the array's items
abbrev pub spreading : ℕ → FormBody → FormBody
spreading count body =
    let pos = length body.params - count in
    edited body pos count (basic.L ∷ []) (name.CheckArray pos count ∷ elem_names pos 0 count) (range_with_len (pos + 2) count) 0

-- a body with parameters in place of its last one, which is the array of them
abbrev pub gathering : ℕ → Basic → FormBody → FormBody
gathering count b body =
    let pos = length body.params - 1 in
    edited body pos 1 (replicate count b) (name.MakeArray body.fields (range_with_len pos count) ∷ []) ((pos + count) ∷ []) 1

-- the body that a key makes
abbrev pub applied : Key → FormBody → FormBody
applied (key.LeafRoot shape) body = leaf_body shape
applied (key.ConstRoot b) body = constant_body
applied (key.IdentityRoot b) body = identity_body b
applied (key.ThrowRoot ret) body = throw_body ret
applied (key.GuardRoot shape test) body = guard_body shape test
applied (key.CatchRoot shape handler) body = catch_body shape handler
applied (key.TryRoot shape cleanup) body = try_body shape cleanup
applied (key.SwitchRoot shape count) body = switch_body shape count
applied (key.LoopRoot shape iterations init turns) body = loop_body shape (counts_of iterations init turns)
applied (key.ConcatRoot shape) body = concat_body shape
applied (key.Bind pos) body = binding pos body
applied (key.Add pos basics) body = adding pos basics body
applied (key.Permute basics reorder) body = permuting basics reorder body
applied (key.Collect pos basics ret) body = collecting pos basics ret body
applied (key.Fold pos count ret) body = folding pos count ret body
applied (key.FilterReturn ret) body = filtering ret body
applied (key.Convert entries ret) body = returning ret (converting entries body)
applied (key.Spread count b) body = spreading count body
applied (key.Gather count b) body = gathering count b body
