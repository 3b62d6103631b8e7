-- Which keys fit which bodies.
use Rattle.std.specs.Prelude.{ℕ, ◌+◌, ◌-◌, ◌==◌, nat_le, nat_lt, Bool, true, false, not, ◌&&◌, List, [], ◌∷◌, drop, is_some, length, slice_get}
use Rattle.std.specs.List.{list_all}
use Rattle.std.specs.Option.{option_map_or}
use Rattle.mh_form.specs.declared.basic.Basic.{Basic}
use Rattle.mh_form.specs.declared.basic.Basic.TheVariants as basic
use Rattle.mh_form.specs.declared.basic.BasicRet.{BasicRet}
use Rattle.mh_form.specs.declared.basic.BasicRet.TheVariants as basic_ret
use Rattle.mh_form.specs.declared.body.FormBody.{FormBody}
use Rattle.mh_edit.specs.declared.key.Key.{Key}
use Rattle.mh_edit.specs.declared.key.Key.TheVariants as key

-- whether two basic types are equal
abbrev pub is_same_basic : Basic → Basic → Bool
is_same_basic basic.L basic.L = true
is_same_basic basic.I basic.I = true
is_same_basic basic.J basic.J = true
is_same_basic _ _ = false

-- the body that a root starts from: it has no parameters, fields, names or result
abbrev pub is_nothing : FormBody → Bool
is_nothing body = length body.params == 0 && (body.fields == 0 && (length body.names == 0 && not (is_some body.out)))

-- the parameter at a place has this basic type
abbrev pub is_basic_at : List Basic → ℕ → Basic → Bool
is_basic_at params place b = option_map_or (is_same_basic b) (slice_get params place) false

-- how many parameters the result of a part takes the place of: none if it is void
abbrev pub taken_by : BasicRet → ℕ
taken_by basic_ret.V = 0
taken_by (basic_ret.Is b) = 1

-- the result of a part can be put at a position: it has the basic type of the parameter there, or is void
abbrev pub takes_result : List Basic → ℕ → BasicRet → Bool
takes_result params pos basic_ret.V = nat_le pos (length params)
takes_result params pos (basic_ret.Is b) = is_basic_at params pos b

-- an order names one new parameter for each old one, of the same basic type
abbrev pub names_each : List Basic → List ℕ → List Basic → Bool
names_each basics [] params = length params == 0
names_each basics (r ∷ reorder) [] = false
names_each basics (r ∷ reorder) (b ∷ params) = is_basic_at basics r b && names_each basics reorder params

-- the last `count` parameters have this basic type
abbrev pub ends_with : List Basic → ℕ → Basic → Bool
ends_with params count b = nat_le count (length params) && list_all (is_same_basic b) (drop (length params - count) params)

-- the most cases of a switch
abbrev pub most_cases : ℕ
most_cases = 16

-- a root fits only the empty body; any other key fits only a body that was made, and has what the key needs
abbrev pub fits : Key → FormBody → Bool
fits (key.LeafRoot shape) body = is_nothing body
fits (key.ConstRoot b) body = is_nothing body
fits (key.IdentityRoot b) body = is_nothing body
fits (key.ThrowRoot ret) body = is_nothing body
fits (key.GuardRoot shape test) body = is_nothing body && nat_le test (length shape.params)
fits (key.CatchRoot shape handler) body = is_nothing body && nat_le handler (length shape.params)
fits (key.TryRoot shape cleanup) body = is_nothing body && nat_le cleanup (length shape.params)
fits (key.SwitchRoot shape count) body = is_nothing body && (is_basic_at shape.params 0 basic.I && (nat_lt 0 count && nat_le count most_cases))
fits (key.LoopRoot shape iterations init turns) body =
    is_nothing body
    && (nat_le iterations (length shape.params) && (nat_le init (length shape.params) && nat_le turns (length shape.params)))
fits (key.ConcatRoot shape) body = is_nothing body
fits (key.Bind pos) body = not (is_nothing body) && nat_lt pos (length body.params)
fits (key.Add pos basics) body = not (is_nothing body) && nat_le pos (length body.params)
fits (key.Permute basics reorder) body = not (is_nothing body) && names_each basics reorder body.params
fits (key.Collect pos basics ret) body = not (is_nothing body) && takes_result body.params pos ret
fits (key.Fold pos count ret) body =
    not (is_nothing body) && (takes_result body.params pos ret && nat_le (pos + count + taken_by ret) (length body.params))
fits (key.FilterReturn ret) body = not (is_nothing body)
fits (key.Convert params ret) body = not (is_nothing body) && length params == length body.params
fits (key.Spread count b) body = not (is_nothing body) && ends_with body.params count b
fits (key.Gather count b) body = not (is_nothing body) && is_basic_at body.params (length body.params - 1) basic.L
