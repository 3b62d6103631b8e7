-- The operations of scripts: their words, and what follows each.
use Rattle.std.specs.Prelude.{ℕ, if◌then◌else◌, List, codes, Option, None, Some}
use Rattle.std.specs.Option.{option_or}
use Rattle.std.specs.Str.{bytes_eq}
use Rattle.mh_script.specs.declared.form.Place.{Place}
use Rattle.mh_script.specs.declared.form.Place.TheVariants as place
use Rattle.mh_script.specs.declared.form.One.{One}
use Rattle.mh_script.specs.declared.form.One.TheVariants as one
use Rattle.mh_script.specs.declared.form.Two.{Two}
use Rattle.mh_script.specs.declared.form.Two.TheVariants as two
use Rattle.mh_script.specs.declared.form.Three.{Three}
use Rattle.mh_script.specs.declared.form.Three.TheVariants as three

-- ---- words

-- the operations with one operand
abbrev pub one_form : List ℕ → Option One
one_form word =
    if bytes_eq word (codes "leaf") then Some one.Leaf
    else (if bytes_eq word (codes "identity") then Some one.Identity else None)

-- the operations with two operands
abbrev pub two_form : List ℕ → Option Two
two_form word =
    if bytes_eq word (codes "constant") then Some two.Constant
    else (if bytes_eq word (codes "throw") then Some two.Throw
    else (if bytes_eq word (codes "filterret") then Some two.FilterReturn
    else (if bytes_eq word (codes "astype") then Some two.AsType
    else (if bytes_eq word (codes "explicit") then Some two.Explicit
    else (if bytes_eq word (codes "tryfinally") then Some two.TryFinally else None)))))

-- the operations with three operands that change single arguments
abbrev pub argument_form : List ℕ → Option Three
argument_form word =
    if bytes_eq word (codes "bind") then Some three.Bind
    else (if bytes_eq word (codes "drop") then Some three.Drop
    else (if bytes_eq word (codes "permute") then Some three.Permute
    else (if bytes_eq word (codes "filter") then Some three.Filter
    else (if bytes_eq word (codes "fold") then Some three.Fold
    else (if bytes_eq word (codes "collect") then Some three.Collect else None)))))

-- the other operations with three operands
abbrev pub other_form : List ℕ → Option Three
other_form word =
    if bytes_eq word (codes "spread") then Some three.Spread
    else (if bytes_eq word (codes "gather") then Some three.Gather
    else (if bytes_eq word (codes "guard") then Some three.Guard
    else (if bytes_eq word (codes "catch") then Some three.Catch
    else (if bytes_eq word (codes "counted") then Some three.Counted else None))))

-- the operations with three operands
abbrev pub three_form : List ℕ → Option Three
three_form word = option_or (argument_form word) (other_form word)

-- ---- what stands after a word

-- `leaf REF`, `identity T`
abbrev pub one_place : One → Place
one_place one.Leaf = place.Reference
one_place one.Identity = place.Type

-- `constant T V`, `throw T C`, `filterret H F`, `astype H M`, `explicit H M`, `tryfinally H F`
abbrev pub two_places : Two → Place × Place
two_places two.Constant = (place.Type, place.Value)
two_places two.Throw = (place.Type, place.Class)
two_places two.FilterReturn = (place.Handle, place.Handle)
two_places two.AsType = (place.Handle, place.MethodType)
two_places two.Explicit = (place.Handle, place.MethodType)
two_places two.TryFinally = (place.Handle, place.Handle)

-- `bind H P V`, `drop H P TYPES`, `permute H M ORDER`, `filter H P F`, `fold H P F`, `collect H P F`, `spread H T N`, `gather H T N`,
-- `guard F H H`, `catch H C F`, `counted H H H`
abbrev pub three_places : Three → Place × Place × Place
three_places three.Bind = (place.Handle, place.Number, place.Value)
three_places three.Drop = (place.Handle, place.Number, place.Types)
three_places three.Permute = (place.Handle, place.MethodType, place.Order)
three_places three.Filter = (place.Handle, place.Number, place.Handle)
three_places three.Fold = (place.Handle, place.Number, place.Handle)
three_places three.Collect = (place.Handle, place.Number, place.Handle)
three_places three.Spread = (place.Handle, place.Type, place.Number)
three_places three.Gather = (place.Handle, place.Type, place.Number)
three_places three.Guard = (place.Handle, place.Handle, place.Handle)
three_places three.Catch = (place.Handle, place.Class, place.Handle)
three_places three.Counted = (place.Handle, place.Handle, place.Handle)
