-- What each kind of leaf does, and which types it may have.
use Rattle.std.specs.Prelude.{ℕ, zero, ◌==◌, ℤ, pos, negsuc, ◌+ℤ◌, ◌-ℤ◌, ◌*ℤ◌, int_lt, nat_lt, nat_le, Bool, true, false, not, ◌&&◌, if◌then◌else◌, List, [], ◌∷◌, ◌++◌, length, codes, sum_by, Option, Some, None, option_map, option_and_then, slice_get}
use Rattle.std.specs.Int.{w32, w64, int_wrap, int_wrapping_div, cast_signed}
use Rattle.mh_values.specs.declared.class.Class.{Class}
use Rattle.mh_values.specs.declared.types.Primitive.TheVariants as primitive
use Rattle.mh_values.specs.declared.types.Ty.{Ty}
use Rattle.mh_values.specs.declared.types.Ty.TheVariants as ty
use Rattle.mh_values.specs.declared.types.MethodTy.{MethodTy}
use Rattle.mh_values.specs.declared.value.Num.TheVariants as num
use Rattle.mh_values.specs.declared.value.Value.{Value}
use Rattle.mh_values.specs.declared.value.Value.TheVariants as value
use Rattle.mh_values.specs.declared.value.Outcome.{Outcome}
use Rattle.mh_values.specs.declared.value.Outcome.TheVariants.{Return, Throw}
use Rattle.mh_values.specs.declared.value.LeafId.{LeafId}
use Rattle.mh_values.specs.declared.calls.LeafCall.{LeafCall}
use Rattle.mh_values.specs.Class.{is_subclass, string_class, throwable_class, arithmetic_class, class_cast_class, null_pointer_class, internal_error_class}
use Rattle.mh_values.specs.Computation.{Ran, Gave, Threw, Stuck}
use Rattle.mh_values.specs.Exception.{bare, saying}
use Rattle.mh_values.specs.Same.{is_same_type, is_same_return, is_same_method_type}
use Rattle.mh_values.specs.ValueLimits.{is_short_text}
use Rattle.mh_leaf.specs.declared.leaf.Kind.{Kind}
use Rattle.mh_leaf.specs.declared.leaf.Kind.TheVariants as kind
use Rattle.mh_leaf.specs.declared.leaf.Leaf.{Leaf}
use Rattle.mh_leaf.specs.LeafTable.{LeafTable}

-- a value as a result
abbrev pub returned : Value → Outcome
returned v = Return (Some v)

-- an int as a result
abbrev pub int : ℤ → Outcome
int n = returned (value.Prim (num.I n))

-- a long as a result
abbrev pub long : ℤ → Outcome
long n = returned (value.Prim (num.J n))

-- a boolean as a result
abbrev pub boolean : Bool → Outcome
boolean b = returned (value.Prim (num.Z b))

-- the quotient, rounded toward zero, or ArithmeticException for a division by 0; the least int divided by -1 is itself
abbrev pub divided : ℤ → ℤ → Outcome
divided a (pos zero) = Throw (saying arithmetic_class (codes "/ by zero"))
divided a b = int (int_wrapping_div w32 a b)

-- whether two ints are equal
abbrev pub is_same_int : ℤ → ℤ → Bool
is_same_int (pos a) (pos b) = a == b
is_same_int (negsuc a) (negsuc b) = a == b
is_same_int _ _ = false

-- the characters that a text or null gives to a joined text; anything else has none
abbrev pub characters_of : Value → Option (List ℕ)
characters_of (value.Text s) = Some s
characters_of value.Null = Some (codes "null")
characters_of v = None

-- a text as a result, if it is not too long for a value
abbrev pub text : List ℕ → Outcome
text s = if is_short_text s then returned (value.Text s) else Throw (saying internal_error_class (codes "string too long"))

-- two texts joined
abbrev pub joined : Option (List ℕ) → Option (List ℕ) → Outcome
joined (Some s) (Some t) = text (s ++ t)
joined _ _ = Throw (bare class_cast_class)

-- how many UTF-16 units a character takes: two above U+FFFF
abbrev pub units_of : ℕ → ℕ
units_of c = if nat_lt c 65536 then 1 else 2

-- the number of UTF-16 units of a text; null has none, and anything else is no text; nothing is said of a text that is too long for a value
abbrev pub measured : Value → Option Outcome
measured (value.Text s) = if is_short_text s then Some (int (pos (sum_by units_of s))) else None
measured value.Null = Some (Throw (bare null_pointer_class))
measured v = Some (Throw (bare class_cast_class))

-- two ints as arguments
abbrev pub two_ints : List Value → Option (ℤ × ℤ)
two_ints (value.Prim (num.I a) ∷ value.Prim (num.I b) ∷ []) = Some (a, b)
two_ints _ = None

-- two longs as arguments
abbrev pub two_longs : List Value → Option (ℤ × ℤ)
two_longs (value.Prim (num.J a) ∷ value.Prim (num.J b) ∷ []) = Some (a, b)
two_longs _ = None

-- one boolean as argument
abbrev pub one_boolean : List Value → Option Bool
one_boolean (value.Prim (num.Z b) ∷ []) = Some b
one_boolean _ = None

-- one value as argument
abbrev pub one_value : List Value → Option Value
one_value (v ∷ []) = Some v
one_value _ = None

-- two values as arguments
abbrev pub two_values : List Value → Option (Value × Value)
two_values (v ∷ w ∷ []) = Some (v, w)
two_values _ = None

-- the first of two or more arguments
abbrev pub first_value : List Value → Option Value
first_value (v ∷ w ∷ vs) = Some v
first_value _ = None

-- the second argument if the first is true, the third if it is false
abbrev pub picked_value : List Value → Option Value
picked_value (value.Prim (num.Z true) ∷ v ∷ w ∷ []) = Some v
picked_value (value.Prim (num.Z false) ∷ v ∷ w ∷ []) = Some w
picked_value _ = None

-- what a leaf of a kind does with these arguments, after n earlier leaf calls; nothing is said if it cannot have them
abbrev pub kind_on : Kind → List Value → ℕ → Option Outcome
kind_on kind.Iadd args n = option_map (λ p. int (int_wrap w32 (p.0 +ℤ p.1))) (two_ints args)
kind_on kind.Isub args n = option_map (λ p. int (int_wrap w32 (p.0 -ℤ p.1))) (two_ints args)
kind_on kind.Imul args n = option_map (λ p. int (int_wrap w32 (p.0 *ℤ p.1))) (two_ints args)
kind_on kind.Idiv args n = option_map (λ p. divided p.0 p.1) (two_ints args)
kind_on kind.Ladd args n = option_map (λ p. long (int_wrap w64 (p.0 +ℤ p.1))) (two_longs args)
kind_on kind.Ieq args n = option_map (λ p. boolean (is_same_int p.0 p.1)) (two_ints args)
kind_on kind.Ilt args n = option_map (λ p. boolean (int_lt p.0 p.1)) (two_ints args)
kind_on kind.Not args n = option_map (λ b. boolean (not b)) (one_boolean args)
kind_on kind.Concat args n = option_map (λ p. joined (characters_of p.0) (characters_of p.1)) (two_values args)
kind_on kind.Length args n = option_and_then measured (one_value args)
kind_on kind.Same args n = option_map returned (one_value args)
kind_on kind.First args n = option_map returned (first_value args)
kind_on kind.Pick args n = option_map returned (picked_value args)
kind_on kind.Tick args n = Some (int (cast_signed w32 n))
kind_on kind.Note args n = Some (Return None)
kind_on (kind.Throw class) args n = Some (Throw (bare class))

-- whether a leaf is called on null as its receiver
abbrev pub lacks_receiver : Leaf → List Value → Bool
lacks_receiver leaf (value.Null ∷ vs) = leaf.is_virtual
lacks_receiver leaf _ = false

-- what a leaf does with these arguments, after n earlier leaf calls; a virtual one does not run on null
abbrev pub leaf_outcome : Leaf → List Value → ℕ → Option Outcome
leaf_outcome leaf args n = if lacks_receiver leaf args then Some (Throw (bare null_pointer_class)) else kind_on leaf.kind args n

-- the one leaf call that a leaf makes, or none if it does not run
abbrev pub calls_of : LeafId → Leaf → List Value → List LeafCall
calls_of l leaf args = if lacks_receiver leaf args then [] else record { leaf = l; args = args } ∷ []

-- an outcome with the leaf calls that were made
abbrev pub ran_of : Outcome → List LeafCall → Ran (Option Value)
ran_of (Return v) calls = Gave v calls
ran_of (Throw e) calls = Threw e calls

-- an outcome with these leaf calls, if there is one
abbrev pub ran_of_some : Option Outcome → List LeafCall → Ran (Option Value)
ran_of_some (Some outcome) calls = ran_of outcome calls
ran_of_some None calls = Stuck

-- the run of a leaf
abbrev pub leaf_run : LeafId → Option Leaf → List Value → ℕ → Ran (Option Value)
leaf_run l (Some leaf) args n = ran_of_some (leaf_outcome leaf args n) (calls_of l leaf args)
leaf_run l None args n = Stuck

-- the run of a leaf of the table by its number
abbrev pub leaf_mean : LeafTable → LeafId → List Value → ℕ → Ran (Option Value)
leaf_mean table l args n = leaf_run l (slice_get table.leaves l.0) args n

-- the type `int`
abbrev pub int_type : Ty
int_type = ty.Prim primitive.I

-- the type `long`
abbrev pub long_type : Ty
long_type = ty.Prim primitive.J

-- the type `boolean`
abbrev pub boolean_type : Ty
boolean_type = ty.Prim primitive.Z

-- the type `java.lang.String`
abbrev pub string_type : Ty
string_type = ty.Class string_class

-- whether a method type has these parameters and this return
abbrev pub is_type : MethodTy → List Ty → Ty → Bool
is_type t params ret = is_same_method_type t (record { params = params; ret = Some ret })

-- whether the return type is that of the first parameter
abbrev pub returns_first : MethodTy → Bool
returns_first t = is_same_return (slice_get t.params 0) t.ret

-- whether the parameters are a boolean and two of one type, which is also returned
abbrev pub chooses : List Ty → Option Ty → Bool
chooses (c ∷ s ∷ t ∷ []) ret = is_same_type c boolean_type && is_same_type s t && is_same_return (Some t) ret
chooses _ ret = false

-- whether a leaf of a kind may have a type
abbrev pub is_kind_type : Kind → MethodTy → Bool
is_kind_type kind.Iadd t = is_type t (int_type ∷ int_type ∷ []) int_type
is_kind_type kind.Isub t = is_type t (int_type ∷ int_type ∷ []) int_type
is_kind_type kind.Imul t = is_type t (int_type ∷ int_type ∷ []) int_type
is_kind_type kind.Idiv t = is_type t (int_type ∷ int_type ∷ []) int_type
is_kind_type kind.Ladd t = is_type t (long_type ∷ long_type ∷ []) long_type
is_kind_type kind.Ieq t = is_type t (int_type ∷ int_type ∷ []) boolean_type
is_kind_type kind.Ilt t = is_type t (int_type ∷ int_type ∷ []) boolean_type
is_kind_type kind.Not t = is_type t (boolean_type ∷ []) boolean_type
is_kind_type kind.Concat t = is_type t (string_type ∷ string_type ∷ []) string_type
is_kind_type kind.Length t = is_type t (string_type ∷ []) int_type
is_kind_type kind.Same t = length t.params == 1 && returns_first t
is_kind_type kind.First t = nat_le 2 (length t.params) && returns_first t
is_kind_type kind.Pick t = chooses t.params t.ret
is_kind_type kind.Tick t = is_same_return t.ret (Some int_type)
is_kind_type kind.Note t = is_same_return t.ret None
is_kind_type (kind.Throw class) t = true

-- whether what leaves of a kind throw by themselves is an exception
abbrev pub throws_exceptions : List Class → Kind → Bool
throws_exceptions classes (kind.Throw class) = is_subclass classes class throwable_class
throws_exceptions classes _ = true

-- a leaf of a kind that allows its type, as a manifest may register it
abbrev pub is_well_typed : List Class → Leaf → Bool
is_well_typed classes leaf = is_kind_type leaf.kind leaf.ty && throws_exceptions classes leaf.kind
