-- The primitive types in one table: the letter of each, the class that boxes it, and the numbers that it has (JVMS SE 17, 2.3 and 4.3.2).
use Rattle.std.specs.Prelude.{◌≡◌, ℕ, ◌^◌, ◌==◌, ℤ, pos, negsuc, nat_lt, Bool, true, false, ◌&&◌, if◌then◌else◌, Option, None, Some, IsTrue, unsigned_abs}
use Rattle.mh_base.specs.Ascii.{capital_B, capital_C, capital_I, capital_J, capital_S, capital_Z}
use Rattle.mh_values.specs.declared.class.ClassId.{ClassId}
use Rattle.mh_values.specs.declared.types.Primitive.{Primitive}
use Rattle.mh_values.specs.declared.types.Primitive.TheVariants as primitive
use Rattle.mh_values.specs.declared.value.Num.{Num}
use Rattle.mh_values.specs.declared.value.Num.TheVariants as num
use Rattle.mh_values.specs.Class.{integer_class, long_class, byte_class, short_class, boolean_class, character_class}

-- ---- types

-- the letter of a primitive type
abbrev pub letter_of : Primitive → ℕ
letter_of primitive.Z = capital_Z
letter_of primitive.B = capital_B
letter_of primitive.C = capital_C
letter_of primitive.S = capital_S
letter_of primitive.I = capital_I
letter_of primitive.J = capital_J

-- the primitive type of a letter
abbrev pub primitive_named : ℕ → Option Primitive
primitive_named b =
    if b == capital_Z then Some primitive.Z
    else (if b == capital_B then Some primitive.B
    else (if b == capital_C then Some primitive.C
    else (if b == capital_S then Some primitive.S
    else (if b == capital_I then Some primitive.I
    else (if b == capital_J then Some primitive.J else None)))))

-- whether two primitive types are equal: they have the same letter
abbrev pub is_same_primitive : Primitive → Primitive → Bool
is_same_primitive p q = letter_of p == letter_of q

-- the class of the boxed values of a primitive type
abbrev pub wrapper_of : Primitive → ClassId
wrapper_of primitive.Z = boolean_class
wrapper_of primitive.B = byte_class
wrapper_of primitive.C = character_class
wrapper_of primitive.S = short_class
wrapper_of primitive.I = integer_class
wrapper_of primitive.J = long_class

-- ---- numbers

-- the primitive type of a number
abbrev pub primitive_of : Num → Primitive
primitive_of (num.Z b) = primitive.Z
primitive_of (num.B n) = primitive.B
primitive_of (num.C n) = primitive.C
primitive_of (num.S n) = primitive.S
primitive_of (num.I n) = primitive.I
primitive_of (num.J n) = primitive.J

-- the whole number that a number is: true is 1, false is 0
abbrev pub whole : Num → ℤ
whole (num.Z true) = pos 1
whole (num.Z false) = pos 0
whole (num.B n) = n
whole (num.C n) = pos n
whole (num.S n) = n
whole (num.I n) = n
whole (num.J n) = n

-- whether a whole number has this many bits and a sign
abbrev pub is_signed : ℕ → ℤ → Bool
is_signed bits (pos n) = nat_lt n (2 ^ bits)
is_signed bits (negsuc n) = nat_lt n (2 ^ bits)

-- whether a whole number has this many bits and no sign
abbrev pub is_unsigned : ℕ → ℤ → Bool
is_unsigned bits (pos n) = nat_lt n (2 ^ bits)
is_unsigned bits (negsuc n) = false

-- whether a whole number is in the range of a primitive type
abbrev pub lies_in : Primitive → ℤ → Bool
lies_in primitive.Z = is_unsigned 1
lies_in primitive.B = is_signed 7
lies_in primitive.C = is_unsigned 16
lies_in primitive.S = is_signed 15
lies_in primitive.I = is_signed 31
lies_in primitive.J = is_signed 63

-- whether a number is in the range of its type
abbrev pub is_within : Num → Bool
is_within n = lies_in (primitive_of n) (whole n)

-- a number of a primitive type, in its range
abbrev pub is_number : Num → Primitive → Bool
is_number n p = is_same_primitive (primitive_of n) p && is_within n

-- whether a whole number is 1
abbrev pub is_one : ℤ → Bool
is_one (pos n) = n == 1
is_one (negsuc n) = false

-- the number of a primitive type that a whole number in its range is
abbrev pub number_of : Primitive → ℤ → Num
number_of primitive.Z z = num.Z (is_one z)
number_of primitive.B z = num.B z
number_of primitive.C z = num.C (unsigned_abs z)
number_of primitive.S z = num.S z
number_of primitive.I z = num.I z
number_of primitive.J z = num.J z

-- the same, for a whole number that may be out of the range
abbrev pub number_as : Primitive → ℤ → Option Num
number_as p z = if lies_in p z then Some (number_of p z) else None

-- the number of a primitive type that is the whole number
abbrev pub IsNumber : Primitive → ℤ → Num → Type 0
IsNumber p z n = (primitive_of n ≡ p) × (whole n ≡ z) × IsTrue (is_within n)
