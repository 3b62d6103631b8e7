-- Tokens of scripts: registers, what they hold, and literals.
use Rattle.std.specs.Prelude.{ℕ, ◌==◌, nat_le, Bool, true, false, not, ◌&&◌, ◌||◌, if◌then◌else◌, List, [], ◌∷◌, codes, length, fold, Option, None, Some, is_some, option_and_then}
use Rattle.std.specs.List.{list_all, list_any}
use Rattle.std.specs.Option.{option_map_or}
use Rattle.std.specs.Str.{bytes_eq}
use Rattle.mh_base.specs.Ascii.{colon, digit_0, digit_9, low_line, small_a, small_z}
use Rattle.mh_values.specs.declared.class.Class.{Class}
use Rattle.mh_values.specs.declared.value.Value.{Value}
use Rattle.mh_values.specs.declared.value.Value.TheVariants as value
use Rattle.mh_texts.specs.Literal.{literal_of}
use Rattle.mh_script.specs.declared.operand.Register.{Register}
use Rattle.mh_script.specs.declared.operand.Register.TheVariants as register
use Rattle.mh_script.specs.declared.script.Step.{Step}
use Rattle.mh_script.specs.declared.script.Step.TheVariants as step
use Rattle.mh_script.specs.declared.token.Sort.{Sort}
use Rattle.mh_script.specs.declared.token.Sort.TheVariants as sort
use Rattle.mh_script.specs.Numbers.{number_of}

-- ---- registers

-- a character after the first of a register: a letter, a digit or `_`
abbrev pub is_of_register : ℕ → Bool
is_of_register b = (nat_le small_a b && nat_le b small_z) || (nat_le digit_0 b && nat_le b digit_9) || b == low_line

-- a letter and at most 15 further characters; `null` is no register
abbrev pub is_register : List ℕ → Bool
is_register [] = false
is_register (b ∷ bs) = (nat_le small_a b && nat_le b small_z) && nat_le (length bs) 15 && list_all is_of_register bs && not (bytes_eq (b ∷ bs) (codes "null"))

-- the number of `a0`, `a1` and so on
abbrev pub argument_number : List ℕ → Option ℕ
argument_number [] = None
argument_number (b ∷ digits) = if b == small_a then number_of digits else None

-- the register of a token: `type`, `name`, a static argument, or one that is assigned
abbrev pub register_of : List ℕ → Register
register_of token =
    if bytes_eq token (codes "type") then register.SiteType
    else (if bytes_eq token (codes "name") then register.SiteName
    else option_map_or register.Argument (argument_number token) (register.Assigned token))

-- a register that is there before any line
abbrev pub is_given : List ℕ → Bool
is_given token = bytes_eq token (codes "type") || bytes_eq token (codes "name") || is_some (argument_number token)

-- a register that a line may assign
abbrev pub is_assignable : List ℕ → Bool
is_assignable token = is_register token && not (is_given token)

-- ---- what registers hold

-- whether two sorts are equal
abbrev pub is_same_sort : Sort → Sort → Bool
is_same_sort sort.Handle sort.Handle = true
is_same_sort sort.Handle _ = false
is_same_sort sort.Value sort.Value = true
is_same_sort sort.Value _ = false
is_same_sort sort.MethodType sort.MethodType = true
is_same_sort sort.MethodType _ = false
is_same_sort sort.Class sort.Class = true
is_same_sort sort.Class _ = false

-- what a register holds after a line, if it held something or nothing before
abbrev pub sort_after : List ℕ → Option Sort → Step → Option Sort
sort_after name before (step.Let target operation) = if bytes_eq target name then Some sort.Handle else before
sort_after name before (step.Serial target) = if bytes_eq target name then Some sort.Value else before
sort_after name before (step.FailMod modulus remainder) = before

-- what lines have assigned to a register: the last one decides
abbrev pub assigned_sort : List Step → List ℕ → Option Sort
assigned_sort steps name = fold (sort_after name) None steps

-- what a register holds that is no static argument, if it holds anything
abbrev pub sort_in : List Step → List ℕ → Option Sort
sort_in steps name =
    if bytes_eq name (codes "type") then Some sort.MethodType
    else (if bytes_eq name (codes "name") then Some sort.Value else assigned_sort steps name)

-- ---- literals

-- a value that may stand in a script: a boxed number, a text or `null`
abbrev pub if_operand : Value → Option Value
if_operand (value.Boxed n) = Some (value.Boxed n)
if_operand (value.Text t) = Some (value.Text t)
if_operand value.Null = Some value.Null
if_operand _ = None

-- the boxed number, the text or the `null` that a token writes
abbrev pub operand_literal : List Class → List ℕ → Option Value
operand_literal classes token = option_and_then if_operand (literal_of classes token)

-- a text
abbrev pub if_text : Value → Option (List ℕ)
if_text (value.Text t) = Some t
if_text _ = None

-- the text that a token writes
abbrev pub text_literal : List Class → List ℕ → Option (List ℕ)
text_literal classes token = option_and_then if_text (literal_of classes token)

-- a token with a colon
abbrev pub has_colon : List ℕ → Bool
has_colon token = list_any (λ b. b == colon) token
