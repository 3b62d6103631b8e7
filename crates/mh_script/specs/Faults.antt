-- What is wrong with the tokens of a line within a script, by the lines before it.
use Rattle.std.specs.Prelude.{ℕ, ◌==◌, nat_le, if◌then◌else◌, List, [], ◌∷◌, codes, length, Option, None, Some, is_some, option_map}
use Rattle.std.specs.Option.{option_map_or}
use Rattle.std.specs.Str.{bytes_eq}
use Rattle.mh_values.specs.declared.class.Class.{Class}
use Rattle.mh_values.specs.Grammar.{descriptor_fault, type_fault, types_fault}
use Rattle.mh_leaves.specs.Reference.{is_class_name, reference_of}
use Rattle.mh_script.specs.declared.form.Place.{Place}
use Rattle.mh_script.specs.declared.form.Place.TheVariants as place
use Rattle.mh_script.specs.declared.form.Two.{Two}
use Rattle.mh_script.specs.declared.form.Three.{Three}
use Rattle.mh_script.specs.declared.kinds.ScriptKind.{ScriptKind}
use Rattle.mh_script.specs.declared.kinds.ScriptKind.TheVariants.{BadLine, Undefined, WrongSort, BadDescriptor, BadLiteral}
use Rattle.mh_script.specs.declared.script.Step.{Step}
use Rattle.mh_script.specs.declared.token.Sort.{Sort}
use Rattle.mh_script.specs.declared.token.Sort.TheVariants as sort
use Rattle.mh_script.specs.Forms.{one_form, two_form, three_form, one_place, two_places, three_places}
use Rattle.mh_script.specs.Kinds.{fault_unless, lower}
use Rattle.mh_script.specs.Numbers.{small_of, order_of, fail_of}
use Rattle.mh_script.specs.Tokens.{is_register, argument_number, is_assignable, is_same_sort, sort_in, operand_literal, text_literal, has_colon}

-- ---- tokens

-- a text that has a first bad place as a descriptor
abbrev pub bad_descriptor : Option ℕ → Option ScriptKind
bad_descriptor fault = option_map (λ at. BadDescriptor) fault

-- a register that must hold a thing of this sort; what a static argument holds is known only in a run
abbrev pub sort_fault : List Step → Sort → List ℕ → Option ScriptKind
sort_fault steps wanted name =
    if is_some (argument_number name) then None
    else option_map_or (λ s. fault_unless (is_same_sort s wanted) WrongSort) (sort_in steps name) (Some Undefined)

-- H and F: a register with a method handle
abbrev pub handle_fault : List Step → List ℕ → Option ScriptKind
handle_fault steps token = if is_register token then sort_fault steps sort.Handle token else Some BadLine

-- V: a register with a value, a boxed number, a text or `null`
abbrev pub value_fault : List Class → List Step → List ℕ → Option ScriptKind
value_fault classes steps token =
    if is_register token then sort_fault steps sort.Value token
    else (if is_some (operand_literal classes token) then None
    else (if has_colon token then Some BadLiteral else Some BadLine))

-- T: `V`, a register with a class, or a descriptor
abbrev pub type_operand_fault : List Step → List ℕ → Option ScriptKind
type_operand_fault steps token =
    if bytes_eq token (codes "V") then None
    else (if is_register token then sort_fault steps sort.Class token else bad_descriptor (type_fault token))

-- M: a register with a method type, or a method descriptor
abbrev pub method_type_fault : List Step → List ℕ → Option ScriptKind
method_type_fault steps token =
    if is_register token then sort_fault steps sort.MethodType token else bad_descriptor (descriptor_fault token)

-- REF: a class name, a method name and a method descriptor
abbrev pub reference_fault : List ℕ → Option ScriptKind
reference_fault token = option_map_or (λ texts. bad_descriptor (descriptor_fault texts.descriptor)) (reference_of token) (Some BadLine)

-- a token in its place
abbrev pub fault_in : List Class → List Step → Place → List ℕ → Option ScriptKind
fault_in classes steps place.Handle token = handle_fault steps token
fault_in classes steps place.Value token = value_fault classes steps token
fault_in classes steps place.Type token = type_operand_fault steps token
fault_in classes steps place.MethodType token = method_type_fault steps token
fault_in classes steps place.Types token = bad_descriptor (types_fault token)
fault_in classes steps place.Class token = fault_unless (is_class_name token) BadLine
fault_in classes steps place.Number token = fault_unless (is_some (small_of token)) BadLine
fault_in classes steps place.Order token = fault_unless (is_some (order_of token)) BadLine
fault_in classes steps place.Reference token = reference_fault token

-- ---- operands

-- two operands
abbrev pub two_fault : List Class → List Step → Two → List ℕ → List ℕ → Option ScriptKind
two_fault classes steps form first second =
    lower (fault_in classes steps (two_places form).0 first) (fault_in classes steps (two_places form).1 second)

-- three operands
abbrev pub three_fault : List Class → List Step → Three → List ℕ → List ℕ → List ℕ → Option ScriptKind
three_fault classes steps form first second third =
    lower (fault_in classes steps (three_places form).0 first)
    (lower (fault_in classes steps (three_places form).1 second) (fault_in classes steps (three_places form).2 third))

-- an operation whose word takes a fixed number of operands: `serial` takes none, and each other word as many as follow it here
abbrev pub fixed_fault : List Class → List Step → List ℕ → List (List ℕ) → Option ScriptKind
fixed_fault classes steps word [] = fault_unless (bytes_eq word (codes "serial")) BadLine
fixed_fault classes steps word (first ∷ []) =
    option_map_or (λ form. fault_in classes steps (one_place form) first) (one_form word) (Some BadLine)
fixed_fault classes steps word (first ∷ second ∷ []) =
    option_map_or (λ form. two_fault classes steps form first second) (two_form word) (Some BadLine)
fixed_fault classes steps word (first ∷ second ∷ third ∷ []) =
    option_map_or (λ form. three_fault classes steps form first second third) (three_form word) (Some BadLine)
fixed_fault classes steps word _ = Some BadLine

-- registers with method handles
abbrev pub handles_fault : List Step → List (List ℕ) → Option ScriptKind
handles_fault steps [] = None
handles_fault steps (token ∷ tokens) = lower (handle_fault steps token) (handles_fault steps tokens)

-- a fallback, and 1 to 16 cases after it
abbrev pub switch_fault : List Step → List (List ℕ) → Option ScriptKind
switch_fault steps (fallback ∷ first ∷ others) =
    if nat_le (length others) 15 then handles_fault steps (fallback ∷ first ∷ others) else Some BadLine
switch_fault steps _ = Some BadLine

-- an operation and its operands
abbrev pub operands_fault : List Class → List Step → List ℕ → List (List ℕ) → Option ScriptKind
operands_fault classes steps word operands =
    if bytes_eq word (codes "switch") then switch_fault steps operands else fixed_fault classes steps word operands

-- ---- lines

-- `let R OP`
abbrev pub let_fault : List Class → List Step → List ℕ → List ℕ → List (List ℕ) → Option ScriptKind
let_fault classes steps target word operands = lower (fault_unless (is_assignable target) BadLine) (operands_fault classes steps word operands)

-- `failmod K R`, or `raise C s:TEXT`
abbrev pub pair_fault : List Class → List ℕ → List ℕ → List ℕ → Option ScriptKind
pair_fault classes word first second =
    if bytes_eq word (codes "failmod") then fault_unless (is_some (fail_of first second)) BadLine
    else (if bytes_eq word (codes "raise")
    then lower (fault_unless (is_class_name first) BadLine) (fault_unless (is_some (text_literal classes second)) BadLiteral)
    else Some BadLine)

-- `return H`, or `value V`
abbrev pub ending_fault : List Class → List Step → List ℕ → List ℕ → Option ScriptKind
ending_fault classes steps word operand =
    if bytes_eq word (codes "return") then handle_fault steps operand
    else (if bytes_eq word (codes "value") then value_fault classes steps operand else Some BadLine)

-- a line within a script: `return H` or `value V`, `let R OP`, or one of a word and two tokens
abbrev pub body_fault : List Class → List Step → List (List ℕ) → Option ScriptKind
body_fault classes steps (word ∷ operand ∷ []) = ending_fault classes steps word operand
body_fault classes steps (word ∷ first ∷ second ∷ rest) =
    if bytes_eq word (codes "let") then let_fault classes steps first second rest
    else (if length rest == 0 then pair_fault classes word first second else Some BadLine)
body_fault classes steps _ = Some BadLine
