-- What the tokens of a line within a script say, if nothing is wrong with them.
use Rattle.std.specs.Prelude.{ℕ, ◌==◌, nat_le, if◌then◌else◌, List, [], ◌∷◌, codes, length, map, Result, Ok, Err}
use Rattle.std.specs.Str.{bytes_eq}
use Rattle.mh_values.specs.declared.class.Class.{Class}
use Rattle.mh_base.specs.Provided.{provided_some}
use Rattle.mh_leaves.specs.Reference.{Texts, reference_of}
use Rattle.mh_script.specs.declared.form.One.{One}
use Rattle.mh_script.specs.declared.form.One.TheVariants as one
use Rattle.mh_script.specs.declared.form.Two.{Two}
use Rattle.mh_script.specs.declared.form.Two.TheVariants as two
use Rattle.mh_script.specs.declared.form.Three.{Three}
use Rattle.mh_script.specs.declared.form.Three.TheVariants as three
use Rattle.mh_script.specs.declared.kinds.ScriptKind.{ScriptKind}
use Rattle.mh_script.specs.declared.kinds.ScriptKind.TheVariants.{BadLine, BadLiteral}
use Rattle.mh_script.specs.declared.line.Line.{Line}
use Rattle.mh_script.specs.declared.line.Line.TheVariants as line
use Rattle.mh_script.specs.declared.operand.MethodTypeOperand.{MethodTypeOperand}
use Rattle.mh_script.specs.declared.operand.MethodTypeOperand.TheVariants as of_method_type
use Rattle.mh_script.specs.declared.operand.Register.{Register}
use Rattle.mh_script.specs.declared.operand.TypeOperand.{TypeOperand}
use Rattle.mh_script.specs.declared.operand.TypeOperand.TheVariants as of_type
use Rattle.mh_script.specs.declared.operand.ValueOperand.{ValueOperand}
use Rattle.mh_script.specs.declared.operand.ValueOperand.TheVariants as of_value
use Rattle.mh_script.specs.declared.script.End.TheVariants as end
use Rattle.mh_script.specs.declared.script.MethodName.{MethodName}
use Rattle.mh_script.specs.declared.script.Operation.{Operation}
use Rattle.mh_script.specs.declared.script.Operation.TheVariants as operation
use Rattle.mh_script.specs.declared.script.Step.TheVariants as step
use Rattle.mh_script.specs.Forms.{one_form, two_form, three_form}
use Rattle.mh_script.specs.Numbers.{small_of, order_of, fail_of}
use Rattle.mh_script.specs.Tokens.{is_register, register_of, operand_literal, text_literal}

-- goes on with what was said, and stops at a fault
abbrev pub said_then : {A B : Type 0} → Result A ScriptKind → (A → Result B ScriptKind) → Result B ScriptKind
said_then (Ok a) next = next a
said_then (Err kind) next = Err kind

-- ---- operands

-- the name of a method by its three texts
abbrev pub method_name : Texts → MethodName
method_name texts = record { owner = texts.owner; name = texts.name; descriptor = texts.descriptor }

-- T
abbrev pub type_operand : List ℕ → TypeOperand
type_operand token =
    if bytes_eq token (codes "V") then of_type.Void
    else (if is_register token then of_type.Register (register_of token) else of_type.Descriptor token)

-- M
abbrev pub method_type_operand : List ℕ → MethodTypeOperand
method_type_operand token = if is_register token then of_method_type.Register (register_of token) else of_method_type.Descriptor token

-- V
abbrev pub value_operand : List Class → List ℕ → Result ValueOperand ScriptKind
value_operand classes token =
    if is_register token then Ok (of_value.Register (register_of token))
    else provided_some (operand_literal classes token) BadLiteral (λ v. Ok (of_value.Literal v))

-- H P F
abbrev pub numbered : List ℕ → List ℕ → List ℕ → Result (Register × ℕ × Register) ScriptKind
numbered target number other = provided_some (small_of number) BadLine (λ n. Ok (register_of target, n, register_of other))

-- H T N
abbrev pub with_count : List ℕ → List ℕ → List ℕ → Result (Register × TypeOperand × ℕ) ScriptKind
with_count target array count = provided_some (small_of count) BadLine (λ n. Ok (register_of target, type_operand array, n))

-- ---- operations

-- `bind H P V`
abbrev pub bound : List Class → List ℕ → List ℕ → List ℕ → Result Operation ScriptKind
bound classes target number value =
    provided_some (small_of number) BadLine (λ n.
    said_then (value_operand classes value) (λ v. Ok (operation.Bind (register_of target) n v)))

-- `drop H P TYPES`
abbrev pub dropped : List ℕ → List ℕ → List ℕ → Result Operation ScriptKind
dropped target number types = provided_some (small_of number) BadLine (λ n. Ok (operation.Drop (register_of target) n types))

-- `permute H M ORDER`
abbrev pub permuted : List ℕ → List ℕ → List ℕ → Result Operation ScriptKind
permuted target t order =
    provided_some (order_of order) BadLine (λ numbers. Ok (operation.Permute (register_of target) (method_type_operand t) numbers))

-- an operation with one operand
abbrev pub one_operation : One → List ℕ → Result Operation ScriptKind
one_operation one.Leaf operand = provided_some (reference_of operand) BadLine (λ texts. Ok (operation.Leaf (method_name texts)))
one_operation one.Identity operand = Ok (operation.Identity (type_operand operand))

-- an operation with two operands
abbrev pub two_operation : List Class → Two → List ℕ → List ℕ → Result Operation ScriptKind
two_operation classes two.Constant first second = said_then (value_operand classes second) (λ v. Ok (operation.Constant (type_operand first) v))
two_operation classes two.Throw first second = Ok (operation.Throw (type_operand first) second)
two_operation classes two.FilterReturn first second = Ok (operation.FilterReturn (register_of first) (register_of second))
two_operation classes two.AsType first second = Ok (operation.AsType (register_of first) (method_type_operand second))
two_operation classes two.Explicit first second = Ok (operation.Explicit (register_of first) (method_type_operand second))
two_operation classes two.TryFinally first second = Ok (operation.TryFinally (register_of first) (register_of second))

-- an operation with three operands
abbrev pub three_operation : List Class → Three → List ℕ → List ℕ → List ℕ → Result Operation ScriptKind
three_operation classes three.Bind first second third = bound classes first second third
three_operation classes three.Drop first second third = dropped first second third
three_operation classes three.Permute first second third = permuted first second third
three_operation classes three.Filter first second third = said_then (numbered first second third) (λ x. Ok (operation.Filter x.0 x.1 x.2))
three_operation classes three.Fold first second third = said_then (numbered first second third) (λ x. Ok (operation.Fold x.0 x.1 x.2))
three_operation classes three.Collect first second third = said_then (numbered first second third) (λ x. Ok (operation.Collect x.0 x.1 x.2))
three_operation classes three.Spread first second third = said_then (with_count first second third) (λ x. Ok (operation.Spread x.0 x.1 x.2))
three_operation classes three.Gather first second third = said_then (with_count first second third) (λ x. Ok (operation.Gather x.0 x.1 x.2))
three_operation classes three.Guard first second third = Ok (operation.Guard (register_of first) (register_of second) (register_of third))
three_operation classes three.Catch first second third = Ok (operation.Catch (register_of first) second (register_of third))
three_operation classes three.Counted first second third = Ok (operation.Counted (register_of first) (register_of second) (register_of third))

-- an operation whose word takes a fixed number of operands
abbrev pub fixed_operation : List Class → List ℕ → List (List ℕ) → Result Operation ScriptKind
fixed_operation classes word (first ∷ []) = provided_some (one_form word) BadLine (λ form. one_operation form first)
fixed_operation classes word (first ∷ second ∷ []) = provided_some (two_form word) BadLine (λ form. two_operation classes form first second)
fixed_operation classes word (first ∷ second ∷ third ∷ []) = provided_some (three_form word) BadLine (λ form. three_operation classes form first second third)
fixed_operation classes word _ = Err BadLine

-- `switch H H ..`, with 1 to 16 cases after the fallback
abbrev pub switch_operation : List (List ℕ) → Result Operation ScriptKind
switch_operation (fallback ∷ first ∷ others) =
    if nat_le (length others) 15 then Ok (operation.Switch (register_of fallback) (map register_of (first ∷ others))) else Err BadLine
switch_operation _ = Err BadLine

-- an operation and its operands
abbrev pub operation_of : List Class → List ℕ → List (List ℕ) → Result Operation ScriptKind
operation_of classes word operands =
    if bytes_eq word (codes "switch") then switch_operation operands else fixed_operation classes word operands

-- ---- lines

-- `let R OP`, where `serial` alone has no operands
abbrev pub let_line : List Class → List ℕ → List ℕ → List (List ℕ) → Result Line ScriptKind
let_line classes target word operands =
    if length operands == 0 then Ok (line.Step (step.Serial target))
    else said_then (operation_of classes word operands) (λ op. Ok (line.Step (step.Let target op)))

-- `failmod K R`, or `raise C s:TEXT`
abbrev pub pair_line : List Class → List ℕ → List ℕ → List ℕ → Result Line ScriptKind
pair_line classes word first second =
    if bytes_eq word (codes "failmod") then provided_some (fail_of first second) BadLine (λ s. Ok (line.Step s))
    else provided_some (text_literal classes second) BadLiteral (λ message. Ok (line.End (end.Raise first message)))

-- `return H`, or `value V`
abbrev pub ending_line : List Class → List ℕ → List ℕ → Result Line ScriptKind
ending_line classes word operand =
    if bytes_eq word (codes "return") then Ok (line.End (end.Return (register_of operand)))
    else said_then (value_operand classes operand) (λ v. Ok (line.End (end.Value v)))

-- a line within a script
abbrev pub line_of : List Class → List (List ℕ) → Result Line ScriptKind
line_of classes (word ∷ operand ∷ []) = ending_line classes word operand
line_of classes (word ∷ first ∷ second ∷ rest) =
    if bytes_eq word (codes "let") then let_line classes first second rest else pair_line classes word first second
line_of classes _ = Err BadLine
