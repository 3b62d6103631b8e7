-- Scripts as the text of a file: for each its header, a line for each of its lines, and `end`.
use Rattle.std.specs.Prelude.{ℕ, List, [], ◌∷◌, ◌++◌, codes, map, flat_map}
use Rattle.std.specs.Fmt.{decimal}
use Rattle.std.specs.List.{join_with_byte}
use Rattle.mh_base.specs.Ascii.{comma}
use Rattle.mh_base.specs.Lines.{line_text}
use Rattle.mh_values.specs.declared.class.Class.{Class}
use Rattle.mh_values.specs.declared.value.Value.TheVariants as value
use Rattle.mh_values.specs.Class.{builtin_classes}
use Rattle.mh_texts.specs.LiteralText.{literal_text}
use Rattle.mh_leaves.specs.Reference.{reference_text}
use Rattle.mh_script.specs.declared.operand.MethodTypeOperand.{MethodTypeOperand}
use Rattle.mh_script.specs.declared.operand.MethodTypeOperand.TheVariants as of_method_type
use Rattle.mh_script.specs.declared.operand.Register.{Register}
use Rattle.mh_script.specs.declared.operand.Register.TheVariants as register
use Rattle.mh_script.specs.declared.operand.TypeOperand.{TypeOperand}
use Rattle.mh_script.specs.declared.operand.TypeOperand.TheVariants as of_type
use Rattle.mh_script.specs.declared.operand.ValueOperand.{ValueOperand}
use Rattle.mh_script.specs.declared.operand.ValueOperand.TheVariants as of_value
use Rattle.mh_script.specs.declared.script.End.{End}
use Rattle.mh_script.specs.declared.script.End.TheVariants as end
use Rattle.mh_script.specs.declared.script.MethodName.{MethodName}
use Rattle.mh_script.specs.declared.script.Operation.{Operation}
use Rattle.mh_script.specs.declared.script.Operation.TheVariants as operation
use Rattle.mh_script.specs.declared.script.Script.{Script}
use Rattle.mh_script.specs.declared.script.Step.{Step}
use Rattle.mh_script.specs.declared.script.Step.TheVariants as step

-- ---- operands

-- a register: `type`, `name`, `a` and the number of a static argument, or the name that a line assigns
abbrev pub register_text : Register → List ℕ
register_text register.SiteType = codes "type"
register_text register.SiteName = codes "name"
register_text (register.Argument n) = codes "a" ++ decimal n
register_text (register.Assigned name) = name

-- V: a literal, or a register with a value
abbrev pub value_operand_text : List Class → ValueOperand → List ℕ
value_operand_text classes (of_value.Literal v) = literal_text classes v
value_operand_text classes (of_value.Register r) = register_text r

-- T: `V` for void, the descriptor of a type, or a register with a class
abbrev pub type_operand_text : TypeOperand → List ℕ
type_operand_text of_type.Void = codes "V"
type_operand_text (of_type.Descriptor text) = text
type_operand_text (of_type.Register r) = register_text r

-- M: a method descriptor, or a register with a method type
abbrev pub method_type_operand_text : MethodTypeOperand → List ℕ
method_type_operand_text (of_method_type.Descriptor text) = text
method_type_operand_text (of_method_type.Register r) = register_text r

-- ORDER: numbers with commas between them, or `-` for none
abbrev pub order_text : List ℕ → List ℕ
order_text [] = codes "-"
order_text (n ∷ ns) = join_with_byte comma (map decimal (n ∷ ns))

-- REF: `OWNER.NAME:DESC`
abbrev pub method_reference : MethodName → List ℕ
method_reference method = reference_text (record { owner = method.owner; name = method.name; descriptor = method.descriptor })

-- ---- lines

-- the tokens of an operation: its word, and then its operands
abbrev pub operation_tokens : List Class → Operation → List (List ℕ)
operation_tokens classes (operation.Leaf method) = codes "leaf" ∷ method_reference method ∷ []
operation_tokens classes (operation.Constant t v) = codes "constant" ∷ type_operand_text t ∷ value_operand_text classes v ∷ []
operation_tokens classes (operation.Identity t) = codes "identity" ∷ type_operand_text t ∷ []
operation_tokens classes (operation.Throw t class) = codes "throw" ∷ type_operand_text t ∷ class ∷ []
operation_tokens classes (operation.Bind h at v) = codes "bind" ∷ register_text h ∷ decimal at ∷ value_operand_text classes v ∷ []
operation_tokens classes (operation.Drop h at types) = codes "drop" ∷ register_text h ∷ decimal at ∷ types ∷ []
operation_tokens classes (operation.Permute h t order) = codes "permute" ∷ register_text h ∷ method_type_operand_text t ∷ order_text order ∷ []
operation_tokens classes (operation.Filter h at f) = codes "filter" ∷ register_text h ∷ decimal at ∷ register_text f ∷ []
operation_tokens classes (operation.FilterReturn h f) = codes "filterret" ∷ register_text h ∷ register_text f ∷ []
operation_tokens classes (operation.Fold h at f) = codes "fold" ∷ register_text h ∷ decimal at ∷ register_text f ∷ []
operation_tokens classes (operation.Collect h at f) = codes "collect" ∷ register_text h ∷ decimal at ∷ register_text f ∷ []
operation_tokens classes (operation.Spread h t n) = codes "spread" ∷ register_text h ∷ type_operand_text t ∷ decimal n ∷ []
operation_tokens classes (operation.Gather h t n) = codes "gather" ∷ register_text h ∷ type_operand_text t ∷ decimal n ∷ []
operation_tokens classes (operation.AsType h t) = codes "astype" ∷ register_text h ∷ method_type_operand_text t ∷ []
operation_tokens classes (operation.Explicit h t) = codes "explicit" ∷ register_text h ∷ method_type_operand_text t ∷ []
operation_tokens classes (operation.TryFinally h f) = codes "tryfinally" ∷ register_text h ∷ register_text f ∷ []
operation_tokens classes (operation.Switch fallback cases) = codes "switch" ∷ register_text fallback ∷ map register_text cases
operation_tokens classes (operation.Counted n i b) = codes "counted" ∷ register_text n ∷ register_text i ∷ register_text b ∷ []
operation_tokens classes (operation.Guard f h other) = codes "guard" ∷ register_text f ∷ register_text h ∷ register_text other ∷ []
operation_tokens classes (operation.Catch h class f) = codes "catch" ∷ register_text h ∷ class ∷ register_text f ∷ []

-- the tokens of a line before the last one: `let R OP`, `let R serial`, or `failmod K R`
abbrev pub step_tokens : List Class → Step → List (List ℕ)
step_tokens classes (step.Let target op) = codes "let" ∷ target ∷ operation_tokens classes op
step_tokens classes (step.Serial target) = codes "let" ∷ target ∷ codes "serial" ∷ []
step_tokens classes (step.FailMod modulus remainder) = codes "failmod" ∷ decimal modulus ∷ decimal remainder ∷ []

-- the tokens of the last line: `return H`, `raise C s:TEXT`, or `value V`
abbrev pub end_tokens : List Class → End → List (List ℕ)
end_tokens classes (end.Return h) = codes "return" ∷ register_text h ∷ []
end_tokens classes (end.Raise class message) = codes "raise" ∷ class ∷ literal_text classes (value.Text message) ∷ []
end_tokens classes (end.Value v) = codes "value" ∷ value_operand_text classes v ∷ []

-- the tokens of a header: `script OWNER NAME DESC`
abbrev pub header_tokens : MethodName → List (List ℕ)
header_tokens method = codes "script" ∷ method.owner ∷ method.name ∷ method.descriptor ∷ []

-- ---- scripts

-- the lines before the last one
abbrev pub steps_text : List Class → List Step → List ℕ
steps_text classes steps = flat_map (λ s. line_text (step_tokens classes s)) steps

-- a script: its header, its lines, and `end`
abbrev pub script_text : List Class → Script → List ℕ
script_text classes script =
    line_text (header_tokens script.method) ++ steps_text classes script.steps ++ line_text (end_tokens classes script.end)
    ++ line_text (codes "end" ∷ [])

-- the text of scripts, one after the other; literals in scripts name no class, so the built-in classes are enough to write them
abbrev pub scripts_text : List Script → List ℕ
scripts_text scripts = flat_map (script_text builtin_classes) scripts
