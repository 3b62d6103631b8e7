-- Files of scripts as they are written again, by computation.
use Rattle.std.specs.Prelude.{◌≡◌, refl, ℕ, List, [], ◌∷◌, ◌++◌, codes, pos, negsuc, true, Ok}
use Rattle.std.specs.Fmt.{digits}
use Rattle.mh_values.specs.declared.value.Num.TheVariants as num
use Rattle.mh_values.specs.declared.value.Value.TheVariants as value
use Rattle.mh_script.specs.declared.operand.MethodTypeOperand.TheVariants as of_method_type
use Rattle.mh_script.specs.declared.operand.Register.{Register}
use Rattle.mh_script.specs.declared.operand.Register.TheVariants as register
use Rattle.mh_script.specs.declared.operand.TypeOperand.TheVariants as of_type
use Rattle.mh_script.specs.declared.operand.ValueOperand.TheVariants as of_value
use Rattle.mh_script.specs.declared.script.End.{End}
use Rattle.mh_script.specs.declared.script.End.TheVariants as end
use Rattle.mh_script.specs.declared.script.Operation.{Operation}
use Rattle.mh_script.specs.declared.script.Operation.TheVariants as operation
use Rattle.mh_script.specs.declared.script.Script.{Script}
use Rattle.mh_script.specs.declared.script.Step.{Step}
use Rattle.mh_script.specs.declared.script.Step.TheVariants as step
use Rattle.mh_script.specs.Scripts.{scripts}
use Rattle.mh_script.specs.Written.{scripts_text}

-- a script of class `a` and type `()V`, with this name, these lines and this last one
abbrev script : List ℕ → List Step → End → Script
script name steps last = record { method = record { owner = codes "a"; name = name; descriptor = codes "()V" }; steps = steps; end = last }

-- a line that assigns the register `h`, and one that assigns `k`
abbrev handle : Operation → Step
handle op = step.Let (codes "h") op

abbrev other : Operation → Step
other op = step.Let (codes "k") op

-- the registers that these assign
abbrev h : Register
h = register.Assigned (codes "h")

abbrev k : Register
k = register.Assigned (codes "k")

-- ---- values and types

abbrev of_values : Script
of_values =
    script (codes "f") (handle (operation.Leaf (record { owner = codes "b/C"; name = codes "add"; descriptor = codes "(II)I" }))
    ∷ other (operation.Constant (of_type.Descriptor (codes "I")) (of_value.Literal (value.Boxed (num.I (negsuc 4)))))
    ∷ handle (operation.Bind h 0 (of_value.Literal (value.Text (codes "b c"))))
    ∷ handle (operation.Bind h 255 (of_value.Literal value.Null))
    ∷ handle (operation.Bind h 1 (of_value.Register (register.Argument 12)))
    ∷ handle (operation.Constant (of_type.Register (register.Argument 0)) (of_value.Register register.SiteName))
    ∷ handle (operation.Constant (of_type.Descriptor (codes "La;")) (of_value.Literal (value.Boxed (num.J (pos 0)))))
    ∷ handle (operation.Constant (of_type.Descriptor (codes "La;")) (of_value.Literal (value.Boxed (num.Z true))))
    ∷ step.Serial (codes "n") ∷ []) (end.Return h)

abbrev of_values-text : List ℕ
of_values-text =
    codes "script a f ()V\nlet h leaf b/C.add:(II)I\nlet k constant I I:-5\nlet h bind h 0 s:b\\sc\nlet h bind h 255 null\nlet h bind h 1 a12\n"
    ++ codes "let h constant a0 name\nlet h constant La; J:0\nlet h constant La; Z:true\nlet n serial\nreturn h\nend\n"

of_values-written : scripts_text (of_values ∷ []) ≡ of_values-text
unfolding digits
of_values-written = refl

of_values-again : scripts of_values-text ≡ Ok (of_values ∷ [])
unfolding digits
of_values-again = refl

-- the same script, from a text with comments, an empty line and other literals of its values
of_values-read :
    scripts (codes "# f\nscript a f ()V\nlet h leaf b/C.add:(II)I\nlet k constant I I:-5\n\nlet h bind h 0 s:\\u{62}\\sc\nlet h bind h 255 null\n"
    ++ codes "let h bind h 1 a12\nlet h constant a0 name\nlet h constant La; J:-0\nlet h constant La; Z:true\nlet n serial\nreturn h\n#\nend")
    ≡ Ok (of_values ∷ [])
unfolding digits
of_values-read = refl

-- ---- positions and numbers

abbrev of_positions : Script
of_positions =
    script (codes "g") (handle (operation.Identity of_type.Void)
    ∷ other (operation.Drop h 1 (codes "ILa;"))
    ∷ handle (operation.Permute k (of_method_type.Descriptor (codes "(II)I")) (1 ∷ 0 ∷ []))
    ∷ handle (operation.Permute h (of_method_type.Register register.SiteType) [])
    ∷ handle (operation.Filter h 0 k)
    ∷ handle (operation.Fold h 2 k)
    ∷ handle (operation.Collect h 10 k)
    ∷ handle (operation.Spread h (of_type.Descriptor (codes "[I")) 2)
    ∷ handle (operation.Gather h (of_type.Register (register.Argument 3)) 0)
    ∷ step.FailMod 1000000 7 ∷ []) (end.Raise (codes "b/E") (codes "no handle"))

abbrev of_positions-text : List ℕ
of_positions-text =
    codes "script a g ()V\nlet h identity V\nlet k drop h 1 ILa;\nlet h permute k (II)I 1,0\nlet h permute h type -\nlet h filter h 0 k\n"
    ++ codes "let h fold h 2 k\nlet h collect h 10 k\nlet h spread h [I 2\nlet h gather h a3 0\nfailmod 1000000 7\nraise b/E s:no\\shandle\nend\n"

of_positions-written : scripts_text (of_positions ∷ []) ≡ of_positions-text
unfolding digits
of_positions-written = refl

of_positions-again : scripts of_positions-text ≡ Ok (of_positions ∷ [])
unfolding digits
of_positions-again = refl

-- ---- two scripts

abbrev of_handles : Script
of_handles =
    script (codes "h") (handle (operation.Throw of_type.Void (codes "b/E"))
    ∷ other (operation.FilterReturn h h)
    ∷ other (operation.AsType k (of_method_type.Register register.SiteType))
    ∷ other (operation.Guard h k h)
    ∷ other (operation.Catch k (codes "b/E") h) ∷ []) (end.Return k)

abbrev of_nothing : Script
of_nothing = script (codes "i") [] (end.Return (register.Argument 0))

abbrev of_two-text : List ℕ
of_two-text =
    codes "script a h ()V\nlet h throw V b/E\nlet k filterret h h\nlet k astype k type\nlet k guard h k h\nlet k catch k b/E h\nreturn k\nend\n"
    ++ codes "script a i ()V\nreturn a0\nend\n"

of_two-written : scripts_text (of_handles ∷ of_nothing ∷ []) ≡ of_two-text
unfolding digits
of_two-written = refl

of_two-again : scripts of_two-text ≡ Ok (of_handles ∷ of_nothing ∷ [])
unfolding digits
of_two-again = refl
