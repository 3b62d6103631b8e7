-- What lines of scripts say, by computation.
use Rattle.std.specs.Prelude.{◌≡◌, refl, ℕ, List, [], ◌∷◌, codes, negsuc, Result, Ok}
use Rattle.std.specs.Fmt.{digits}
use Rattle.mh_base.specs.Lines.{tokens_of}
use Rattle.mh_values.specs.declared.value.Num.TheVariants as num
use Rattle.mh_values.specs.declared.value.Value.TheVariants as value
use Rattle.mh_script.specs.declared.kinds.ScriptKind.{ScriptKind}
use Rattle.mh_script.specs.declared.line.Line.{Line}
use Rattle.mh_script.specs.declared.line.Line.TheVariants as line
use Rattle.mh_script.specs.declared.operand.MethodTypeOperand.TheVariants as of_method_type
use Rattle.mh_script.specs.declared.operand.Register.{Register}
use Rattle.mh_script.specs.declared.operand.Register.TheVariants as register
use Rattle.mh_script.specs.declared.operand.TypeOperand.TheVariants as of_type
use Rattle.mh_script.specs.declared.operand.ValueOperand.TheVariants as of_value
use Rattle.mh_script.specs.declared.script.End.TheVariants as end
use Rattle.mh_script.specs.declared.script.Operation.{Operation}
use Rattle.mh_script.specs.declared.script.Operation.TheVariants as operation
use Rattle.mh_script.specs.declared.script.Step.TheVariants as step
use Rattle.mh_script.specs.Lines.{line_of}

-- what a line says, among no classes
abbrev said : List ℕ → Result Line ScriptKind
said text = line_of [] (tokens_of text)

-- a line that assigns `x`
abbrev assigns : Operation → Result Line ScriptKind
assigns op = Ok (line.Step (step.Let (codes "x") op))

-- the first static argument, and the second
abbrev first : Register
first = register.Argument 0

abbrev second : Register
second = register.Argument 1

-- ---- each form of line

a_leaf : said (codes "let x leaf a.f:(I)V") ≡ assigns (operation.Leaf (record { owner = codes "a"; name = codes "f"; descriptor = codes "(I)V" }))
a_leaf = refl

a_constant :
    said (codes "let x constant I I:-5") ≡ assigns (operation.Constant (of_type.Descriptor (codes "I")) (of_value.Literal (value.Boxed (num.I (negsuc 4)))))
unfolding digits
a_constant = refl

a_constant_of_the_name : said (codes "let x constant a0 name") ≡ assigns (operation.Constant (of_type.Register first) (of_value.Register register.SiteName))
unfolding digits
a_constant_of_the_name = refl

a_null : said (codes "let x constant La; null") ≡ assigns (operation.Constant (of_type.Descriptor (codes "La;")) (of_value.Literal value.Null))
a_null = refl

an_identity : said (codes "let x identity V") ≡ assigns (operation.Identity of_type.Void)
an_identity = refl

a_throw : said (codes "let x throw I java/lang/Error") ≡ assigns (operation.Throw (of_type.Descriptor (codes "I")) (codes "java/lang/Error"))
a_throw = refl

a_bind : said (codes "let x bind a0 255 s:b") ≡ assigns (operation.Bind first 255 (of_value.Literal (value.Text (codes "b"))))
unfolding digits
a_bind = refl

a_drop : said (codes "let x drop a0 1 ILa;") ≡ assigns (operation.Drop first 1 (codes "ILa;"))
unfolding digits
a_drop = refl

a_permute : said (codes "let x permute a0 type 1,0") ≡ assigns (operation.Permute first (of_method_type.Register register.SiteType) (1 ∷ 0 ∷ []))
unfolding digits
a_permute = refl

a_permute_of_none : said (codes "let x permute a0 ()V -") ≡ assigns (operation.Permute first (of_method_type.Descriptor (codes "()V")) [])
unfolding digits
a_permute_of_none = refl

a_filter : said (codes "let x filter a0 2 a1") ≡ assigns (operation.Filter first 2 second)
unfolding digits
a_filter = refl

a_filter_of_the_result : said (codes "let x filterret a0 a1") ≡ assigns (operation.FilterReturn first second)
unfolding digits
a_filter_of_the_result = refl

a_fold : said (codes "let x fold a0 2 a1") ≡ assigns (operation.Fold first 2 second)
unfolding digits
a_fold = refl

a_collect : said (codes "let x collect a0 2 a1") ≡ assigns (operation.Collect first 2 second)
unfolding digits
a_collect = refl

a_spread : said (codes "let x spread a0 [I 2") ≡ assigns (operation.Spread first (of_type.Descriptor (codes "[I")) 2)
unfolding digits
a_spread = refl

a_gather : said (codes "let x gather y [I 2") ≡ assigns (operation.Gather (register.Assigned (codes "y")) (of_type.Descriptor (codes "[I")) 2)
unfolding digits
a_gather = refl

an_as_type : said (codes "let x astype a0 type") ≡ assigns (operation.AsType first (of_method_type.Register register.SiteType))
unfolding digits
an_as_type = refl

an_explicit_conversion : said (codes "let x explicit a0 type") ≡ assigns (operation.Explicit first (of_method_type.Register register.SiteType))
unfolding digits
an_explicit_conversion = refl

a_guard : said (codes "let x guard y a0 a1") ≡ assigns (operation.Guard (register.Assigned (codes "y")) first second)
unfolding digits
a_guard = refl

a_cleanup : said (codes "let x tryfinally a0 a1") ≡ assigns (operation.TryFinally first second)
unfolding digits
a_cleanup = refl

a_switch : said (codes "let x switch a0 a1 a0") ≡ assigns (operation.Switch first (second ∷ first ∷ []))
unfolding digits
a_switch = refl

a_loop : said (codes "let x counted a0 a1 a0") ≡ assigns (operation.Counted first second first)
unfolding digits
a_loop = refl

a_catch : said (codes "let x catch a0 a a1") ≡ assigns (operation.Catch first (codes "a") second)
unfolding digits
a_catch = refl

the_serial : said (codes "let x serial") ≡ Ok (line.Step (step.Serial (codes "x")))
the_serial = refl

a_failure : said (codes "failmod 1000000 7") ≡ Ok (line.Step (step.FailMod 1000000 7))
unfolding digits
a_failure = refl

a_raise : said (codes "raise a s:b\\sc") ≡ Ok (line.End (end.Raise (codes "a") (codes "b c")))
a_raise = refl

a_value : said (codes "value a0") ≡ Ok (line.End (end.Value (of_value.Register first)))
unfolding digits
a_value = refl

a_null_value : said (codes "value null") ≡ Ok (line.End (end.Value (of_value.Literal value.Null)))
a_null_value = refl

a_return : said (codes "return a00") ≡ Ok (line.End (end.Return (register.Assigned (codes "a00"))))
unfolding digits
a_return = refl
