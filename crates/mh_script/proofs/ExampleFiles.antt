-- Files of scripts, and files with a fault of each kind, by computation.
use Rattle.std.specs.Prelude.{◌≡◌, refl, ℕ, List, [], ◌∷◌, codes, Result, Ok, Err}
use Rattle.std.specs.Fmt.{digits}
use Rattle.mh_base.specs.declared.lines.LineFault.{LineFault}
use Rattle.mh_script.specs.declared.kinds.ScriptKind.{ScriptKind}
use Rattle.mh_script.specs.declared.kinds.ScriptKind.TheVariants as kind
use Rattle.mh_script.specs.declared.operand.Register.TheVariants as register
use Rattle.mh_script.specs.declared.script.End.TheVariants as end
use Rattle.mh_script.specs.declared.script.Script.{Script}
use Rattle.mh_script.specs.Scripts.{scripts}

-- a script that returns the first static argument, with this name
abbrev returning : List ℕ → Script
returning name = record { method = record { owner = codes "a"; name = name; descriptor = codes "()V" }; steps = []; end = end.Return (register.Argument 0) }

-- a fault at a line
abbrev at : ℕ → ScriptKind → Result (List Script) (LineFault ScriptKind)
at n k = Err (record { line = n; kind = k })

no_script : scripts (codes "# none\n\n") ≡ Ok []
no_script = refl

two_scripts : scripts (codes "script a f ()V\nreturn a0\nend\n\nscript a g ()V\nreturn a0\nend") ≡ Ok (returning (codes "f") ∷ returning (codes "g") ∷ [])
unfolding digits
two_scripts = refl

an_end_after_a_header : scripts (codes "script a f ()V\nend\n") ≡ at 2 kind.BadLine
unfolding digits
an_end_after_a_header = refl

no_end : scripts (codes "script a f ()V\nreturn a0\n\n") ≡ at 2 kind.BadLine
unfolding digits
no_end = refl

a_header_twice : scripts (codes "script a f ()V\nreturn a0\nend\nscript a f ()V\nreturn a0\nend\n") ≡ at 4 kind.Twice
unfolding digits
a_header_twice = refl

an_undefined_register : scripts (codes "script a f ()V\nreturn x\nend\n") ≡ at 2 kind.Undefined
unfolding digits
an_undefined_register = refl

a_wrong_sort : scripts (codes "script a f ()V\nlet x serial\nreturn x\nend\n") ≡ at 3 kind.WrongSort
unfolding digits
a_wrong_sort = refl

a_bad_descriptor : scripts (codes "script a f ()\nreturn a0\nend\n") ≡ at 1 kind.BadDescriptor
unfolding digits
a_bad_descriptor = refl

a_bad_literal : scripts (codes "script a f ()V\nraise a b\nend\n") ≡ at 2 kind.BadLiteral
unfolding digits
a_bad_literal = refl

no_return : scripts (codes "script a f ()V\nlet x serial\nend\n") ≡ at 2 kind.NoReturn
unfolding digits
no_return = refl
