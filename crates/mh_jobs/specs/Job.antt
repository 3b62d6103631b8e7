-- The job of a call site: which script links it, and what the script is given (JVMS SE 17, 5.1 and 5.4.3.6).
use Rattle.std.specs.Prelude.{ℕ, ◌==◌, nat_le, nat_eq, if◌then◌else◌, List, [], codes, length, slice_get}
use Rattle.std.specs.Prelude.{Option, Some, None, Result, Ok, Err, ok_or}
use Rattle.std.specs.List.{starts_with}
use Rattle.std.specs.Option.{option_map_or}
use Rattle.mh_values.specs.declared.class.Class.{Class}
use Rattle.mh_values.specs.declared.types.MethodTy.{MethodTy}
use Rattle.mh_values.specs.declared.types.Ty.{Ty}
use Rattle.mh_values.specs.declared.types.Ty.TheVariants as ty
use Rattle.mh_values.specs.declared.value.Num.TheVariants as num
use Rattle.mh_values.specs.declared.value.Value.TheVariants as value
use Rattle.mh_values.specs.ValueLimits.{most_characters}
use Rattle.mh_leaf.specs.LeafTable.{LeafTable}
use Rattle.mh_leaves.specs.declared.naming.How.{How}
use Rattle.mh_leaves.specs.declared.naming.How.TheVariants.{Static, Virtual}
use Rattle.mh_class_bytes.specs.Chars.{chars_of}
use Rattle.mh_classfile.specs.declared.constant.Constant.{Constant}
use Rattle.mh_classfile.specs.declared.constant.Constant.TheVariants as constant
use Rattle.mh_classfile.specs.declared.constant.HandleRef.{HandleRef}
use Rattle.mh_classfile.specs.declared.constant.SiteView.{SiteView}
use Rattle.mh_classfile.specs.Class as class_file
use Rattle.mh_script.specs.declared.script.MethodName.{MethodName}
use Rattle.mh_script.specs.declared.script.Script.{Script}
use Rattle.mh_jobs.specs.declared.job.Argument.{Argument}
use Rattle.mh_jobs.specs.declared.job.Argument.TheVariants as argument
use Rattle.mh_jobs.specs.declared.job.Method.{Method}
use Rattle.mh_jobs.specs.declared.job.Method.TheVariants as method
use Rattle.mh_jobs.specs.Names.{class_of, type_of_text, method_type_of_text, leaf_named, is_built_in, script_of}
use Rattle.mh_jobs.specs.Thrown.{OrThrown, ◌>>=◌, ◌>>◌, require, as_shown, unsupported}

-- ---- texts

-- the characters of a text, or that a half of a surrogate pair stands alone in it
abbrev pub unless_lone : Result (List ℕ) ℕ → OrThrown (List ℕ)
unless_lone (Ok cs) = Ok cs
unless_lone (Err at) = Err (unsupported (codes "lone surrogate"))

-- a text of a class file as a text of a value, which has at most 4,096 characters
abbrev pub text_of : List ℕ → OrThrown (List ℕ)
text_of bytes = do
  cs ← unless_lone (chars_of bytes)
  require (nat_le (length cs) most_characters) (unsupported (codes "string too long"))
  Ok cs

-- ---- method handles

-- the method that a method handle refers to
abbrev pub method_of : HandleRef → MethodName
method_of h = record { owner = h.owner; name = h.name; descriptor = h.descriptor }

-- how a method handle calls its method, by its kind: `invokevirtual` or `invokestatic` (JVMS SE 17, 5.4.3.5); other kinds are left out
abbrev pub way_of : ℕ → Option How
way_of kind = if kind == 5 then Some Virtual else (if kind == 6 then Some Static else None)

-- the leaf of a method handle
abbrev pub handle_leaf : LeafTable → HandleRef → OrThrown Argument
handle_leaf leaves h = do
  how ← ok_or (way_of h.kind) (unsupported (codes "constant"))
  l ← leaf_named as_shown leaves how (method_of h)
  Ok (argument.Leaf l)

-- ---- static arguments

-- a class by its constant: an array type by its descriptor, and any other class by its name (JVMS SE 17, 4.4.1)
abbrev pub class_argument : List Class → List ℕ → OrThrown Ty
class_argument classes text =
    if starts_with nat_eq text (codes "[") then type_of_text as_shown classes text
    else (do
      c ← class_of as_shown classes text
      Ok (ty.Class c))

-- a static argument by its constant (JVMS SE 17, 5.1)
abbrev pub argument_of : LeafTable → Constant → OrThrown Argument
argument_of leaves (constant.Integer n) = Ok (argument.Value (value.Boxed (num.I n)))
argument_of leaves (constant.Long n) = Ok (argument.Value (value.Boxed (num.J n)))
argument_of leaves (constant.Str text) = do
  cs ← text_of text
  Ok (argument.Value (value.Text cs))
argument_of leaves (constant.MethodType text) = do
  t ← method_type_of_text as_shown leaves.classes text
  Ok (argument.MethodType t)
argument_of leaves (constant.Class text) = do
  t ← class_argument leaves.classes text
  Ok (argument.Class t)
argument_of leaves (constant.Handle h) = handle_leaf leaves h
argument_of leaves _ = Err (unsupported (codes "constant"))

-- ---- bootstrap methods

-- the bootstrap method of a number; a class that was read has those that its call sites name (JVMS SE 17, 4.7.23), so no job of one has this exception
abbrev pub bootstrap_at : class_file.Class → ℕ → OrThrown class_file.Bootstrap
bootstrap_at class j = ok_or (slice_get class.bootstraps j) (unsupported (codes "constant"))

-- the static arguments of a bootstrap method, by its number
abbrev pub constants_at : class_file.Class → ℕ → List Constant
constants_at class j = option_map_or (λ b. b.arguments) (slice_get class.bootstraps j) []

-- the method that a name means: the built-in one, or else that of a script
abbrev pub method_named : List Class → List Script → MethodName → OrThrown Method
method_named classes scripts m =
    if is_built_in m then Ok method.Concat
    else (do
      script ← script_of as_shown classes scripts m
      Ok (method.Script script))

-- the bootstrap method that a handle names: an `invokestatic` one
abbrev pub bootstrap_method : List Class → List Script → HandleRef → OrThrown Method
bootstrap_method classes scripts h = do
  require (h.kind == 6) (unsupported (codes "constant"))
  method_named classes scripts (method_of h)

-- the type of a call site
abbrev pub site_type : List Class → SiteView → OrThrown MethodTy
site_type classes site = method_type_of_text as_shown classes site.descriptor
