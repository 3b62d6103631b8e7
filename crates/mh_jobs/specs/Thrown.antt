-- What is thrown while a call site is linked, and what is recorded of it.
use Rattle.std.specs.Prelude.{ℕ, Bool, true, false, ◌==◌, if◌then◌else◌, List, [], ◌++◌, codes, length, take, drop, Some, Result, Ok, Err}
use Rattle.mh_values.specs.declared.class.Class.{Class}
use Rattle.mh_values.specs.declared.class.ClassId.{ClassId}
use Rattle.mh_values.specs.declared.descriptor.DescriptorError.{DescriptorError}
use Rattle.mh_values.specs.declared.descriptor.DescriptorError.TheVariants as descriptor
use Rattle.mh_values.specs.declared.value.Exc.{Exc}
use Rattle.mh_values.specs.Class.{class_at, is_subclass}
use Rattle.mh_values.specs.Exception.{saying}
use Rattle.mh_class_bytes.specs.Chars.{shown_text}
use Rattle.mh_class_bytes.specs.Mutf8.{sound_len}
use Rattle.mh_script.specs.declared.script.MethodName.{MethodName}

-- ---- what goes on unless something is thrown

-- a value, or an exception that is thrown in its place
abbrev pub OrThrown : Type 0 → Type 0
OrThrown A = Result A Exc

infixl 10 ◌>>=◌
-- goes on with a value; what is thrown ends all
abbrev pub ◌>>=◌ : {A B : Type 0} → OrThrown A → (A → OrThrown B) → OrThrown B
(Ok a) >>= next = next a
(Err e) >>= next = Err e

-- nothing if the condition holds, and otherwise what is thrown
abbrev pub require : Bool → Exc → OrThrown (Unit {0})
require true e = Ok tt
require false e = Err e

infixl 10 ◌>>◌
-- goes on if nothing is thrown
abbrev pub ◌>>◌ : {A : Type 0} → OrThrown (Unit {0}) → OrThrown A → OrThrown A
(Ok u) >> next = next
(Err e) >> next = Err e

-- ---- classes

-- `java/lang/RuntimeException`
abbrev pub runtime_class : ClassId
runtime_class = class_at 11

-- `java/lang/Error`
abbrev pub error_class : ClassId
error_class = class_at 12

-- `java/lang/BootstrapMethodError`
abbrev pub bootstrap_method_error_class : ClassId
bootstrap_method_error_class = class_at 14

-- `java/lang/NoClassDefFoundError`
abbrev pub no_class_def_found_class : ClassId
no_class_def_found_class = class_at 15

-- `java/lang/NoSuchMethodError`
abbrev pub no_such_method_class : ClassId
no_such_method_class = class_at 17

-- `java/lang/UnsupportedOperationException`
abbrev pub unsupported_class : ClassId
unsupported_class = class_at 25

-- ---- messages

-- how a text is written in a message
abbrev pub Says : Type 0
Says = List ℕ → List ℕ

-- as it stands: so for the texts of a script, which are ASCII
abbrev pub plainly : Says
plainly text = text

-- as it is shown: so for the texts of a class file, and for the parts of them, which are cut at ASCII characters; what is no text has no characters
abbrev pub as_shown : Says
as_shown bytes = if sound_len bytes == length bytes then shown_text bytes else []

-- a method, as `OWNER.NAME:DESC`
abbrev pub method_text : Says → MethodName → List ℕ
method_text says m = says m.owner ++ codes "." ++ says m.name ++ codes ":" ++ says m.descriptor

-- ---- exceptions

-- no class has this name
abbrev pub no_class : Says → List ℕ → Exc
no_class says name = saying no_class_def_found_class (says name)

-- no method has this name
abbrev pub no_method : Says → MethodName → Exc
no_method says m = saying no_such_method_class (method_text says m)

-- what is left out
abbrev pub unsupported : List ℕ → Exc
unsupported word = saying unsupported_class word

-- What is thrown for a descriptor without a type. It names an unknown class or a type that `mh` lacks, whichever comes first. A text that is no descriptor
-- counts as the name of an unknown class.
abbrev pub no_type : Says → List ℕ → DescriptorError → Exc
no_type says text (descriptor.NoClass at len) = no_class says (take len (drop at text))
no_type says text (descriptor.Unsupported at) = unsupported (codes "type")
no_type says text _ = no_class says text

-- the descriptor of a constant that is no type, or one that is left out; only an unknown class is named
abbrev pub no_one_type : List ℕ → DescriptorError → Exc
no_one_type text (descriptor.NoClass at len) = no_class as_shown (take len (drop at text))
no_one_type text _ = unsupported (codes "type")

-- ---- what is recorded

-- an exception as the cause of a BootstrapMethodError
abbrev pub caused : Exc → Exc
caused e = record { class = bootstrap_method_error_class; message = []; cause = Some (record { class = e.class; message = e.message }) }

-- what is recorded of an exception: itself if it is an Error, and otherwise a BootstrapMethodError with it as the cause (JVMS SE 17, 5.4.3.6)
abbrev pub recorded : List Class → Exc → Exc
recorded classes e = if is_subclass classes e.class error_class then e else caused e
