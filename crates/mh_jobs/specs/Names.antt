-- What names mean: classes, types, leaves and scripts, or what is thrown if they mean nothing (JVMS SE 17, 5.4.3.1, 5.4.3.3 and 5.4.3.5).
use Rattle.std.specs.Prelude.{ℕ, Bool, ◌||◌, ◌&&◌, List, ◌++◌, codes, is_some, Result, Ok, Err, ok_or}
use Rattle.std.specs.Str.{bytes_eq}
use Rattle.mh_values.specs.declared.class.Class.{Class}
use Rattle.mh_values.specs.declared.class.ClassId.{ClassId}
use Rattle.mh_values.specs.declared.descriptor.DescriptorError.{DescriptorError}
use Rattle.mh_values.specs.declared.types.Ty.{Ty}
use Rattle.mh_values.specs.declared.types.MethodTy.{MethodTy}
use Rattle.mh_values.specs.declared.value.Exc.{Exc}
use Rattle.mh_values.specs.declared.value.LeafId.{LeafId}
use Rattle.mh_values.specs.Classes.{class_named}
use Rattle.mh_values.specs.Descriptor.{desc, type_desc, types_desc}
use Rattle.mh_leaf.specs.LeafTable.{LeafTable}
use Rattle.mh_leaves.specs.declared.naming.How.{How}
use Rattle.mh_leaves.specs.declared.naming.Missing.{Missing}
use Rattle.mh_leaves.specs.declared.naming.Missing.TheVariants.{NoClass, NoMethod}
use Rattle.mh_leaves.specs.Find.{find_leaf}
use Rattle.mh_script.specs.declared.script.MethodName.{MethodName}
use Rattle.mh_script.specs.declared.script.Script.{Script}
use Rattle.mh_script.specs.declared.scripts.ScriptId.{ScriptId}
use Rattle.mh_script.specs.Find.{script_named, has_owner}
use Rattle.mh_jobs.specs.Thrown.{OrThrown, Says, ◌>>◌, require, no_class, no_method, no_type}

-- ---- classes and types

-- the class of a name
abbrev pub class_of : Says → List Class → List ℕ → OrThrown ClassId
class_of says classes name = ok_or (class_named classes name) (no_class says name)

-- what a text means, or what is thrown if it means nothing
abbrev pub meaning : {A : Type 0} → Says → List ℕ → Result A DescriptorError → OrThrown A
meaning says text (Ok a) = Ok a
meaning says text (Err error) = Err (no_type says text error)

-- the type of a descriptor
abbrev pub type_of_text : Says → List Class → List ℕ → OrThrown Ty
type_of_text says classes text = meaning says text (type_desc classes text)

-- the types of descriptors, one after the other
abbrev pub types_of_text : Says → List Class → List ℕ → OrThrown (List Ty)
types_of_text says classes text = meaning says text (types_desc classes text)

-- the method type of a method descriptor
abbrev pub method_type_of_text : Says → List Class → List ℕ → OrThrown MethodTy
method_type_of_text says classes text = meaning says text (desc classes text)

-- ---- leaves

-- what is thrown if no leaf has this name: its class is missing, or the method alone
abbrev pub missing : Says → MethodName → Missing → Exc
missing says m NoClass = no_class says m.owner
missing says m NoMethod = no_method says m

-- a leaf that was looked for
abbrev pub unless_missing : Says → MethodName → Result LeafId Missing → OrThrown LeafId
unless_missing says m (Ok l) = Ok l
unless_missing says m (Err what) = Err (missing says m what)

-- the leaf of a name that is called in that way
abbrev pub leaf_named : Says → LeafTable → How → MethodName → OrThrown LeafId
leaf_named says leaves how m = unless_missing says m (find_leaf leaves m.owner m.name m.descriptor how)

-- ---- bootstrap methods

-- the bootstrap method that is built in: `StringConcatFactory.makeConcatWithConstants` (`java.lang.invoke`, Java SE 17)
abbrev pub concat_method : MethodName
concat_method = record {
  owner = codes "java/lang/invoke/StringConcatFactory";
  name = codes "makeConcatWithConstants";
  descriptor = codes "(Ljava/lang/invoke/MethodHandles$Lookup;Ljava/lang/String;Ljava/lang/invoke/MethodType;Ljava/lang/String;"
      ++ codes "[Ljava/lang/Object;)Ljava/lang/invoke/CallSite;";
}

-- whether a method is that one
abbrev pub is_built_in : MethodName → Bool
is_built_in m = bytes_eq m.owner concat_method.owner && bytes_eq m.name concat_method.name && bytes_eq m.descriptor concat_method.descriptor

-- ---- scripts

-- whether a class of the list, or the owner of a script, has this name
abbrev pub is_known_owner : List Class → List Script → List ℕ → Bool
is_known_owner classes scripts owner = is_some (class_named classes owner) || has_owner scripts owner

-- the script that is the method of a name
abbrev pub script_of : Says → List Class → List Script → MethodName → OrThrown ScriptId
script_of says classes scripts m = do
  require (is_known_owner classes scripts m.owner) (no_class says m.owner)
  ok_or (script_named scripts m.owner m.name m.descriptor) (no_method says m)
