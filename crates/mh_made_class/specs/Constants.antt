-- The constant pool of a made class (JVMS 4.4).
use Rattle.std.specs.Prelude.{ℕ, ◌+◌, ◌/◌, ◌%◌, ◌^◌, List, [], ◌∷◌, ◌++◌, codes, length}
use Rattle.std.specs.List.{flat_map}
use Rattle.std.specs.Int.{cast_unsigned, w32, w64}
use Rattle.byteorder.specs.Endian.{big_bytes}
use Rattle.mh_class_pool.specs.declared.entry.Entry.{Entry}
use Rattle.mh_class_pool.specs.declared.entry.Entry.TheVariants as entries
use Rattle.mh_class_pool.specs.Tags.{CONSTANT_Utf8, CONSTANT_Integer, CONSTANT_Long, CONSTANT_Class, CONSTANT_String, CONSTANT_Methodref, CONSTANT_NameAndType, CONSTANT_MethodHandle, CONSTANT_InvokeDynamic}
use Rattle.mh_class_pool.specs.ReferenceKinds.{REF_invokeStatic}
use Rattle.mh_classfile.specs.AttributeNames.{code_name, bootstrap_methods_name}
use Rattle.mh_made_class.specs.declared.site.MadeArg.{MadeArg}
use Rattle.mh_made_class.specs.declared.site.MadeArg.TheVariants as args
use Rattle.mh_made_class.specs.Layout.{PlacedArgument, PlacedSite, placed_arguments}

-- two bytes for a number, the highest first
abbrev pub u2 : ℕ → List ℕ
u2 n = big_bytes 2 n

-- four bytes for a number, the highest first
abbrev pub u4 : ℕ → List ℕ
u4 n = big_bytes 4 n

-- an entry as it is written: its tag, and its contents; made classes have entries of nine kinds
unfoldable pub entry_bytes : Entry → List ℕ
entry_bytes (entries.Utf8 text) = CONSTANT_Utf8 ∷ (u2 (length text) ++ text)
entry_bytes (entries.Integer n) = CONSTANT_Integer ∷ u4 n
entry_bytes (entries.Long high low) = CONSTANT_Long ∷ (u4 high ++ u4 low)
entry_bytes (entries.Class name) = CONSTANT_Class ∷ u2 name
entry_bytes (entries.Str text) = CONSTANT_String ∷ u2 text
entry_bytes (entries.Methodref class name) = CONSTANT_Methodref ∷ (u2 class ++ u2 name)
entry_bytes (entries.NameAndType name descriptor) = CONSTANT_NameAndType ∷ (u2 name ++ u2 descriptor)
entry_bytes (entries.MethodHandle kind reference) = CONSTANT_MethodHandle ∷ kind ∷ u2 reference
entry_bytes (entries.InvokeDynamic bootstrap name) = CONSTANT_InvokeDynamic ∷ (u2 bootstrap ++ u2 name)
entry_bytes _ = []

-- the type of each bootstrap method: a lookup, a name and a method type give a call site (java.lang.invoke, package summary)
abbrev pub bootstrap_type : List ℕ
bootstrap_type = codes "(Ljava/lang/invoke/MethodHandles$Lookup;Ljava/lang/String;Ljava/lang/invoke/MethodType;)Ljava/lang/invoke/CallSite;"

-- the entries 1 to 4: the class and its superclass, each a name and a Class
abbrev pub class_entries : List Entry
class_entries = entries.Utf8 (codes "made/Main") ∷ entries.Class 1 ∷ entries.Utf8 (codes "java/lang/Object") ∷ entries.Class 3 ∷ []

-- the entries 5 to 8: the name and the descriptor of the method, and the names of two attributes
abbrev pub member_entries : List Entry
member_entries = entries.Utf8 (codes "run") ∷ entries.Utf8 (codes "()V") ∷ entries.Utf8 code_name ∷ entries.Utf8 bootstrap_methods_name ∷ []

-- the entries 9 to 12: the class and the type of the bootstrap methods, and the name of each call site
abbrev pub bootstrap_entries : List Entry
bootstrap_entries = entries.Utf8 (codes "made/Boot") ∷ entries.Class 9 ∷ entries.Utf8 bootstrap_type ∷ entries.Utf8 (codes "f") ∷ []

-- the entries of a static argument: a number, or a text and the String that names it
abbrev pub entries_at : ℕ → MadeArg → List Entry
entries_at first (args.Integer n) = entries.Integer (cast_unsigned w32 n) ∷ []
entries_at first (args.Long n) = entries.Long (cast_unsigned w64 n / 2 ^ 32) (cast_unsigned w64 n % 2 ^ 32) ∷ []
entries_at first (args.Str text) = entries.Utf8 text ∷ entries.Str first ∷ []

-- the entries of a static argument, from its first index on
abbrev pub argument_entries : PlacedArgument → List Entry
argument_entries p = entries_at p.first p.arg

-- the bootstrap method of a call site: its name, the method of that name, and the handle that calls it (a REF_invokeStatic)
abbrev pub handle_entries : PlacedSite → List Entry
handle_entries p =
    entries.Utf8 p.site.script ∷ entries.NameAndType p.first 11 ∷ entries.Methodref 10 (p.first + 1)
    ∷ entries.MethodHandle REF_invokeStatic (p.first + 2) ∷ []

-- the call of a call site: its type, its name and type, and the call by the bootstrap method of its number
abbrev pub call_entries : PlacedSite → List Entry
call_entries p = entries.Utf8 p.site.ty ∷ entries.NameAndType 12 (p.first + 4) ∷ entries.InvokeDynamic p.number (p.first + 5) ∷ []

-- the entries of a call site
abbrev pub site_entries : PlacedSite → List Entry
site_entries p = handle_entries p ++ call_entries p ++ flat_map argument_entries (placed_arguments p)

-- the entries that each made class has
abbrev pub common_entries : List Entry
common_entries = class_entries ++ member_entries ++ bootstrap_entries

-- the pool of a count: its entries stand from index 1 on, first those that each made class has
unfoldable pub pool_of : ℕ → List PlacedSite → List ℕ
pool_of count ps = u2 count ++ flat_map entry_bytes common_entries ++ flat_map (λ p. flat_map entry_bytes (site_entries p)) ps
