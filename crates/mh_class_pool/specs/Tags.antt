-- The tags of the entries of a constant pool (JVMS SE 17, table 4.4-A).
use Rattle.std.specs.Prelude.{ℕ}

-- a text (4.4.7)
abbrev pub CONSTANT_Utf8 : ℕ
CONSTANT_Utf8 = 1

-- an int (4.4.4)
abbrev pub CONSTANT_Integer : ℕ
CONSTANT_Integer = 3

-- a float (4.4.4)
abbrev pub CONSTANT_Float : ℕ
CONSTANT_Float = 4

-- a long (4.4.5)
abbrev pub CONSTANT_Long : ℕ
CONSTANT_Long = 5

-- a double (4.4.5)
abbrev pub CONSTANT_Double : ℕ
CONSTANT_Double = 6

-- a class or an interface (4.4.1)
abbrev pub CONSTANT_Class : ℕ
CONSTANT_Class = 7

-- a constant of class String (4.4.3)
abbrev pub CONSTANT_String : ℕ
CONSTANT_String = 8

-- a field (4.4.2)
abbrev pub CONSTANT_Fieldref : ℕ
CONSTANT_Fieldref = 9

-- a method of a class (4.4.2)
abbrev pub CONSTANT_Methodref : ℕ
CONSTANT_Methodref = 10

-- a method of an interface (4.4.2)
abbrev pub CONSTANT_InterfaceMethodref : ℕ
CONSTANT_InterfaceMethodref = 11

-- a name and a descriptor (4.4.6)
abbrev pub CONSTANT_NameAndType : ℕ
CONSTANT_NameAndType = 12

-- a method handle (4.4.8)
abbrev pub CONSTANT_MethodHandle : ℕ
CONSTANT_MethodHandle = 15

-- a method type (4.4.9)
abbrev pub CONSTANT_MethodType : ℕ
CONSTANT_MethodType = 16

-- a constant that is computed (4.4.10)
abbrev pub CONSTANT_Dynamic : ℕ
CONSTANT_Dynamic = 17

-- a call site that is computed (4.4.10)
abbrev pub CONSTANT_InvokeDynamic : ℕ
CONSTANT_InvokeDynamic = 18

-- a module (4.4.11)
abbrev pub CONSTANT_Module : ℕ
CONSTANT_Module = 19

-- a package (4.4.12)
abbrev pub CONSTANT_Package : ℕ
CONSTANT_Package = 20
