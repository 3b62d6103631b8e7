-- The kinds of reference of a method handle (JVMS SE 17, 4.4.8 and table 5.4.3.5-A).
use Rattle.std.specs.Prelude.{ℕ}

-- reads a field of an object
abbrev pub REF_getField : ℕ
REF_getField = 1

-- reads a static field
abbrev pub REF_getStatic : ℕ
REF_getStatic = 2

-- writes a field of an object
abbrev pub REF_putField : ℕ
REF_putField = 3

-- writes a static field
abbrev pub REF_putStatic : ℕ
REF_putStatic = 4

-- calls a method of an object
abbrev pub REF_invokeVirtual : ℕ
REF_invokeVirtual = 5

-- calls a static method
abbrev pub REF_invokeStatic : ℕ
REF_invokeStatic = 6

-- calls a method of exactly this class
abbrev pub REF_invokeSpecial : ℕ
REF_invokeSpecial = 7

-- makes an object and calls its constructor
abbrev pub REF_newInvokeSpecial : ℕ
REF_newInvokeSpecial = 8

-- calls a method of an interface
abbrev pub REF_invokeInterface : ℕ
REF_invokeInterface = 9
