-- The opcodes that the reader of code distinguishes (JVMS SE 17, 6.5; numbers in chapter 7). Those that it treats alike are named by the first and the last.
use Rattle.std.specs.Prelude.{ℕ}

-- does nothing, the first of the opcodes
abbrev pub nop : ℕ
nop = 0

-- pushes the double 1.0
abbrev pub dconst_1 : ℕ
dconst_1 = 15

-- pushes a byte
abbrev pub bipush : ℕ
bipush = 16

-- pushes a short
abbrev pub sipush : ℕ
sipush = 17

-- pushes a constant of the pool, named by one byte
abbrev pub ldc : ℕ
ldc = 18

-- pushes a constant of the pool, named by two bytes
abbrev pub ldc_w : ℕ
ldc_w = 19

-- pushes a long or a double of the pool
abbrev pub ldc2_w : ℕ
ldc2_w = 20

-- loads an int from a local variable
abbrev pub iload : ℕ
iload = 21

-- loads a reference from a local variable
abbrev pub aload : ℕ
aload = 25

-- loads an int from local variable 0
abbrev pub iload_0 : ℕ
iload_0 = 26

-- loads a short from an array
abbrev pub saload : ℕ
saload = 53

-- stores an int into a local variable
abbrev pub istore : ℕ
istore = 54

-- stores a reference into a local variable
abbrev pub astore : ℕ
astore = 58

-- stores an int into local variable 0
abbrev pub istore_0 : ℕ
istore_0 = 59

-- exclusive or of two longs
abbrev pub lxor : ℕ
lxor = 131

-- adds a number to a local variable
abbrev pub iinc : ℕ
iinc = 132

-- converts an int to a long
abbrev pub i2l : ℕ
i2l = 133

-- compares two doubles
abbrev pub dcmpg : ℕ
dcmpg = 152

-- branches at zero
abbrev pub ifeq : ℕ
ifeq = 153

-- jumps to a subroutine
abbrev pub jsr : ℕ
jsr = 168

-- returns from a subroutine
abbrev pub ret : ℕ
ret = 169

-- jumps by a table of a range of numbers
abbrev pub tableswitch : ℕ
tableswitch = 170

-- jumps by pairs of a number and a place
abbrev pub lookupswitch : ℕ
lookupswitch = 171

-- returns an int
abbrev pub ireturn : ℕ
ireturn = 172

-- returns nothing
abbrev pub return : ℕ
return = 177

-- reads a static field
abbrev pub getstatic : ℕ
getstatic = 178

-- calls a static method
abbrev pub invokestatic : ℕ
invokestatic = 184

-- calls a method of an interface
abbrev pub invokeinterface : ℕ
invokeinterface = 185

-- calls a call site
abbrev pub invokedynamic : ℕ
invokedynamic = 186

-- makes an object
abbrev pub new : ℕ
new = 187

-- makes an array of a primitive type
abbrev pub newarray : ℕ
newarray = 188

-- makes an array of references
abbrev pub anewarray : ℕ
anewarray = 189

-- the length of an array
abbrev pub arraylength : ℕ
arraylength = 190

-- throws
abbrev pub athrow : ℕ
athrow = 191

-- checks that an object is of a type
abbrev pub checkcast : ℕ
checkcast = 192

-- whether an object is of a type
abbrev pub instanceof : ℕ
instanceof = 193

-- enters a monitor
abbrev pub monitorenter : ℕ
monitorenter = 194

-- leaves a monitor
abbrev pub monitorexit : ℕ
monitorexit = 195

-- widens the index of the instruction after it
abbrev pub wide : ℕ
wide = 196

-- makes an array of several dimensions
abbrev pub multianewarray : ℕ
multianewarray = 197

-- branches at null
abbrev pub ifnull : ℕ
ifnull = 198

-- branches if not null
abbrev pub ifnonnull : ℕ
ifnonnull = 199

-- jumps by four bytes
abbrev pub goto_w : ℕ
goto_w = 200

-- jumps to a subroutine by four bytes, the last of the opcodes
abbrev pub jsr_w : ℕ
jsr_w = 201
