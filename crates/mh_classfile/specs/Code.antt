-- The code of a method, as a row of instructions (JVMS 4.7.3, 6.5).
use Rattle.std.specs.Prelude.{ℕ, ◌+◌, ◌-◌, ◌*◌, ◌%◌, ◌^◌, ◌==◌, ◌||◌, ◌&&◌, nat_lt, nat_le, List, [], ◌∷◌, ◌++◌, length, Bool, if◌then◌else◌}
use Rattle.mh_class_bytes.specs.Format.{number, run, here, check, verdict, refuse, choose, blame, done, ◌>>=◌, repeated}
use Rattle.mh_class_pool.specs.declared.entry.Kind.TheVariants as kinds
use Rattle.mh_classfile.specs.declared.site.Method.{Method}
use Rattle.mh_classfile.specs.declared.site.Site.{Site}
use Rattle.mh_class_pool.specs.declared.fault.ClassKind.TheVariants.{BadCode, TooManySites}
use Rattle.mh_class_pool.specs.Entries.{ClassPart, Slot}
use Rattle.mh_class_pool.specs.References.{names}
use Rattle.mh_classfile.specs.Opcodes as op

-- from a number to another
abbrev pub within : ℕ → ℕ → ℕ → Bool
within low high n = nat_le low n && nat_le n high

-- an instruction that names a local variable by one byte
abbrev pub is_local : ℕ → Bool
is_local opcode = within op.iload op.aload opcode || within op.istore op.astore opcode || opcode == op.ret

-- how many bytes an instruction of fixed length takes, with its opcode; 0 for the others
abbrev pub fixed_len : ℕ → ℕ
fixed_len opcode =
    if nat_le opcode op.dconst_1 || within op.iload_0 op.saload opcode || within op.istore_0 op.lxor opcode || within op.i2l op.dcmpg opcode
    || within op.ireturn op.return opcode || within op.arraylength op.athrow opcode || within op.monitorenter op.monitorexit opcode then 1
    else (if opcode == op.bipush || opcode == op.ldc || is_local opcode || opcode == op.newarray then 2
    else (if opcode == op.sipush || within op.ldc_w op.ldc2_w opcode || opcode == op.iinc || within op.ifeq op.jsr opcode
    || within op.getstatic op.invokestatic opcode || opcode == op.new || opcode == op.anewarray || within op.checkcast op.instanceof opcode
    || within op.ifnull op.ifnonnull opcode then 3
    else (if opcode == op.multianewarray then 4
    else (if opcode == op.invokeinterface || within op.goto_w op.jsr_w opcode then 5
    else 0))))

-- a signed number of 32 bits, raised by 2 ^ 31, so that its order is that of the numbers
abbrev pub raised : ℕ → ℕ
raised n = (n + 2 ^ 31) % 2 ^ 32

-- the bytes after the opcode up to the next multiple of 4, counted from the code's start
abbrev pub padding : ℕ → ℕ → ℕ
padding start at = 3 - (at - start) % 4

-- this many bytes, which say nothing of call sites
unfoldable pub passed : ℕ → ClassPart (Unit {0})
passed len = do
  bytes ← run BadCode len
  done tt

-- the table of a tableswitch: low, high, and four bytes for each number from low to high
abbrev pub table : ℕ → ClassPart (Unit {0})
table at = do
  low ← number BadCode 4
  high ← number BadCode 4
  ordered ← check (nat_le (raised low) (raised high)) at BadCode
  passed (4 * (raised high - raised low + 1))

-- tableswitch after its opcode: padding, default and the table
unfoldable pub table_switch : ℕ → ℕ → ClassPart (Unit {0})
table_switch start at = do
  pad ← run BadCode (padding start at)
  default ← number BadCode 4
  table at

-- lookupswitch after its opcode: padding, default, a count that is not negative, and eight bytes for each pair
unfoldable pub lookup_switch : ℕ → ℕ → ClassPart (Unit {0})
lookup_switch start at = do
  pad ← run BadCode (padding start at)
  default ← number BadCode 4
  pairs ← number BadCode 4
  positive ← check (nat_lt pairs (2 ^ 31)) at BadCode
  entries ← run BadCode (8 * pairs)
  done tt

-- wide after its opcode (6.5): iinc with its operands, or an instruction on a local variable with a longer index
unfoldable pub wide : ℕ → ClassPart (Unit {0})
wide at = do
  opcode ← number BadCode 1
  choose (opcode == op.iinc) (passed 4) (choose (is_local opcode) (passed 2) (refuse at BadCode))

-- an instruction but invokedynamic, after its opcode; whatever is wrong is BadCode at the opcode
unfoldable pub ordinary : ℕ → ℕ → ℕ → ClassPart (Unit {0})
ordinary opcode start at =
    choose (opcode == op.tableswitch) (blame at BadCode (table_switch start at))
    (choose (opcode == op.lookupswitch) (blame at BadCode (lookup_switch start at))
    (choose (opcode == op.wide) (blame at BadCode (wide at))
    (choose (fixed_len opcode == 0) (refuse at BadCode)
    (blame at BadCode (passed (fixed_len opcode - 1))))))

-- invokedynamic after its opcode: an index of the pool and two zero bytes
unfoldable pub operands : ClassPart (ℕ × ℕ)
operands = do
  index ← number BadCode 2
  zeros ← number BadCode 2
  done (index, zeros)

-- the call site of an invokedynamic, if one more may be found
unfoldable pub call_site : List Slot → Method → Bool → ℕ → ℕ → ClassPart Site
call_site pool method has_room start at = do
  both ← blame at BadCode operands
  named ← verdict (names pool kinds.InvokeDynamic both.0 at)
  are_zero ← check (both.1 == 0) at BadCode
  in_room ← check has_room at TooManySites
  done (record { method = method; pc = at - start; index = both.0 })

-- the next instruction: a call site, or none
unfoldable pub instruction : List Slot → Method → Bool → ℕ → ClassPart (List Site)
instruction pool method has_room start = do
  at ← here
  opcode ← number BadCode 1
  choose (opcode == op.invokedynamic)
      (do
        site ← call_site pool method has_room start at
        done (site ∷ []))
      (do
        skipped ← ordinary opcode start at
        done [])

-- the next instruction, if the code has not ended: its call site comes after those before it
abbrev pub next_site : List Slot → Method → ℕ → ℕ → ℕ → List Site → ClassPart (List Site)
next_site pool method room start end so_far = do
  at ← here
  choose (nat_le end at) (done so_far) (do
    found ← instruction pool method (nat_lt (length so_far) room) start
    done (so_far ++ found))

-- the call sites of code from a start to an end, after those before it; there are no more instructions than bytes
abbrev pub code_sites : List Slot → Method → ℕ → ℕ → ℕ → List Site → ClassPart (List Site)
code_sites pool method room start end so_far = repeated (next_site pool method room start end) (end - start) so_far
