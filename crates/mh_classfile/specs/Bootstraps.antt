-- The bootstrap methods of a class (JVMS 4.7.23).
use Rattle.std.specs.Prelude.{List, Option, Some, None, is_none}
use Rattle.std.specs.Str.{bytes_eq}
use Rattle.mh_class_bytes.specs.Format.{number, here, check, choose, part, done, ◌>>=◌, repeated, times}
use Rattle.mh_class_pool.specs.declared.entry.Kind.TheVariants as kinds
use Rattle.mh_class_pool.specs.declared.fault.ClassKind.TheVariants.{Truncated, BadBootstraps}
use Rattle.mh_class_pool.specs.Entries.{ClassPart, Slot, text}
use Rattle.mh_classfile.specs.AttributeNames.{bootstrap_methods_name}
use Rattle.mh_classfile.specs.Rows.{Row}
use Rattle.mh_classfile.specs.Members.{named_index, passed_contents}

-- a bootstrap method: its handle and its static arguments
unfoldable pub bootstrap : List Slot → ClassPart Row
bootstrap pool = do
  handle ← named_index BadBootstraps pool kinds.MethodHandle
  count ← number BadBootstraps 2
  arguments ← times (named_index BadBootstraps pool kinds.Argument) count
  done (record { handle = handle; arguments = arguments })

-- the contents of a BootstrapMethods attribute
unfoldable pub bootstraps : List Slot → ClassPart (List Row)
bootstraps pool = do
  count ← number BadBootstraps 2
  times (bootstrap pool) count

-- a BootstrapMethods attribute after its name
unfoldable pub bootstraps_attribute : List Slot → ClassPart (List Row)
bootstraps_attribute pool = do
  len ← number Truncated 4
  part Truncated len BadBootstraps (bootstraps pool)

-- an attribute of a class: BootstrapMethods is read, the first time, and the others are passed over; with what was read
unfoldable pub class_attribute : List Slot → Option (List Row) → ClassPart (Option (List Row))
class_attribute pool so_far = do
  at ← here
  name ← named_index Truncated pool kinds.Utf8
  choose (bytes_eq (text pool name) bootstrap_methods_name)
      (do
        once ← check (is_none so_far) at BadBootstraps
        rows ← bootstraps_attribute pool
        done (Some rows))
      (do
        skipped ← passed_contents Truncated
        done so_far)

-- the attributes of a class
unfoldable pub class_attributes : List Slot → ClassPart (Option (List Row))
class_attributes pool = do
  count ← number Truncated 2
  repeated (class_attribute pool) count None
