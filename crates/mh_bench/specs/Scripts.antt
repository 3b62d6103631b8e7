-- Files of scripts, and how many scripts a file has.
use Rattle.std.specs.Prelude.{ℕ, zero, suc, List, [], ◌++◌, codes, length, Result, Ok, Err}
use Rattle.std.specs.Fmt.{decimal}
use Rattle.mh_base.specs.declared.lines.LineFault.{LineFault}
use Rattle.mh_script.specs.declared.kinds.ScriptKind.{ScriptKind}
use Rattle.mh_script.specs.declared.script.Script.{Script}
use Rattle.mh_script.specs.Scripts.{scripts}
use Rattle.mh_bench.specs.declared.scripts.Row.{Row}
use Rattle.mh_bench.specs.declared.scripts.Row.TheVariants.{Plain, Alike}

-- what stands before the number in an owner's name
abbrev pub owner : Row → List ℕ
owner Plain = codes "a"
owner Alike = codes "a/long/package/name/that/all/owners/of/the/scripts/share/up/to/its/end/as/in/Generated"

-- a script whose owner's name ends with a number
unfoldable pub script_text : List ℕ → ℕ → List ℕ
script_text owner number =
    codes "script " ++ owner ++ decimal number ++ codes " f ()V\nlet a leaf b/C.d:(I)I\nreturn a\nend\n"

-- this many scripts, numbered from 0 on
unfoldable pub file_text : List ℕ → ℕ → List ℕ
file_text owner zero = []
file_text owner (suc count) = file_text owner count ++ script_text owner count

-- how many were read: none of a file that has a fault
abbrev pub count_read : Result (List Script) (LineFault ScriptKind) → ℕ
count_read (Ok all) = length all
count_read (Err fault) = 0

-- how many scripts a file has
abbrev pub script_count : List ℕ → ℕ
script_count file = count_read (scripts file)
