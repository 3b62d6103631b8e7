-- The input that is made from a number, as files.
use Rattle.std.specs.Prelude.{ℕ, List, [], codes, if◌then◌else◌}
use Rattle.std.specs.Str.{bytes_eq}
use Rattle.mh_outside.specs.Contents.{Contents, file}
use Rattle.mh_generated.specs.Texts.{generated_manifest, generated_scripts}
use Rattle.mh_generated.specs.Sites.{class_file}
use Rattle.mh_generated.specs.Plan.{generated_plan}

-- the bytes of the file of a name: the manifest, the scripts, the class file, or the plan; any other file is empty
abbrev pub bytes_of : ℕ → List ℕ → List ℕ
bytes_of number name =
    if bytes_eq name (codes "leaves") then generated_manifest
    else (if bytes_eq name (codes "scripts") then generated_scripts
    else (if bytes_eq name (codes "class") then class_file number
    else (if bytes_eq name (codes "plan") then generated_plan number else [])))

-- each file is known
abbrev pub files_of : ℕ → List ℕ → Contents
files_of number name = file (bytes_of number name)
