-- The manifest and the scripts that are made: the same for each number.
use Rattle.std.specs.Prelude.{ℕ, List, ◌++◌, codes}
use Rattle.mh_made_class.specs.Constants.{bootstrap_type}

-- the manifest: the class `made/Host` with a leaf that adds two ints, and one that gives its int back
unfoldable pub generated_manifest : List ℕ
generated_manifest = codes "class made/Host java/lang/Object\nstatic made/Host add (II)I iadd\nstatic made/Host same (I)I same\n"

-- The one script, `made/Boot.link`. It gives a sum with its static argument, filters the argument of the call by the other leaf, and uses that as the type of
-- the call site.
unfoldable pub generated_scripts : List ℕ
generated_scripts =
    codes "script made/Boot link " ++ bootstrap_type
    ++ codes "\nlet add leaf made/Host.add:(II)I\nlet one bind add 1 a0\nlet sam leaf made/Host.same:(I)I\n"
    ++ codes "let two filter one 0 sam\nlet end astype two type\nreturn end\nend\n"
