-- The names of the attributes that are read (JVMS SE 17, 4.7).
use Rattle.std.specs.Prelude.{ℕ, List, codes}

-- the code of a method (4.7.3)
abbrev pub code_name : List ℕ
code_name = codes "Code"

-- the bootstrap methods of a class (4.7.23)
abbrev pub bootstrap_methods_name : List ℕ
bootstrap_methods_name = codes "BootstrapMethods"
