-- The method and the bootstrap methods of a made class (JVMS 4.6, 4.7.3, 4.7.23).
use Rattle.std.specs.Prelude.{ℕ, ◌+◌, List, [], ◌∷◌, ◌++◌, length}
use Rattle.std.specs.List.{flat_map}
use Rattle.mh_classfile.specs.Opcodes as op
use Rattle.mh_made_class.specs.declared.site.MadeArg.{MadeArg}
use Rattle.mh_made_class.specs.declared.site.MadeArg.TheVariants as args
use Rattle.mh_made_class.specs.Layout.{PlacedArgument, PlacedSite, placed_arguments}
use Rattle.mh_made_class.specs.Constants.{u2, u4}

-- an attribute: the index of its name, the length of its contents, and these
unfoldable pub attribute : ℕ → List ℕ → List ℕ
attribute name contents = u2 name ++ u4 (length contents) ++ contents

-- the instruction of a call site: invokedynamic, the index of its call, and two zero bytes (JVMS 6.5)
abbrev pub instruction : PlacedSite → List ℕ
instruction p = op.invokedynamic ∷ (u2 (p.first + 6) ++ u2 0)

-- the code: the instruction of each call site, and return
unfoldable pub code : List PlacedSite → List ℕ
code ps = flat_map instruction ps ++ op.return ∷ []

-- the contents of a Code attribute: an operand stack of two slots, no local variables, the code, no exceptions and no attributes
abbrev pub contents_of : List ℕ → List ℕ
contents_of bytes = u2 2 ++ u2 0 ++ u4 (length bytes) ++ bytes ++ u2 0 ++ u2 0

-- the same with the code of the call sites
unfoldable pub code_contents : List PlacedSite → List ℕ
code_contents ps = contents_of (code ps)

-- the front of the methods: there is one, public and static; its name and its descriptor, and one attribute
abbrev pub method_front : List ℕ
method_front = u2 1 ++ u2 0x0009 ++ u2 5 ++ u2 6 ++ u2 1

-- the methods: one, with its code alone
unfoldable pub methods : List PlacedSite → List ℕ
methods ps = method_front ++ attribute 7 (code_contents ps)

-- the index of a static argument: for a text that of its String
abbrev pub index_at : ℕ → MadeArg → ℕ
index_at first (args.Str text) = first + 1
index_at first _ = first

-- the index of a static argument, which has its first index
abbrev pub argument_index : PlacedArgument → ℕ
argument_index p = index_at p.first p.arg

-- a bootstrap method: its handle, and its static arguments
abbrev pub bootstrap : PlacedSite → List ℕ
bootstrap p = u2 (p.first + 3) ++ u2 (length p.site.args) ++ flat_map (λ a. u2 (argument_index a)) (placed_arguments p)

-- the contents of a BootstrapMethods attribute: a bootstrap method for each call site
unfoldable pub bootstraps : List PlacedSite → List ℕ
bootstraps ps = u2 (length ps) ++ flat_map bootstrap ps

-- one attribute of the class, which has the bootstrap methods
unfoldable pub class_attributes : List PlacedSite → List ℕ
class_attributes ps = u2 1 ++ attribute 8 (bootstraps ps)
