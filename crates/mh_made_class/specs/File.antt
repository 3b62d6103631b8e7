-- The class file that is made for call sites (JVMS 4.1).
use Rattle.std.specs.Prelude.{List, ◌++◌, ℕ}
use Rattle.mh_made_class.specs.declared.site.MadeSite.{MadeSite}
use Rattle.mh_made_class.specs.Sites.{pool_count}
use Rattle.mh_made_class.specs.Layout.{PlacedSite, placed}
use Rattle.mh_made_class.specs.Constants.{u2, u4, pool_of}
use Rattle.mh_made_class.specs.Parts.{methods, class_attributes}

-- magic, minor version 0 and major version 61
abbrev pub version : List ℕ
version = u4 0xCAFEBABE ++ u2 0 ++ u2 61

-- the class: public, with ACC_SUPER; its name and its superclass, and no interfaces
abbrev pub class_names : List ℕ
class_names = u2 0x0021 ++ u2 2 ++ u2 4 ++ u2 0

-- no fields
abbrev pub fields : List ℕ
fields = u2 0

-- the bytes of the class file for call sites that are placed in a pool of a count
abbrev pub class_parts : ℕ → List PlacedSite → List ℕ
class_parts count ps = version ++ pool_of count ps ++ class_names ++ fields ++ methods ps ++ class_attributes ps

-- the bytes of the class file
unfoldable pub made_class : List MadeSite → List ℕ
made_class sites = class_parts (pool_count sites) (placed sites)
