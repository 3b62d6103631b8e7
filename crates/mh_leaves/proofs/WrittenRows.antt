-- Manifests as they are written again, by computation.
use Rattle.std.proofs.Common.{◌≡◌, refl, true, false, [], ◌∷◌, ◌++◌, codes, None, Some, Ok}
use Rattle.mh_values.specs.Class.{class_at, class_below, builtin_classes, string_class}
use Rattle.mh_values.specs.declared.types.Ty.TheVariants as ty
use Rattle.mh_leaf.specs.declared.leaf.Kind.TheVariants as kind
use Rattle.mh_leaf.specs.LeafTable.{LeafTable}
use Rattle.mh_leaves.specs.Kinds.{word_kind}
use Rattle.mh_leaves.specs.Manifest.{manifest}
use Rattle.mh_leaves.specs.Written.{manifest_text}

-- two classes, a static leaf and a virtual one
abbrev table : LeafTable
table = record {
  classes = builtin_classes ++ class_below (codes "demo/Text") 0 ∷ class_below (codes "demo/Fault") 10 ∷ [];
  leaves = record {
    owner = class_at 28;
    name = codes "same";
    descriptor = codes "(Ljava/lang/String;)Ljava/lang/String;";
    is_virtual = false;
    ty = record { params = ty.Class string_class ∷ []; ret = Some (ty.Class string_class) };
    kind = kind.Same;
  } ∷ record {
    owner = class_at 28;
    name = codes "fail";
    descriptor = codes "()V";
    is_virtual = true;
    ty = record { params = ty.Class (class_at 28) ∷ []; ret = None };
    kind = kind.Throw (class_at 29);
  } ∷ [];
}

written : manifest_text table ≡
    codes "class demo/Text java/lang/Object\nclass demo/Fault java/lang/Exception\n" ++
    codes "static demo/Text same (Ljava/lang/String;)Ljava/lang/String; same\nvirtual demo/Text fail ()V throw:demo/Fault\n"
written = refl

-- the same table, from lines in another order, with a comment and an empty line
in_order :
    manifest (codes "# demo\nclass demo/Text java/lang/Object\n\n" ++
    codes "static demo/Text same (Ljava/lang/String;)Ljava/lang/String; same\n" ++
    codes "class demo/Fault java/lang/Exception\nvirtual demo/Text fail ()V throw:demo/Fault")
    ≡ Ok table
in_order = refl

a_word_alone : word_kind (codes "tick") ≡ Some kind.Tick
a_word_alone = refl

no_word_alone : word_kind (codes "throw:demo/Fault") ≡ None
no_word_alone = refl
