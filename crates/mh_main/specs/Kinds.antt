-- The kinds of faults of class files, as refusals print them.
use Rattle.std.specs.Prelude.{ℕ, List, codes}
use Rattle.mh_class_pool.specs.declared.fault.ClassKind.{ClassKind}
use Rattle.mh_class_pool.specs.declared.fault.ClassKind.TheVariants.{Truncated, BadMagic, BadVersion, BadTag, BadIndex, WrongKind, BadText, BadCode, BadBootstraps, Trailing, TooManySites, BadDescriptor, TooManyConstants}

-- the name of a kind of fault
abbrev pub class_word : ClassKind → List ℕ
class_word Truncated = codes "Truncated"
class_word BadMagic = codes "BadMagic"
class_word BadVersion = codes "BadVersion"
class_word BadTag = codes "BadTag"
class_word BadIndex = codes "BadIndex"
class_word WrongKind = codes "WrongKind"
class_word BadText = codes "BadText"
class_word BadCode = codes "BadCode"
class_word BadBootstraps = codes "BadBootstraps"
class_word Trailing = codes "Trailing"
class_word TooManySites = codes "TooManySites"
class_word BadDescriptor = codes "BadDescriptor"
class_word TooManyConstants = codes "TooManyConstants"
