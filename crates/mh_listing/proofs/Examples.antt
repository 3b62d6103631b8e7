-- A listing of a class, by computation.
use Rattle.std.proofs.Common.{◌≡◌, [], ◌∷◌, codes, refl}
use Rattle.std.specs.Fmt.{digits}
use Rattle.mh_class_bytes.specs.Mutf8.{unit_len}
use Rattle.mh_class_bytes.specs.Chars.{units_from, shown}
use Rattle.mh_classfile.specs.declared.constant.SiteView.{SiteView}
use Rattle.mh_classfile.specs.Class.{Class, Bootstrap}
use Rattle.mh_listing.specs.Listing.{printed, site_line, listing}

-- a call site at 5 of the method `run()V`
a_site : SiteView
a_site = record { method = codes "run"; method_descriptor = codes "()V"; pc = 5; bootstrap = 0; name = codes "f"; descriptor = codes "(I)I" }

-- the static method `li nk` of the class `a/Boot`
a_bootstrap : Bootstrap
a_bootstrap = record { handle = record { kind = 6; owner = codes "a/Boot"; name = codes "li nk"; descriptor = codes "()V" }; arguments = [] }

a_class : Class
a_class = record { constants = []; dynamics = []; sites = a_site ∷ []; bootstraps = a_bootstrap ∷ [] }

a_line : site_line 3 a_class a_site ≡ codes "site 3 run:()V 5 6 a/Boot.li\\snk:()V f (I)I\n"
unfolding a_site a_bootstrap a_class units_from unit_len shown digits
a_line = refl

-- the sites of both are counted
two_classes : listing (a_class ∷ a_class ∷ []) ≡ codes "site 0 run:()V 5 6 a/Boot.li\\snk:()V f (I)I\nsite 1 run:()V 5 6 a/Boot.li\\snk:()V f (I)I\nsites 2\n"
unfolding a_site a_bootstrap a_class units_from unit_len shown digits
two_classes = refl

half_printed : printed (0x41 ∷ 0xED ∷ 0xA0 ∷ 0xBD ∷ []) ≡ codes "A\\u{fffd}"
unfolding units_from unit_len shown digits
half_printed = refl
