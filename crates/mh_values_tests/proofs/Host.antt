-- The manifest of the tests, as the checker computes it.
use Rattle.std.specs.Prelude.{◌≡◌, refl, codes, Ok}
use Rattle.mh_leaves.specs.Manifest.{manifest}
use Rattle.mh_values_tests.specs.Host.{host}

pub host-is : manifest (codes "class demo/Host java/lang/Object\nstatic demo/Host tick (I)I tick\nstatic demo/Host div (II)I idiv\n") ≡ Ok host
host-is = refl
