-- The call sites that are made from a number, and their class file.
use Rattle.std.specs.Prelude.{ℕ, ◌+◌, ◌%◌, pos, List, [], ◌∷◌, codes, map}
use Rattle.std.specs.List.{range_with_len}
use Rattle.mh_made_class.specs.declared.site.MadeArg.TheVariants as args
use Rattle.mh_made_class.specs.declared.site.MadeSite.{MadeSite}
use Rattle.mh_made_class.specs.File.{made_class}
use Rattle.mh_generated.specs.Counts.{site_count}

-- the static argument of a call site
abbrev pub constant_of : ℕ → ℕ → ℕ
constant_of number site = (number + site) % 1000

-- a call site: of the script `link` and the type `(I)I`, with that int
abbrev pub site_of : ℕ → ℕ → MadeSite
site_of number site =
    record { script = codes "link"; ty = codes "(I)I"; args = args.Integer (pos (constant_of number site)) ∷ [] }

-- all call sites, in order
abbrev pub sites_of : ℕ → List MadeSite
sites_of number = map (site_of number) (range_with_len 0 (site_count number))

-- the class file
unfoldable pub class_file : ℕ → List ℕ
class_file number = made_class (sites_of number)
