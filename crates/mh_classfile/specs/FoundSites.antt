-- What contracts see of the call sites that are found.
use Rattle.std.specs.Prelude.{ℕ, List}
use Rattle.mh_classfile.specs.declared.site.Site.{Site}

-- the call sites so far, and how many may be found
pub record FoundSites : Type 0 where
  pub sites : List Site
  pub room : ℕ
