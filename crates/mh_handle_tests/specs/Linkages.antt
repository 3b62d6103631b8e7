-- What a call site links, as contracts see it.
use Rattle.std.specs.Prelude.{ℕ}
use Rattle.mh_handle.specs.Stands.{HandleView}

-- the number of a call site, and the handle of its target
pub record LinkageView : Type 0 where
  pub site : ℕ
  pub target : HandleView
