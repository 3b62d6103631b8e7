-- A keeper that may be put into the slot of its bucket.
use Rattle.std.specs.Prelude.{◌≡◌, ℕ, []}
use Rattle.atomic_table.specs.Seated.{TableId}
use Rattle.mh_intern.specs.declared.keeper.Keeper.{Keeper}
use Rattle.mh_intern.specs.Lists.{Listed}
use Rattle.mh_intern.specs.Kinds.{at_rest}

-- It belongs to these holders, is at rest, and keeps this bucket alone. The list beside it is the one in its view, with slots and types of the bucket, each
-- once.
pub record IsKeeper (holders : TableId) (bucket : ℕ) (k : Keeper) : Type 0 where
  pub of : k.seat.table_id ≡ holders
  pub free : k.seat.me.1 ≡ []
  pub view : k.seat.me.0 ≡ at_rest bucket k.entries.items
  pub listed : Listed bucket k.entries.items
