use Rattle.std.proofs.Common.{◌≡◌, ℕ, [], length}
use lib.ListN.{get_elem?}
use mathlib.Core.Option.{some}
use Rattle.mh_intern.specs.Kinds.{dealt}
use Rattle.mh_intern.specs.Claims.{KeeperSlot, HasKeeper}
use Rattle.mh_intern.proofs.keeper.deal_keepers.Given as goal

abbrev pub invariant-loop-bucket : goal.invariant-loop-bucket
invariant-loop-bucket l =
    (l.first.table_id ≡ l.fn.first.table_id) × (l.first.me ≡ (dealt l.bucket, [])) × (length l.keepers.items ≡ l.bucket)
    × ((b : ℕ) (x : KeeperSlot) → get_elem? l.keepers.items b ≡ some x → HasKeeper l.fn.first.table_id b x)
