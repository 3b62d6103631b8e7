use Rattle.std.proofs.Common.{◌≡◌, length, All}
use Rattle.mh_setonce.specs.Views.{room_of}
use Rattle.mh_handle.specs.Chains.{chain_room}
use Rattle.mh_handle.proofs.table.all_chains.Given as goal

abbrev pub invariant-loop : goal.invariant-loop
invariant-loop l = (length l.chains.items ≡ l.counter) × All (λ c. room_of c ≡ chain_room) l.chains.items
