-- What a request and a release trade.
use Rattle.std.proofs.Common.{◌≡◌, List, [], ◌∷◌, ap, arith, Result, Ok, Err}
use Rattle.atomic_table.specs.Seated.{TableId}
use Rattle.mh_values.specs.declared.types.MethodTy.{MethodTy}
use Rattle.mh_intern.specs.declared.error.InternError.{InternError}
use Rattle.mh_intern.specs.declared.error.InternError.TheVariants.{NoMemory, TypesFull}
use Rattle.mh_intern.specs.declared.holding.Entry.{Entry}
use Rattle.mh_intern.specs.Held.{has}
use Rattle.mh_intern.specs.Lists.{entry, is_entry, removed}
use Rattle.mh_intern.specs.declared.holding.Holding.{Holding}
use Rattle.mh_intern.specs.Interning.{Interned}
use Rattle.mh_intern.specs.Seats.{held_at}
use Rattle.mh_intern.specs.Trades.{Trades, HoldsAll, hold_of}
use Rattle.mh_intern.proofs.Measures.{count_cons}
use Rattle.mh_intern.proofs.Entries.{bit, In, entry-itself}
use Rattle.mh_intern.proofs.HoldCounts.{has_more, has_less}

-- a part that is not gone is still there
pub still_held : (e : Entry) (old gone came mid : List Entry) → Trades old gone came mid → HoldsAll old (e ∷ gone) → In mid e
still_held e old gone came mid t all =
    let o : bit (is_entry e e) ≡ 1 = ap bit (entry-itself e) in
    omega (arith, t.counts e.slot e.ty, all.counts e.slot e.ty, count_cons (λ (x : Entry). is_entry x e) e gone)

-- the first part is there
pub part_held : (e : Entry) (old rest : List Entry) → HoldsAll old (e ∷ rest) → In old e
part_held e old rest all =
    let o : bit (is_entry e e) ≡ 1 = ap bit (entry-itself e) in
    omega (arith, all.counts e.slot e.ty, count_cons (λ (x : Entry). is_entry x e) e rest)

-- without one of the parts, the others are there
pub holds_fewer : (e : Entry) (old gone : List Entry) → HoldsAll old (e ∷ gone) → HoldsAll old gone
holds_fewer e old gone all = record {
  counts = λ k u. omega (arith, all.counts k u, count_cons (λ (x : Entry). is_entry x (entry k u)) e gone);
}

-- what a request trades
pub trades_interned : (holders : TableId) (t : MethodTy) (v : Holding) (r : Result Entry InternError) (w : Holding) → Interned t v r w
    → Trades v.holds [] (hold_of (held_at holders r)) w.holds
trades_interned holders t v (Ok h) w (is, small, now) = record {
  counts = λ k u.
      let n : has k u w.holds ≡ has k u (h ∷ v.holds) = ap (λ z. has k u z.holds) now in
      omega (arith, has_more h (entry k u) v.holds, count_cons (λ (e : Entry). is_entry e (entry k u)) h []);
}
trades_interned holders t v (Err NoMemory) w now = record {
  counts = λ k u. let n : has k u w.holds ≡ has k u v.holds = ap (λ z. has k u z.holds) now in omega arith;
}
trades_interned holders t v (Err (TypesFull b)) w (is, (f, for, now)) = record {
  counts = λ k u. let n : has k u w.holds ≡ has k u v.holds = ap (λ z. has k u z.holds) now in omega arith;
}

-- what a release trades
pub trades_lowered : (e : Entry) (old : List Entry) → In old e → Trades old (e ∷ []) [] (removed e old)
trades_lowered e old held = record {
  counts = λ k u. omega (arith, has_less e (entry k u) old held, count_cons (λ (x : Entry). is_entry x (entry k u)) e []);
}
