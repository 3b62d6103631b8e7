-- What works leave of the types that a seat holds.
use Rattle.std.proofs.Common.{◌≡◌, refl, sym, ◌∙◌, ap, ℕ, ◌+◌, ◌<◌, Bool, List, [], ◌∷◌, ◌++◌, length, count_by, arith}
use Rattle.mh_values.specs.declared.types.MethodTy.{MethodTy}
use Rattle.mh_values.specs.Same.{is_same_method_type}
use Rattle.mh_intern.specs.declared.holding.Entry.{Entry}
use Rattle.mh_intern.specs.Exchanges.{Exchanges, entries_of}
use Rattle.mh_intern.specs.Held.{has, on_type}
use Rattle.mh_intern.specs.Lists.{entry, is_entry, removed}
use Rattle.mh_intern.specs.Views.{HoldView, SeatView}
use Rattle.mh_intern.proofs.Entries.{bit, entry-itself, removed_count}
use Rattle.mh_intern.proofs.HoldCounts.{has_less}
use Rattle.mh_intern.proofs.Measures.{count_append, count_cons}
use Rattle.mh_handle.specs.declared.work.Work.{Work}
use Rattle.mh_jobs.specs.Given.{Given}
use Rattle.mh_attempt.specs.Several.{Adds}
use Rattle.mh_attempt.proofs.types.Adding.{came-then}
use Rattle.mh_report.specs.declared.attempt.Attempt.{Attempt}
use Rattle.mh_runtime.specs.Linking.{KeepsOthers, KeepsTypes}

-- ---- counts

-- where nothing is there, nothing is counted
none-counted : (p : Entry → Bool) (ys : List Entry) → ((k : ℕ) (t : MethodTy) → has k t ys ≡ 0) → count_by p ys ≡ 0
none-counted p [] none = refl
none-counted p (y ∷ ys) none =
    let o : bit (is_entry y y) ≡ 1 = ap bit (entry-itself y) in
    let n = none y.slot y.ty in
    absurd (omega (arith, n, count_cons (λ (e : Entry). is_entry e y) y ys, o))

-- where two lists have each entry as often, all is counted alike
pub same-counts : (p : Entry → Bool) (xs ys : List Entry) → ((k : ℕ) (t : MethodTy) → has k t xs ≡ has k t ys) → count_by p xs ≡ count_by p ys
same-counts p [] ys same = sym (none-counted p ys (λ k t. sym (same k t)))
same-counts p (x ∷ xs) ys same =
    let o : bit (is_entry x x) ≡ 1 = ap bit (entry-itself x) in
    let s = same x.slot x.ty in
    let there : 0 < has x.slot x.ty ys = omega (arith, s, count_cons (λ (e : Entry). is_entry e x) x xs, o) in
    let rest = same-counts p xs (removed x ys) (λ k t.
    let q = same k t in omega (arith, q, count_cons (λ (e : Entry). is_entry e (entry k t)) x xs, has_less x (entry k t) ys there)) in
    omega (arith, rest, count_cons p x xs, removed_count p x ys there)

-- the types of a seat after an exchange
pub exchanged-types : (asks : List MethodTy) (gone came : List HoldView) (old new : SeatView) (t : MethodTy) → Exchanges asks gone came old new →
    on_type t new.holds + on_type t (entries_of gone) ≡ on_type t old.holds + on_type t (entries_of came)
exchanged-types asks gone came old new t x =
    let p : Entry → Bool = λ e. is_same_method_type e.ty t in
    let both = same-counts p (new.holds ++ entries_of gone) (old.holds ++ entries_of came) (λ k u.
    let one : Entry → Bool = λ e. is_entry e (entry k u) in
    let c = x.traded.counts k u in
    omega (arith, c, count_append one new.holds (entries_of gone), count_append one old.holds (entries_of came))) in
    omega (arith, both, count_append p new.holds (entries_of gone), count_append p old.holds (entries_of came))

-- ---- works

-- nothing came and nothing is gone
pub keeps-adds : (old new : Work) → Adds [] old new → KeepsTypes old new
keeps-adds old new adds = record {
  table = adds.1.table;
  whole = omega (arith, adds.1.many, adds.1.room);
  types = λ t. let e = exchanged-types adds.0 [] [] old.seat.now new.seat.now t adds.1 in omega (arith, e);
}

-- a handle came, and was handed back
pub keeps-back : (came : List HoldView) (old mid new : Work) → Adds came old mid → Exchanges [] came [] mid.seat.now new.seat.now → KeepsTypes old new
keeps-back came old mid new adds back = keeps-adds old new (came-then [] came [] old mid new adds back)

pub keeps-still : (old new : Work) → new.seat.now ≡ old.seat.now → KeepsTypes old new
keeps-still old new same = record {
  table = ap (λ (s : SeatView). s.table) same;
  whole = ap (λ (s : SeatView). s.room + length s.holds) same;
  types = λ t. ap (λ (s : SeatView). on_type t s.holds) same;
}

-- nothing was recorded
pub keeps-recorded : (given : Given) (recorded : List Attempt) (old new : Work) → KeepsTypes old new → KeepsOthers given recorded recorded old new
keeps-recorded given recorded old new keeps =
    record { table = keeps.table; whole = keeps.whole; types = λ t. let k = keeps.types t in omega (arith, k) }

pub keeps-both : (given : Given) (a b c : List Attempt) (old mid new : Work) → KeepsOthers given a b old mid → KeepsOthers given b c mid new →
    KeepsOthers given a c old new
keeps-both given a b c old mid new first second = record {
  table = second.table ∙ first.table;
  whole = second.whole ∙ first.whole;
  types = λ t. let p = first.types t in let q = second.types t in omega (arith, p, q);
}
