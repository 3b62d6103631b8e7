use Rattle.std.proofs.Common.{◌≡◌, ◌+◌, ◌<◌, ◌≤◌, ◌++◌, ◌∷◌, [], List, ℕ, eqb, leb, length, refl, arith, sym, ap, Some, None}
use Rattle.std.proofs.lemmas.Result.{err_from_is_err_and}
use Rattle.mh_class_bytes.proofs.Moves.{moves_again}
use Rattle.mh_class_pool.specs.Entries.{Slot}
use Rattle.mh_class_pool.proofs.PoolLoop.{IsAsked, starts, next_narrow, next_wide, stops, all_read}
use Rattle.mh_class_pool.proofs.pool.read_pool.Goals as goal

asked : (slots : List Slot) (kept : List ℕ) (count n k : ℕ) → length slots < count → n ≡ length slots → k ≡ length kept →
    IsAsked slots kept count (eqb (n + 1) count) (leb 256 k)
asked slots kept count n k lt index len = record {
  left = lt;
  last = ap (λ (m : ℕ). eqb (m + 1) count) index;
  filled = ap (λ (m : ℕ). leb 256 m) len;
}

pub loop-cursor-init : goal.loop-cursor-init
loop-cursor-init c =
    let e : c.push.new.self.items ≡ None ∷ [] = rw (c.in_ok-push.ensures.items, c.in_ok-slots.ensures.items) refl in
    let d : c.new-dynamics.result.items ≡ [] = c.new-dynamics.ensures.items in
    rw (e, d) (starts c.args.cursor.now c.args.count (omega arith))

pub returns-in_err-entry : goal.returns-in_err-entry
returns-in_err-entry c =
    let p = err_from_is_err_and c.from_residual-in_err-entry.result c.from_residual-in_err-entry.ensures.1 in
    let slots = c.loop-cursor.slots.items in
    let kept = c.loop-cursor.dynamics.items in
    let n : c.len-index.result ≡ length slots = omega arith in
    let k : c.len-is_full.result ≡ length kept = omega arith in
    let lt : length slots < c.args.count = omega arith in
    record {
      gives = record {
        found = rw (p.1, p.2) (stops c.args.cursor.now c.loop-cursor.cursor slots kept c.args.count _ _ c.loop-cursor.invariant
            (asked slots kept c.args.count c.len-index.result c.len-is_full.result lt n k) _ c.in_err-entry.ensures.reads.found);
        moves = moves_again c.loop-cursor.invariant.moves c.in_err-entry.ensures.reads.moves;
      };
    }

pub loop-cursor-preserved-in-Continue-branch-6 : goal.loop-cursor-preserved-in-Continue-branch-6
loop-cursor-preserved-in-Continue-branch-6 c =
    let slots = c.loop-cursor.slots.items in
    let kept = c.loop-cursor.dynamics.items in
    let n : c.len-index.result ≡ length slots = omega arith in
    let k : c.len-is_full.result ≡ length kept = omega arith in
    let lt : length slots < c.args.count = omega arith in
    let e : c.push-then-is_wide.new.self.items ≡ (slots ++ Some (c.loop-cursor.cursor.at, c.in_ok-entry.entry) ∷ []) ++ None ∷ [] =
    rw (c.in_ok-push-3.ensures.items, c.in_ok-push-2.ensures.items, c.at-at.ensures.place) refl in
    rw (e, c.in_ok-note.ensures, n) (next_wide c.args.cursor.now c.loop-cursor.cursor slots kept c.args.count _ _ c.loop-cursor.invariant
    (asked slots kept c.args.count c.len-index.result c.len-is_full.result lt n k) c.read_entry.new.cursor c.in_ok-entry.entry
    c.in_ok-entry.ensures.reads.found c.in_ok-entry.ensures.reads.moves (sym c.if-is_wide.ensures))

pub loop-cursor-preserved : goal.loop-cursor-preserved
loop-cursor-preserved c =
    let slots = c.loop-cursor.slots.items in
    let kept = c.loop-cursor.dynamics.items in
    let n : c.len-index.result ≡ length slots = omega arith in
    let k : c.len-is_full.result ≡ length kept = omega arith in
    let lt : length slots < c.args.count = omega arith in
    let e : c.push-in-loop-cursor.new.self.items ≡ slots ++ Some (c.loop-cursor.cursor.at, c.in_ok-entry.entry) ∷ [] =
    rw (c.in_ok-push-2.ensures.items, c.at-at.ensures.place) refl in
    rw (e, c.in_ok-note.ensures, n) (next_narrow c.args.cursor.now c.loop-cursor.cursor slots kept c.args.count _ _ c.loop-cursor.invariant
    (asked slots kept c.args.count c.len-index.result c.len-is_full.result lt n k) c.read_entry.new.cursor c.in_ok-entry.entry
    c.in_ok-entry.ensures.reads.found c.in_ok-entry.ensures.reads.moves (sym c.if-is_wide.ensures))

pub returns : goal.returns
returns c =
    let all : c.args.count ≤ length c.loop-cursor.slots.items = omega arith in
    record {
      gives = record {
        found = all_read c.args.cursor.now c.loop-cursor.cursor c.loop-cursor.slots.items c.loop-cursor.dynamics.items c.args.count
            c.loop-cursor.invariant all;
        moves = c.loop-cursor.invariant.moves;
      };
    }
