use Rattle.std.proofs.Common.{◌≡◌, ◌<◌, ◌≤◌, ◌++◌, ◌∷◌, [], ℕ, ltb, length, refl, sym, ap, ◌∙◌, arith}
use Rattle.std.proofs.lemmas.Result.{err_from_is_err_and}
use Rattle.std.proofs.lemmas.List.{append-nil}
use Rattle.mh_class_bytes.proofs.Moves.{moves_again}
use Rattle.mh_classfile.proofs.SitesLoop.{finding-starts, finding-next, finding-stops, finding-done}
use Rattle.mh_classfile.proofs.code.read_sites.Goals as goal

pub instructions-init : goal.instructions-init
instructions-init c = record { finding = finding-starts _ _ _ _ _ _ _ c.requires.begun; room = refl }

pub returns-in_err-site-clause-gives : goal.returns-in_err-site-clause-gives
returns-in_err-site-clause-gives c =
    let p = err_from_is_err_and c.from_residual.result c.from_residual.ensures.1 in
    let found = c.instructions.sites.sites in
    let room : c.has_room-has_room.result ≡ ltb (length found) c.args.sites.now.room = c.has_room-has_room.ensures ∙ ap (λ (r : ℕ). ltb (length found) r)
    c.instructions.invariant.room in
    let lt : c.instructions.cursor.at < c.args.end = omega arith in
    record {
      found = rw (p.1, p.2) (finding-stops c.args.code.now.pool.now c.args.code.now.method c.args.sites.now.room c.args.code.now.start c.args.end
          c.args.cursor.now c.instructions.cursor c.args.sites.now.sites found _ c.instructions.invariant.finding lt
          (rw room at c.in_err-site.ensures.reads.found));
      moves = moves_again c.instructions.invariant.finding.moves c.in_err-site.ensures.reads.moves;
    }

pub instructions-preserved-in-Continue-branch-3 : goal.instructions-preserved-in-Continue-branch-3
instructions-preserved-in-Continue-branch-3 c =
    let found = c.instructions.sites.sites in
    let room : c.has_room-has_room.result ≡ ltb (length found) c.args.sites.now.room = c.has_room-has_room.ensures ∙ ap (λ (r : ℕ). ltb (length found) r)
    c.instructions.invariant.room in
    let lt : c.instructions.cursor.at < c.args.end = omega arith in
    let reads = rw (room, c.in-Some.is) at c.in_ok-site.ensures.reads.found in
    record {
      finding = rw c.in_ok-push.ensures.ok (finding-next c.args.code.now.pool.now c.args.code.now.method c.args.sites.now.room c.args.code.now.start c.args.end
          c.args.cursor.now c.instructions.cursor c.read_instruction.new.cursor c.args.sites.now.sites found (c.in-Some.site ∷ [])
          c.instructions.invariant.finding lt c.in_ok-site.ensures.onward c.in_ok-site.ensures.reads.moves reads);
      room = c.in_ok-push.ensures.room ∙ c.instructions.invariant.room;
    }

pub instructions-preserved : goal.instructions-preserved
instructions-preserved c =
    let found = c.instructions.sites.sites in
    let room : c.has_room-has_room.result ≡ ltb (length found) c.args.sites.now.room = c.has_room-has_room.ensures ∙ ap (λ (r : ℕ). ltb (length found) r)
    c.instructions.invariant.room in
    let lt : c.instructions.cursor.at < c.args.end = omega arith in
    let reads = rw (room, c.in_default.is) at c.in_ok-site.ensures.reads.found in
    let e : found ≡ found ++ [] = sym (append-nil found) in
    record {
      finding = rw e (finding-next c.args.code.now.pool.now c.args.code.now.method c.args.sites.now.room c.args.code.now.start c.args.end c.args.cursor.now
          c.instructions.cursor c.read_instruction.new.cursor c.args.sites.now.sites found [] c.instructions.invariant.finding lt
          c.in_ok-site.ensures.onward c.in_ok-site.ensures.reads.moves reads);
      room = c.instructions.invariant.room;
    }

pub returns-clause-gives : goal.returns-clause-gives
returns-clause-gives c =
    let le : c.args.end ≤ c.instructions.cursor.at = omega arith in
    record {
      found = finding-done c.args.code.now.pool.now c.args.code.now.method c.args.sites.now.room c.args.code.now.start c.args.end c.args.cursor.now
          c.instructions.cursor c.args.sites.now.sites c.instructions.sites.sites c.instructions.invariant.finding le;
      moves = c.instructions.invariant.finding.moves;
    }
