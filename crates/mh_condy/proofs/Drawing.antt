-- How a pass goes on: what it has learnt, attempted, recorded and drawn.
use Rattle.std.proofs.Common.{◌≡◌, refl, sym, ◌∙◌, ap, subst, ℕ, ◌+◌, ◌<◌, inl, inr, List, [], ◌∷◌, ◌++◌, append-nil, append_assoc, None, length, map, arith}
use Rattle.std.specs.Prelude.{All}
use Rattle.std.proofs.lemmas.Bool.{cases_lt}
use Rattle.std.proofs.lemmas.List.{get_or_append_left, get_or_push, length-append, map-append}
use Rattle.std.proofs.lemmas.List.Elements.{All-append, All-cons, All-nil, All-weaker}
use Rattle.mh_tickets.specs.Seats.{KnowsAll}
use Rattle.mh_condy.specs.Recorded.{ConstView}
use Rattle.mh_condy.specs.Nodes.{Keeps, node_in}
use Rattle.mh_condy.specs.Passes.{Begins, Learns, PassView, attempt_of, with_node}
use Rattle.mh_condy.specs.Resolving.{Attempts, GoesOnResolving, Rise}
use Rattle.mh_condy.proofs.Trails.{keeps-both, keeps-same}
use Rattle.mh_condy.proofs.Beside.{keeps-put}

-- ---- numbers that rise

rise-push : (xs : List ℕ) (n : ℕ) → Rise xs → All (λ m. m < n) xs → Rise (xs ++ n ∷ [])
rise-push xs n up low i j d below within =
    let len : length (xs ++ n ∷ []) ≡ length xs + 1 = length-append xs (n ∷ []) in
    elim (cases_lt j (length xs)) [
      | inl front ↦
          let a = get_or_append_left xs (n ∷ []) d i (omega arith) in
          let b = get_or_append_left xs (n ∷ []) d j front in
          let u = up i j d below front in
          omega (arith, a, b, u)
      | inr end ↦
          let a = get_or_append_left xs (n ∷ []) d i (omega (arith, len)) in
          let b = get_or_push xs n d j (omega (arith, len)) in
          let l = low i d (omega (arith, len)) in
          omega (arith, a, b, l)
    ]

-- ---- attempts

attempts-none : (p q : PassView) → q.attempts ≡ p.attempts → q.seat ≡ p.seat → Attempts p q
attempts-none p q same seat = record {
  more = [];
  attempts = same ∙ sym (append-nil p.attempts);
  own = All-nil (λ a. a.thread ≡ p.thread);
  tickets = ap (λ s. s.tickets) seat;
  numbers = ap (λ s. s.numbers) seat ∙ sym (append-nil p.seat.numbers);
  room = let r : q.seat.room ≡ p.seat.room = ap (λ s. s.room) seat in omega arith;
  rise = λ up. subst (λ s. Rise s.numbers) (sym seat) up;
  knows = λ k. subst KnowsAll (sym seat) k;
}

attempts-both : (p q r : PassView) → q.thread ≡ p.thread → Attempts p q → Attempts q r → Attempts p r
attempts-both p q r thread a b = record {
  more = a.more ++ b.more;
  attempts = b.attempts ∙ (ap (λ xs. xs ++ b.more) a.attempts ∙ append_assoc p.attempts a.more b.more);
  own = All-append (λ x. x.thread ≡ p.thread) a.more b.more a.own
      (All-weaker (λ x. x.thread ≡ q.thread) (λ x. x.thread ≡ p.thread) (λ x h. h ∙ thread) b.more b.own);
  tickets = b.tickets ∙ a.tickets;
  numbers =
      b.numbers
      ∙ (ap (λ xs. xs ++ map (λ x. x.serial) b.more) a.numbers
      ∙ (append_assoc p.seat.numbers (map (λ x. x.serial) a.more) (map (λ x. x.serial) b.more)
      ∙ ap (λ xs. p.seat.numbers ++ xs) (sym (map-append (λ x. x.serial) a.more b.more))));
  room =
      let len = length-append a.more b.more in
      let one = a.room in
      let two = b.room in
      omega (arith, len, one, two);
  rise = λ up. b.rise (a.rise up);
  knows = λ k. b.knows (a.knows k);
}

-- ---- passes

pub on-none : (p : PassView) → GoesOnResolving p p
on-none p = record {
  table = refl;
  thread = refl;
  known = keeps-same p.known;
  attempts = attempts-none p p refl refl;
  recorded = ([], sym (append-nil p.recorded));
}

pub on-both : (p q r : PassView) → GoesOnResolving p q → GoesOnResolving q r → GoesOnResolving p r
on-both p q r a b = record {
  table = b.table ∙ a.table;
  thread = b.thread ∙ a.thread;
  known = keeps-both p.known q.known r.known a.known b.known;
  attempts = attempts-both p q r a.thread a.attempts b.attempts;
  recorded = (
    a.recorded.0 ++ b.recorded.0,
    b.recorded.1 ∙ (ap (λ xs. xs ++ b.recorded.0) a.recorded.1 ∙ append_assoc p.recorded a.recorded.0 b.recorded.0),
  );
}

-- an attempt was begun
pub on-begins : (c serial : ℕ) (p q : PassView) → Begins c serial p q → GoesOnResolving p q
on-begins c serial p q b = record {
  table = ap (λ (x : PassView). x.table) b.is;
  thread = ap (λ (x : PassView). x.thread) b.is;
  known = subst (λ known. Keeps p.known known) (sym (ap (λ (x : PassView). x.known) b.is)) (keeps-same p.known);
  attempts = record {
    more = record { thread = p.thread; constant = c; serial = serial } ∷ [];
    attempts = ap (λ (x : PassView). x.attempts) b.is;
    own = All-cons (λ a. a.thread ≡ p.thread) (record { thread = p.thread; constant = c; serial = serial }) [] refl (All-nil (λ a. a.thread ≡ p.thread));
    tickets = b.draws.tickets;
    numbers = b.draws.numbers;
    room = let r = b.draws.room in omega arith;
    rise = λ up. subst Rise (sym b.draws.numbers) (rise-push p.seat.numbers serial up b.draws.greater);
    knows = λ k. b.knows;
  };
  recorded = ([], ap (λ (x : PassView). x.recorded) b.is ∙ sym (append-nil p.recorded));
}

-- a constant was learnt
pub on-learns : (c : ℕ) (node : ConstView) (p q : PassView) → Learns c node p q → c < length p.known → GoesOnResolving p q
on-learns c node p q l place = record {
  table = ap (λ (x : PassView). x.table) l.1;
  thread = ap (λ (x : PassView). x.thread) l.1;
  known = keeps-put p.known q.known c node place l.0 (ap (λ (x : PassView). x.known) l.1);
  attempts = attempts-none p q (ap (λ (x : PassView). x.attempts) l.1) (ap (λ (x : PassView). x.seat) l.1);
  recorded = ([], ap (λ (x : PassView). x.recorded) l.1 ∙ sym (append-nil p.recorded));
}

-- what an attempt has made was put
pub on-puts : (made : ConstView) (p q : PassView) → node_in p.known made.job.number ≡ None → made.job.number < length p.known →
    q ≡ record (with_node made.job.number made p) { recorded = p.recorded ++ attempt_of p.thread made ∷ [] } → GoesOnResolving p q
on-puts made p q none place is = record {
  table = ap (λ (x : PassView). x.table) is;
  thread = ap (λ (x : PassView). x.thread) is;
  known = keeps-put p.known q.known made.job.number made place none (ap (λ (x : PassView). x.known) is);
  attempts = attempts-none p q (ap (λ (x : PassView). x.attempts) is) (ap (λ (x : PassView). x.seat) is);
  recorded = (attempt_of p.thread made ∷ [], ap (λ (x : PassView). x.recorded) is);
}

-- nothing was recorded, but more may be known
pub on-fails : (p q : PassView) → Keeps p.known q.known → q ≡ record p { known = q.known } → GoesOnResolving p q
on-fails p q keeps is = record {
  table = ap (λ (x : PassView). x.table) is;
  thread = ap (λ (x : PassView). x.thread) is;
  known = keeps;
  attempts = attempts-none p q (ap (λ (x : PassView). x.attempts) is) (ap (λ (x : PassView). x.seat) is);
  recorded = ([], ap (λ (x : PassView). x.recorded) is ∙ sym (append-nil p.recorded));
}
