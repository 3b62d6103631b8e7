-- The numbers that calls may draw one after the other.
use Rattle.std.proofs.Common.{◌≡◌, sym, ◌∙◌, ap, subst, ℕ, ◌+◌, ◌<◌, ◌≤◌, List, [], ◌∷◌, ◌++◌, length, length-append, take, drop, get_or, refl, arith}
use Rattle.std.proofs.lemmas.List.{take_more, take-append-drop}
use Rattle.mh_handle.specs.declared.work.Work.{Work}
use Rattle.mh_handle.specs.Works.{GoesOn, IsReady}
use Rattle.mh_handle.proofs.obeying.Going.{goes_on-both, goes_on-more}
use Rattle.mh_plan.specs.declared.call.Call.{Call}
use Rattle.mh_plan.specs.Limits.{calls_in}
use Rattle.mh_runtime.specs.Asking.{call_draws, thread_draws}

-- the calls of all threads, and of more threads
calls_in-append : (threads more : List (List Call)) → calls_in (threads ++ more) ≡ calls_in threads + calls_in more
calls_in-append [] more = omega arith
calls_in-append (calls ∷ threads) more = let others : calls_in (threads ++ more) ≡ calls_in threads + calls_in more = calls_in-append threads more in
    omega (arith, others)

thread_draws-append : (calls more : List Call) → thread_draws (calls ++ more) ≡ thread_draws calls + thread_draws more
thread_draws-append calls more = let all : length (calls ++ more) ≡ length calls + length more = length-append calls more in omega (arith, all)

-- ---- one item after the other, where items draw together as many numbers as each for itself

-- items of which each may draw so many numbers, and all of them so many
pub record Draw {X : Type 0} (each : X → ℕ) (all : List X → ℕ) : Type 0 where
  pub append : (xs ys : List X) → all (xs ++ ys) ≡ all xs + all ys
  pub one : (x : X) → all (x ∷ []) ≡ each x

pub calls-draw : Draw {X = Call} (λ call. call_draws) thread_draws
calls-draw = record { append = thread_draws-append; one = λ call. refl }

module _ {X : Type 0} (each : X → ℕ) (all : List X → ℕ) (draw : Draw each all) where
  one-more : (xs : List X) (i : ℕ) (x : X) → i < length xs → x ≡ get_or xs i x → all (take (i + 1) xs) ≡ all (take i xs) + each x
  one-more xs i x within is =
      ap all (take_more xs i x within)
      ∙ (draw.append (take i xs) (get_or xs i x ∷ []) ∙ ap (λ n. all (take i xs) + n) (draw.one (get_or xs i x) ∙ ap each (sym is)))

  front : (xs : List X) (i : ℕ) → all (take i xs) ≤ all xs
  front xs i =
      let whole : all xs ≡ all (take i xs) + all (drop i xs) = ap all (sym (take-append-drop i xs)) ∙ draw.append (take i xs) (drop i xs) in
      omega (arith, whole)

  -- there is room for the next item
  pub ready-next : (xs : List X) (i : ℕ) (x : X) (old mid : Work) → i < length xs → x ≡ get_or xs i x → IsReady old (all xs) →
      GoesOn (all (take i xs)) old mid → IsReady mid (each x)
  ready-next xs i x old mid within is ready goes =
      let next : all (take (i + 1) xs) ≡ all (take i xs) + each x = one-more xs i x within is in
      let within_all : all (take (i + 1) xs) ≤ all xs = front xs (i + 1) in
      record {
        of_table = goes.table ∙ (ready.of_table ∙ ap (λ forms. forms.now) (sym goes.forms));
        room = omega (arith, next, within_all, ready.room, goes.room);
        of_types = goes.seat ∙ (ready.of_types ∙ ap (λ types. types.now) (sym goes.types));
        holds = omega (arith, next, within_all, ready.holds, goes.holds);
      }

  -- after the next item
  pub goes-next : (xs : List X) (i : ℕ) (x : X) (old mid new : Work) → i < length xs → x ≡ get_or xs i x → GoesOn (all (take i xs)) old mid →
      GoesOn (each x) mid new → GoesOn (all (take (i + 1) xs)) old new
  goes-next xs i x old mid new within is before next =
      subst (λ n. GoesOn n old new) (sym (one-more xs i x within is)) (goes_on-both (all (take i xs)) (each x) old mid new before next)

  -- after the first items, of all that may draw
  pub goes-whole : (xs ys : List X) (i : ℕ) (old new : Work) → xs ≡ ys → GoesOn (all (take i xs)) old new → GoesOn (all ys) old new
  goes-whole xs ys i old new same goes =
      subst (λ zs. GoesOn (all zs) old new) same (goes_on-more (all (take i xs)) (all xs) old new (front xs i) goes)

  -- and after the next one
  pub goes-within : (xs ys : List X) (i : ℕ) (x : X) (old mid new : Work) → xs ≡ ys → i < length xs → x ≡ get_or xs i x →
      GoesOn (all (take i xs)) old mid → GoesOn (each x) mid new → GoesOn (all ys) old new
  goes-within xs ys i x old mid new same within is before next =
      goes-whole xs ys (i + 1) old new same (goes-next xs i x old mid new within is before next)
