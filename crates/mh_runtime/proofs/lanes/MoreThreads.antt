-- Threads with what they have used, or lanes for them, and one more.
use Rattle.std.proofs.Common.{◌≡◌, sym, ◌∙◌, ap, subst, ℕ, zero, suc, ◌+◌, ◌≤◌, List, [], ◌∷◌, ◌++◌, length, length-append, Option, Some, ⊎_elim, arith}
use Rattle.std.specs.Prelude.{slice_get}
use Rattle.std.proofs.lemmas.Option.{slice_get_within}
use Rattle.mh_base.proofs.Slices.{slice_get-push}
use Rattle.mh_edit.specs.declared.key.Key.{Key}
use Rattle.mh_jobs.specs.Given.{Found, Given, under}
use Rattle.mh_attempt.specs.declared.error.WorkError.{WorkError}
use Rattle.mh_plan.specs.declared.call.Call.{Call}
use Rattle.mh_plan.specs.Limits.{calls_in}
use Rattle.mh_runtime.specs.declared.lane.Lane.{Lane}
use Rattle.mh_runtime.specs.declared.pass.Pass.{Pass}
use Rattle.mh_runtime.specs.Bases.{Base}
use Rattle.mh_runtime.specs.Joined.{AreDone, AreUsed, HasDrawnFew, HaveDrawnFew, IsDoneBy, IsUsedBy, ThreadPasses}
use Rattle.mh_runtime.specs.Joining.{AreFresh, IsFreshFor}
use Rattle.mh_runtime.specs.RunStops.{HasMade, HaveMade}

-- ---- pairs

-- a relation holds of the items at each place of two lists
abbrev pub Each : {X Y : Type 0} → (ℕ → X → Y → Type 0) → List X → List Y → Type 0
Each {X} {Y} R xs ys = (i : ℕ) (x : X) (y : Y) → slice_get xs i ≡ Some x → slice_get ys i ≡ Some y → R i x y

pub each-push : {X Y : Type 0} (R : ℕ → X → Y → Type 0) (xs : List X) (ys : List Y) (x : X) (y : Y) → length ys ≡ length xs → Each R xs ys →
    R (length xs) x y → Each R (xs ++ x ∷ []) (ys ++ y ∷ [])
each-push {X} {Y} R xs ys x y same each one i a b is there =
    ⊎_elim
    (λ (before : slice_get xs i ≡ Some a). ⊎_elim
    (λ (old : slice_get ys i ≡ Some b). each i a b before old)
    (λ (last : (i ≡ length ys) × (y ≡ b)). absurd (let w = slice_get_within xs i a before in omega (arith, w, last.0, same)))
    (slice_get-push ys y i b there))
    (λ (last : (i ≡ length xs) × (x ≡ a)). ⊎_elim
    (λ (old : slice_get ys i ≡ Some b). absurd (let w = slice_get_within ys i b old in omega (arith, w, last.0, same)))
    (λ (here : (i ≡ length ys) × (y ≡ b)).
    subst (λ n. R n a b) (sym last.0) (subst (λ z. R (length xs) z b) last.1 (subst (R (length xs) x) here.1 one)))
    (slice_get-push ys y i b there))
    (slice_get-push xs x i a is)

one-longer : {X Y : Type 0} (xs : List X) (ys : List Y) (x : X) (y : Y) → length ys ≡ length xs → length (ys ++ y ∷ []) ≡ length (xs ++ x ∷ [])
one-longer xs ys x y same = length-append ys (y ∷ []) ∙ (ap (λ n. n + 1) same ∙ sym (length-append xs (x ∷ [])))

-- ---- threads

pub used-push : (given : Given) (threads : List (List Call)) (all : List ThreadPasses) (calls : List Call) (p : ThreadPasses) → AreUsed given threads all →
    IsUsedBy given (length threads) calls p → AreUsed given (threads ++ calls ∷ []) (all ++ p ∷ [])
used-push given threads all calls p used one = record {
  count = one-longer threads all calls p used.count;
  each = each-push (λ thread calls p. IsUsedBy given thread calls p) threads all calls p used.count used.each one;
}

-- whatever values constants have
pub used-under : (given : Given) (known : Found) (threads : List (List Call)) (all : List ThreadPasses) → AreUsed given threads all →
    AreUsed (under known given) threads all
used-under given known threads all used = record {
  count = used.count;
  each = λ thread calls passes named at.
      let one = used.each thread calls passes named at in
      record { thread_is = one.thread_is; run = one.run };
}

pub done-push : (threads : List (List Call)) (all : List ThreadPasses) (calls : List Call) (p : ThreadPasses) →
    length all ≡ length threads → AreDone threads all → IsDoneBy calls p → AreDone (threads ++ calls ∷ []) (all ++ p ∷ [])
done-push threads all calls p same done one = each-push (λ thread calls p. IsDoneBy calls p) threads all calls p same done one

pub drawn-push : (given : Given) (before : List (List Key)) (threads : List (List Call)) (all : List ThreadPasses) (calls : List Call) (p : ThreadPasses) →
    length all ≡ length threads → HaveDrawnFew given before threads all → HasDrawnFew given before calls p →
    HaveDrawnFew given before (threads ++ calls ∷ []) (all ++ p ∷ [])
drawn-push given before threads all calls p same drawn one =
    each-push (λ thread calls p. HasDrawnFew given before calls p) threads all calls p same drawn one

pub made-push : (given : Given) (base : Base) (threads : List (List Call)) (ends : List (Option WorkError)) (calls : List Call) (end : Option WorkError) →
    HaveMade given base threads ends → HasMade given base (length threads) calls end → HaveMade given base (threads ++ calls ∷ []) (ends ++ end ∷ [])
made-push given base threads ends calls end made one = record {
  count = one-longer threads ends calls end made.count;
  each = each-push (λ thread calls end. HasMade given base thread calls end) threads ends calls end made.count made.each one;
}

-- ---- lanes

pub fresh-push : {J : Type 0} (given : Given) (base : Pass J) (threads : List (List Call)) (lanes : List (Lane J)) (calls : List Call) (lane : Lane J) →
    AreFresh given base threads lanes → IsFreshFor given base (length threads) calls lane → AreFresh given base (threads ++ calls ∷ []) (lanes ++ lane ∷ [])
fresh-push given base threads lanes calls lane fresh one = record {
  count = one-longer threads lanes calls lane fresh.count;
  each = each-push (λ thread calls lane. IsFreshFor given base thread calls lane) threads lanes calls lane fresh.count fresh.each one;
}

-- no thread makes more calls than all together
pub few-each : (threads : List (List Call)) (i : ℕ) (calls : List Call) → slice_get threads i ≡ Some calls → length calls ≤ calls_in threads
few-each [] i calls is = cc
few-each (first ∷ threads) zero calls is = let same : length first ≡ length calls = ap length (the first calls is) in omega (arith, same)
  where
    the : (a b : List Call) → Some a ≡ Some b → a ≡ b
    the a b same = cc same
few-each (first ∷ threads) (suc i) calls is = let rest = few-each threads i calls is in omega (arith, rest)
