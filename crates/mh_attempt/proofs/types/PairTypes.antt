-- What is left of the seat of types where a handle is taken out of its register and another one is joined to it.
use Rattle.std.proofs.Common.{subst, List, [], ◌++◌, append-nil, append_assoc}
use Rattle.mh_values.specs.declared.types.MethodTy.{MethodTy}
use Rattle.mh_intern.specs.Exchanges.{Exchanges}
use Rattle.mh_intern.specs.Views.{HoldView}
use Rattle.mh_intern.proofs.Exchanging.{exchanges-both, exchanges-still}
use Rattle.mh_intern.proofs.HeldLists.{held-first, held-second}
use Rattle.mh_handle.specs.declared.work.Work.{Work}
use Rattle.mh_handle.specs.Works.{HoldsTypes}
use Rattle.mh_handle.proofs.holding.HoldOrders.{exchanges-kept}
use Rattle.mh_attempt.specs.Several.{Adds}
use Rattle.mh_attempt.specs.Runs.{Replaces}
use Rattle.mh_attempt.proofs.types.Adding.{holds-came}
use Rattle.mh_attempt.proofs.types.Replacing.{replaces-held, replaces-more, replaces-none, replaces-then}

-- holds that stay, and others that are given for what came
stays : (asks : List MethodTy) (kept gone came : List HoldView) (old new : Work) → HoldsTypes old kept → Exchanges asks gone came old.seat.now new.seat.now →
    Replaces (kept ++ gone) (kept ++ came) old new
stays asks kept gone came old new held x = (
  [] ++ asks,
  exchanges-both [] asks kept gone kept came old.seat.now old.seat.now new.seat.now
      (exchanges-kept [] [] [] kept old.seat.now old.seat.now held (exchanges-still old.seat.now)) x,
)

-- The registers held `before`. They hold `left` once `taken` was taken out. The handle of `part` was made first.
module _ (before left taken part : List HoldView) (old mid : Work) (held : HoldsTypes old before) (adds : Adds part old mid)
    (took : Replaces before (left ++ taken) mid mid) where
  -- all is there
  pub all-there : Replaces before (left ++ (taken ++ part)) old mid
  all-there =
      subst (λ l. Replaces before l old mid) (append_assoc left taken part)
      (replaces-then before (before ++ part) (left ++ taken ++ part) old mid mid
      (replaces-more before before part old old mid (replaces-none before old held) adds)
      (took.0, exchanges-kept took.0 before (left ++ taken) part mid.seat.now mid.seat.now (holds-came part old mid adds) took.1))

  all-held : HoldsTypes mid (left ++ (taken ++ part))
  all-held = replaces-held before (left ++ (taken ++ part)) old mid held all-there

  -- what is joined is held
  pub pair-held : HoldsTypes mid (taken ++ part)
  pair-held = held-second mid.seat.now left (taken ++ part) all-held

  -- it is given for what came
  pub pair-given : (asks : List MethodTy) (came : List HoldView) (new : Work) → Exchanges asks (taken ++ part) came mid.seat.now new.seat.now →
      Replaces before (left ++ came) old new
  pair-given asks came new x =
      replaces-then before (left ++ (taken ++ part)) (left ++ came) old mid new all-there
      (stays asks left (taken ++ part) came mid new (held-first mid.seat.now left (taken ++ part) all-held) x)

  -- for nothing
  pub pair-gone : (asks : List MethodTy) (new : Work) → Exchanges asks (taken ++ part) [] mid.seat.now new.seat.now → Replaces before left old new
  pair-gone asks new x = subst (λ l. Replaces before l old new) (append-nil left) (pair-given asks [] new x)
