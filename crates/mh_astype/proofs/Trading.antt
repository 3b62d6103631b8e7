-- What a use as a type leaves of the seat of types.
use Rattle.std.proofs.Common.{◌≡◌, ap, sym, subst, ◌∙◌, false, cond, ℕ, List, [], ◌∷◌, Result, Ok}
use Rattle.mh_values.specs.declared.class.Class.{Class}
use Rattle.mh_values.specs.declared.types.MethodTy.{MethodTy}
use Rattle.mh_values.specs.Same.{is_same_method_type}
use Rattle.mh_convert.specs.declared.conv.Rules.{Rules}
use Rattle.mh_tree.specs.Rows.{convert_row}
use Rattle.mh_intern.specs.Views.{HoldView}
use Rattle.mh_intern.proofs.Exchanging.{exchanges-still}
use Rattle.mh_handle.specs.declared.error.HandleError.{HandleError}
use Rattle.mh_handle.specs.declared.handle.Handle.{Handle}
use Rattle.mh_handle.specs.declared.work.Work.{Work}
use Rattle.mh_handle.specs.Stands.{HandleView}
use Rattle.mh_handle.specs.Works.{HoldsTypes, TradesTypes, types_in}
use Rattle.mh_handle.proofs.holding.HoldOrders.{exchanges-few, exchanges-kept}
use Rattle.mh_astype.specs.Use.{used_types_by}

-- a handle that comes back as it was handed over
pub trades-kept : (asks : List MethodTy) (h : HandleView) (w : Work) → HoldsTypes w h.held → TradesTypes asks h.held w w (Ok h)
trades-kept asks h w held =
    exchanges-few asks h.held h.held w.seat.now w.seat.now
    (exchanges-kept [] [] [] h.held w.seat.now w.seat.now held (exchanges-still w.seat.now))

-- the type that a use as another one asks for is the very one
pub used_types-other : (by : Rules) (classes : List Class) (own : MethodTy) (weight : ℕ) (asked u : MethodTy) → is_same_method_type own asked ≡ false →
    convert_row by classes own weight asked ≡ Ok u → used_types_by by classes own weight asked ≡ u ∷ []
used_types-other by classes own weight asked u other row =
    ap (λ b. cond b [] (types_in (convert_row by classes own weight asked))) other ∙ ap types_in row

-- the seat after a use as another type
pub trades-used : (by : Rules) (classes : List Class) (own : MethodTy) (weight : ℕ) (asked u : MethodTy) (gone : List HoldView) (a b : Work)
    (r : Result Handle HandleError) → is_same_method_type own asked ≡ false → convert_row by classes own weight asked ≡ Ok u →
    TradesTypes (u ∷ []) gone a b r → TradesTypes (used_types_by by classes own weight asked) gone a b r
trades-used by classes own weight asked u gone a b r other row trades =
    subst (λ l. TradesTypes l gone a b r) (sym (used_types-other by classes own weight asked u other row)) trades
