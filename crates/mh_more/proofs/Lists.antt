-- Lists of handles: what they hold together.
use Rattle.std.proofs.Common.{◌≡◌, ap, ◌∙◌, sym, subst, List, [], ◌∷◌, ◌++◌, append-nil, append_assoc, Result, Ok, Err, IfOk}
use Rattle.mh_base.specs.declared.memory.NoMemory.{NoMemory}
use Rattle.mh_intern.specs.Exchanges.{AreHeld, Exchanges}
use Rattle.mh_intern.specs.Views.{HoldView, SeatView}
use Rattle.mh_intern.proofs.Exchanging.{exchanges-then}
use Rattle.mh_intern.proofs.HeldLists.{held-first, held-second}
use Rattle.mh_form.specs.declared.field.Field.{Field}
use Rattle.mh_handle.specs.Parts.{AddsHandle, IsPartOf, PartsView, held_by, no_parts}
use Rattle.mh_handle.specs.Stands.{HandleView}
use Rattle.mh_handle.specs.declared.work.Work.{Work}
use Rattle.mh_handle.proofs.holding.HoldOrders.{exchanges-kept, exchanges-same, same-swapped}
use Rattle.mh_branch.specs.Growths.{TradesParts}
use Rattle.mh_more.specs.Several.{AddsAll, ArePartsOf, holds_of, types_held_by}

pub pair-held : (first second : HandleView) → holds_of (first ∷ second ∷ []) ≡ first.held ++ second.held
pair-held first second = ap (λ l. first.held ++ l) (append-nil second.held)

pub three-held : (first second third : HandleView) → holds_of (first ∷ second ∷ third ∷ []) ≡ first.held ++ second.held ++ third.held
three-held first second third =
    ap (λ l. first.held ++ (second.held ++ l)) (append-nil third.held) ∙ sym (append_assoc first.held second.held third.held)

-- one handle more at the end
pub holds-last : (hs : List HandleView) (h : HandleView) → holds_of (hs ++ h ∷ []) ≡ holds_of hs ++ h.held
holds-last [] h = append-nil h.held
holds-last (x ∷ hs) h = ap (λ l. x.held ++ l) (holds-last hs h) ∙ sym (append_assoc x.held (holds_of hs) h.held)

pub types-last : (hs : List HandleView) (h : HandleView) → types_held_by (hs ++ h ∷ []) ≡ types_held_by hs ++ held_by h
types-last [] h = append-nil (held_by h)
types-last (x ∷ hs) h = ap (λ l. held_by x ++ l) (types-last hs h) ∙ sym (append_assoc (held_by x) (types_held_by hs) (held_by h))

-- the last of handles that are held
pub last-held : (seat : SeatView) (hs rest : List HandleView) (h : HandleView) → hs ≡ rest ++ h ∷ [] → AreHeld seat (holds_of hs) → AreHeld seat h.held
last-held seat hs rest h is had = held-second seat (holds_of rest) h.held (subst (AreHeld seat) (ap holds_of is ∙ holds-last rest h) had)

-- it is handed back, and those before it are held still
pub rest-exchanges : (all : List HoldView) (hs rest : List HandleView) (h : HandleView) (old mid new : SeatView) → hs ≡ rest ++ h ∷ [] →
    AreHeld mid (holds_of hs) → Exchanges [] all (holds_of hs) old mid → Exchanges [] h.held [] mid new → Exchanges [] all (holds_of rest) old new
rest-exchanges all hs rest h old mid new is had so_far back =
    let last : holds_of hs ≡ holds_of rest ++ h.held = ap holds_of is ∙ holds-last rest h in
    let both = subst (AreHeld mid) last had in
    let next : Exchanges [] (holds_of hs) (holds_of rest) mid new =
    subst (λ l. Exchanges [] l (holds_of rest) mid new) (sym last)
    (exchanges-same [] (h.held ++ holds_of rest) (holds_of rest ++ h.held) (holds_of rest) mid new (same-swapped h.held (holds_of rest))
    (exchanges-kept [] h.held [] (holds_of rest) mid new (held-first mid (holds_of rest) h.held both) back)) in
    subst (λ l. Exchanges [] l (holds_of rest) old new) (append-nil all)
    (exchanges-then [] [] all (holds_of hs) [] (holds_of rest) old mid new so_far
    (subst (λ l. Exchanges [] l (holds_of rest) mid new) (sym (append-nil (holds_of hs))) next))

-- ---- what a call is given, and what it gives

-- the same holds are traded, after a call that traded none
pub trades-given : {A E : Type 0} (gone given : List HoldView) (a b c : Work) (r : Result A E) → gone ≡ given → b.seat.now ≡ a.seat.now →
    TradesParts gone b c r → TradesParts given a c r
trades-given gone given a b c (Ok x) same still t = t ∙ still
trades-given gone given a b c (Err e) same still t =
    subst (λ s. Exchanges [] given [] s c.seat.now) still (subst (λ l. Exchanges [] l [] b.seat.now c.seat.now) same t)

-- the same handles are listed
pub listed-same : (hs given : List HandleView) (r : Result (List HandleView) NoMemory) → hs ≡ given → IfOk r (λ all. all ≡ hs) → IfOk r (λ all. all ≡ given)
listed-same hs given (Ok all) same listed = listed ∙ same
listed-same hs given (Err e) same listed = listed

-- one handle before none holds what it holds
pub none-held : (h : HandleView) (hs : List HandleView) → hs ≡ [] → h.held ++ holds_of hs ≡ h.held
none-held h hs none = ap (λ l. h.held ++ holds_of l) none ∙ append-nil h.held

-- one handle before others
pub first-held : (h : HandleView) (hs given : List HandleView) → hs ≡ given → h.held ++ holds_of hs ≡ h.held ++ holds_of given
first-held h hs given same = ap (λ l. h.held ++ holds_of l) same

-- others, and one handle after those before it
pub more-held : (held : List HoldView) (hs rest : List HandleView) (h : HandleView) → hs ≡ rest ++ h ∷ [] →
    held ++ holds_of hs ≡ (held ++ holds_of rest) ++ h.held
more-held held hs rest h is = ap (λ l. held ++ l) (ap holds_of is ∙ holds-last rest h) ∙ sym (append_assoc held (holds_of rest) h.held)

-- no parts before handles
pub none-before : (none : PartsView) (hs given : List HandleView) → none ≡ no_parts → hs ≡ given → none.held ++ holds_of hs ≡ holds_of given
none-before none hs given bare same = λ i. (bare i).held ++ holds_of (same i)

-- ---- parts

parts-last : (hs : List HandleView) (fs : List Field) (h : HandleView) (f : Field) → ArePartsOf hs fs → IsPartOf h f → ArePartsOf (hs ++ h ∷ []) (fs ++ f ∷ [])
parts-last [] [] h f are is = (is, tt)
parts-last (x ∷ hs) (y ∷ fs) h f are is = (are.0, parts-last hs fs h f are.1 is)
parts-last [] (y ∷ fs) h f are is = absurd are
parts-last (x ∷ hs) [] h f are is = absurd are

-- no handle
pub adds-none : (parts : PartsView) → AddsAll [] parts parts
adds-none parts = record {
  fields = ([], sym (append-nil parts.fields), tt);
  sides = sym (append-nil parts.sides);
  held = sym (append-nil parts.held);
}

-- one more after others
pub adds-last : (hs : List HandleView) (h : HandleView) (a b c : PartsView) → AddsAll hs a b → AddsHandle h b c → AddsAll (hs ++ h ∷ []) a c
adds-last hs h a b c all one =
    let x = all.fields in
    let y = one.fields in
    record {
      fields = (
        x.0 ++ y.0 ∷ [],
        y.1 ∙ (ap (λ fs. fs ++ y.0 ∷ []) x.1 ∙ append_assoc a.fields x.0 (y.0 ∷ [])),
        parts-last hs x.0 h y.0 x.2 y.2,
      );
      sides =
          one.sides
          ∙ (ap (λ s. s ++ held_by h) all.sides
          ∙ (append_assoc a.sides (types_held_by hs) (held_by h) ∙ ap (λ l. a.sides ++ l) (sym (types-last hs h))));
      held =
          one.held
          ∙ (ap (λ l. l ++ h.held) all.held
          ∙ (append_assoc a.held (holds_of hs) h.held ∙ ap (λ l. a.held ++ l) (sym (holds-last hs h))));
    }

-- the same of what a call gives
pub adds-given : (hs rest : List HandleView) (h : HandleView) (a b : PartsView) (r : Result PartsView NoMemory) → hs ≡ rest ++ h ∷ [] → AddsAll rest a b →
    IfOk r (AddsHandle h b) → IfOk r (AddsAll hs a)
adds-given hs rest h a b (Ok c) is all one = subst (λ l. AddsAll l a c) (sym is) (adds-last rest h a b c all one)
adds-given hs rest h a b (Err e) is all one = one
