-- Holds that are taken, and let go of, one after the other.
use Rattle.std.proofs.Common.{◌≡◌, sym, ◌∙◌, ap, ap₂, subst, ℕ, ◌+◌, ◌≤◌, ◌<◌, List, [], ◌∷◌, ◌++◌, length, append_assoc, append-nil, take, drop, get_or}
use Rattle.std.proofs.lemmas.List.{take_more, take-append-drop}
use Rattle.mh_intern.specs.Exchanges.{AreHeld, Exchanges}
use Rattle.mh_intern.specs.Seats.{Holds}
use Rattle.mh_intern.specs.Views.{HoldView, SeatView, with_hold}
use Rattle.mh_intern.proofs.HeldLists.{held-second, hold-held}
use Rattle.mh_intern.proofs.Exchanging.{exchanges-then, exchanges-both, held-still}
use Rattle.mh_intern.proofs.SingleExchanges.{exchanges-hold}

-- ---- holds one after the other

-- the holds up to a place, and the one there
taken-next : (holds : List HoldView) (i : ℕ) (h : HoldView) → i < length holds → h ≡ get_or holds i h → take (i + 1) holds ≡ take i holds ++ h ∷ []
taken-next holds i h within is = take_more holds i h within ∙ ap (λ x. take i holds ++ x ∷ []) (sym is)

-- the next hold is one of the seat that others were let go of
pub next-held : (holds : List HoldView) (i : ℕ) (h : HoldView) (old mid : SeatView) → i < length holds → h ≡ get_or holds i h → AreHeld old holds →
    Exchanges [] (take i holds) [] old mid → Holds mid h
next-held holds i h old mid within is had x =
    let whole : holds ≡ take i holds ++ (h ∷ drop (i + 1) holds) =
    sym (take-append-drop (i + 1) holds) ∙ (ap (λ l. l ++ drop (i + 1) holds) (taken-next holds i h within is)
    ∙ append_assoc (take i holds) (h ∷ []) (drop (i + 1) holds)) in
    hold-held mid h (drop (i + 1) holds) (held-still [] (take i holds) [] (h ∷ drop (i + 1) holds) old mid x (subst (AreHeld old) whole had))

-- copies of the holds up to a place, and of the one there
pub copied-next : (holds copies more : List HoldView) (i : ℕ) (h copy : HoldView) → i < length holds → h ≡ get_or holds i h → copies ≡ take i holds → copy ≡ h →
    more ≡ copies ++ copy ∷ [] → more ≡ take (i + 1) holds
copied-next holds copies more i h copy within is so_far same now =
    now ∙ (ap₂ (λ l x. l ++ x ∷ []) so_far same ∙ sym (taken-next holds i h within is))

-- one hold more is taken
pub taken-more : (copies more : List HoldView) (copy : HoldView) (old mid new : SeatView) → Exchanges [] [] copies old mid → Holds mid copy → 1 ≤ mid.room →
    new ≡ with_hold copy.entry mid → more ≡ copies ++ copy ∷ [] → Exchanges [] [] more old new
taken-more copies more copy old mid new x held some now is =
    subst (λ l. Exchanges [] [] l old new) (sym is)
    (exchanges-both [] [] [] [] copies (copy ∷ []) old mid new x (exchanges-hold copy mid new held.table some now))

-- each of the holds is one of the seat still, where only others came
pub item-held : (holds came : List HoldView) (i : ℕ) (h : HoldView) (old mid : SeatView) → i < length holds → h ≡ get_or holds i h → AreHeld old holds →
    Exchanges [] [] came old mid → Holds mid h
item-held holds came i h old mid within is had x =
    let whole : holds ≡ take i holds ++ (h ∷ drop (i + 1) holds) =
    sym (take-append-drop (i + 1) holds)
    ∙ (ap (λ l. l ++ drop (i + 1) holds) (taken-next holds i h within is)
    ∙ append_assoc (take i holds) (h ∷ []) (drop (i + 1) holds)) in
    let all : AreHeld mid holds = held-second mid came holds (held-still [] [] came holds old mid x had) in
    hold-held mid h (drop (i + 1) holds) (held-second mid (take i holds) (h ∷ drop (i + 1) holds) (subst (AreHeld mid) whole all))

-- holds that were taken are let go of again
pub released-again : (came : List HoldView) (old mid same new : SeatView) → same ≡ mid → Exchanges [] [] came old mid → Exchanges [] came [] same new →
    Exchanges [] [] [] old new
released-again came old mid same new is x y =
    exchanges-then [] [] [] came [] [] old mid new x
    (subst (λ l. Exchanges [] l [] mid new) (sym (append-nil came)) (subst (λ s. Exchanges [] came [] s new) is y))
