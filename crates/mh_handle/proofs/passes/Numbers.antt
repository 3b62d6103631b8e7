-- The numbers of the forms that a pass has put into its table, and those that its seat has drawn.
use Rattle.std.proofs.Common.{◌≡◌, ℕ, List, [], ◌∷◌, ◌++◌, append-nil, sym, refl, ap, ◌∙◌, subst, arith, inl, inr, ⊎_elim}
use Rattle.mh_tickets.specs.Seats as tickets
use Rattle.mh_handle.specs.Form.{FormView}
use Rattle.mh_handle.specs.Passes.{HaveNumbers, IsKept}
use Rattle.mh_handle.specs.Seats.{Draws, SeatView, TableView}

-- ---- what the counter promises, of a seat of a table

module _ (table : TableView) where
  -- a seat of the table, from one of its counter
  abbrev pub seat_of : tickets.SeatView → SeatView
  seat_of s = record { table = table; numbers = s.numbers; room = s.room }

  pub drawn-of : (number : ℕ) (old new : tickets.SeatView) → tickets.Draws number old new → tickets.KnowsAll new → Draws number (seat_of old) (seat_of new)
  drawn-of number old new draws known = record {
    table = refl;
    numbers = draws.numbers;
    room = draws.room;
    greater = draws.greater;
    next = λ whole. draws.next (omega (arith, whole));
    all = λ whole. known (omega (arith, whole));
  }

-- ---- forms with numbers

-- two lists of forms, with those of two seats
pub numbered-both : (made more : List FormView) (numbers others : List ℕ) → HaveNumbers made numbers → HaveNumbers more others →
    HaveNumbers (made ++ more) (numbers ++ others)
numbered-both [] more [] others are are' = are'
numbered-both [] [] (n ∷ numbers) others are are' = tt
numbered-both [] (g ∷ more) (n ∷ numbers) others are are' = inr (numbered-both [] (g ∷ more) numbers others tt are')
numbered-both (f ∷ made) more [] others are are' = absurd are
numbered-both (f ∷ made) more (n ∷ numbers) others are are' = ⊎_elim
    (λ (here : (f.number ≡ n) × HaveNumbers made numbers). inl (here.0, numbered-both made more numbers others here.1 are'))
    (λ (later : HaveNumbers (f ∷ made) numbers). inr (numbered-both (f ∷ made) more numbers others later are'))
    are

-- more numbers were drawn
pub numbered-later : (made : List FormView) (numbers others : List ℕ) → HaveNumbers made numbers → HaveNumbers made (numbers ++ others)
numbered-later made numbers others are = subst (λ fs. HaveNumbers fs (numbers ++ others)) (append-nil made) (numbered-both made [] numbers others are tt)

-- one more form, with the number drawn now
pub numbered-more : (made : List FormView) (form : FormView) (numbers : List ℕ) (number : ℕ) → form.number ≡ number → HaveNumbers made numbers →
    HaveNumbers (made ++ form ∷ []) (numbers ++ number ∷ [])
numbered-more made form numbers number is are = numbered-both made (form ∷ []) numbers (number ∷ []) are (inl (is, tt))

pub numbered-drawn : (made : List FormView) (number : ℕ) (old new : SeatView) → Draws number old new → HaveNumbers made old.numbers →
    HaveNumbers made new.numbers
numbered-drawn made number old new draws are = subst (HaveNumbers made) (sym draws.numbers) (numbered-later made old.numbers (number ∷ []) are)

-- the same of what was kept of a form that was put
pub numbered-kept : (ours form : FormView) (made made' : List FormView) (number : ℕ) (old new : SeatView) → Draws number old new → ours.number ≡ number →
    IsKept ours made made' form → HaveNumbers made old.numbers → HaveNumbers made' new.numbers
numbered-kept ours form made made' number old new draws is kept are = ⊎_elim
    (λ (same : made' ≡ made). subst (λ fs. HaveNumbers fs new.numbers) (sym same) (numbered-drawn made number old new draws are))
    (λ (more : (made' ≡ made ++ form ∷ []) × (form ≡ ours)).
    subst (λ fs. HaveNumbers fs new.numbers) (sym more.0)
    (subst (HaveNumbers (made ++ form ∷ [])) (sym draws.numbers)
    (numbered-more made form old.numbers number (ap (λ (h : FormView). h.number) more.1 ∙ is) are)))
    kept
