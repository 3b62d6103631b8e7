-- What one pass keeps that knows what two knew.
use Rattle.std.proofs.Common.{◌≡◌, sym, ap, ◌∙◌, subst, List, ◌++◌, ⊎_elim}
use Rattle.std.specs.Prelude.{not}
use Rattle.mh_setonce.specs.Views.{WalkView}
use Rattle.mh_setonce.specs.ManyWalks.{chains_of}
use Rattle.mh_handle.specs.Chains.{learnt_by}
use Rattle.mh_handle.specs.Form.{FormView}
use Rattle.mh_handle.specs.Joins.{unasked}
use Rattle.mh_handle.specs.Passes.{AreLearnt, HaveNumbers, AreOneEach, IsPass}
use Rattle.mh_handle.specs.Seats.{SeatView, joined_seats}
use Rattle.mh_handle.proofs.passes.JoinedForms.{is_asked}
use Rattle.mh_handle.proofs.chains.Members.{IsIn, in-either, passing-in}
use Rattle.mh_handle.proofs.passes.Numbers.{numbered-both, numbered-later}

module _ (walks others walks' : List (WalkView FormView)) (made made' asked asked' : List FormView) (seat seat' new : SeatView)
    (mine : IsPass walks made asked seat) (theirs : IsPass others made' asked' seat') (joined : new ≡ joined_seats seat seat') where
  table : seat.table.chains ≡ new.table.chains
  table = ap (λ (s : SeatView). s.table.chains) (sym joined)

  -- the seats alone were joined
  pub seats-joined : IsPass walks made asked new
  seats-joined = record {
    chains = mine.chains ∙ table;
    learnt = mine.learnt;
    once = mine.once;
    numbered = subst (λ (s : SeatView). HaveNumbers made s.numbers) (sym joined) (numbered-later made seat.numbers seat'.numbers mine.numbered);
  }

  learnt-both : AreLearnt (learnt_by walks') (learnt_by walks) → AreLearnt (learnt_by walks') (learnt_by others) →
      AreLearnt (learnt_by walks') (asked ++ unasked asked asked')
  learnt-both a b i f at = ⊎_elim
      (λ (here : IsIn asked f). let l = mine.learnt here.0 f here.1 in a l.0 f l.1)
      (λ (there : IsIn (unasked asked asked') f).
      let is = passing-in (λ g. not (is_asked asked g.recipe)) asked' f there in
      let l = theirs.learnt is.0.0 f is.0.1 in
      b l.0 f l.1)
      (in-either asked (unasked asked asked') f (i, at))

  -- and all else
  pub passes-joined : (all_made all_asked : List FormView) → chains_of walks' ≡ chains_of walks → AreLearnt (learnt_by walks') (learnt_by walks) →
      AreLearnt (learnt_by walks') (learnt_by others) → AreOneEach (learnt_by walks') → all_made ≡ made ++ made' → all_asked ≡ asked ++ unasked asked asked' →
      IsPass walks' all_made all_asked new
  passes-joined all_made all_asked chains a b once m q =
      subst (λ v. IsPass walks' v all_asked new) (sym m)
      (subst (λ v. IsPass walks' (made ++ made') v new) (sym q) (record {
        chains = chains ∙ (mine.chains ∙ table);
        learnt = learnt-both a b;
        once = once;
        numbered = subst (λ (s : SeatView). HaveNumbers (made ++ made') s.numbers) (sym joined)
            (numbered-both made made' seat.numbers seat'.numbers mine.numbered theirs.numbered);
      }))
