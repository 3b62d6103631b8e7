-- What a step of a pass changes.
use Rattle.std.proofs.Common.{◌≡◌, refl, sym, ◌∙◌, ap, ap₂, ℕ, ◌<◌, inl, inr, List, [], ◌∷◌, ◌++◌, Option, None, Some, length, set}
use denote.Ref.{Bor}
use Rattle.mh_cells.specs.Values.{KnownView}
use Rattle.mh_tickets.specs.Seats.{SeatView}
use Rattle.mh_condy.specs.declared.pass.ConstAttempt.{ConstAttempt}
use Rattle.mh_condy.specs.Recorded.{ConstView}
use Rattle.mh_condy.specs.Nodes.{Nodes, node_in}
use Rattle.mh_condy.specs.Known.{FindsNode, LearnsOne}
use Rattle.mh_condy.specs.Passes.{Looks, PassView, Records, attempt_of}
use Rattle.mh_condy.proofs.Learning.{known-before, learnt-is, unlearnt-is}

-- a pass, by its parts
abbrev pub view_of : ℕ → List ℕ → Nodes → List ConstAttempt → List ConstAttempt → SeatView → PassView
view_of thread cells known attempts recorded seat = record {
  table = record { cells = cells; serials = seat.tickets };
  thread = thread;
  known = known;
  attempts = attempts;
  recorded = recorded;
  seat = seat;
}

module _ (thread : ℕ) (k k' : KnownView ConstView) (attempts recorded : List ConstAttempt) (seat : SeatView) where
  abbrev old : PassView
  old = view_of thread k.cells k.values attempts recorded seat

  abbrev with_known : List ConstAttempt → PassView
  with_known more = view_of thread k'.cells k'.values attempts more seat

  pub looks : (c : ℕ) (result : Option (Bor ConstView)) → k'.cells ≡ k.cells → LearnsOne c k.values k'.values → FindsNode k'.values c result →
      c < length k.values → Looks c old (with_known recorded) result
  looks c None cells learns found within = before (node_in k.values c) refl
    where
      before : (o : Option ConstView) → node_in k.values c ≡ o → Looks c old (with_known recorded) None
      before (Some node) was = let e : Some node ≡ None = sym (learns.keeps.kept c node was) ∙ found in absurd cc
      before None was = (was, ap₂ (λ a b. view_of thread a b attempts recorded seat) cells (unlearnt-is c k.values k'.values learns (found ∙ sym was)))
  looks c (Some node) cells learns found within = before (node_in k.values c) refl
    where
      before : (o : Option ConstView) → node_in k.values c ≡ o → Looks c old (with_known recorded) (Some node)
      before (Some was) at =
          let same = known-before c k.values k'.values node.now learns found was at in
          let there : node_in k.values c ≡ Some node.now = at ∙ ap (λ v. Some v) same in
          inl (there, ap₂ (λ a b. view_of thread a b attempts recorded seat) cells (unlearnt-is c k.values k'.values learns (found ∙ sym there)))
      before None none =
          inr (none, ap₂ (λ a b. view_of thread a b attempts recorded seat) cells (learnt-is c k.values k'.values node.now learns found within))

  module _ (recorded' : List ConstAttempt) (made node : ConstView) (cells : k'.cells ≡ k.cells) (learns : LearnsOne made.job.number k.values k'.values) where
    pub records-mine : node ≡ made → node_in k'.values made.job.number ≡ Some made → made.job.number < length k.values →
        recorded' ≡ recorded ++ attempt_of thread made ∷ [] → Records made node old (with_known recorded')
    records-mine same at within more = inl (
      same,
      ap₂ (λ a b. view_of thread a b attempts recorded' seat) cells (learnt-is made.job.number k.values k'.values made learns at within)
          ∙ ap (λ r. view_of thread k.cells (set k.values made.job.number (Some made)) attempts r seat) more,
    )

    pub records-theirs : node_in k.values made.job.number ≡ None → node_in k'.values made.job.number ≡ Some node → made.job.number < length k.values →
        recorded' ≡ recorded → Records made node old (with_known recorded')
    records-theirs none at within same = inr (
      none,
      ap₂ (λ a b. view_of thread a b attempts recorded' seat) cells (learnt-is made.job.number k.values k'.values node learns at within)
          ∙ ap (λ r. view_of thread k.cells (set k.values made.job.number (Some node)) attempts r seat) same,
    )
