-- What the longer walks of all chains have learnt.
use Rattle.std.proofs.Common.{◌≡◌, subst, sym, ℕ, ◌+◌, ◌<◌, ◌≤◌, List, length, set, get_or, Some, ⊎_elim, arith}
use Rattle.std.specs.Prelude.{slice_get}
use Rattle.std.proofs.lemmas.Option.{slice_get-get_or, slice_get_within}
use Rattle.mh_setonce.specs.Views.{WalkView}
use Rattle.mh_setonce.specs.Walks.{Distinct}
use Rattle.mh_setonce.specs.ManyWalks.{DoMeet, IsLonger, chains_of}
use Rattle.mh_setonce.proofs.JoiningWalks as walk
use Rattle.mh_handle.specs.Form.{FormView}
use Rattle.mh_handle.specs.Index.{recipe_of}
use Rattle.mh_handle.specs.Chains.{AreWalks, chain_count, learnt_by}
use Rattle.mh_handle.specs.Passes.{AreLearnt}
use Rattle.mh_handle.proofs.chains.ManyWalks.{at-learnt, learnt-at, set-walks}
use Rattle.mh_handle.proofs.chains.MeetingWalks.{has-mine, has-theirs}

-- the walks of the chains before this place are the longer ones; none has two forms of one recipe
pub record Joining (first second walks others : List (WalkView FormView)) (place : ℕ) : Type 0 where
  pub walks_are : AreWalks walks
  pub joining : walk.Joining first second walks others place

pub joining-first : (first second : List (WalkView FormView)) → AreWalks first → Joining first second first second 0
joining-first first second are = record { walks_are = are; joining = walk.joining-first first second }

module _ (first second walks others : List (WalkView FormView)) (place : ℕ) (a b k o : WalkView FormView) (so : Joining first second walks others place)
    (are : AreWalks second) (chains : chains_of second ≡ chains_of first) (at_mine : slice_get walks place ≡ Some a)
    (at_theirs : slice_get others place ≡ Some b) (longer : IsLonger a b k) where
  kept-once : Distinct recipe_of k.nodes
  kept-once = ⊎_elim
      (λ (same : (k ≡ a) × (length b.nodes ≤ length a.nodes)). subst (λ (w : WalkView FormView). Distinct recipe_of w.nodes) (sym same.0)
      (so.walks_are.once place a at_mine))
      (λ (other : (k ≡ b) × (length a.nodes < length b.nodes)). subst (λ (w : WalkView FormView). Distinct recipe_of w.nodes) (sym other.0)
      (are.once place b (walk.theirs-at first second walks others place a b k o so.joining chains at_mine at_theirs longer)))
      longer

  pub joining-next : Joining first second (set walks place k) (set others place o) (place + 1)
  joining-next = record {
    walks_are = set-walks walks place a k at_mine kept-once so.walks_are;
    joining = walk.joining-next first second walks others place a b k o so.joining chains at_mine at_theirs longer;
  }

-- at the end
module _ (first second walks others : List (WalkView FormView)) (place : ℕ) (so : Joining first second walks others place) (end : chain_count ≤ place)
    (mine : AreWalks first) (theirs : AreWalks second) (meet : DoMeet first second) where
  there : (ws : List (WalkView FormView)) → AreWalks ws → (c : ℕ) → c < chain_count → (d : WalkView FormView) → slice_get ws c ≡ Some (get_or ws c d)
  there ws are c low d = slice_get-get_or ws c d (omega (arith, low, are.count))

  pub joined-mine : AreLearnt (learnt_by walks) (learnt_by first)
  joined-mine i f at =
      let l = learnt-at 0 first f (i, at) in
      let low : l.chain < chain_count = omega (arith, slice_get_within first l.chain l.walk l.stands, mine.count) in
      let b = get_or second l.chain l.walk in
      let k = get_or walks l.chain l.walk in
      let at_b = there second theirs l.chain low l.walk in
      let at_k = there walks so.walks_are l.chain low l.walk in
      let m = meet l.chain l.walk b l.stands at_b in
      at-learnt 0 walks f l.chain k at_k
      (has-mine l.walk b k m.0 m.1 (so.joining.done l.chain l.walk b k (omega (arith, low, end)) l.stands at_b at_k) f l.node) l.own

  pub joined-theirs : AreLearnt (learnt_by walks) (learnt_by second)
  joined-theirs i f at =
      let l = learnt-at 0 second f (i, at) in
      let low : l.chain < chain_count = omega (arith, slice_get_within second l.chain l.walk l.stands, theirs.count) in
      let a = get_or first l.chain l.walk in
      let k = get_or walks l.chain l.walk in
      let at_a = there first mine l.chain low l.walk in
      let at_k = there walks so.walks_are l.chain low l.walk in
      let m = meet l.chain a l.walk at_a l.stands in
      at-learnt 0 walks f l.chain k at_k
      (has-theirs a l.walk k m.0 m.1 (so.joining.done l.chain a l.walk k (omega (arith, low, end)) at_a l.stands at_k) f l.node) l.own
