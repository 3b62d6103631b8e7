-- What is recorded of the constants of a pass, where one constant more is looked at.
use Rattle.std.proofs.Common.{◌≡◌, refl, sym, ◌∙◌, ap, subst, ℕ, zero, suc, ◌+◌, ◌<◌, ◌≤◌, [], ◌∷◌, ◌++◌, length, map, take, Option, None, Some, ⊎_elim, arith}
use Rattle.std.specs.Prelude.{Contains, option_map, slice_get}
use Rattle.std.specs.Option.{option_flatten}
use Rattle.std.proofs.lemmas.Bool.{cases_eq}
use Rattle.std.proofs.lemmas.Option.{slice_get_within}
use Rattle.mh_link.specs.Places.{Has}
use Rattle.mh_condy.specs.declared.pass.ConstAttempt.{ConstAttempt}
use Rattle.mh_condy.specs.Nodes.{Nodes, node_in}
use Rattle.mh_condy.specs.Passes.{PassView}
use Rattle.mh_condy.specs.Recorded.{ConstView}
use Rattle.mh_condy.specs.Trails.{HasPutAll, trail_of}
use Rattle.mh_condy.proofs.Trails.{noted}
use Rattle.mh_report.specs.Results.{Serials, serial_at}
use Rattle.mh_runtime.specs.Report.{AreMakers, row_in, rows_in}
use Rattle.mh_runtime.proofs.ledger.Numbers.{contains-map}
use Rattle.mh_runtime.proofs.sites.Sites.{contains-in}

-- rows, one constant after the other
pub rows-more : (known : Nodes) (c : ℕ) → c < length known →
    rows_in (take (c + 1) known) ≡ rows_in (take c known) ++ option_map row_in (node_in known c) ∷ []
rows-more [] c within = absurd (omega (arith, within))
rows-more (o ∷ known) zero within = refl
rows-more (o ∷ known) (suc c) within =
    let next : suc c + 1 ≡ suc (c + 1) = omega arith in
    ap (λ n. rows_in (take n (o ∷ known))) next ∙ ap (λ rs. option_map row_in o ∷ rs) (rows-more known c (omega (arith, within)))

-- a constant that is known has a place
pub node-within : (known : Nodes) (c : ℕ) (node : ConstView) → node_in known c ≡ Some node → c < length known
node-within known c node at = slice_get_within known c (Some node) (entry (slice_get known c) at)
  where
    entry : (o : Option (Option ConstView)) → option_flatten o ≡ Some node → o ≡ Some (Some node)
    entry None is = cc
    entry (Some e) is = ap (λ x. Some x) is

module _ (pass : PassView) where
  -- the constants that are known before this one were put
  abbrev pub PutBefore : ℕ → Type 0
  PutBefore c = (k : ℕ) (node : ConstView) → k < c → node_in pass.known k ≡ Some node → Has (trail_of pass).put k

  pub put-none : PutBefore 0
  put-none k node within at = absurd (omega (arith, within))

  pub put-more : (makers : Serials) (c : ℕ) (maker : Option ℕ) → AreMakers pass makers → slice_get makers c ≡ Some maker →
      ((node : ConstView) → node_in pass.known c ≡ Some node → maker ≡ Some node.serial) → PutBefore c → PutBefore (c + 1)
  put-more makers c maker are at own before k node within there = ⊎_elim
      (λ (here : k ≡ c).
      let same : maker ≡ Some node.serial = own node (ap (node_in pass.known) (sym here) ∙ there) in
      let made = are k node.serial (ap (serial_at makers) here ∙ (ap option_flatten at ∙ same)) in
      contains-in (map (λ (a : ConstAttempt). a.constant) pass.recorded) k
      (subst (λ n. Contains (map (λ (a : ConstAttempt). a.constant) pass.recorded) n) made.2
      (contains-map (λ (a : ConstAttempt). a.constant) pass.recorded made.0 made.1)))
      (λ (other : k ≡ c → ⊥). before k node (omega (arith, within, other)) there)
      (cases_eq k c)

  -- so all that is known was put
  pub put-all : (count : ℕ) → length pass.known ≤ count → PutBefore count → HasPutAll (trail_of pass)
  put-all count whole before k there =
      let n = noted pass.known k there in
      let within : k < length pass.known = node-within pass.known k n.node n.at in
      before k n.node (omega (arith, within, whole)) n.at
