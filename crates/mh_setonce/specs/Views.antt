-- What contracts see of a chain and of a walk.
use Rattle.std.specs.Prelude.{ℕ, List, refl}
use Rattle.std.specs.Coded.{Coded, code_by, coded×, coded_ℕ, coded_list}

-- a chain: the names of the boxes of its rows, and how many cells there may be
pub record ChainView : Type 0 where
  pub rows : List ℕ
  pub room : ℕ

-- how many cells a chain has
abbrev pub room_of : ChainView → ℕ
room_of chain = chain.room

-- a chain is stored as the pair of its fields
abbrev pub chain_coded : Coded ChainView
chain_coded = code_by (List ℕ × ℕ) (coded× (coded_list coded_ℕ) coded_ℕ) (λ c. (c.rows, c.room)) (λ p. record { rows = p.0; room = p.1 }) (λ _. refl)

-- the chain, and the nodes that were learnt
pub record WalkView (V : Type 0) : Type 0 where
  pub chain : ChainView
  pub nodes : List V

-- a walk is stored as the pair of its fields
abbrev pub walk_coded : {V : Type 0} → Coded V → Coded (WalkView V)
walk_coded {V} c = code_by (ChainView × List V) (coded× chain_coded (coded_list c)) (λ w. (w.chain, w.nodes))
    (λ p. record { chain = p.0; nodes = p.1 }) (λ _. refl)
