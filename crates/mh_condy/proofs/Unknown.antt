-- How many constants under a rank are not known.
use Rattle.std.proofs.Common.{◌≡◌, refl, ap, ℕ, zero, suc, ◌+◌, ◌<◌, ◌≤◌, Bool, true, false, ◌&&◌, if◌then◌else◌, [], ◌∷◌, Some, None, length, set, arith}
use Rattle.std.specs.Prelude.{is_none, nat_lt}
use Rattle.std.proofs.lemmas.Bool.{le-ltb, lt-ltb, ltb-true}
use Rattle.mh_condy.specs.Recorded.{ConstView}
use Rattle.mh_condy.specs.Nodes.{Nodes, node_in, unknown}

abbrev counted : Bool → ℕ
counted b = if b then 1 else 0

counted-more : (a b c : Bool) → (b ≡ true → c ≡ true) → counted (a && b) ≤ counted (a && c)
counted-more false b c h = omega arith
counted-more true false c h = omega arith
counted-more true true c h = let e : counted c ≡ 1 = ap counted (h refl) in omega arith

pub unknown-more : (ranks : ℕ → ℕ) (r s : ℕ) (known : Nodes) → r ≤ s → unknown ranks r known ≤ unknown ranks s known
unknown-more ranks r s [] low = omega arith
unknown-more ranks r s (o ∷ known) low =
    let here = counted-more (is_none o) (nat_lt (ranks zero) r) (nat_lt (ranks zero) s)
    (λ e. lt-ltb (ranks zero) s (let l = ltb-true (ranks zero) r e in omega arith)) in
    let rest = unknown-more (λ c. ranks (suc c)) r s known low in
    omega arith

-- one that is not known is counted under each rank above its own, and under no other
pub unknown-less : (ranks : ℕ → ℕ) (r s : ℕ) (known : Nodes) (c : ℕ) → c < length known → node_in known c ≡ None → r ≤ ranks c → ranks c < s →
    unknown ranks r known + 1 ≤ unknown ranks s known
unknown-less ranks r s [] c within none low high = absurd (omega arith)
unknown-less ranks r s (Some n ∷ known) zero within none low high = cc
unknown-less ranks r s (None ∷ known) zero within none low high =
    let here : counted (nat_lt (ranks zero) r) ≡ 0 = ap counted (le-ltb (ranks zero) r low) in
    let there : counted (nat_lt (ranks zero) s) ≡ 1 = ap counted (lt-ltb (ranks zero) s high) in
    let rest = unknown-more (λ c. ranks (suc c)) r s known (omega arith) in
    omega arith
unknown-less ranks r s (o ∷ known) (suc c) within none low high =
    let here = counted-more (is_none o) (nat_lt (ranks zero) r) (nat_lt (ranks zero) s)
    (λ e. lt-ltb (ranks zero) s (let l = ltb-true (ranks zero) r e in omega arith)) in
    let rest = unknown-less (λ c. ranks (suc c)) r s known c (omega arith) none low high in
    omega arith

-- one that becomes known counts no more
pub unknown-put : (ranks : ℕ → ℕ) (r : ℕ) (known : Nodes) (c : ℕ) (node : ConstView) → c < length known → node_in known c ≡ None → ranks c < r →
    unknown ranks r (set known c (Some node)) + 1 ≡ unknown ranks r known
unknown-put ranks r [] c node within none high = absurd (omega arith)
unknown-put ranks r (Some n ∷ known) zero node within none high = cc
unknown-put ranks r (None ∷ known) zero node within none high =
    let here : counted (nat_lt (ranks zero) r) ≡ 1 = ap counted (lt-ltb (ranks zero) r high) in
    omega arith
unknown-put ranks r (o ∷ known) (suc c) node within none high =
    let rest = unknown-put (λ c. ranks (suc c)) r known c node (omega arith) none high in
    omega arith

pub put-there : (known : Nodes) (c : ℕ) (node : ConstView) → c < length known → node_in (set known c (Some node)) c ≡ Some node
put-there [] c node within = absurd (omega arith)
put-there (o ∷ known) zero node within = refl
put-there (o ∷ known) (suc c) node within = put-there known c node (omega arith)

pub put-other : (known : Nodes) (c k : ℕ) (node : ConstView) → (c ≡ k → ⊥) → node_in (set known c (Some node)) k ≡ node_in known k
put-other [] c k node other = refl
put-other (o ∷ known) zero zero node other = absurd (other refl)
put-other (o ∷ known) zero (suc k) node other = refl
put-other (o ∷ known) (suc c) zero node other = refl
put-other (o ∷ known) (suc c) (suc k) node other = put-other known c k node (λ e. other (ap suc e))
