-- The leaf calls of a tree: those of its parts, in the order in which the parts run.
use Rattle.std.proofs.Common.{◌≡◌, refl, sym, ℕ, ◌-◌, Bool, true, false, cond, List, [], ◌∷◌, ◌++◌, append-nil, take}
use Rattle.std.specs.Prelude.{if◌then◌else◌, option_to_list}
use Rattle.mh_values.specs.declared.class.ClassId.{ClassId}
use Rattle.mh_values.specs.declared.value.Exc.{Exc}
use Rattle.mh_values.specs.declared.calls.LeafCall.{LeafCall}
use Rattle.mh_values.specs.declared.value.Value.{Value}
use Rattle.mh_values.specs.declared.value.Value.TheVariants as value
use Rattle.mh_values.specs.Computation.{Ran, Gave, Threw, Stuck, raised, after, and_then, guarded, spliced, is_caught}
use Rattle.mh_leaf.specs.LeafTable.{LeafTable}
use Rattle.mh_tree.specs.Tree.{Tree}
use Rattle.mh_tree.specs.Tree as tree
use Rattle.mh_tree.specs.Typing.{arity}
use Rattle.mh_tree.specs.Meaning.{mean, part_of, decided}
use Rattle.mh_tree.specs.MostCalls.{calls_made}

-- what runs after a part that gave a result
abbrev pub next_run : {A B : Type 0} → Ran A → ℕ → (A → ℕ → Ran B) → Ran B
next_run (Gave a calls) n next = next a (raised n calls)
next_run (Threw e calls) n next = Threw e []
next_run Stuck n next = Stuck

-- what runs after a part that threw what a test takes
abbrev pub handler_run : {A : Type 0} → Ran A → (Exc → Bool) → ℕ → (Exc → ℕ → Ran A) → Ran A
handler_run (Gave a calls) test n handler = Gave a []
handler_run (Threw e calls) test n handler = if test e then handler e (raised n calls) else Threw e []
handler_run Stuck test n handler = Stuck

-- a computation that is not stuck
abbrev pub Ends : {A : Type 0} → Ran A → Type 0
Ends (Gave a calls) = Unit {0}
Ends (Threw e calls) = Unit {0}
Ends Stuck = ⊥

ends-after : {A : Type 0} (calls : List LeafCall) (r : Ran A) → Ends (after calls r) → Ends r
ends-after calls (Gave a more) h = tt
ends-after calls (Threw e more) h = tt
ends-after calls Stuck h = h

calls-after : {A : Type 0} (calls : List LeafCall) (r : Ran A) → Ends r → calls_made (after calls r) ≡ calls ++ calls_made r
calls-after calls (Gave a more) h = refl
calls-after calls (Threw e more) h = refl
calls-after calls Stuck h = absurd h

-- first the calls of what runs first, then those of what runs on its result
pub calls-in-order : {A B : Type 0} (r : Ran A) (n : ℕ) (next : A → ℕ → Ran B) → Ends (and_then r n next) →
    calls_made (and_then r n next) ≡ calls_made r ++ calls_made (next_run r n next)
calls-in-order (Gave a calls) n next h = calls-after calls (next a (raised n calls)) (ends-after calls (next a (raised n calls)) h)
calls-in-order (Threw e calls) n next h = sym (append-nil calls)
calls-in-order Stuck n next h = absurd h

chosen : {A : Type 0} (b : Bool) (e : Exc) (calls : List LeafCall) (r : Ran A) → Ends (cond b (after calls r) (Threw e calls)) →
    calls_made (cond b (after calls r) (Threw e calls)) ≡ calls ++ calls_made (cond b r (Threw e []))
chosen true e calls r h = calls-after calls r (ends-after calls r h)
chosen false e calls r h = sym (append-nil calls)

-- first the calls of the target, then those of the handler, if it runs
pub calls-guarded : {A : Type 0} (r : Ran A) (test : Exc → Bool) (n : ℕ) (handler : Exc → ℕ → Ran A) → Ends (guarded r test n handler) →
    calls_made (guarded r test n handler) ≡ calls_made r ++ calls_made (handler_run r test n handler)
calls-guarded (Gave a calls) test n handler h = sym (append-nil calls)
calls-guarded (Threw e calls) test n handler h = chosen (test e) e calls (handler e (raised n calls)) h
calls-guarded Stuck test n handler h = absurd h

-- FilterArg: the filter's calls stand before those of its tree
pub filter-calls :
    (table : LeafTable) (t : Tree) (place : ℕ) (f : Tree) (args : List Value) (n : ℕ) →
    Ends (mean table (tree.FilterArg t place f) args n) →
    calls_made (mean table (tree.FilterArg t place f) args n)
    ≡ calls_made (mean table f (part_of place 1 args) n)
    ++ calls_made (next_run (mean table f (part_of place 1 args) n) n (λ r k. mean table t (spliced place 1 (option_to_list r) args) k))
filter-calls table t place f args n h =
    calls-in-order (mean table f (part_of place 1 args) n) n (λ r k. mean table t (spliced place 1 (option_to_list r) args) k) h

-- FilterRet: the tree's calls stand before those of the filter
pub filterret-calls :
    (table : LeafTable) (t f : Tree) (args : List Value) (n : ℕ) →
    Ends (mean table (tree.FilterRet t f) args n) →
    calls_made (mean table (tree.FilterRet t f) args n)
    ≡ calls_made (mean table t args n) ++ calls_made (next_run (mean table t args n) n (λ r k. mean table f (option_to_list r) k))
filterret-calls table t f args n h = calls-in-order (mean table t args n) n (λ r k. mean table f (option_to_list r) k) h

-- Fold: the combiner's calls stand before those of its tree
pub fold-calls :
    (table : LeafTable) (t : Tree) (place : ℕ) (c : Tree) (args : List Value) (n : ℕ) →
    Ends (mean table (tree.Fold t place c) args n) →
    calls_made (mean table (tree.Fold t place c) args n)
    ≡ calls_made (mean table c (part_of place (arity table c) args) n)
    ++ calls_made (next_run (mean table c (part_of place (arity table c) args) n) n (λ r k. mean table t (spliced place 0 (option_to_list r) args) k))
fold-calls table t place c args n h =
    calls-in-order (mean table c (part_of place (arity table c) args) n) n (λ r k. mean table t (spliced place 0 (option_to_list r) args) k) h

-- Collect: the filter's calls stand before those of its tree
pub collect-calls :
    (table : LeafTable) (t : Tree) (place : ℕ) (f : Tree) (args : List Value) (n : ℕ) →
    Ends (mean table (tree.Collect t place f) args n) →
    calls_made (mean table (tree.Collect t place f) args n)
    ≡ calls_made (mean table f (part_of place (arity table f) args) n)
    ++ calls_made (next_run (mean table f (part_of place (arity table f) args) n) n (λ r k. mean table t (spliced place (arity table f) (option_to_list r) args)
    k))
collect-calls table t place f args n h =
    calls-in-order (mean table f (part_of place (arity table f) args) n) n (λ r k. mean table t (spliced place (arity table f) (option_to_list r) args) k) h

-- Guard: the test's calls stand before those of the branch that runs
pub guard-calls :
    (table : LeafTable) (c t e : Tree) (args : List Value) (n : ℕ) →
    Ends (mean table (tree.Guard c t e) args n) →
    calls_made (mean table (tree.Guard c t e) args n)
    ≡ calls_made (mean table c (take (arity table c) args) n)
    ++ calls_made (next_run (mean table c (take (arity table c) args) n) n (λ r k. decided r (mean table t args k) (mean table e args k)))
guard-calls table c t e args n h =
    calls-in-order (mean table c (take (arity table c) args) n) n (λ r k. decided r (mean table t args k) (mean table e args k)) h

-- Catch: the target's calls stand before those of the handler, if it runs
pub catch-calls :
    (table : LeafTable) (t : Tree) (class : ClassId) (h : Tree) (args : List Value) (n : ℕ) →
    Ends (mean table (tree.Catch t class h) args n) →
    calls_made (mean table (tree.Catch t class h) args n)
    ≡ calls_made (mean table t args n)
    ++ calls_made (handler_run (mean table t args n) (is_caught table.classes class) n (λ e k. mean table h (value.Thrown e ∷ take (arity table h - 1) args) k))
catch-calls table t class h args n ends =
    calls-guarded (mean table t args n) (is_caught table.classes class) n (λ e k. mean table h (value.Thrown e ∷ take (arity table h - 1) args) k) ends
