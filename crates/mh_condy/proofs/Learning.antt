-- What is known of constants, as it grows.
use Rattle.std.proofs.Common.{◌≡◌, refl, sym, ◌∙◌, ap, ap₂, subst, ℕ, zero, suc, ◌<◌, inl, inr, [], ◌∷◌, Some, None, length, replicate, set, arith}
use Rattle.std.proofs.lemmas.Bool.{cases_eq}
use Rattle.std.proofs.lemmas.List.{length-set, length-replicate}
use Rattle.mh_cells.specs.Values.{JoinedOnly, Keeps as KeepsValues, KnownView, LearnsAt}
use Rattle.mh_link.specs.Named.{Constants}
use Rattle.mh_condy.specs.Recorded.{ConstView, IsConst}
use Rattle.mh_condy.specs.Nodes.{IsKnown, Keeps, Nodes, node_in}
use Rattle.mh_condy.specs.Known.{LearnsOne}
use Rattle.mh_condy.proofs.Unknown.{put-other, put-there}

-- this is one of the run's, at its place
abbrev pub IsAt : Constants → ℕ → ConstView → Type 0
IsAt run c node = (node.job.number ≡ c) × IsConst run node

-- nothing is known at first
none-known : (n c : ℕ) → node_in (replicate n None) c ≡ None
none-known zero c = refl
none-known (suc n) zero = refl
none-known (suc n) (suc c) = none-known n c

pub known-none : (run : Constants) (n : ℕ) → n ≡ length run.jobs → IsKnown run (replicate n None)
known-none run n count = record {
  count = length-replicate n None ∙ count;
  nodes = record { each = λ c node at. let none = none-known n c in cc };
}

-- one is learnt at most
pub learns-one : (c : ℕ) (old new : KnownView ConstView) → LearnsAt c old new → length new.values ≡ length old.values → LearnsOne c old.values new.values
learns-one c old new learns places = record {
  keeps = record { kept = λ k node at. learns.values k node at; places = places };
  others = λ k other. learns.others k other;
}

pub known-one : (run : Constants) (c : ℕ) (old new : KnownView ConstView) → LearnsAt c old new → length new.values ≡ length run.jobs → IsKnown run old.values →
    ((node : ConstView) → node_in new.values c ≡ Some node → IsAt run c node) → IsKnown run new.values
known-one run c old new learns count was is = record {
  count = count;
  nodes = record {
    each = λ k node at. elim (cases_eq c k) [
      | inl e ↦ subst (λ x. IsAt run x node) e (is node (ap (node_in new.values) e ∙ at))
      | inr other ↦ was.nodes.each k node (sym (learns.others k (λ e. other (sym e))) ∙ at)
    ];
  };
}

-- what two have learnt
pub keeps-join : (old new : Nodes) → KeepsValues old new → length new ≡ length old → Keeps old new
keeps-join old new keeps places = record { kept = λ k node at. keeps k node at; places = places }

pub known-join : (run : Constants) (mine theirs new : Nodes) → JoinedOnly mine theirs new → length new ≡ length run.jobs → IsKnown run mine →
    IsKnown run theirs → IsKnown run new
known-join run mine theirs new only count a b = record {
  count = count;
  nodes = record {
    each = λ k node at. elim (only k node at) [
      | inl was ↦ a.nodes.each k node was
      | inr was ↦ b.nodes.each k node was
    ];
  };
}

-- ---- one more

-- lists with the same of each constant are the same
pub same-nodes : (a b : Nodes) → length a ≡ length b → ((c : ℕ) → node_in a c ≡ node_in b c) → a ≡ b
same-nodes [] [] places same = refl
same-nodes [] (o ∷ b) places same = absurd (omega arith)
same-nodes (o ∷ a) [] places same = absurd (omega arith)
same-nodes (o ∷ a) (p ∷ b) places same = ap₂ (λ x xs. x ∷ xs) (same zero) (same-nodes a b (omega arith) (λ c. same (suc c)))

-- what was learnt of one constant is put at its place
pub learnt-is : (c : ℕ) (old new : Nodes) (node : ConstView) → LearnsOne c old new → node_in new c ≡ Some node → c < length old → new ≡ set old c (Some node)
learnt-is c old new node learns at within =
    same-nodes new (set old c (Some node)) (learns.keeps.places ∙ sym (length-set old c (Some node))) (λ k. elim (cases_eq c k) [
      | inl e ↦ subst (λ x. node_in new x ≡ node_in (set old c (Some node)) x) e (at ∙ sym (put-there old c node within))
      | inr other ↦ learns.others k (λ e. other (sym e)) ∙ sym (put-other old c k node other)
    ])

-- nothing was learnt of it
pub unlearnt-is : (c : ℕ) (old new : Nodes) → LearnsOne c old new → node_in new c ≡ node_in old c → new ≡ old
unlearnt-is c old new learns same =
    same-nodes new old learns.keeps.places (λ k. elim (cases_eq c k) [
      | inl e ↦ subst (λ x. node_in new x ≡ node_in old x) e same
      | inr other ↦ learns.others k (λ e. other (sym e))
    ])

-- one that was known before is known as before
pub known-before : (c : ℕ) (old new : Nodes) (node : ConstView) → LearnsOne c old new → node_in new c ≡ Some node → (before : ConstView) →
    node_in old c ≡ Some before → before ≡ node
known-before c old new node learns at before was =
    let e : Some before ≡ Some node = sym (learns.keeps.kept c before was) ∙ at in cc
