-- What is found under each name once a register is assigned.
use denote.Ref.{Bor}
use Rattle.std.proofs.Common.{◌≡◌, refl, sym, ◌∙◌, ap, subst, arith, ℕ, zero, suc, ◌+◌, ◌<◌, Bool, true, false, List, [], ◌∷◌, ◌++◌, length, get_or, Option, Some, None}
use Rattle.std.specs.Prelude.{if◌then◌else◌, position}
use Rattle.std.specs.List.{position_from}
use Rattle.std.specs.Str.{bytes_eq}
use Rattle.std.proofs.Math.ListN.{set}
use Rattle.std.proofs.lemmas.Iterator.Adapters.{position_from-zero}
use Rattle.std.proofs.lemmas.List.Quantifiers.{position-Some}
use Rattle.std.proofs.lemmas.Slice.Eq.{bytes_eq-Decides}
use Rattle.mh_base.proofs.Tests.{same_text}
use Rattle.mh_attempt.specs.declared.registers.Assignment.{Assignment}
use Rattle.mh_attempt.specs.declared.registers.Held.{Held}
use Rattle.mh_attempt.specs.Registers.{assigned_to, held_under, is_named}

both : (b : Bool) → b ≡ true → b ≡ false → ⊥
both b is other = absurd cc

-- the assignment of a name
abbrev pub assignment : Bor (List ℕ) → Held → Assignment
assignment name h = record { name = name; held = h }

-- ---- what is found

once : {A : Type 0} (p : Bool) (x y z : A) → (if p then x else z) ≡ (if p then x else (if p then y else z))
once true x y z = refl
once false x y z = refl

apart : {A : Type 0} (p q : Bool) (x y z : A) → (p ≡ true → q ≡ true → ⊥) → (if q then y else (if p then x else z)) ≡ (if p then x else (if q then y else z))
apart true true x y z never = absurd (never refl refl)
apart true false x y z never = refl
apart false true x y z never = refl
apart false false x y z never = refl

-- under the name that was assigned what it got, and under every other what it had
pub held-assigned : (name : Bor (List ℕ)) (h : Held) (other : List ℕ) (assigned : List Assignment) →
    held_under other (assigned_to name h assigned) ≡ (if bytes_eq name.now other then Some h else held_under other assigned)
held-assigned name h other [] = refl
held-assigned name h other (a ∷ assigned) = cases (is_named name.now a) refl (held-assigned name h other assigned)
  where
    cases : (b : Bool) → is_named name.now a ≡ b →
        held_under other (assigned_to name h assigned) ≡ (if bytes_eq name.now other then Some h else held_under other assigned) →
        held_under other (if b then assignment a.name h ∷ assigned else a ∷ assigned_to name h assigned)
        ≡ (if bytes_eq name.now other then Some h else held_under other (a ∷ assigned))
    cases true is rest =
        subst (λ n. (if bytes_eq n other then Some h else held_under other assigned)
        ≡ (if bytes_eq name.now other then Some h else (if bytes_eq n other then Some a.held else held_under other assigned)))
        (sym (same_text a.name.now name.now is)) (once (bytes_eq name.now other) (Some h) (Some a.held) (held_under other assigned))
    cases false is rest =
        ap (λ o. if bytes_eq a.name.now other then Some a.held else o) rest
        ∙ apart (bytes_eq name.now other) (bytes_eq a.name.now other) (Some h) (Some a.held) (held_under other assigned)
        (λ one two. both (is_named name.now a)
        ((bytes_eq-Decides a.name.now name.now).1 (same_text a.name.now other two ∙ sym (same_text name.now other one))) is)

-- ---- where a name stands

at-place : (name : Bor (List ℕ)) (h : Held) (assigned : List Assignment) (i : ℕ) (d : Assignment) → i < length assigned →
    is_named name.now (get_or assigned i d) ≡ true → ((k : ℕ) → k < i → is_named name.now (get_or assigned k d) ≡ false) →
    (held_under name.now assigned ≡ Some (get_or assigned i d).held)
    × (assigned_to name h assigned ≡ set assigned i (assignment (get_or assigned i d).name h))
at-place name h [] i d within is none = absurd (omega (arith, within))
at-place name h (a ∷ assigned) zero d within is none = (
  ap (λ b. if b then Some a.held else held_under name.now assigned) is,
  ap (λ b. if b then assignment a.name h ∷ assigned else a ∷ assigned_to name h assigned) is,
)
at-place name h (a ∷ assigned) (suc i) d within is none =
    let rest = at-place name h assigned i d (omega (arith, within)) is (λ k low. none (suc k) (omega (arith, low))) in
    let first = none 0 (omega arith) in (
      ap (λ b. if b then Some a.held else held_under name.now assigned) first ∙ rest.0,
      ap (λ b. if b then assignment a.name h ∷ assigned else a ∷ assigned_to name h assigned) first ∙ ap (λ l. a ∷ l) rest.1,
    )

-- a name that stands at a place
pub found-at : (name : Bor (List ℕ)) (h : Held) (assigned : List Assignment) (i : ℕ) (d : Assignment) → position (is_named name.now) assigned ≡ Some i →
    (held_under name.now assigned ≡ Some (get_or assigned i d).held)
    × (assigned_to name h assigned ≡ set assigned i (assignment (get_or assigned i d).name h))
found-at name h assigned i d at =
    let found = position-Some (is_named name.now) assigned i d at in at-place name h assigned i d found.0 found.1 found.2

some-none : {A : Type 0} (a : A) → ◌≡◌ {A = Option A} (Some a) None → ⊥
some-none a h = absurd cc

nowhere : (name : Bor (List ℕ)) (h : Held) (assigned : List Assignment) (i : ℕ) → position_from (is_named name.now) i assigned ≡ None →
    (held_under name.now assigned ≡ None) × (assigned_to name h assigned ≡ assigned ++ assignment name h ∷ [])
nowhere name h [] i none = (refl, refl)
nowhere name h (a ∷ assigned) i none = cases (is_named name.now a) refl (nowhere name h assigned (i + 1))
  where
    cases : (b : Bool) → is_named name.now a ≡ b →
        (position_from (is_named name.now) (i + 1) assigned ≡ None →
        (held_under name.now assigned ≡ None) × (assigned_to name h assigned ≡ assigned ++ assignment name h ∷ [])) →
        (held_under name.now (a ∷ assigned) ≡ None) × (assigned_to name h (a ∷ assigned) ≡ a ∷ (assigned ++ assignment name h ∷ []))
    cases true is later = absurd (some-none i (sym (ap (λ b. if b then Some i else position_from (is_named name.now) (i + 1) assigned) is) ∙ none))
    cases false is later =
        let rest = later (sym (ap (λ b. if b then Some i else position_from (is_named name.now) (i + 1) assigned) is) ∙ none) in (
          ap (λ b. if b then Some a.held else held_under name.now assigned) is ∙ rest.0,
          ap (λ b. if b then assignment a.name h ∷ assigned else a ∷ assigned_to name h assigned) is ∙ ap (λ l. a ∷ l) rest.1,
        )

-- a name that stands nowhere
pub found-nowhere : (name : Bor (List ℕ)) (h : Held) (assigned : List Assignment) → position (is_named name.now) assigned ≡ None →
    (held_under name.now assigned ≡ None) × (assigned_to name h assigned ≡ assigned ++ assignment name h ∷ [])
found-nowhere name h assigned none = nowhere name h assigned 0 (sym (position_from-zero (is_named name.now) assigned) ∙ none)

-- ---- what is found there gives way

pub replaced-before : (name : Bor (List ℕ)) (h : Held) (assigned : List Assignment) (i : ℕ) (a : Assignment) (before : Held) →
    position (is_named name.now) assigned ≡ Some i → a ≡ get_or assigned i a → before ≡ a.held → Some before ≡ held_under name.now assigned
replaced-before name h assigned i a before at is had =
    ap Some (had ∙ ap (λ (x : Assignment). x.held) is) ∙ sym (found-at name h assigned i a at).0

pub replaced-now : (name : Bor (List ℕ)) (h : Held) (assigned : List Assignment) (i : ℕ) (a : Assignment) (got : Held) →
    position (is_named name.now) assigned ≡ Some i → a ≡ get_or assigned i a → got ≡ h →
    set assigned i (assignment a.name got) ≡ assigned_to name h assigned
replaced-now name h assigned i a got at is now =
    ap (λ x. set assigned i (assignment a.name x)) now ∙ (ap (λ (x : Assignment). set assigned i (assignment x.name h)) is
    ∙ sym (found-at name h assigned i a at).1)
