-- For callers: which holds a list has after a call.
use Rattle.std.proofs.Common.{◌≡◌, ◌+◌, Bool, true, false, cond, List, [], ◌∷◌, ◌++◌, refl, sym, ap, ◌∙◌, arith}
use Rattle.mh_intern.specs.declared.holding.Entry.{Entry}
use Rattle.mh_intern.specs.Held.{has}
use Rattle.mh_intern.specs.Lists.{is_entry, removed}
use Rattle.mh_intern.proofs.Measures.{count_cons, count_append}
use Rattle.mh_intern.proofs.Entries.{bit, In, entry-is, entry-itself, removed_count}

-- the first of a list is in it
pub in_here : (e : Entry) (es : List Entry) → In (e ∷ es) e
in_here e es = let o : bit (is_entry e e) ≡ 1 = ap bit (entry-itself e) in omega (arith, count_cons (λ (y : Entry). is_entry y e) e es)

-- what is in a list is in a longer one
pub in_longer : (x e : Entry) (es : List Entry) → In es e → In (x ∷ es) e
in_longer x e es held = omega (arith, count_cons (λ (y : Entry). is_entry y e) x es, held)

pub in_front : (e : Entry) (es fs : List Entry) → In es e → In (es ++ fs) e
in_front e es fs held = omega (arith, count_append (λ (y : Entry). is_entry y e) es fs, held)

-- how often each hold is there, after one more and after one less
pub has_more : (e x : Entry) (es : List Entry) → has x.slot x.ty (e ∷ es) ≡ has x.slot x.ty es + bit (is_entry e x)
has_more e x es = omega (arith, count_cons (λ (y : Entry). is_entry y x) e es)

pub has_less : (e x : Entry) (es : List Entry) → In es e → has x.slot x.ty (removed e es) + bit (is_entry e x) ≡ has x.slot x.ty es
has_less e x es held = removed_count (λ (y : Entry). is_entry y x) e es held

-- the first hold of a list is let go
pub removed_here : (e : Entry) (es : List Entry) → removed e (e ∷ es) ≡ es
removed_here e es = ap (λ b. cond b es (e ∷ removed e es)) (entry-itself e)

-- the older of two holds is let go
pub removed_older : (e x : Entry) → removed e (x ∷ e ∷ []) ≡ x ∷ []
removed_older e x = at (is_entry x e) refl
  where
    at : (b : Bool) → is_entry x e ≡ b → removed e (x ∷ e ∷ []) ≡ x ∷ []
    at true q = ap (λ b. cond b (e ∷ []) (x ∷ removed e (e ∷ []))) q ∙ ap (λ z. z ∷ []) (sym (entry-is x e q))
    at false q = ap (λ b. cond b (e ∷ []) (x ∷ removed e (e ∷ []))) q ∙ ap (λ l. x ∷ l) (removed_here e [])
