-- What the pieces of a recipe take: the parameters of the method type, in order.
use Rattle.std.proofs.Common.{◌≡◌, refl, sym, ap, ◌∙◌, ℕ, ◌+◌, ◌≤◌, ◌==◌, Bool, true, false, cond, not, nat_le, List, [], ◌∷◌, ◌++◌, codes, length, drop, inl, inr, Option, None, Some, Ok, eqb-true, leb-true, arith}
use Rattle.std.proofs.lemmas.Bool.{cases_Bool}
use Rattle.std.proofs.lemmas.List.Concat.{flat_map-append}
use Rattle.std.proofs.lemmas.List.Sums.{sum_by-cons}
use Rattle.mh_values.specs.declared.class.Class.{Class}
use Rattle.mh_values.specs.declared.types.MethodTy.{MethodTy}
use Rattle.mh_values.specs.declared.types.Ty.{Ty}
use Rattle.mh_values.specs.declared.value.Value.{Value}
use Rattle.mh_values.specs.Slots.{slots_of_all}
use Rattle.mh_pieces.specs.declared.piece.Piece.{Piece}
use Rattle.mh_pieces.specs.Joined.{arg_types, types_of_piece}
use Rattle.mh_pieces.specs.Recipe.{argument_tag, constant_tag, most_concat_slots, tags_in, returns_text, lit_of, arg_of, constant_of, pieces_after, spelled_pieces, refusal_of, unless_wrong, pieces_of}
use Rattle.mh_pieces.specs.ValueText.{text_of}

-- ---- pieces

lit-types : (s : List ℕ) → arg_types (lit_of s) ≡ []
lit-types [] = refl
lit-types (c ∷ cs) = refl

constant-types : (classes : List Class) (vs : List Value) → arg_types (constant_of classes vs) ≡ []
constant-types classes [] = refl
constant-types classes (v ∷ vs) = lit-types (text_of classes v)

-- after a text
behind-lit : (s : List ℕ) (ps : List Piece) → arg_types (lit_of s ++ ps) ≡ arg_types ps
behind-lit s ps = flat_map-append types_of_piece (lit_of s) ps ∙ ap (λ x. x ++ arg_types ps) (lit-types s)

behind-constant : (classes : List Class) (vs : List Value) (ps : List Piece) → arg_types (constant_of classes vs ++ ps) ≡ arg_types ps
behind-constant classes vs ps = flat_map-append types_of_piece (constant_of classes vs) ps ∙ ap (λ x. x ++ arg_types ps) (constant-types classes vs)

-- the next argument, where there is one for each of its tags
behind-argument : (ts : List Ty) (n : ℕ) (rest : List Ty → List Piece) → 1 + n ≡ length ts →
    ((us : List Ty) → n ≡ length us → arg_types (rest us) ≡ us) → arg_types (arg_of ts ++ rest (drop 1 ts)) ≡ ts
behind-argument [] n rest few more = absurd (omega arith)
behind-argument (t ∷ ts) n rest few more = ap (λ us. t ∷ us) (more ts (omega arith))

after-types : (classes : List Class) (run cs : List ℕ) (ts : List Ty) (vs : List Value) → tags_in argument_tag cs ≡ length ts →
    arg_types (pieces_after classes run cs ts vs) ≡ ts
after-types classes run [] [] vs same = lit-types run
after-types classes run [] (t ∷ ts) vs same = absurd (omega arith)
after-types classes run (c ∷ cs) ts vs same =
    let one = lit_of run ++ (arg_of ts ++ pieces_after classes [] cs (drop 1 ts) vs) in
    let two = lit_of run ++ (constant_of classes vs ++ pieces_after classes [] cs ts (drop 1 vs)) in
    let three = pieces_after classes (run ++ c ∷ []) cs ts vs in
    let split : tags_in argument_tag (c ∷ cs) ≡ cond (c == argument_tag) 1 0 + tags_in argument_tag cs =
    sum_by-cons (λ (d : ℕ). cond (d == argument_tag) 1 0) c cs in
    elim (cases_Bool (c == argument_tag)) [
      | inl e ↦
          let few : 1 + tags_in argument_tag cs ≡ length ts =
          sym (split ∙ ap (λ b. cond b 1 0 + tags_in argument_tag cs) e) ∙ same in
          ap (λ b. arg_types (cond b one (cond (c == constant_tag) two three))) e
          ∙ (behind-lit run (arg_of ts ++ pieces_after classes [] cs (drop 1 ts) vs)
          ∙ behind-argument ts (tags_in argument_tag cs) (λ us. pieces_after classes [] cs us vs) few (λ us so. after-types classes [] cs us vs so))
      | inr e ↦
          let few : tags_in argument_tag cs ≡ length ts =
          omega (arith, split ∙ ap (λ b. cond b 1 0 + tags_in argument_tag cs) e, same) in
          ap (λ b. arg_types (cond b one (cond (c == constant_tag) two three))) e
          ∙ elim (cases_Bool (c == constant_tag)) [
            | inl f ↦ ap (λ b. arg_types (cond b two three)) f
                ∙ (behind-lit run (constant_of classes vs ++ pieces_after classes [] cs ts (drop 1 vs))
                ∙ (behind-constant classes vs (pieces_after classes [] cs ts (drop 1 vs)) ∙ after-types classes [] cs ts (drop 1 vs) few))
            | inr f ↦ ap (λ b. arg_types (cond b two three)) f ∙ after-types classes (run ++ c ∷ []) cs ts vs few
          ]
    ]

-- ---- what is not refused

none_wrong : (o : Option (List ℕ)) (ps p : List Piece) → unless_wrong o ps ≡ Ok p → (o ≡ None) × (ps ≡ p)
none_wrong None ps p e = (refl, cc)
none_wrong (Some m) ps p e = cc

all_right : (a b c d : Bool) (k l m n : List ℕ) →
    cond (not a) (Some k) (cond (not b) (Some l) (cond (not c) (Some m) (cond (not d) (Some n) None))) ≡ None →
    (a ≡ true) × (b ≡ true) × (c ≡ true)
all_right true true true d k l m n e = (refl, refl, refl)
all_right true true false d k l m n e = absurd cc
all_right true false c d k l m n e = absurd cc
all_right false b c d k l m n e = absurd cc

-- the pieces of a recipe that is not refused take the parameters, these take at most 200 slots, and a text has the return type
pub taken : (classes : List Class) (recipe : List ℕ) (constants : List Value) (t : MethodTy) (p : List Piece) → pieces_of classes recipe constants t ≡ Ok p →
    (arg_types p ≡ t.params) × (slots_of_all t.params ≤ most_concat_slots) × (returns_text classes t.ret ≡ true)
taken classes recipe constants t p e =
    let none = none_wrong (refusal_of classes recipe constants t) (spelled_pieces classes recipe t.params constants) p e in
    let right = all_right (nat_le (slots_of_all t.params) most_concat_slots) (tags_in argument_tag recipe == length t.params) (returns_text classes t.ret)
    (tags_in constant_tag recipe == length constants) (codes "slots") (codes "arguments") (codes "return") (codes "constants") none.0 in (
      sym (ap arg_types none.1) ∙ after-types classes [] recipe t.params constants (eqb-true _ _ right.1),
      leb-true (slots_of_all t.params) most_concat_slots right.0,
      right.2,
    )
