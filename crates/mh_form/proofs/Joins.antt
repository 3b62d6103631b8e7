-- What pieces join to on slots, piece by piece, is what they join to on the values that stand there.
use Rattle.std.proofs.Common.{◌≡◌, ◌≢◌, refl, sym, ap, ◌∙◌, ℕ, ◌+◌, ◌-◌, ◌^◌, ◌<◌, ◌≤◌, min, arith}
use Rattle.std.proofs.Common.{List, [], ◌∷◌, ◌++◌, codes, Option, Some, None, length, drop, get_or, append_assoc, length-append}
use Rattle.std.specs.Prelude.{option_map, slice_get}
use Rattle.std.proofs.lemmas.List.{at_drop_more, at_drop_all}
use Rattle.mh_values.specs.declared.class.Class.{Class}
use Rattle.mh_values.specs.declared.types.Ty.{Ty}
use Rattle.mh_values.specs.declared.value.Value.{Value}
use Rattle.mh_values.specs.declared.value.Value.TheVariants as value
use Rattle.mh_values.specs.Class.{internal_error_class}
use Rattle.mh_values.specs.Computation.{Gave, Threw, Stuck, found}
use Rattle.mh_values.specs.Exception.{saying}
use Rattle.mh_values.specs.ValueLimits.{most_characters}
use Rattle.mh_leaf.specs.Outcome.{ran_of, text}
use Rattle.mh_pieces.specs.declared.piece.Piece.{Piece}
use Rattle.mh_pieces.specs.declared.piece.Piece.TheVariants as piece
use Rattle.mh_pieces.specs.Joined.{arg_types, args_after, joined, joined_text, short_length}
use Rattle.mh_pieces.specs.ValueText.{text_of}
use Rattle.mh_pieces.proofs.Joins.{long_text, no_short_length, short_text, some_short_length}
use Rattle.mh_form.specs.declared.slot.Slot.{Slot}
use Rattle.mh_form.specs.declared.slot.Slot.TheVariants as slot
use Rattle.mh_form.specs.Erasure.{erased_ran, typed_at, typed_slot, value_and_more}
use Rattle.mh_form.specs.Joins.{joined_text_at, piece_text_at, text_and_more}
use Rattle.mh_form.specs.Slots.{filled, joined_at}

-- ---- piece by piece

-- the next piece
pub joins-next : (classes : List Class) (slots : List Slot) (pieces : List Piece) (i : ℕ) (q : Piece) (places : List ℕ) →
    i < length pieces → q ≡ get_or pieces i q →
    joined_text_at classes slots (drop i pieces) places
    ≡ text_and_more (piece_text_at classes slots q places) (joined_text_at classes slots (drop (i + 1) pieces) (args_after q places))
joins-next classes slots pieces i q places within is =
    at_drop_more (λ qs. joined_text_at classes slots qs places) pieces i q within
    ∙ ap (λ r. text_and_more (piece_text_at classes slots r places) (joined_text_at classes slots (drop (i + 1) pieces) (args_after r places))) (sym is)

-- behind the last one
pub joins-end : (classes : List Class) (slots : List Slot) (pieces : List Piece) (i : ℕ) (places : List ℕ) →
    length pieces ≤ i → joined_text_at classes slots (drop i pieces) places ≡ Some []
joins-end classes slots pieces i places behind = at_drop_all (λ qs. joined_text_at classes slots qs places) pieces i behind

no-first : (o more : Option (List ℕ)) → o ≡ None → text_and_more o more ≡ None
no-first o more none = ap (λ x. text_and_more x more) none

no-rest : (o more : Option (List ℕ)) → more ≡ None → text_and_more o more ≡ None
no-rest (Some s) more none = ap (λ x. text_and_more (Some s) x) none
no-rest None more none = refl

-- if all of the texts are there, so is that of the next piece
pub piece-there : (classes : List Class) (slots : List Slot) (pieces : List Piece) (i : ℕ) (q : Piece) (places : List ℕ) →
    i < length pieces → q ≡ get_or pieces i q → joined_text_at classes slots (drop i pieces) places ≢ None → piece_text_at classes slots q places ≢ None
piece-there classes slots pieces i q places within is there =
    λ none. there (joins-next classes slots pieces i q places within is ∙ no-first _ _ none)

-- and so are those behind it
pub rest-there : (classes : List Class) (slots : List Slot) (pieces : List Piece) (i : ℕ) (q : Piece) (places left : List ℕ) →
    i < length pieces → q ≡ get_or pieces i q → left ≡ args_after q places →
    joined_text_at classes slots (drop i pieces) places ≢ None → joined_text_at classes slots (drop (i + 1) pieces) left ≢ None
rest-there classes slots pieces i q places left within is after there =
    λ none. there (joins-next classes slots pieces i q places within is
    ∙ no-rest (piece_text_at classes slots q places) _ (ap (λ ps. joined_text_at classes slots (drop (i + 1) pieces) ps) (sym after) ∙ none))

-- ---- what is written

written : (o rest : Option (List ℕ)) (chars more : List ℕ) → option_map (λ t. chars ++ t) o ≡ Some more →
    option_map (λ t. more ++ t) rest ≡ option_map (λ t. chars ++ t) (text_and_more o rest)
written None rest chars more h = absurd cc
written (Some s) None chars more h = refl
written (Some s) (Some r) chars more h = let e : chars ++ s ≡ more = cc in ap (λ x. Some (x ++ r)) (sym e) ∙ ap Some (append_assoc chars s r)

-- one piece more is written
pub written-next : (classes : List Class) (slots : List Slot) (pieces : List Piece) (i : ℕ) (q : Piece) (places left chars more : List ℕ)
    (whole : Option (List ℕ)) →
    i < length pieces → q ≡ get_or pieces i q → left ≡ args_after q places →
    option_map (λ t. chars ++ t) (piece_text_at classes slots q places) ≡ Some more →
    option_map (λ t. chars ++ t) (joined_text_at classes slots (drop i pieces) places) ≡ whole →
    option_map (λ t. more ++ t) (joined_text_at classes slots (drop (i + 1) pieces) left) ≡ whole
written-next classes slots pieces i q places left chars more whole within is after put so_far =
    ap (λ ps. option_map (λ t. more ++ t) (joined_text_at classes slots (drop (i + 1) pieces) ps)) after
    ∙ (written (piece_text_at classes slots q places) _ chars more put
    ∙ (ap (option_map (λ t. chars ++ t)) (sym (joins-next classes slots pieces i q places within is)) ∙ so_far))

-- all is written
pub written-end : (classes : List Class) (slots : List Slot) (pieces : List Piece) (i : ℕ) (places chars : List ℕ) (whole : Option (List ℕ)) →
    length pieces ≤ i → option_map (λ t. chars ++ t) (joined_text_at classes slots (drop i pieces) places) ≡ whole → whole ≡ Some (chars ++ [])
written-end classes slots pieces i places chars whole behind so_far =
    sym so_far ∙ ap (option_map (λ t. chars ++ t)) (joins-end classes slots pieces i places behind)

-- ---- how long it is

lengthened : (o rest : Option (List ℕ)) (all more : ℕ) → option_map (λ t. min (length t) (2 ^ 64 - 1)) o ≡ Some more → more ≤ most_characters →
    option_map (λ t. (all + more) + length t) rest ≡ option_map (λ t. all + length t) (text_and_more o rest)
lengthened None rest all more h few = absurd cc
lengthened (Some s) None all more h few = refl
lengthened (Some s) (Some r) all more h few =
    let e : min (length s) (2 ^ 64 - 1) ≡ more = cc in
    let n : length (s ++ r) ≡ length s + length r = length-append s r in
    let m : (all + more) + length r ≡ all + length (s ++ r) = omega (arith, e, n, few) in
    ap Some m

-- the length with one piece more
pub length-next : (classes : List Class) (slots : List Slot) (pieces : List Piece) (i : ℕ) (q : Piece) (places left : List ℕ) (all more : ℕ)
    (whole : Option ℕ) →
    i < length pieces → q ≡ get_or pieces i q → left ≡ args_after q places →
    option_map (λ t. min (length t) (2 ^ 64 - 1)) (piece_text_at classes slots q places) ≡ Some more → more ≤ most_characters →
    option_map (λ t. all + length t) (joined_text_at classes slots (drop i pieces) places) ≡ whole →
    option_map (λ t. (all + more) + length t) (joined_text_at classes slots (drop (i + 1) pieces) left) ≡ whole
length-next classes slots pieces i q places left all more whole within is after put few so_far =
    ap (λ ps. option_map (λ t. (all + more) + length t) (joined_text_at classes slots (drop (i + 1) pieces) ps)) after
    ∙ (lengthened (piece_text_at classes slots q places) _ all more put few
    ∙ (ap (option_map (λ t. all + length t)) (sym (joins-next classes slots pieces i q places within is)) ∙ so_far))

too-long : (o rest whole : Option (List ℕ)) (all more : ℕ) → whole ≢ None → option_map (λ t. min (length t) (2 ^ 64 - 1)) o ≡ Some more →
    most_characters < all + more → option_map (λ t. all + length t) (text_and_more o rest) ≡ option_map (λ (t : List ℕ). length t) whole →
    option_map short_length whole ≡ Some None
too-long o rest None all more there put long is = absurd (there refl)
too-long None rest (Some w) all more there put long is = absurd cc
too-long (Some s) None (Some w) all more there put long is = absurd cc
too-long (Some s) (Some r) (Some w) all more there put long is =
    let e : min (length s) (2 ^ 64 - 1) ≡ more = cc in
    let n : length (s ++ r) ≡ length s + length r = length-append s r in
    let m : all + length (s ++ r) ≡ length w = cc in
    let exceeds : most_characters < length w = omega (arith, e, n, m, long) in
    ap Some (sym (no_short_length w exceeds))

-- a piece makes it too long
pub long-at : (classes : List Class) (slots : List Slot) (pieces : List Piece) (i : ℕ) (q : Piece) (places : List ℕ) (all more : ℕ)
    (whole : Option (List ℕ)) →
    i < length pieces → q ≡ get_or pieces i q → whole ≢ None →
    option_map (λ t. min (length t) (2 ^ 64 - 1)) (piece_text_at classes slots q places) ≡ Some more → most_characters < all + more →
    option_map (λ t. all + length t) (joined_text_at classes slots (drop i pieces) places) ≡ option_map (λ (t : List ℕ). length t) whole →
    option_map short_length whole ≡ Some None
long-at classes slots pieces i q places all more whole within is there put long so_far =
    too-long (piece_text_at classes slots q places) _ whole all more there put long
    (sym (ap (option_map (λ t. all + length t)) (joins-next classes slots pieces i q places within is)) ∙ so_far)

short-whole : (whole : Option (List ℕ)) (all : ℕ) → all ≤ most_characters → Some (all + 0) ≡ option_map (λ (t : List ℕ). length t) whole →
    option_map short_length whole ≡ Some (Some all)
short-whole None all few is = absurd cc
short-whole (Some w) all few is =
    let e : all + 0 ≡ length w = cc in
    let n : length w ≡ all = omega (arith, e) in
    ap Some (sym (some_short_length w all n few))

-- it is not too long
pub short-at : (classes : List Class) (slots : List Slot) (pieces : List Piece) (i : ℕ) (places : List ℕ) (all : ℕ) (whole : Option (List ℕ)) →
    length pieces ≤ i → all ≤ most_characters →
    option_map (λ t. all + length t) (joined_text_at classes slots (drop i pieces) places) ≡ option_map (λ (t : List ℕ). length t) whole →
    option_map short_length whole ≡ Some (Some all)
short-at classes slots pieces i places all whole behind few so_far =
    short-whole whole all few (sym (ap (option_map (λ t. all + length t)) (joins-end classes slots pieces i places behind)) ∙ so_far)

-- ---- the values that stand there

joined-more : (classes : List Class) (t : Ty) (qs : List Piece) (o : Option Value) (rest : Option (List Value)) (more : Option (List ℕ))
    (args : List Value) → value_and_more o rest ≡ Some args →
    ((vs : List Value) → rest ≡ Some vs → more ≡ Some (joined_text classes qs vs)) →
    text_and_more (option_map (text_of classes) o) more ≡ Some (joined_text classes (piece.Arg t ∷ qs) args)
joined-more classes t qs None rest more args h next = absurd cc
joined-more classes t qs (Some v) None more args h next = absurd cc
joined-more classes t qs (Some v) (Some vs) more args h next =
    let e : v ∷ vs ≡ args = cc in
    ap (text_and_more (Some (text_of classes v))) (next vs refl) ∙ ap (λ all. Some (joined_text classes (piece.Arg t ∷ qs) all)) e

-- pieces on the slots at places join to what they join to on the values that stand there
pub joined-typed : (classes : List Class) (slots : List Slot) (pieces : List Piece) (places : List ℕ) (args : List Value) →
    typed_at classes slots (arg_types pieces) places ≡ Some args → joined_text_at classes slots pieces places ≡ Some (joined_text classes pieces args)
joined-typed classes slots [] places args h = refl
joined-typed classes slots (piece.Lit s ∷ qs) places args h = ap (text_and_more (Some s)) (joined-typed classes slots qs places args h)
joined-typed classes slots (piece.Arg t ∷ qs) [] args h = absurd cc
joined-typed classes slots (piece.Arg t ∷ qs) (p ∷ ps) args h =
    joined-more classes t qs (typed_slot classes t (slice_get slots p)) (typed_at classes slots (arg_types qs) ps)
    (joined_text_at classes slots qs ps) args h (λ vs is. joined-typed classes slots qs ps vs is)

there-of : (classes : List Class) (slots : List Slot) (pieces : List Piece) (places : List ℕ) (o : Option (List Value)) →
    typed_at classes slots (arg_types pieces) places ≡ o →
    found o (λ args. filled (erased_ran (ran_of (joined classes pieces args) []))) ≢ Stuck → joined_text_at classes slots pieces places ≢ None
there-of classes slots pieces places None is goes = absurd (goes refl)
there-of classes slots pieces places (Some args) is goes = λ none. let e = sym none ∙ joined-typed classes slots pieces places args is in absurd cc

-- if they join to something, all texts are there
pub joins-there : (classes : List Class) (slots : List Slot) (pieces : List Piece) (places : List ℕ) →
    joined_at classes pieces slots places ≢ Stuck → joined_text_at classes slots pieces places ≢ None
joins-there classes slots pieces places goes = there-of classes slots pieces places (typed_at classes slots (arg_types pieces) places) refl goes

joins-of : (classes : List Class) (slots : List Slot) (pieces : List Piece) (places : List ℕ) (whole : List ℕ) (o : Option (List Value)) →
    typed_at classes slots (arg_types pieces) places ≡ o →
    found o (λ args. filled (erased_ran (ran_of (joined classes pieces args) []))) ≢ Stuck → joined_text_at classes slots pieces places ≡ Some whole →
    found o (λ args. filled (erased_ran (ran_of (joined classes pieces args) []))) ≡ filled (erased_ran (ran_of (text whole) []))
joins-of classes slots pieces places whole None is goes there = absurd (goes refl)
joins-of classes slots pieces places whole (Some args) is goes there =
    let same : Some (joined_text classes pieces args) ≡ Some whole = sym (joined-typed classes slots pieces places args is) ∙ there in
    let e : joined_text classes pieces args ≡ whole = cc in
    ap (λ s. filled (erased_ran (ran_of (text s) []))) e

-- a text that is not too long, written where nothing was
pub joins-short : (classes : List Class) (slots : List Slot) (pieces : List Piece) (places : List ℕ) (n : ℕ) (whole : Option (List ℕ)) (start s : List ℕ) →
    joined_at classes pieces slots places ≢ Stuck → joined_text_at classes slots pieces places ≡ whole → option_map short_length whole ≡ Some (Some n) →
    start ≡ [] → option_map (λ t. start ++ t) whole ≡ Some s → Gave (slot.L (value.Text s)) [] ≡ joined_at classes pieces slots places
joins-short classes slots pieces places n None start s goes there short empty is = absurd cc
joins-short classes slots pieces places n (Some w) start s goes there short empty is =
    let e : start ++ w ≡ s = cc in
    let all : w ≡ s = sym (ap (λ x. x ++ w) empty) ∙ e in
    let fits : Some n ≡ short_length w = cc in
    sym (joins-of classes slots pieces places w (typed_at classes slots (arg_types pieces) places) refl goes there
    ∙ (ap (λ o. filled (erased_ran (ran_of o []))) (short_text w n fits) ∙ ap (λ x. Gave (slot.L (value.Text x)) []) all))

-- a text that is too long
pub joins-long : (classes : List Class) (slots : List Slot) (pieces : List Piece) (places : List ℕ) (whole : Option (List ℕ)) →
    joined_at classes pieces slots places ≢ Stuck → joined_text_at classes slots pieces places ≡ whole → option_map short_length whole ≡ Some None →
    Threw (saying internal_error_class (codes "string too long")) [] ≡ joined_at classes pieces slots places
joins-long classes slots pieces places None goes there long = absurd cc
joins-long classes slots pieces places (Some w) goes there long =
    let exceeds : None ≡ short_length w = cc in
    sym (joins-of classes slots pieces places w (typed_at classes slots (arg_types pieces) places) refl goes there
    ∙ ap (λ o. filled (erased_ran (ran_of o []))) (long_text w exceeds))
