-- The tokens of a plain line, and a line of such tokens.
use Rattle.std.proofs.Common.{◌≡◌, refl, ap, ◌∙◌, ℕ, ◌+◌, ◌≤◌, ◌==◌, Bool, true, false, ◌&&◌, cond, nat_le, List, [], ◌∷◌, ◌++◌, codes, append_assoc, Result, Ok, arith}
use Rattle.std.proofs.lemmas.Bool.{and_parts, and_from, eqb-true, false_from_ne_true, leb-true}
use Rattle.std.proofs.lemmas.List.Folds.{list_all-append}
use Rattle.std.proofs.lemmas.List.Splits.{slice_split_none, slice_split_at}
use Rattle.std.specs.List.{join_with_byte, list_all, onto_first}
use Rattle.mh_base.specs.Ascii.{line_feed, space}
use Rattle.mh_base.specs.Lines.{is_full, is_plain, line_text, lines_of, tokens_of, after_line, built_from}
use Rattle.mh_base.proofs.Cuts.{Lacks, all_lack}

-- a token: plain, and without a space
pub record IsToken (text : List ℕ) : Type 0 where
  pub plain : is_plain text ≡ true
  pub one : Lacks space text

-- each of these texts is a token
abbrev pub AreTokens : List (List ℕ) → Type 0
AreTokens [] = Unit {0}
AreTokens (t ∷ ts) = IsToken t × AreTokens ts

-- a token that is not empty
pub record IsFullToken (text : List ℕ) : Type 0 where
  pub token : IsToken text
  pub full : is_full text ≡ true

-- each of these texts is one
abbrev pub AreFullTokens : List (List ℕ) → Type 0
AreFullTokens [] = Unit {0}
AreFullTokens (t ∷ ts) = IsFullToken t × AreFullTokens ts

-- ---- tokens that are not empty

pub as_tokens : (tokens : List (List ℕ)) → AreFullTokens tokens → AreTokens tokens
as_tokens [] are = tt
as_tokens (t ∷ ts) are = (are.0.token, as_tokens ts are.1)

pub tokens_full : (tokens : List (List ℕ)) → AreFullTokens tokens → list_all is_full tokens ≡ true
tokens_full [] are = refl
tokens_full (t ∷ ts) are = and_from (is_full t) (list_all is_full ts) are.0.full (tokens_full ts are.1)

pub none_empty : (tokens : List (List ℕ)) → AreTokens tokens → list_all is_full tokens ≡ true → AreFullTokens tokens
none_empty [] are full = tt
none_empty (t ∷ ts) are full =
    let each = and_parts (is_full t) (list_all is_full ts) full in
    (record { token = are.0; full = each.0 }, none_empty ts are.1 each.1)

-- ---- a line as tokens

byte_more : (b : ℕ) (parts : List (List ℕ)) (t : Bool) → (b == space) ≡ t → (nat_le 0x20 b && nat_le b 0x7E) ≡ true → AreTokens parts →
    AreTokens (cond t ([] ∷ parts) (onto_first b parts))
byte_more b parts true is plain are = (record { plain = refl; one = tt }, are)
byte_more b [] false is plain are = (record { plain = and_from (nat_le 0x20 b && nat_le b 0x7E) true plain refl; one = (is, tt) }, tt)
byte_more b (part ∷ parts) false is plain are =
    (record { plain = and_from (nat_le 0x20 b && nat_le b 0x7E) (is_plain part) plain are.0.plain; one = (is, are.0.one) }, are.1)

pub tokens_are : (line : List ℕ) → is_plain line ≡ true → AreTokens (tokens_of line)
tokens_are [] plain = (record { plain = refl; one = tt }, tt)
tokens_are (b ∷ bs) plain =
    let parts = and_parts (nat_le 0x20 b && nat_le b 0x7E) (is_plain bs) plain in
    byte_more b (tokens_of bs) (b == space) refl parts.0 (tokens_are bs parts.1)

-- ---- tokens as a line

pub tokens_joined : (word : List ℕ) (rest : List (List ℕ)) → AreTokens (word ∷ rest) → tokens_of (join_with_byte space (word ∷ rest)) ≡ word ∷ rest
tokens_joined word [] are = slice_split_none (λ b. b == space) word (all_lack space word are.0.one)
tokens_joined word (next ∷ rest) are =
    slice_split_at (λ b. b == space) word space (join_with_byte space (next ∷ rest)) (all_lack space word are.0.one) refl
    ∙ ap (λ ts. word ∷ ts) (tokens_joined next rest are.1)

pub plain_joined : (word : List ℕ) (rest : List (List ℕ)) → AreTokens (word ∷ rest) → is_plain (join_with_byte space (word ∷ rest)) ≡ true
plain_joined word [] are = are.0.plain
plain_joined word (next ∷ rest) are =
    list_all-append (λ b. nat_le 0x20 b && nat_le b 0x7E) word (space ∷ join_with_byte space (next ∷ rest))
    ∙ and_from (is_plain word) (is_plain (join_with_byte space (next ∷ rest))) are.0.plain (plain_joined next rest are.1)

-- ---- a line of a text

line_end_lacks : (text : List ℕ) → is_plain text ≡ true → Lacks line_feed text
line_end_lacks [] plain = tt
line_end_lacks (b ∷ bs) plain =
    let parts = and_parts (nat_le 0x20 b && nat_le b 0x7E) (is_plain bs) plain in
    let visible : 32 ≤ b = leb-true 32 b (and_parts (nat_le 0x20 b) (nat_le b 0x7E) parts.0).0 in
    (false_from_ne_true (b == 10) (λ e. let same : b ≡ 10 = eqb-true b 10 e in omega (arith, visible, same)), line_end_lacks bs parts.1)

-- the first line of a text that begins with a line of tokens
pub first_line : (word : List ℕ) (rest : List (List ℕ)) (text : List ℕ) → AreTokens (word ∷ rest) →
    lines_of (line_text (word ∷ rest) ++ text) ≡ join_with_byte space (word ∷ rest) ∷ lines_of text
first_line word rest text are =
    let line = join_with_byte space (word ∷ rest) in
    ap lines_of (append_assoc line (codes "\n") text)
    ∙ slice_split_at (λ b. b == line_feed) line line_feed text (all_lack line_feed line (line_end_lacks line (plain_joined word rest are))) refl

-- a text that begins with a line of tokens is read on after it
pub read_on : {S K : Type 0} (step : S → List ℕ → Result S K) (n : ℕ) (s next : S) (word : List ℕ) (rest : List (List ℕ)) (text : List ℕ) →
    AreTokens (word ∷ rest) → step s (join_with_byte space (word ∷ rest)) ≡ Ok next →
    built_from step n s (lines_of (line_text (word ∷ rest) ++ text)) ≡ built_from step (n + 1) next (lines_of text)
read_on step n s next word rest text are is =
    ap (built_from step n s) (first_line word rest text are) ∙ ap (λ r. after_line n r (λ t. built_from step (n + 1) t (lines_of text))) is
