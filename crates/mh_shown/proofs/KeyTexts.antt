-- Two keys have two texts.
use Rattle.std.proofs.Common.{◌≡◌, refl, sym, ◌∙◌, ap, ℕ, ◌+◌, ◌*◌, lit<, ◌==◌, false, List, [], ◌∷◌, ◌++◌, codes, drop, append_assoc, Option}
use Rattle.std.specs.Fmt.{decimal}
use Rattle.std.specs.List.{AllByRecursion}
use Rattle.std.proofs.lemmas.Bool.{eqb-false}
use Rattle.std.proofs.lemmas.List.{append_cancel_left}
use Rattle.mh_form.specs.declared.basic.Basic.{Basic}
use Rattle.mh_form.specs.declared.basic.BasicRet.{BasicRet}
use Rattle.mh_form.specs.declared.basic.Shape.{Shape}
use Rattle.mh_edit.specs.declared.key.RetEntry.{RetEntry}
use Rattle.mh_edit.specs.declared.key.Key.{Key}
use Rattle.mh_edit.specs.declared.key.Key.TheVariants.{LeafRoot, ConstRoot, IdentityRoot, ThrowRoot, GuardRoot, CatchRoot, TryRoot, SwitchRoot, LoopRoot, ConcatRoot, Bind, Add, Permute, Collect, Fold, FilterReturn, Convert, Spread, Gather}
use Rattle.mh_shown.specs.KeyText.{basic_text, basics_text, ret_text, shape_text, entries_text, ret_entry_text, places_text, key_text, HasBytes, IsByte}
use Rattle.mh_shown.proofs.Cuts.{Cuts, Stops, apart, number-cut, number-whole, whole}
use Rattle.mh_shown.proofs.Letters.{basic-cut, basics-cut, ret-cut, shape-cut, entries-cut, ret_entry-cut}

-- the first four characters as a number, by which the words of keys differ
abbrev front : List ℕ → ℕ
front (a ∷ b ∷ c ∷ d ∷ rest) = ((a * 256 + b) * 256 + c) * 256 + d
front _ = 0

-- words that begin differently
clash : (xs ys : List ℕ) → (front xs == front ys) ≡ false → xs ≡ ys → ⊥
clash xs ys differ e = eqb-false (front xs) (front ys) differ (ap front e)

-- the same word before both
after : (word r s : List ℕ) → word ++ r ≡ word ++ s → r ≡ s
after word r s e = append_cancel_left word r s e

-- one value after a word
one : {A : Type 0} (word : List ℕ) (f : A → List ℕ) → Cuts f → (a b : A) → word ++ f a ≡ word ++ f b → a ≡ b
one word f cuts a b e = whole f cuts a b (after word (f a) (f b) e)

-- what stands after a word, in the order in which it is read
spread3 : (word p q r : List ℕ) → word ++ p ++ q ++ r ≡ word ++ (p ++ (q ++ r))
spread3 word p q r = append_assoc (word ++ p) q r ∙ append_assoc word p (q ++ r)

-- a value, a word and a number of 8 bits
value-number : {A : Type 0} (word between : List ℕ) (f : A → List ℕ) → Cuts f → (a b : A) (m n : ℕ) → IsByte m → IsByte n →
    word ++ f a ++ between ++ decimal m ≡ word ++ f b ++ between ++ decimal n → (a ≡ b) × (m ≡ n)
value-number word between f cuts a b m n low small e =
    let k = cuts a b (between ++ decimal m) (between ++ decimal n)
    (after word _ _ (sym (spread3 word (f a) between (decimal m)) ∙ e ∙ spread3 word (f b) between (decimal n))) in
    (k.0, number-whole m n low small (after between _ _ k.1))

-- a number of 8 bits, a word that begins with a space, and a value
number-value : {A : Type 0} (word between : List ℕ) (f : A → List ℕ) → Cuts f → (a b : A) (m n : ℕ) → IsByte m → IsByte n →
    word ++ decimal m ++ (32 ∷ between) ++ f a ≡ word ++ decimal n ++ (32 ∷ between) ++ f b → (m ≡ n) × (a ≡ b)
number-value word between f cuts a b m n low small e =
    let k = number-cut m n (32 ∷ between ++ f a) (32 ∷ between ++ f b) low small (lit< tt) (lit< tt)
    (after word _ _ (sym (spread3 word (decimal m) (32 ∷ between) (f a)) ∙ e ∙ spread3 word (decimal n) (32 ∷ between) (f b))) in
    (k.0, whole f cuts a b (after (32 ∷ between) _ _ k.1))

-- ---- places

stops : (places : List ℕ) → Stops (places_text places)
stops [] = tt
stops (p ∷ ps) = lit< tt

places-same : (ps qs : List ℕ) → AllByRecursion IsByte ps → AllByRecursion IsByte qs → places_text ps ≡ places_text qs → ps ≡ qs
places-same [] [] h k e = refl
places-same [] (q ∷ qs) h k e = absurd (apart (places_text []) (places_text (q ∷ qs)) refl e)
places-same (p ∷ ps) [] h k e = absurd (apart (places_text (p ∷ ps)) (places_text []) refl e)
places-same (p ∷ ps) (q ∷ qs) h k e =
    let m = number-cut p q (places_text ps) (places_text qs) h.0 k.0 (stops ps) (stops qs) (ap (drop 1) e) in
    ap (λ x. x ∷ ps) m.0 ∙ ap (λ xs. q ∷ xs) (places-same ps qs h.1 k.1 m.1)

permute-same : (xs ys : List Basic) (ps qs : List ℕ) → AllByRecursion IsByte ps → AllByRecursion IsByte qs →
    key_text (Permute xs ps) ≡ key_text (Permute ys qs) → Permute xs ps ≡ Permute ys qs
permute-same xs ys ps qs h k e =
    let word = codes "Permute to " in
    let between = codes " from" in
    let m = basics-cut xs ys (between ++ places_text ps) (between ++ places_text qs)
    (after word _ _ (sym (spread3 word (basics_text xs) between (places_text ps)) ∙ e ∙ spread3 word (basics_text ys) between (places_text qs))) in
    ap (λ x. Permute x ps) m.0 ∙ ap (λ x. Permute ys x) (places-same ps qs h k (after between _ _ m.1))

-- parameters and a result after them
row_text : List Basic × BasicRet → List ℕ
row_text row = basics_text row.0 ++ ret_text row.1

row-cut : Cuts row_text
unfolding row_text
row-cut a b r s e =
    let k = basics-cut a.0 b.0 (ret_text a.1 ++ r) (ret_text b.1 ++ s)
    (sym (append_assoc (basics_text a.0) (ret_text a.1) r) ∙ e ∙ append_assoc (basics_text b.0) (ret_text b.1) s) in
    let m = ret-cut a.1 b.1 r s k.1 in
    (ap (λ basics. (basics, a.1)) k.0 ∙ ap (λ ret. (b.0, ret)) m.0, m.1)

collect-same : (m n : ℕ) (xs ys : List Basic) (r s : BasicRet) → IsByte m → IsByte n →
    key_text (Collect m xs r) ≡ key_text (Collect n ys s) → Collect m xs r ≡ Collect n ys s
unfolding row_text
collect-same m n xs ys r s low small e =
    let word = codes "Collect at " in
    let front : ℕ → List ℕ = λ k. word ++ decimal k ++ codes " of " in
    let k = number-value word (codes "of ") row_text row-cut (xs, r) (ys, s) m n low small
    (sym (append_assoc (front m) (basics_text xs) (ret_text r)) ∙ e ∙ append_assoc (front n) (basics_text ys) (ret_text s)) in
    ap (λ x. Collect x xs r) k.0 ∙ ap (λ row. Collect n row.0 row.1) k.1

-- a count, and the result after it
count_text : ℕ × BasicRet → List ℕ
count_text row = decimal row.0 ++ codes " to " ++ ret_text row.1

fold-same : (m n c d : ℕ) (r s : BasicRet) → IsByte m → IsByte n → IsByte c → IsByte d →
    key_text (Fold m c r) ≡ key_text (Fold n d s) → Fold m c r ≡ Fold n d s
fold-same m n c d r s low small few less e =
    let word = codes "Fold at " in
    let rest : ℕ → BasicRet → List ℕ = λ k t. codes " of " ++ (decimal k ++ (codes " to " ++ ret_text t)) in
    let shift : (p k : ℕ) (t : BasicRet) → key_text (Fold p k t) ≡ word ++ (decimal p ++ rest k t) = λ p k t.
    append_assoc (word ++ decimal p ++ codes " of " ++ decimal k) (codes " to ") (ret_text t)
    ∙ append_assoc (word ++ decimal p ++ codes " of ") (decimal k) (codes " to " ++ ret_text t)
    ∙ spread3 word (decimal p) (codes " of ") (decimal k ++ (codes " to " ++ ret_text t)) in
    let one = number-cut m n (rest c r) (rest d s) low small (lit< tt) (lit< tt) (after word _ _ (sym (shift m c r) ∙ e ∙ shift n d s)) in
    let two = number-cut c d (codes " to " ++ ret_text r) (codes " to " ++ ret_text s) few less (lit< tt) (lit< tt) (after (codes " of ") _ _ one.1) in
    let three = whole ret_text ret-cut r s (after (codes " to ") _ _ two.1) in
    ap (λ x. Fold x c r) one.0 ∙ ap (λ x. Fold n x r) two.0 ∙ ap (λ x. Fold n d x) three

loop-same : (a b : Shape) (i j k l m n : ℕ) → HasBytes (LoopRoot a i k m) → HasBytes (LoopRoot b j l n) →
    key_text (LoopRoot a i k m) ≡ key_text (LoopRoot b j l n) → LoopRoot a i k m ≡ LoopRoot b j l n
loop-same a b i j k l m n low small e =
    let word = codes "LoopRoot of " in
    let parts = codes ", parts take " in
    let comma = codes ", " in
    let last : ℕ → List ℕ = λ r. comma ++ decimal r in
    let later : ℕ → ℕ → List ℕ = λ q r. comma ++ (decimal q ++ last r) in
    let rest : ℕ → ℕ → ℕ → List ℕ = λ p q r. parts ++ (decimal p ++ later q r) in
    let shift : (s : Shape) (p q r : ℕ) → key_text (LoopRoot s p q r) ≡ word ++ (shape_text s ++ rest p q r) = λ s p q r.
    ap (λ x. word ++ shape_text s ++ parts ++ decimal p ++ x) (spread3 comma (decimal q) comma (decimal r))
    ∙ spread3 (word ++ shape_text s) parts (decimal p) (later q r)
    ∙ append_assoc word (shape_text s) (rest p q r) in
    let one = shape-cut a b (rest i k m) (rest j l n) (after word _ _ (sym (shift a i k m) ∙ e ∙ shift b j l n)) in
    let two = number-cut i j (later k m) (later l n) low.0 small.0 (lit< tt) (lit< tt) (after parts _ _ one.1) in
    let three = number-cut k l (last m) (last n) low.1 small.1 (lit< tt) (lit< tt) (after comma _ _ two.1) in
    let four = number-whole m n low.2 small.2 (after comma _ _ three.1) in
    ap (λ x. LoopRoot x i k m) one.0 ∙ ap (λ x. LoopRoot b x k m) two.0 ∙ ap (λ x. LoopRoot b j x m) three.0 ∙ ap (λ x. LoopRoot b j l x) four

convert-same : (xs ys : List (Option Basic)) (r s : RetEntry) → key_text (Convert xs r) ≡ key_text (Convert ys s) → Convert xs r ≡ Convert ys s
convert-same xs ys r s e =
    let word = codes "Convert of " in
    let k = entries-cut xs ys (ret_entry_text r) (ret_entry_text s)
    (after word _ _ (sym (append_assoc word (entries_text xs) (ret_entry_text r)) ∙ e ∙ append_assoc word (entries_text ys) (ret_entry_text s))) in
    ap (λ x. Convert x r) k.0 ∙ ap (λ x. Convert ys x) (whole ret_entry_text ret_entry-cut r s k.1)

-- ---- keys

pub key_texts_differ : (a b : Key) → HasBytes a → HasBytes b → key_text a ≡ key_text b → a ≡ b
key_texts_differ (LeafRoot a) (LeafRoot b) h k e = ap LeafRoot (one (codes "LeafRoot of ") shape_text shape-cut a b e)
key_texts_differ (ConstRoot a) (ConstRoot b) h k e = ap ConstRoot (one (codes "ConstRoot of ") basic_text basic-cut a b e)
key_texts_differ (IdentityRoot a) (IdentityRoot b) h k e = ap IdentityRoot (one (codes "IdentityRoot of ") basic_text basic-cut a b e)
key_texts_differ (ThrowRoot a) (ThrowRoot b) h k e = ap ThrowRoot (one (codes "ThrowRoot to ") ret_text ret-cut a b e)
key_texts_differ (GuardRoot a m) (GuardRoot b n) h k e =
    let p = value-number (codes "GuardRoot of ") (codes ", test takes ") shape_text shape-cut a b m n h k e in
    ap (λ x. GuardRoot x m) p.0 ∙ ap (λ x. GuardRoot b x) p.1
key_texts_differ (CatchRoot a m) (CatchRoot b n) h k e =
    let p = value-number (codes "CatchRoot of ") (codes ", handler takes ") shape_text shape-cut a b m n h k e in
    ap (λ x. CatchRoot x m) p.0 ∙ ap (λ x. CatchRoot b x) p.1
key_texts_differ (TryRoot a m) (TryRoot b n) h k e =
    let p = value-number (codes "TryRoot of ") (codes ", cleanup takes ") shape_text shape-cut a b m n h k e in
    ap (λ x. TryRoot x m) p.0 ∙ ap (λ x. TryRoot b x) p.1
key_texts_differ (SwitchRoot a m) (SwitchRoot b n) h k e =
    let p = value-number (codes "SwitchRoot of ") (codes ", cases ") shape_text shape-cut a b m n h k e in
    ap (λ x. SwitchRoot x m) p.0 ∙ ap (λ x. SwitchRoot b x) p.1
key_texts_differ (LoopRoot a i k' m) (LoopRoot b j l n) h k e = loop-same a b i j k' l m n h k e
key_texts_differ (ConcatRoot a) (ConcatRoot b) h k e = ap ConcatRoot (one (codes "ConcatRoot of ") shape_text shape-cut a b e)
key_texts_differ (Bind m) (Bind n) h k e = ap Bind (number-whole m n h k (after (codes "Bind at ") (decimal m) (decimal n) e))
key_texts_differ (Add m xs) (Add n ys) h k e =
    let p = number-value (codes "Add at ") (codes "of ") basics_text basics-cut xs ys m n h k e in
    ap (λ x. Add x xs) p.0 ∙ ap (λ x. Add n x) p.1
key_texts_differ (Permute xs ps) (Permute ys qs) h k e = permute-same xs ys ps qs h k e
key_texts_differ (Collect m xs r) (Collect n ys s) h k e = collect-same m n xs ys r s h k e
key_texts_differ (Fold m c r) (Fold n d s) h k e = fold-same m n c d r s h.0 k.0 h.1 k.1 e
key_texts_differ (FilterReturn a) (FilterReturn b) h k e = ap FilterReturn (one (codes "FilterReturn to ") ret_text ret-cut a b e)
key_texts_differ (Convert xs r) (Convert ys s) h k e = convert-same xs ys r s e
key_texts_differ (Spread m a) (Spread n b) h k e =
    let p = number-value (codes "Spread to ") (codes "of ") basic_text basic-cut a b m n h k e in
    ap (λ x. Spread x a) p.0 ∙ ap (λ x. Spread n x) p.1
key_texts_differ (Gather m a) (Gather n b) h k e =
    let p = number-value (codes "Gather of ") (codes "of ") basic_text basic-cut a b m n h k e in
    ap (λ x. Gather x a) p.0 ∙ ap (λ x. Gather n x) p.1
key_texts_differ a b h k e = absurd (clash (key_text a) (key_text b) refl e)
