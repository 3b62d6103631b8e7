-- The words of operations: a word that names an operation is the one that is written of it.
use Rattle.std.proofs.Common.{◌≡◌, refl, ap, ◌∙◌, ℕ, Bool, true, false, if◌then◌else◌, List, codes, Option, None, Some}
use Rattle.std.specs.Option.{option_or}
use Rattle.std.specs.Str.{bytes_eq}
use Rattle.mh_base.proofs.Tests.{same_text}
use Rattle.mh_script.specs.declared.form.One.{One}
use Rattle.mh_script.specs.declared.form.One.TheVariants as one
use Rattle.mh_script.specs.declared.form.Two.{Two}
use Rattle.mh_script.specs.declared.form.Two.TheVariants as two
use Rattle.mh_script.specs.declared.form.Three.{Three}
use Rattle.mh_script.specs.declared.form.Three.TheVariants as three
use Rattle.mh_script.specs.Forms.{one_form, two_form, argument_form, other_form, three_form}

-- the words of operations with one operand, with two and with three
abbrev pub one_word : One → List ℕ
one_word one.Leaf = codes "leaf"
one_word one.Identity = codes "identity"

abbrev pub two_word : Two → List ℕ
two_word two.Constant = codes "constant"
two_word two.Throw = codes "throw"
two_word two.FilterReturn = codes "filterret"
two_word two.AsType = codes "astype"
two_word two.Explicit = codes "explicit"
two_word two.TryFinally = codes "tryfinally"

abbrev pub three_word : Three → List ℕ
three_word three.Bind = codes "bind"
three_word three.Drop = codes "drop"
three_word three.Permute = codes "permute"
three_word three.Filter = codes "filter"
three_word three.Fold = codes "fold"
three_word three.Collect = codes "collect"
three_word three.Spread = codes "spread"
three_word three.Gather = codes "gather"
three_word three.Guard = codes "guard"
three_word three.Catch = codes "catch"
three_word three.Counted = codes "counted"

-- ---- the word of a form

-- a form by its word, or one of others
first_or : {F : Type 0} (spelled : F → List ℕ) (word : List ℕ) (form found : F) (others : Option F) → (others ≡ Some found → word ≡ spelled found) →
    (if bytes_eq word (spelled form) then Some form else others) ≡ Some found → word ≡ spelled found
first_or spelled word form found others later h = cases (bytes_eq word (spelled form)) refl h
  where
    cases : (b : Bool) → bytes_eq word (spelled form) ≡ b → (if b then Some form else others) ≡ Some found → word ≡ spelled found
    cases true is k = let same : form ≡ found = cc in same_text word (spelled form) is ∙ ap spelled same
    cases false is k = later k

no_form : {F : Type 0} (spelled : F → List ℕ) (word : List ℕ) (found : F) → None ≡ Some found → word ≡ spelled found
no_form spelled word found h = absurd cc

pub one_form-word : (word : List ℕ) (form : One) → one_form word ≡ Some form → word ≡ one_word form
one_form-word word form h = first_or one_word word one.Leaf form _ (first_or one_word word one.Identity form _ (no_form one_word word form)) h

pub two_form-word : (word : List ℕ) (form : Two) → two_form word ≡ Some form → word ≡ two_word form
two_form-word word form h =
    first_or two_word word two.Constant form _ (first_or two_word word two.Throw form _
    (first_or two_word word two.FilterReturn form _ (first_or two_word word two.AsType form _
    (first_or two_word word two.Explicit form _ (first_or two_word word two.TryFinally form _ (no_form two_word word form)))))) h

argument_form-word : (word : List ℕ) (form : Three) → argument_form word ≡ Some form → word ≡ three_word form
argument_form-word word form h =
    first_or three_word word three.Bind form _ (first_or three_word word three.Drop form _
    (first_or three_word word three.Permute form _ (first_or three_word word three.Filter form _
    (first_or three_word word three.Fold form _ (first_or three_word word three.Collect form _ (no_form three_word word form)))))) h

other_form-word : (word : List ℕ) (form : Three) → other_form word ≡ Some form → word ≡ three_word form
other_form-word word form h =
    first_or three_word word three.Spread form _ (first_or three_word word three.Gather form _
    (first_or three_word word three.Guard form _ (first_or three_word word three.Catch form _
    (first_or three_word word three.Counted form _ (no_form three_word word form))))) h

pub three_form-word : (word : List ℕ) (form : Three) → three_form word ≡ Some form → word ≡ three_word form
three_form-word word form h = cases (argument_form word) refl h
  where
    cases : (o : Option Three) → argument_form word ≡ o → option_or o (other_form word) ≡ Some form → word ≡ three_word form
    cases (Some f) is k = argument_form-word word form (is ∙ k)
    cases None is k = other_form-word word form k
