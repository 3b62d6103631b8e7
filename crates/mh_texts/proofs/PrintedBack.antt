-- The printed text of a value spells it, where it was not cut.
use Rattle.std.proofs.Common.{◌≡◌, sym, ap, subst, ◌<◌, ℕ, inl, inr, if◌then◌else◌, List, ◌++◌, codes, length, take, length-append, length-take, arith}
use Rattle.std.proofs.lemmas.Bool.{cases_lt, lt-leb}
use Rattle.mh_values.specs.declared.class.Class.{Class}
use Rattle.mh_values.specs.declared.value.Value.{Value}
use Rattle.mh_texts.specs.Printed.{value_text, shown_value}
use Rattle.mh_texts.specs.ReadsBack.{ReadsBack}
use Rattle.mh_texts.specs.Spells.{Spells}
use Rattle.mh_texts.specs.Text.{cut}
use Rattle.mh_texts.specs.Writable.{bare_value}
use Rattle.mh_texts.proofs.RoundTrip.{round_trip}
use Rattle.mh_texts.proofs.SpelledValues.{value_spelled}

-- a text that was cut is longer than what is shown of it
cut_long : (text : List ℕ) → 1024 < length text → 1024 < length (cut text)
cut_long text long =
    let shown : cut text ≡ take 1024 text ++ codes "..." = ap (λ t. if t then text else take 1024 text ++ codes "...") (lt-leb (length text) 1024 long) in
    omega (arith, long, ap length shown, length-append (take 1024 text) (codes "..."), length-take 1024 text)

pub reads_back : (classes : List Class) (v : Value) (shown : List ℕ) → shown ≡ shown_value classes v → ReadsBack classes v shown
reads_back classes v shown is sound writable short =
    elim (cases_lt 1024 (length (value_text classes v))) [
      | inl long ↦ absurd (omega (arith, short, ap length is, cut_long (value_text classes v) long))
      | inr uncut ↦ subst (Spells classes (bare_value v)) (sym is) (value_spelled classes (shown_value classes v) (bare_value v)
          (round_trip classes sound v writable (omega (arith, uncut))))
    ]
