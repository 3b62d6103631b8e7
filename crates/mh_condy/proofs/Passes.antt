-- What a pass over constants keeps.
use Rattle.std.proofs.Common.{◌≡◌, refl, sym, ◌∙◌, ap, subst, ℕ, ◌<◌, List, [], ◌∷◌, ◌++◌, length, Some}
use Rattle.std.specs.Prelude.{All, Contains}
use Rattle.std.proofs.lemmas.List.Elements.{All-append, All-push, All-weaker, Contains-append_left, Contains-append_right}
use Rattle.mh_link.specs.Named.{Constants}
use Rattle.mh_condy.specs.declared.pass.ConstAttempt.{ConstAttempt}
use Rattle.mh_condy.specs.Recorded.{ConstView, FindingView}
use Rattle.mh_condy.specs.Nodes.{Keeps, Knows, Nodes, node_in}
use Rattle.mh_condy.specs.Passes.{AreAttempts, IsRecorded, attempt_of}

-- what was found stays known
pub knows-kept : (known later : Nodes) → Keeps known later → (f : FindingView) → Knows known f → Knows later f
knows-kept known later keeps f k =
    record { node = k.node; at = keeps.kept f.constant k.node k.at; serial = k.serial; value = k.value }

pub all-knows : (known later : Nodes) → Keeps known later → (findings : List FindingView) → All (Knows known) findings → All (Knows later) findings
all-knows known later keeps findings = All-weaker (Knows known) (Knows later) (knows-kept known later keeps) findings

-- what was recorded stays so
pub recorded-kept : (known later : Nodes) (attempts more : List ConstAttempt) → Keeps known later →
    ((a : ConstAttempt) → Contains attempts a → Contains more a) → (a : ConstAttempt) → IsRecorded known attempts a → IsRecorded later more a
recorded-kept known later attempts more keeps within a r = record {
  among = within a r.among;
  node = r.node;
  at = keeps.kept a.constant r.node r.at;
  serial = r.serial;
  under = all-knows known later keeps r.node.under r.under;
}

module _ (run : Constants) (known known' : Nodes) (attempts recorded : List ConstAttempt) (keeps : Keeps known known')
    (is : AreAttempts run known attempts recorded) where
  -- more is learnt
  pub pass-learns : AreAttempts run known' attempts recorded
  pass-learns = record {
    within = is.within;
    recorded_are = All-weaker (IsRecorded known attempts) (IsRecorded known' attempts)
        (recorded-kept known known' attempts attempts keeps (λ a h. h)) recorded is.recorded_are;
  }

  -- what an attempt has made is recorded
  pub pass-records : (thread : ℕ) (made : ConstView) (a : ConstAttempt) (recorded' : List ConstAttempt) → Contains attempts (attempt_of thread made) →
      node_in known' made.job.number ≡ Some made → All (Knows known) made.under → a ≡ attempt_of thread made → recorded' ≡ recorded ++ a ∷ [] →
      AreAttempts run known' attempts recorded'
  pass-records thread made a recorded' among at under own more =
      subst (AreAttempts run known' attempts) (sym (more ∙ ap (λ b. recorded ++ b ∷ []) own)) (record {
        within = is.within;
        recorded_are = All-push (IsRecorded known' attempts) recorded (attempt_of thread made) pass-learns.recorded_are (record {
          among = among;
          node = made;
          at = at;
          serial = refl;
          under = all-knows known known' keeps made.under under;
        });
      })

  -- all that another pass has attempted and recorded is added
  pub pass-joins : (others : Nodes) (more more_recorded attempts' recorded' : List ConstAttempt) → Keeps others known' →
      AreAttempts run others more more_recorded → attempts' ≡ attempts ++ more → recorded' ≡ recorded ++ more_recorded →
      AreAttempts run known' attempts' recorded'
  pass-joins others more more_recorded attempts' recorded' theirs other made kept =
      subst (λ v. AreAttempts run known' v recorded') (sym made) (subst (AreAttempts run known' (attempts ++ more)) (sym kept) (record {
        within = All-append (λ a. a.constant < length run.jobs) attempts more is.within other.within;
        recorded_are = All-append (IsRecorded known' (attempts ++ more)) recorded more_recorded
            (All-weaker (IsRecorded known attempts) (IsRecorded known' (attempts ++ more))
            (recorded-kept known known' attempts (attempts ++ more) keeps (λ a h. Contains-append_left attempts more a h)) recorded is.recorded_are)
            (All-weaker (IsRecorded others more) (IsRecorded known' (attempts ++ more))
            (recorded-kept others known' more (attempts ++ more) theirs (λ a h. Contains-append_right attempts more a h)) more_recorded other.recorded_are);
      }))

-- one more is attempted
pub pass-begins : (run : Constants) (known : Nodes) (attempts recorded : List ConstAttempt) (a : ConstAttempt) → AreAttempts run known attempts recorded →
    a.constant < length run.jobs → AreAttempts run known (attempts ++ a ∷ []) recorded
pass-begins run known attempts recorded a is low = record {
  within = All-push (λ b. b.constant < length run.jobs) attempts a is.within low;
  recorded_are = All-weaker (IsRecorded known attempts) (IsRecorded known (attempts ++ a ∷ []))
      (recorded-kept known known attempts (attempts ++ a ∷ []) (record { kept = λ c node at. at; places = refl })
      (λ b h. Contains-append_left attempts (a ∷ []) b h)) recorded is.recorded_are;
}
