-- What calls of a thread leave of its pass over the call sites, one after the other.
use Rattle.std.proofs.Common.{◌≡◌, refl, sym, ◌∙◌, ap, subst, ℕ, ◌+◌, ◌≤◌, List, [], ◌++◌, append-nil, append_assoc, None, Some, arith}
use Rattle.std.specs.Prelude.{IsSome, Option}
use Rattle.std.proofs.lemmas.List.Elements.{All-append, All-nil, All-weaker}
use Rattle.mh_condy.proofs.Drawing.{on-both, on-none}
use Rattle.mh_report.specs.declared.attempt.Attempt.{Attempt}
use Rattle.mh_report.specs.Results.{Serials, serial_at}
use Rattle.mh_runtime.specs.Attempts.{AreLinked, AttemptsMore, GoesOnLinking, IsThreadRun}
use Rattle.mh_runtime.specs.Passes.{AttemptsUnlearnt, HasSerials, LinkPass}
use Rattle.mh_runtime.proofs.sites.NamedSites.{more-named}

-- ---- serials

pub serials-self : (linked : Serials) → HasSerials linked linked
serials-self linked site serial is = is

pub serials-both : (a b c : Serials) → HasSerials a b → HasSerials b c → HasSerials a c
serials-both a b c h k site serial is = k site serial (h site serial is)

-- what is linked stays so
pub linked-on : (a b : Serials) (sites : List ℕ) → HasSerials a b → AreLinked a sites → AreLinked b sites
linked-on a b sites h all =
    All-weaker (λ site. IsSome (serial_at a site)) (λ site. IsSome (serial_at b site)) (λ site some. one site (serial_at a site) refl some) sites all
  where
    one : (site : ℕ) (o : Option ℕ) → serial_at a site ≡ o → IsSome o → IsSome (serial_at b site)
    one site None is some = absurd (cc some)
    one site (Some serial) is some = subst IsSome (sym (h site serial is)) refl

-- what is not linked was not linked before
pub unlearnt-before : (a b : Serials) (site : ℕ) → HasSerials a b → serial_at b site ≡ None → serial_at a site ≡ None
unlearnt-before a b site has none = by (serial_at a site) refl
  where
    by : (o : Option ℕ) → serial_at a site ≡ o → serial_at a site ≡ None
    by None is = is
    by (Some serial) is = let there = has site serial is in absurd (cc none)

-- ---- steps

pub links-none : (pass : LinkPass) (n : ℕ) → GoesOnLinking n pass pass
links-none pass n = record {
  linker = refl;
  thread = refl;
  linked = serials-self pass.linked;
  room = omega arith;
  whole = refl;
  linkages = λ site l at. at;
  constants = on-none pass.constants;
}

pub links-both : (m n : ℕ) (p q r : LinkPass) → GoesOnLinking m p q → GoesOnLinking n q r → GoesOnLinking (m + n) p r
links-both m n p q r x y = record {
  linker = y.linker ∙ x.linker;
  thread = y.thread ∙ x.thread;
  linked = serials-both p.linked q.linked r.linked x.linked y.linked;
  room = omega (arith, x.room, y.room);
  whole = y.whole ∙ x.whole;
  linkages = λ site l at. y.linkages site l (x.linkages site l at);
  constants = on-both p.constants q.constants r.constants x.constants y.constants;
}

-- where fewer serials are drawn, at most so many are
pub links-fewer : (m n : ℕ) (p q : LinkPass) → m ≤ n → GoesOnLinking m p q → GoesOnLinking n p q
links-fewer m n p q few x = record {
  linker = x.linker;
  thread = x.thread;
  linked = x.linked;
  room = let room = x.room in omega (arith, few, room);
  whole = x.whole;
  linkages = x.linkages;
  constants = x.constants;
}

pub attempts-none : (pass : LinkPass) → AttemptsMore [] pass pass
attempts-none pass sites linked run = subst (λ s. IsThreadRun s pass) (sym (append-nil sites)) run

pub attempts-both : (a b : List ℕ) (p q r : LinkPass) → HasSerials p.linked q.linked → AreLinked q.linked a → AttemptsMore a p q → AttemptsMore b q r →
    AttemptsMore (a ++ b) p r
attempts-both a b p q r goes_on done first second sites linked run =
    subst (λ s. IsThreadRun s r) (append_assoc sites a b)
    (second (sites ++ a) (All-append (λ site. IsSome (serial_at q.linked site)) sites a (linked-on p.linked q.linked sites goes_on linked) done)
    (first sites linked run))

pub linked-both : (old new : Serials) (a b : List ℕ) → HasSerials old new → AreLinked old a → AreLinked new b → AreLinked new (a ++ b)
linked-both old new a b goes_on first second =
    All-append (λ site. IsSome (serial_at new site)) a b (linked-on old new a goes_on first) second

-- more sites are named after the last call that was made
pub attempts-early : (named rest : List ℕ) (p q : LinkPass) → AttemptsMore named p q → AttemptsMore (named ++ rest) p q
attempts-early named rest p q made sites linked run =
    subst (λ s. IsThreadRun s q) (append_assoc sites named rest) (more-named (sites ++ named) rest q (made sites linked run))

-- a call and those before it, where all the calls name more sites
pub attempts-within : (all before own rest : List ℕ) (p q r : LinkPass) → (before ++ own) ++ rest ≡ all → HasSerials p.linked q.linked →
    AreLinked q.linked before → AttemptsMore before p q → AttemptsMore own q r → AttemptsMore all p r
attempts-within all before own rest p q r is goes_on done first second =
    subst (λ sites. AttemptsMore sites p r) is
    (attempts-early (before ++ own) rest p r (attempts-both before own p q r goes_on done first second))

-- ---- the attempts that came

-- none came
pub unlearnt-same : (old new : LinkPass) → new.attempts ≡ old.attempts → AttemptsUnlearnt old new
unlearnt-same old new same = ([], same ∙ sym (append-nil old.attempts), All-nil (λ (a : Attempt). serial_at old.linked a.site ≡ None))

-- those of two steps
pub unlearnt-both : (p q r : LinkPass) → HasSerials p.linked q.linked → AttemptsUnlearnt p q → AttemptsUnlearnt q r → AttemptsUnlearnt p r
unlearnt-both p q r has x y = (
  x.0 ++ y.0,
  y.1 ∙ (ap (λ made. made ++ y.0) x.1 ∙ append_assoc p.attempts x.0 y.0),
  All-append (λ (a : Attempt). serial_at p.linked a.site ≡ None) x.0 y.0 x.2
      (All-weaker (λ (a : Attempt). serial_at q.linked a.site ≡ None) (λ (a : Attempt). serial_at p.linked a.site ≡ None)
      (λ a none. unlearnt-before p.linked q.linked a.site has none) y.0 y.2),
)
