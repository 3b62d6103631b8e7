-- Parts that are gone through, one after the other.
use Rattle.std.proofs.Common.{◌≡◌, refl, sym, ◌∙◌, ap, subst, ℕ, ◌<◌, ◌≤◌, inl, inr, if◌then◌else◌, List, [], ◌∷◌, ◌++◌, append-nil, Option, Some, None, Ok, Err, arith}
use Rattle.std.specs.Prelude.{All, IfOk, Result, is_ok, option_map}
use Rattle.mh_base.specs.declared.memory.NoMemory.{NoMemory}
use Rattle.mh_jobs.specs.declared.constants.ConstJob.{ConstJob}
use Rattle.mh_condy.specs.declared.value.ConstValue.{ConstValue}
use Rattle.mh_condy.specs.declared.value.ConstValue.TheVariants as recorded
use Rattle.std.proofs.lemmas.Bool.{both_ways}
use Rattle.std.proofs.lemmas.List.{map_push}
use Rattle.std.proofs.lemmas.List.Elements.{All-nil, All-push}
use Rattle.mh_values.specs.declared.value.Exc.{Exc}
use Rattle.mh_values.specs.declared.value.Value.{Value}
use Rattle.mh_jobs.specs.declared.job.Argument.{Argument}
use Rattle.mh_jobs.specs.declared.job.Argument.TheVariants as argument
use Rattle.mh_jobs.specs.declared.unresolved.Part.{Part}
use Rattle.mh_jobs.specs.declared.unresolved.Part.TheVariants.{Known, Constant}
use Rattle.mh_jobs.specs.declared.unresolved.StaticArguments.{StaticArguments}
use Rattle.mh_jobs.specs.Thrown.{OrThrown, ◌>>=◌}
use Rattle.mh_jobs.proofs.Parts.{bound-parts}
use Rattle.mh_link.specs.Named.{Constants}
use Rattle.mh_link.specs.Depth.{rank}
use Rattle.mh_link.specs.Places.{is_in, Has}
use Rattle.mh_jobs.specs.Given.{Found}
use Rattle.mh_link.specs.Resolved.{asked, resolved_parts, taken}
use Rattle.mh_link.proofs.constants.Asked.{agree-each}
use Rattle.mh_link.proofs.walking.Places.{has-cons}
use Rattle.mh_link.proofs.constants.Resolving.{parts-same}
use Rattle.mh_condy.specs.declared.attempt.Asked.{Asked}
use Rattle.mh_condy.specs.Given.{AreAsked, HasMade, HaveGiven, ResolvesTo, constants_among}
use Rattle.mh_condy.specs.Nodes.{Knows, found_in, node_in, unknown}
use Rattle.mh_condy.specs.Passes.{PassView}
use Rattle.mh_condy.specs.Recorded.{ConstView, FindingView, constants_of, outcome_of}
use Rattle.mh_condy.specs.Resolving.{GoesOnResolving}
use Rattle.mh_condy.specs.Trails.{AreOwnNodes, GoesBeside, trail_of}
use Rattle.mh_condy.proofs.Beside.{beside-both, beside-none}
use Rattle.mh_condy.proofs.Drawing.{on-both, on-none}
use Rattle.mh_condy.proofs.Passes.{all-knows}
use Rattle.mh_condy.proofs.Trails.{found-kept}

-- parts that all gave an argument, and then others
abbrev behind : List Argument → OrThrown (List Argument) → OrThrown (List Argument)
behind given rest = rest >>= (λ others. Ok (given ++ others))

none-before : (r : OrThrown (List Argument)) → r ≡ behind [] r
none-before (Ok x) = refl
none-before (Err e) = refl

one-before : (a : Argument) (given : List Argument) (r : OrThrown (List Argument)) → (behind given r >>= (λ others. Ok (a ∷ others))) ≡ behind (a ∷ given) r
one-before a given (Ok x) = refl
one-before a given (Err e) = refl

module _ (found : Found) (thrown : Option Exc) (rest : List Part) where
  abbrev GoOn : List Part → List Argument → Type 0
  GoOn parts given = (resolved_parts found thrown (parts ++ rest) ≡ behind given (resolved_parts found thrown rest))
      × (asked found (parts ++ rest) ≡ constants_among parts ++ asked found rest)

  pub go-on : (parts : List Part) (given : List Argument) → resolved_parts found None parts ≡ Ok given → GoOn parts given
  go-on [] given e =
      let none : [] ≡ given = cc in
      (none-before (resolved_parts found thrown rest) ∙ ap (λ a. behind a (resolved_parts found thrown rest)) none, refl)
  go-on (Known a ∷ parts) given e =
      let b = bound-parts (resolved_parts found None parts) (λ others. Ok (a ∷ others)) given e in
      let same : a ∷ b.0 ≡ given = let i : Ok (a ∷ b.0) ≡ Ok given = b.2 in cc in
      let later = go-on parts b.0 b.1 in (
        ap (λ (r : OrThrown (List Argument)). r >>= (λ others. Ok (a ∷ others))) later.0
            ∙ (one-before a b.0 (resolved_parts found thrown rest) ∙ ap (λ a. behind a (resolved_parts found thrown rest)) same),
        later.1,
      )
  go-on (Constant c ∷ parts) given e =
      let v = bound-parts (taken (found c)) (λ v. resolved_parts found None parts >>= (λ others. Ok (argument.Value v ∷ others))) given e in
      let d = bound-parts (resolved_parts found None parts) (λ others. Ok (argument.Value v.0 ∷ others)) given v.2 in
      let same : argument.Value v.0 ∷ d.0 ≡ given = let i : Ok (argument.Value v.0 ∷ d.0) ≡ Ok given = d.2 in cc in
      let later = go-on parts d.0 d.1 in (
        ap (λ (r : OrThrown Value). r >>= (λ v. resolved_parts found thrown (parts ++ rest) >>= (λ others. Ok (argument.Value v ∷ others)))) v.1
            ∙ (ap (λ (r : OrThrown (List Argument)). r >>= (λ others. Ok (argument.Value v.0 ∷ others))) later.0
            ∙ (one-before (argument.Value v.0) d.0 (resolved_parts found thrown rest) ∙ ap (λ a. behind a (resolved_parts found thrown rest)) same)),
        ap (λ (r : OrThrown Value). c ∷ (if is_ok r then asked found (parts ++ rest) else [])) v.1 ∙ ap (λ cs. c ∷ cs) later.1,
      )

-- all of them are looked at
all-asked : (found : Found) (parts : List Part) (given : List Argument) → resolved_parts found None parts ≡ Ok given → asked found parts ≡ constants_among parts
all-asked found parts given e =
    ap (asked found) (sym (append-nil parts)) ∙ ((go-on found None [] parts given e).1 ∙ append-nil (constants_among parts))

among-append : (parts rest : List Part) → constants_among (parts ++ rest) ≡ constants_among parts ++ constants_among rest
among-append [] rest = refl
among-append (Known a ∷ parts) rest = among-append parts rest
among-append (Constant c ∷ parts) rest = ap (λ cs. c ∷ cs) (among-append parts rest)

-- nothing so far
pub given-none : (run : Constants) (under : ℕ) (old : PassView) → AreOwnNodes run (trail_of old) → unknown (rank run) under old.known ≤ old.seat.room →
    HaveGiven run under [] [] old old
given-none run under old own room = record {
  on = on-none old;
  goes = beside-none run (trail_of old) own;
  constants = refl;
  knows = All-nil (Knows old.known);
  given = [];
  resolves = refl;
  room = room;
  drawn = omega arith;
}

module _ (run : Constants) (under : ℕ) (old now : PassView) (parts : List Part) (findings : List FindingView)
    (so_far : HaveGiven run under parts findings old now) where
  -- one part that is no constant
  pub given-known : (a : Argument) → HaveGiven run under (parts ++ Known a ∷ []) findings old now
  given-known a = record {
    on = so_far.on;
    goes = subst (λ cs. GoesBeside run cs (trail_of old) (trail_of now))
        (sym (among-append parts (Known a ∷ []) ∙ append-nil (constants_among parts))) so_far.goes;
    constants = so_far.constants ∙ sym (among-append parts (Known a ∷ []) ∙ append-nil (constants_among parts));
    knows = so_far.knows;
    given = so_far.given ++ a ∷ [];
    resolves = (go-on (found_in now.known) None (Known a ∷ []) parts so_far.given so_far.resolves).0;
    room = so_far.room;
    drawn = so_far.drawn;
  }

  module _ (d : ℕ) (new : PassView) (node : ConstView) (on : GoesOnResolving now new) (goes : GoesBeside run (d ∷ []) (trail_of now) (trail_of new))
      (at : node_in new.known d ≡ Some node) where
    -- what was given before is given still
    still : resolved_parts (found_in new.known) None parts ≡ Ok so_far.given
    still =
        sym (parts-same (found_in now.known) (found_in new.known) None parts (agree-each (found_in now.known) (found_in new.known)
        (asked (found_in now.known) parts) (λ c h. found-kept now.known new.known on.known c
        (so_far.goes.known c (subst (λ cs. Has cs c) (all-asked (found_in now.known) parts so_far.given so_far.resolves) h))))).0
        ∙ so_far.resolves

    both : GoesBeside run (constants_among parts ++ d ∷ []) (trail_of old) (trail_of new)
    both = beside-both run (constants_among parts) (d ∷ []) (trail_of old) (trail_of now) (trail_of new) so_far.goes goes

    low-one : (c : ℕ) → Has (d ∷ []) c → rank run d < under → rank run c < under
    low-one c h low = elim (has-cons d [] c h) [
      | inl e ↦ subst (λ x. rank run x < under) e low
      | inr none ↦ absurd (both_ways (is_in [] c) refl none)
    ]

    abbrev pub finding : FindingView
    finding = record { constant = d; serial = node.serial; value = node.value }

    knows-both : All (Knows new.known) (findings ++ finding ∷ [])
    knows-both =
        All-push (Knows new.known) findings finding (all-knows now.known new.known on.known findings so_far.knows)
        (record { node = node; at = at; serial = refl; value = refl })

    constants-both : constants_of (findings ++ finding ∷ []) ≡ constants_among parts ++ d ∷ []
    constants-both = map_push (λ (f : FindingView). f.constant) findings finding ∙ ap (λ cs. cs ++ d ∷ []) so_far.constants

    found-is : found_in new.known d ≡ Some node.value
    found-is = ap (λ o. option_map (λ (k : ConstView). k.value) o) at

    -- one constant with a value
    pub given-value : rank run d < under → (v : Value) → node.value ≡ Ok v →
        HaveGiven run under (parts ++ Constant d ∷ []) (findings ++ finding ∷ []) old new
    given-value low v is = record {
      on = on-both old now new so_far.on on;
      goes = subst (λ cs. GoesBeside run cs (trail_of old) (trail_of new)) (sym (among-append parts (Constant d ∷ []))) both;
      constants = constants-both ∙ sym (among-append parts (Constant d ∷ []));
      knows = knows-both;
      given = so_far.given ++ argument.Value v ∷ [];
      resolves =
          (go-on (found_in new.known) None (Constant d ∷ []) parts so_far.given still).0
          ∙ ap (λ o. behind so_far.given (taken o >>= (λ v. Ok (argument.Value v ∷ [])))) (found-is ∙ ap (λ r. Some r) is);
      room = let r = goes.room under (λ c h. low-one c h low) in let s = so_far.room in omega arith;
      drawn = let r = goes.room under (λ c h. low-one c h low) in let s = so_far.drawn in omega arith;
    }

    -- one constant with an error, at which all ends
    pub given-error : (arguments : StaticArguments) (rest : List Part) (a : Asked) → arguments.parts ≡ parts ++ Constant d ∷ rest →
        a.findings.items ≡ findings ++ finding ∷ [] → (e : Exc) → a.thrown ≡ Some e → node.value ≡ Err e → AreAsked run arguments old new a
    given-error arguments rest a split more e thrown is =
        let on_ = go-on (found_in new.known) arguments.thrown (Constant d ∷ rest) parts so_far.given still in
        let error : found_in new.known d ≡ Some (Err e) = found-is ∙ ap (λ r. Some r) is in
        let asked_is : asked (found_in new.known) arguments.parts ≡ constants_among parts ++ d ∷ [] =
        ap (asked (found_in new.known)) split
        ∙ (on_.1 ∙ ap (λ o. constants_among parts ++ d ∷ (if is_ok (taken o) then asked (found_in new.known) rest else [])) error) in
        record {
          goes = subst (λ cs. GoesBeside run cs (trail_of old) (trail_of new)) (sym asked_is) both;
          was = record {
            constants = ap constants_of more ∙ (constants-both ∙ sym asked_is);
            knows = subst (All (Knows new.known)) (sym more) knows-both;
            resolves = subst (ResolvesTo (found_in new.known) arguments) (sym thrown)
                (ap (resolved_parts (found_in new.known) arguments.thrown) split
                ∙ (on_.0 ∙ ap (λ o. behind so_far.given (taken o >>= (λ v. resolved_parts (found_in new.known) arguments.thrown rest
                >>= (λ others. Ok (argument.Value v ∷ others))))) error));
          };
        }

  -- how the parts end, with what is thrown after them
  abbrev EndsAs : List Part → Option Exc → Type 0
  EndsAs ps None = (given : List Argument) × (resolved_parts (found_in now.known) None ps ≡ Ok given)
  EndsAs ps (Some e) = resolved_parts (found_in now.known) (Some e) ps ≡ Err e

  ends : (thrown : Option Exc) → EndsAs parts thrown
  ends None = (so_far.given, so_far.resolves)
  ends (Some e) =
      ap (resolved_parts (found_in now.known) (Some e)) (sym (append-nil parts))
      ∙ (go-on (found_in now.known) (Some e) [] parts so_far.given so_far.resolves).0

  resolves-as : (arguments : StaticArguments) → EndsAs arguments.parts arguments.thrown → ResolvesTo (found_in now.known) arguments arguments.thrown
  resolves-as arguments h = cases arguments.thrown refl h
    where
      cases : (thrown : Option Exc) → arguments.thrown ≡ thrown → EndsAs arguments.parts thrown → ResolvesTo (found_in now.known) arguments thrown
      cases None is h = (h.0, ap (λ t. resolved_parts (found_in now.known) t arguments.parts) is ∙ h.1)
      cases (Some e) is h = ap (λ t. resolved_parts (found_in now.known) t arguments.parts) is ∙ h

  -- all parts
  pub given-all : (arguments : StaticArguments) (a : Asked) → parts ≡ arguments.parts → a.findings.items ≡ findings → a.thrown ≡ arguments.thrown →
      AreAsked run arguments old now a
  given-all arguments a all same thrown =
      let asked_is : asked (found_in now.known) arguments.parts ≡ constants_among parts =
      ap (asked (found_in now.known)) (sym all) ∙ all-asked (found_in now.known) parts so_far.given so_far.resolves in
      record {
        goes = subst (λ cs. GoesBeside run cs (trail_of old) (trail_of now)) (sym asked_is) so_far.goes;
        was = record {
          constants = ap constants_of same ∙ (so_far.constants ∙ sym asked_is);
          knows = subst (All (Knows now.known)) (sym same) so_far.knows;
          resolves = subst (ResolvesTo (found_in now.known) arguments) (sym thrown)
              (resolves-as arguments (subst (λ ps. EndsAs ps arguments.thrown) all (ends arguments.thrown)));
        };
      }

-- the same of what is the same
pub given-same : (run : Constants) (under : ℕ) (parts parts' : List Part) (findings findings' : List FindingView) (old now now' : PassView) → parts' ≡ parts →
    findings' ≡ findings → now' ≡ now → HaveGiven run under parts findings old now → HaveGiven run under parts' findings' old now'
given-same run under parts parts' findings findings' old now now' p f n have =
    subst (λ ps. HaveGiven run under ps findings' old now') (sym p) (subst (λ fs. HaveGiven run under parts fs old now') (sym f)
    (subst (λ x. HaveGiven run under parts findings old x) (sym n) have))

-- how the arguments end, if memory does not run out
pub ends-asked : (run : Constants) (arguments : StaticArguments) (old now : PassView) (findings : List FindingView) (thrown : Option Exc)
    (result : Result Asked NoMemory) → IfOk result (λ a. a.findings.items ≡ findings) → IfOk result (λ a. a.thrown ≡ thrown) →
    ((a : Asked) → a.findings.items ≡ findings → a.thrown ≡ thrown → AreAsked run arguments old now a) → IfOk result (AreAsked run arguments old now)
ends-asked run arguments old now findings thrown (Ok a) found ends is = is a found ends
ends-asked run arguments old now findings thrown (Err e) found ends is = tt

-- a constant that is no error has a value
pub value-left : (r : ConstValue) → ((e : Exc) → r ≡ recorded.Error e → ⊥) → (v : Value) × (outcome_of r ≡ Ok v)
value-left (recorded.Value v) left = (v, refl)
value-left (recorded.Error e) left = absurd (left e refl)

-- ---- what an attempt makes

-- one that looks at no constant
pub unasked-made : (run : Constants) (c serial : ℕ) (job : ConstJob) (p : PassView) → AreOwnNodes run (trail_of p) → job.number ≡ c →
    (result : Result ConstView NoMemory) → IfOk result (λ made. (made.job ≡ job) × (made.serial ≡ serial)) → IfOk result (λ made. made.under ≡ []) →
    IfOk result (HasMade run c serial p p)
unasked-made run c serial job p own number (Ok made) of under = record {
  number = ap (λ (j : ConstJob). j.number) of.0 ∙ number;
  drawn = of.1;
  knows = subst (All (Knows p.known)) (sym under) (All-nil (Knows p.known));
  goes = subst (λ fs. GoesBeside run (constants_of fs) (trail_of p) (trail_of p)) (sym under) (beside-none run (trail_of p) own);
}
unasked-made run c serial job p own number (Err e) of under = tt

-- one that has looked at the constants among its arguments
pub called-made : (run : Constants) (c serial : ℕ) (job : ConstJob) (p q : PassView) (arguments : StaticArguments) (a : Asked) → AreAsked run arguments p q a →
    job.number ≡ c → (result : Result ConstView NoMemory) → IfOk result (λ made. (made.job ≡ job) × (made.serial ≡ serial)) →
    IfOk result (λ made. made.under ≡ a.findings.items) → IfOk result (HasMade run c serial p q)
called-made run c serial job p q arguments a asked_ number (Ok made) of under = record {
  number = ap (λ (j : ConstJob). j.number) of.0 ∙ number;
  drawn = of.1;
  knows = subst (All (Knows q.known)) (sym under) asked_.was.knows;
  goes = subst (λ cs. GoesBeside run cs (trail_of p) (trail_of q)) (sym (ap constants_of under ∙ asked_.was.constants)) asked_.goes;
}
called-made run c serial job p q arguments a asked_ number (Err e) of under = tt
