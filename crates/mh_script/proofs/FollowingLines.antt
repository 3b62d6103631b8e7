-- Lines and scripts each of which may stand after those before it.
use Rattle.std.proofs.Common.{◌≡◌, sym, subst, ◌==◌, true, not, ◌&&◌, List, [], ◌∷◌, ◌++◌, length, append_assoc, append-nil, is_some}
use Rattle.mh_values.specs.declared.class.Class.{Class}
use Rattle.mh_values.specs.Grammar.{descriptor_fault}
use Rattle.mh_leaves.specs.Reference.{is_class_name, is_method_name}
use Rattle.mh_script.specs.declared.line.Line.{Line}
use Rattle.mh_script.specs.declared.line.Line.TheVariants as line
use Rattle.mh_script.specs.declared.script.MethodName.{MethodName}
use Rattle.mh_script.specs.declared.script.Script.{Script}
use Rattle.mh_script.specs.declared.script.Step.{Step}
use Rattle.mh_script.specs.Faults.{bad_descriptor}
use Rattle.mh_script.specs.Find.{script_named}
use Rattle.mh_script.specs.Written.{header_tokens}
use Rattle.mh_base.proofs.LineTokens.{AreFullTokens}
use Rattle.mh_script.proofs.StandingLines.{StandsAfter}

-- a line may stand after these of its script, and these are not the most that it may have
pub record MayFollow (classes : List Class) (before : List Step) (l : Line) : Type 0 where
  pub stands : StandsAfter classes before l
  pub room : not (length before == 64) ≡ true

-- each of these steps follows those before it
abbrev pub AreSteps : List Class → List Step → List Step → Type 0
AreSteps classes before [] = Unit {0}
AreSteps classes before (s ∷ rest) = MayFollow classes before (line.Step s) × AreSteps classes (before ++ s ∷ []) rest

-- a header may stand after these scripts
pub record IsHeader (before : List Script) (method : MethodName) : Type 0 where
  pub names : (is_class_name method.owner && is_method_name method.name) ≡ true
  pub new : not (is_some (script_named before method.owner method.name method.descriptor)) ≡ true
  pub readable : not (is_some (bad_descriptor (descriptor_fault method.descriptor))) ≡ true
  pub tokens : AreFullTokens (header_tokens method)

-- a script may stand after these
pub record IsNext (classes : List Class) (before : List Script) (script : Script) : Type 0 where
  pub header : IsHeader before script.method
  pub steps : AreSteps classes [] script.steps
  pub last : MayFollow classes script.steps (line.End script.end)

-- each of these scripts may stand after those before it
abbrev pub AreScripts : List Class → List Script → List Script → Type 0
AreScripts classes before [] = Unit {0}
AreScripts classes before (s ∷ rest) = IsNext classes before s × AreScripts classes (before ++ s ∷ []) rest

pub steps-more : (classes : List Class) (before steps : List Step) (s : Step) → AreSteps classes before steps →
    MayFollow classes (before ++ steps) (line.Step s) → AreSteps classes before (steps ++ s ∷ [])
steps-more classes before [] s are may = (subst (λ ss. MayFollow classes ss (line.Step s)) (append-nil before) may, tt)
steps-more classes before (t ∷ rest) s are may = (
  are.0,
  steps-more classes (before ++ t ∷ []) rest s are.1
      (subst (λ ss. MayFollow classes ss (line.Step s)) (sym (append_assoc before (t ∷ []) rest)) may),
)

pub scripts-more : (classes : List Class) (before scripts : List Script) (s : Script) → AreScripts classes before scripts →
    IsNext classes (before ++ scripts) s → AreScripts classes before (scripts ++ s ∷ [])
scripts-more classes before [] s are is = (subst (λ ss. IsNext classes ss s) (append-nil before) is, tt)
scripts-more classes before (t ∷ rest) s are is =
    (are.0, scripts-more classes (before ++ t ∷ []) rest s are.1 (subst (λ ss. IsNext classes ss s) (sym (append_assoc before (t ∷ []) rest)) is))
