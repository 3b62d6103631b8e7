-- A made class is read back: as a class file by its grammar, with the call sites that it was made for.
use Rattle.std.specs.Prelude.{◌≡◌, ℕ, ◌+◌, ◌*◌, ◌≤◌, List, [], ◌∷◌, codes, length, map}
use Rattle.std.specs.List.{AllByRecursion}
use Rattle.std.specs.Int.{w32, w64}
use Rattle.std.specs.Int.RustNames.{FitsSigned}
use Rattle.mh_values.specs.Spelling.{IsMethodDescriptor}
use Rattle.mh_class_pool.specs.ReferenceKinds.{REF_invokeStatic}
use Rattle.mh_classfile.specs.declared.constant.Constant.{Constant}
use Rattle.mh_classfile.specs.declared.constant.Constant.TheVariants as constants
use Rattle.mh_classfile.specs.declared.constant.SiteView.{SiteView}
use Rattle.mh_classfile.specs.Class.{Class, Bootstrap}
use Rattle.mh_classfile.specs.File.{IsClassFile}
use Rattle.mh_made_class.specs.declared.site.MadeArg.{MadeArg}
use Rattle.mh_made_class.specs.declared.site.MadeArg.TheVariants as args
use Rattle.mh_made_class.specs.declared.site.MadeSite.{MadeSite}
use Rattle.mh_made_class.specs.Constants.{bootstrap_type}

-- a number lies in the range of its type, as each number of a program does
abbrev pub IsNumber : MadeArg → Type 0
IsNumber (args.Integer n) = FitsSigned w32 n
IsNumber (args.Long n) = FitsSigned w64 n
IsNumber (args.Str text) = Unit {0}

-- a call site whose type is a method descriptor
pub record IsReadable (site : MadeSite) : Type 0 where
  pub ty : IsMethodDescriptor site.ty
  pub args : AllByRecursion IsNumber site.args

-- the constant that a static argument is read as
abbrev pub constant_of : MadeArg → Constant
constant_of (args.Integer n) = constants.Integer n
constant_of (args.Long n) = constants.Long n
constant_of (args.Str text) = constants.Str text

-- the bootstrap method of a call site: a handle of kind REF_invokeStatic, and the static arguments in order
abbrev pub bootstrap_of : MadeSite → Bootstrap
bootstrap_of site = record {
  handle = record { kind = REF_invokeStatic; owner = codes "made/Boot"; name = site.script; descriptor = bootstrap_type };
  arguments = map constant_of site.args;
}

-- the call site of a number: it stands in the method `run()V`, five bytes after the one before it, and calls `f` by the bootstrap method
-- of its number
abbrev pub site_of : ℕ → MadeSite → SiteView
site_of k site = record {
  method = codes "run";
  method_descriptor = codes "()V";
  pc = 5 * k;
  bootstrap = k;
  name = codes "f";
  descriptor = site.ty;
}

-- call sites, counted from a number
abbrev pub sites_of : ℕ → List MadeSite → List SiteView
sites_of k [] = []
sites_of k (site ∷ sites) = site_of k site ∷ sites_of (k + 1) sites

-- a class has exactly these call sites and their bootstrap methods, in order
pub record HasSites (made : List MadeSite) (c : Class) : Type 0 where
  pub sites : c.sites ≡ sites_of 0 made
  pub bootstraps : c.bootstraps ≡ map bootstrap_of made

-- the bytes are a class file of a class with these call sites, within any room that they find room in
abbrev pub ReadsBack : List MadeSite → List ℕ → Type 0
ReadsBack sites bytes = AllByRecursion IsReadable sites → (room : ℕ) → length sites ≤ room → (c : Class) × IsClassFile room bytes c × HasSites sites c
