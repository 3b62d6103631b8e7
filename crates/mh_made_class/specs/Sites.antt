-- The call sites that a class file is made for, and how many indexes of its constant pool they take.
use Rattle.std.specs.Prelude.{ℕ, ◌+◌, ◌<◌, ◌^◌, List, length, sum_by}
use Rattle.std.specs.List.{AllByRecursion}
use Rattle.mh_made_class.specs.declared.site.MadeArg.{MadeArg}
use Rattle.mh_made_class.specs.declared.site.MadeArg.TheVariants as args
use Rattle.mh_made_class.specs.declared.site.MadeSite.{MadeSite}

-- a text of the characters U+0001 to U+007F whose length fits into 16 bits
pub record IsShortAscii (text : List ℕ) : Type 0 where
  pub ascii : AllByRecursion (λ c. (0 < c) × (c < 128)) text
  pub short : length text < 2 ^ 16

-- a static argument that can be written: a number, or such a text
abbrev pub IsMakeableArgument : MadeArg → Type 0
IsMakeableArgument (args.Str text) = IsShortAscii text
IsMakeableArgument _ = Unit {0}

-- a call site that can be written: its texts and its static arguments can be
pub record IsMakeableSite (site : MadeSite) : Type 0 where
  pub script : IsShortAscii site.script
  pub ty : IsShortAscii site.ty
  pub args : AllByRecursion IsMakeableArgument site.args

-- the indexes of a static argument: a Long takes two (JVMS 4.4.5), and so do a text and the String that names it
abbrev pub argument_width : MadeArg → ℕ
argument_width (args.Integer n) = 1
argument_width (args.Long n) = 2
argument_width (args.Str text) = 2

-- the indexes of a call site: seven, and those of its static arguments
abbrev pub site_width : MadeSite → ℕ
site_width site = 7 + sum_by argument_width site.args

-- the first index of the first call site: 0 is not usable, and the twelve entries that each made class has stand before it
abbrev pub first_of_sites : ℕ
first_of_sites = 13

-- the count of the pool: one more than its last index
abbrev pub pool_count : List MadeSite → ℕ
pool_count sites = first_of_sites + sum_by site_width sites

-- Call sites that a class file can be made for: each can be written, and the pool's count fits into 16 bits. The numbers of sites, of arguments and of bytes of
-- code then fit too.
pub record AreMakeable (sites : List MadeSite) : Type 0 where
  pub each : AllByRecursion IsMakeableSite sites
  pub few : pool_count sites < 2 ^ 16
