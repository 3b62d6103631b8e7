-- What a class is: its constants, its call sites and its bootstrap methods (JVMS 4.4, 4.7.23).
use Rattle.std.specs.Prelude.{◌≡◌, ℕ, ◌+◌, ◌*◌, ◌^◌, ◌<◌, nat_lt, List, [], length, map, slice_get, Option, Some, None, unwrap_or}
use Rattle.std.specs.List.{count_by, range_with_len}
use Rattle.std.specs.Int.{cast_signed, w32, w64}
use Rattle.mh_class_pool.specs.declared.entry.Entry.TheVariants as entries
use Rattle.mh_class_pool.specs.Entries.{Slot, slot, text, dynamics}
use Rattle.mh_classfile.specs.declared.constant.Constant.{Constant}
use Rattle.mh_classfile.specs.declared.constant.Constant.TheVariants as constants
use Rattle.mh_classfile.specs.declared.constant.DynamicView.{DynamicView}
use Rattle.mh_classfile.specs.declared.constant.HandleRef.{HandleRef}
use Rattle.mh_classfile.specs.declared.constant.Named.{Named}
use Rattle.mh_classfile.specs.declared.constant.SiteView.{SiteView}
use Rattle.mh_classfile.specs.declared.site.Site.{Site}
use Rattle.mh_classfile.specs.Rows.{Row}

-- a bootstrap method: its handle, and what it is given
pub record Bootstrap : Type 0 where
  pub handle : HandleRef
  pub arguments : List Constant

-- a class: constants by index, the Dynamic ones among them in order, call sites in order of method and pc, bootstrap methods
pub record Class : Type 0 where
  pub constants : List (Option Constant)
  pub dynamics : List DynamicView
  pub sites : List SiteView
  pub bootstraps : List Bootstrap

-- the name of a class entry; none of another one
abbrev pub name_of : List Slot → Slot → List ℕ
name_of pool (Some (at, entries.Class name)) = text pool name
name_of pool _ = []

-- the name of the class at an index
abbrev pub class_name : List Slot → ℕ → List ℕ
class_name pool i = name_of pool (slot pool i)

-- what a name and type names; nothing for another entry
abbrev pub named : List Slot → Slot → Named
named pool (Some (at, entries.NameAndType name descriptor)) = record { name = text pool name; descriptor = text pool descriptor }
named pool _ = record { name = []; descriptor = [] }

-- what the name and type at an index names
abbrev pub name_at : List Slot → ℕ → Named
name_at pool i = named pool (slot pool i)

-- a reference of a kind to what is named so in an owner
abbrev pub reference : ℕ → List ℕ → Named → HandleRef
reference kind owner n = record { kind = kind; owner = owner; name = n.name; descriptor = n.descriptor }

-- a reference of a kind to a member
abbrev pub member_of : List Slot → ℕ → Slot → HandleRef
member_of pool kind (Some (at, entries.Fieldref class name)) = reference kind (class_name pool class) (name_at pool name)
member_of pool kind (Some (at, entries.Methodref class name)) = reference kind (class_name pool class) (name_at pool name)
member_of pool kind (Some (at, entries.InterfaceMethodref class name)) = reference kind (class_name pool class) (name_at pool name)
member_of pool kind _ = reference kind [] (named pool None)

-- what a method handle refers to
abbrev pub handle_of : List Slot → Slot → HandleRef
handle_of pool (Some (at, entries.MethodHandle kind reference)) = member_of pool kind (slot pool reference)
handle_of pool _ = member_of pool 0 None

-- what the method handle at an index refers to
abbrev pub handle : List Slot → ℕ → HandleRef
handle pool i = handle_of pool (slot pool i)

-- the bootstrap method of a Dynamic entry, and what is named there
abbrev pub computed : List Slot → Slot → ℕ × Named
computed pool (Some (at, entries.Dynamic bootstrap name)) = (bootstrap, name_at pool name)
computed pool _ = (0, named pool None)

-- what the Dynamic entry at an index says
abbrev pub dynamic_view : List Slot → ℕ → DynamicView
dynamic_view pool i = let c = computed pool (slot pool i) in record { index = i; bootstrap = c.0; name = c.1.name; descriptor = c.1.descriptor }

-- the constant of an index; none if there is no entry
abbrev pub constant_of : List Slot → ℕ → Slot → Option Constant
constant_of pool i None = None
constant_of pool i (Some (at, entries.Integer n)) = Some (constants.Integer (cast_signed w32 n))
constant_of pool i (Some (at, entries.Float)) = Some constants.Float
constant_of pool i (Some (at, entries.Long high low)) = Some (constants.Long (cast_signed w64 (2 ^ 32 * high + low)))
constant_of pool i (Some (at, entries.Double)) = Some constants.Double
constant_of pool i (Some (at, entries.Class name)) = Some (constants.Class (text pool name))
constant_of pool i (Some (at, entries.Str name)) = Some (constants.Str (text pool name))
constant_of pool i (Some (at, entries.MethodHandle kind reference)) = Some (constants.Handle (member_of pool kind (slot pool reference)))
constant_of pool i (Some (at, entries.MethodType name)) = Some (constants.MethodType (text pool name))
constant_of pool i (Some (at, entries.Dynamic bootstrap name)) = Some (constants.Dynamic (dynamic_view pool i))
constant_of pool i (Some _) = Some constants.Other

-- the constant at an index
abbrev pub constant_at : List Slot → ℕ → Option Constant
constant_at pool i = constant_of pool i (slot pool i)

-- the constant at an index that names one
abbrev pub argument : List Slot → ℕ → Constant
argument pool i = unwrap_or (constant_at pool i) constants.Other

-- the bootstrap method of a call site, and what is named there
abbrev pub called : List Slot → Slot → ℕ × Named
called pool (Some (at, entries.InvokeDynamic bootstrap name)) = (bootstrap, name_at pool name)
called pool _ = (0, named pool None)

-- the call site of an instruction
abbrev pub site_view : List Slot → Site → SiteView
site_view pool s = let c = called pool (slot pool s.index) in record {
  method = text pool s.method.name;
  method_descriptor = text pool s.method.descriptor;
  pc = s.pc;
  bootstrap = c.0;
  name = c.1.name;
  descriptor = c.1.descriptor;
}

-- a bootstrap method that was read
abbrev pub bootstrap_of : List Slot → Row → Bootstrap
bootstrap_of pool row = record { handle = handle pool row.handle; arguments = map (argument pool) row.arguments }

-- the class of a pool, its call sites and its bootstrap methods
abbrev pub class_of : List Slot → List Site → List Row → Class
class_of pool sites rows = record {
  constants = map (constant_at pool) (range_with_len 0 (length pool));
  dynamics = map (dynamic_view pool) (dynamics pool);
  sites = map (site_view pool) sites;
  bootstraps = map (bootstrap_of pool) rows;
}

-- the number of the Dynamic entry at an index: how many stand before the index
abbrev pub number_of : Class → ℕ → ℕ
number_of class index = count_by (λ d. nat_lt d.index index) class.dynamics

-- each call site of a class names a bootstrap method that is there (JVMS 4.4.10, 4.7.23)
abbrev pub HasBootstraps : Class → Type 0
HasBootstraps class = (k : ℕ) (site : SiteView) → slice_get class.sites k ≡ Some site → site.bootstrap < length class.bootstraps

-- each Dynamic entry that a bootstrap method of a class is given is one of the class's, and has its number among them
abbrev pub HasDynamics : Class → Type 0
HasDynamics class =
    (j : ℕ) (b : Bootstrap) (i : ℕ) (d : DynamicView) → slice_get class.bootstraps j ≡ Some b → slice_get b.arguments i ≡ Some (constants.Dynamic d) →
    number_of class d.index < length class.dynamics
