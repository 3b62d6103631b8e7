-- What the definitions of class files say of some bytes, by computation.
use Rattle.std.proofs.Common.{◌≡◌, ℕ, ◌-◌, List, [], ◌∷◌, ◌++◌, refl, Some, None, Ok, true, false}
use Rattle.std.specs.Int.{cast_signed, w64}
use Rattle.mh_class_bytes.specs.Position.{Position}
use Rattle.mh_class_bytes.specs.Mutf8.{unit_len, sound_from}
use Rattle.mh_class_bytes.specs.Format.{reads, fault, repeated}
use Rattle.mh_class_pool.specs.declared.entry.Entry.TheVariants as entries
use Rattle.mh_class_pool.specs.declared.fault.ClassKind.TheVariants.{Truncated, BadMagic, BadVersion, BadIndex, BadCode, WrongKind, TooManySites, BadBootstraps, Trailing}
use Rattle.mh_class_pool.specs.Entries.{Slot, entry, utf8, utf8_bytes, contents, numeric, named, dynamics_from}
use Rattle.mh_class_pool.specs.References.{each, good_slot, own_references, good_descriptor}
use Rattle.mh_classfile.specs.declared.constant.Constant.TheVariants as constants
use Rattle.mh_classfile.specs.declared.site.Method.{Method}
use Rattle.mh_classfile.specs.Code.{fixed_len, raised, padding, instruction, ordinary, wide, passed, call_site, operands}
use Rattle.mh_classfile.specs.Members.{code_bytes, named_index, interface, class_names, field, method, members}
use Rattle.mh_classfile.specs.Bootstraps.{class_attribute, class_attributes}
use Rattle.mh_classfile.specs.File.{header, has_bootstrap, class_file, class_or_fault}

at_start : List ℕ → Position
at_start bytes = record { bytes = bytes; at = 0 }

magic : List ℕ → List ℕ
magic bytes = 0xCA ∷ 0xFE ∷ 0xBA ∷ 0xBE ∷ bytes

-- minor 0, major 61, a pool of the count 7
a_header : reads header (at_start (magic (0 ∷ 0 ∷ 0 ∷ 61 ∷ 0 ∷ 7 ∷ []))) ≡ Ok (7, record { bytes = magic (0 ∷ 0 ∷ 0 ∷ 61 ∷ 0 ∷ 7 ∷ []); at = 10 })
unfolding at_start magic header
a_header = refl

other_magic : reads header (at_start (0 ∷ 0xFE ∷ 0xBA ∷ 0xBE ∷ [])) ≡ fault 0 BadMagic
unfolding at_start header
other_magic = refl

version_66 : reads header (at_start (magic (0 ∷ 0 ∷ 0 ∷ 66 ∷ []))) ≡ fault 6 BadVersion
unfolding at_start magic header
version_66 = refl

count_cut_short : reads header (at_start (magic (0 ∷ 0 ∷ 0 ∷ 61 ∷ 0 ∷ []))) ≡ fault 8 Truncated
unfolding at_start magic header
count_cut_short = refl

no_count : reads header (at_start (magic (0 ∷ 0 ∷ 0 ∷ 61 ∷ 0 ∷ 0 ∷ []))) ≡ fault 8 BadIndex
unfolding at_start magic header
no_count = refl

return_len : fixed_len 177 ≡ 1
return_len = refl

multianewarray_len : fixed_len 197 ≡ 4
multianewarray_len = refl

invokeinterface_len : fixed_len 185 ≡ 5
invokeinterface_len = refl

reserved_len : fixed_len 202 ≡ 0
reserved_len = refl

no_padding : padding 8 11 ≡ 0
no_padding = refl

most_padding : padding 9 9 ≡ 3
most_padding = refl

-- -1 stands below 0
minus_one : raised 0xFFFFFFFF ≡ raised 0 - 1
minus_one = refl

-- a name and type, and a call site of the bootstrap method 0
some_pool : List Slot
some_pool = None ∷ Some (10, entries.NameAndType 0 0) ∷ Some (15, entries.InvokeDynamic 0 1) ∷ []

in_method : Method
in_method = record { name = 3; descriptor = 4 }

a_site : reads (instruction some_pool in_method true 0) (at_start (186 ∷ 0 ∷ 2 ∷ 0 ∷ 0 ∷ [])) ≡ Ok (
  record {
    method = in_method;
    pc = 0;
    index =
        2;
  } ∷ [],
  record { bytes = 186 ∷ 0 ∷ 2 ∷ 0 ∷ 0 ∷ []; at = 5 },
)
unfolding at_start some_pool in_method instruction call_site operands
a_site = refl

no_room : reads (instruction some_pool in_method false 0) (at_start (186 ∷ 0 ∷ 2 ∷ 0 ∷ 0 ∷ [])) ≡ fault 0 TooManySites
unfolding at_start some_pool in_method instruction call_site operands
no_room = refl

not_zero : reads (instruction some_pool in_method true 0) (at_start (186 ∷ 0 ∷ 2 ∷ 0 ∷ 1 ∷ [])) ≡ fault 0 BadCode
unfolding at_start some_pool in_method instruction call_site operands
not_zero = refl

no_call_site : reads (instruction some_pool in_method true 0) (at_start (186 ∷ 0 ∷ 1 ∷ 0 ∷ 0 ∷ [])) ≡ fault 0 WrongKind
unfolding at_start some_pool in_method instruction call_site operands
no_call_site = refl

iinc_widened : reads (instruction some_pool in_method true 0) (at_start (196 ∷ 132 ∷ 1 ∷ 0 ∷ 0 ∷ 1 ∷ [])) ≡ Ok (
  [],
  record {
    bytes =
        196 ∷ 132 ∷ 1 ∷ 0 ∷ 0 ∷ 1 ∷ [];
    at = 6;
  },
)
unfolding at_start some_pool in_method instruction ordinary wide passed
iinc_widened = refl

no_code : reads (code_bytes some_pool in_method 1 []) (at_start (0 ∷ 0 ∷ 0 ∷ 0 ∷ [])) ≡ fault 0 BadCode
unfolding at_start some_pool in_method code_bytes
no_code = refl

-- the only bootstrap method has the number 0
bootstrap_past_the_end : has_bootstrap 1 (Some (15, entries.InvokeDynamic 1 1)) ≡ fault 15 BadBootstraps
unfolding has_bootstrap
bootstrap_past_the_end = refl

-- a class `A` without a superclass, with a Long beside its own name: 40 bytes
small : List ℕ
small = magic (0 ∷ 0 ∷ 0 ∷ 61 ∷ 0 ∷ 5 ∷ 1 ∷ 0 ∷ 1 ∷ 65 ∷ 7 ∷ 0 ∷ 1 ∷ 5 ∷ 0 ∷ 0 ∷ 0 ∷ 0 ∷ 0 ∷ 0 ∷ 0 ∷ 7 ∷ 0 ∷ 33 ∷ 0 ∷ 2 ∷ 0 ∷ 0 ∷ 0 ∷ 0 ∷ 0 ∷ 0 ∷ 0 ∷ 0 ∷ 0 ∷ 0
    ∷ [])

-- no constant at index 0 and at the second index of the Long
small_class : class_or_fault 0 small ≡ Ok (record {
  constants = None ∷ Some constants.Other ∷ Some (constants.Class (65 ∷ [])) ∷ Some
      (constants.Long (cast_signed w64 7)) ∷ None ∷ [];
  dynamics = [];
  sites = [];
  bootstraps = [];
})
unfolding small magic class_file header entry utf8 utf8_bytes contents numeric named sound_from unit_len repeated dynamics_from each good_slot own_references
    good_descriptor class_names named_index interface members field method class_attributes class_attribute has_bootstrap
small_class = refl

a_byte_more : class_or_fault 0 (small ++ 0 ∷ []) ≡ fault 40 Trailing
unfolding small magic class_file header entry utf8 utf8_bytes contents numeric named sound_from unit_len repeated dynamics_from each good_slot own_references
    good_descriptor class_names named_index interface members field method class_attributes class_attribute has_bootstrap
a_byte_more = refl
