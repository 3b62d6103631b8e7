-- What the definitions of the pool say of some bytes and entries, by computation.
use Rattle.std.proofs.Common.{◌≡◌, ℕ, List, [], ◌∷◌, refl, Some, None, Ok, true, false}
use Rattle.mh_class_bytes.specs.Position.{Position}
use Rattle.mh_class_bytes.specs.Mutf8.{unit_len, sound_from}
use Rattle.mh_class_bytes.specs.Format.{reads, fault, repeated}
use Rattle.mh_class_pool.specs.declared.entry.Entry.TheVariants as entries
use Rattle.mh_class_pool.specs.declared.entry.Kind.TheVariants as kinds
use Rattle.mh_class_pool.specs.declared.fault.ClassKind.TheVariants.{Truncated, BadTag, BadIndex, BadText, WrongKind, BadDescriptor, TooManyConstants}
use Rattle.mh_class_pool.specs.Entries.{Slot, entry, utf8, utf8_bytes, contents, numeric, named, handle, dynamics_from, dynamics, pool_of}
use Rattle.mh_class_pool.specs.References.{names, own_references, good_descriptor, good_method_name, good_slot, each, good_references}

at_start : List ℕ → Position
at_start bytes = record { bytes = bytes; at = 0 }

an_integer : reads (entry false false) (at_start (3 ∷ 0 ∷ 0 ∷ 1 ∷ 0 ∷ [])) ≡ Ok (entries.Integer 256, record { bytes = 3 ∷ 0 ∷ 0 ∷ 1 ∷ 0 ∷ []; at = 5 })
unfolding at_start entry contents numeric
an_integer = refl

a_handle : reads (entry false false) (at_start (15 ∷ 6 ∷ 1 ∷ 2 ∷ [])) ≡ Ok (entries.MethodHandle 6 258, record { bytes = 15 ∷ 6 ∷ 1 ∷ 2 ∷ []; at = 4 })
unfolding at_start entry contents handle
a_handle = refl

cut_short : reads (entry false false) (at_start (7 ∷ 0 ∷ [])) ≡ fault 1 Truncated
unfolding at_start entry contents named
cut_short = refl

no_tag : reads (entry false false) (at_start (2 ∷ 0 ∷ [])) ≡ fault 0 BadTag
unfolding at_start entry contents
no_tag = refl

long_at_the_end : reads (entry true false) (at_start (5 ∷ [])) ≡ fault 0 BadIndex
unfolding at_start entry
long_at_the_end = refl

zero_byte : reads (entry false false) (at_start (1 ∷ 0 ∷ 2 ∷ 65 ∷ 0 ∷ [])) ≡ fault 4 BadText
unfolding at_start entry utf8 utf8_bytes sound_from unit_len
zero_byte = refl

another_dynamic : reads (entry false true) (at_start (17 ∷ [])) ≡ fault 0 TooManyConstants
unfolding at_start entry
another_dynamic = refl

-- the Dynamic entries 1 and 4
two_dynamics : dynamics (None ∷ Some (10, entries.Dynamic 0 5) ∷ Some (15, entries.Long 1 2) ∷ None ∷ Some (24, entries.Dynamic 0 5) ∷ []) ≡ 1 ∷ 4 ∷ []
unfolding dynamics_from
two_dynamics = refl

-- a Long takes the indexes 1 and 2
two_indexes : reads (pool_of 3) (at_start (5 ∷ 0 ∷ 0 ∷ 0 ∷ 1 ∷ 0 ∷ 0 ∷ 0 ∷ 2 ∷ [])) ≡ Ok (
  None ∷ Some (0, entries.Long 1 2) ∷ None ∷ [],
  record {
    bytes =
        5 ∷ 0 ∷ 0 ∷ 0 ∷ 1 ∷ 0 ∷ 0 ∷ 0 ∷ 2 ∷ [];
    at = 9;
  },
)
unfolding at_start entry contents numeric repeated dynamics_from
two_indexes = refl

-- the texts `m` and `I`, a name and type of them, a class `m`, and a method
some_pool : List Slot
some_pool = None ∷ Some (10, entries.Utf8 (109 ∷ [])) ∷ Some (14, entries.Utf8 (73 ∷ [])) ∷ Some (18, entries.NameAndType 1 2) ∷ Some (23, entries.Class 1) ∷
    Some (26, entries.Methodref 4 3) ∷ []

no_index : names some_pool kinds.Utf8 0 7 ≡ fault 7 BadIndex
unfolding some_pool
no_index = refl

past_the_pool : names some_pool kinds.Utf8 6 7 ≡ fault 7 BadIndex
unfolding some_pool
past_the_pool = refl

another_kind : names some_pool kinds.Class 1 7 ≡ fault 7 WrongKind
unfolding some_pool
another_kind = refl

kind_ten : own_references some_pool 7 (entries.MethodHandle 10 5) ≡ fault 7 WrongKind
unfolding some_pool own_references
kind_ten = refl

field_of_a_method : own_references some_pool 7 (entries.MethodHandle 1 5) ≡ fault 7 WrongKind
unfolding some_pool own_references
field_of_a_method = refl

-- the method's descriptor is `I`, whose tag stands at 14
no_method_descriptor : good_references some_pool ≡ fault 14 BadDescriptor
unfolding some_pool each good_slot own_references good_descriptor good_method_name
no_method_descriptor = refl
