-- What a field stands for is of no other kind than the field.
use Rattle.std.proofs.Common.{◌≡◌, refl, sym, ap, ◌∙◌, None, List}
use Rattle.std.specs.declared.sync.Arc.{Arc}
use Rattle.std.specs.declared.alloc.Global.{Global}
use Rattle.mh_values.specs.declared.class.ClassId.{ClassId}
use Rattle.mh_values.specs.declared.types.Comp.{Comp as Component}
use Rattle.mh_values.specs.declared.value.LeafId.{LeafId}
use Rattle.mh_convert.specs.declared.conv.Conv.{Conv as Rule}
use Rattle.mh_convert.specs.declared.conv.RetConv.{RetConv}
use Rattle.mh_leaf.specs.LeafTable.{LeafTable}
use Rattle.mh_pieces.specs.declared.piece.Piece.{Piece}
use Rattle.mh_form.specs.declared.slot.Slot.{Slot}
use Rattle.mh_form.specs.declared.field.Bound.{Bound}
use Rattle.mh_form.specs.declared.field.Field.{Field}
use Rattle.mh_form.specs.declared.field.Field.TheViews.{roll-Field, roll-out-Field}
use Rattle.mh_form.specs.declared.field.Field.TheVariants.{Part, Part', outs-Part', rolls-Part, Val, Leaf, Class, Conv, Ret, Explicit, ExplicitRet, Comp, Joined}
use Rattle.mh_form.specs.Run.{sense, slot_of, leaf_of, part_of, class_of, conv_of, ret_of, comp_of, joined_of}

pub no_slot : (table : LeafTable) (e : Field) → ((x : Slot) → e ≡ Val x → ⊥) → slot_of (sense table e) ≡ None
no_slot table (Val x) h = absurd (h x refl)
no_slot table (Leaf x) h = refl
no_slot table (Part' p b s r) h = refl
no_slot table (Class x) h = refl
no_slot table (Conv x) h = refl
no_slot table (Ret x) h = refl
no_slot table (Explicit x) h = refl
no_slot table (ExplicitRet x) h = refl
no_slot table (Comp x) h = refl
no_slot table (Joined x) h = refl

pub no_leaf : (table : LeafTable) (e : Field) → ((x : LeafId) → e ≡ Leaf x → ⊥) → leaf_of (sense table e) ≡ None
no_leaf table (Val x) h = refl
no_leaf table (Leaf x) h = absurd (h x refl)
no_leaf table (Part' p b s r) h = refl
no_leaf table (Class x) h = refl
no_leaf table (Conv x) h = refl
no_leaf table (Ret x) h = refl
no_leaf table (Explicit x) h = refl
no_leaf table (ExplicitRet x) h = refl
no_leaf table (Comp x) h = refl
no_leaf table (Joined x) h = refl

pub no_part : (table : LeafTable) (e : Field) → ((x : Arc Bound Global) → e ≡ Part x → ⊥) → part_of (sense table e) ≡ None
no_part table (Val x) h = refl
no_part table (Leaf x) h = refl
no_part table (Part' p b s r) h =
    absurd (h _ (sym (roll-out-Field (Part' p b s r)) ∙ (ap roll-Field (outs-Part' p b s r) ∙ rolls-Part _)))
no_part table (Class x) h = refl
no_part table (Conv x) h = refl
no_part table (Ret x) h = refl
no_part table (Explicit x) h = refl
no_part table (ExplicitRet x) h = refl
no_part table (Comp x) h = refl
no_part table (Joined x) h = refl

pub no_class : (table : LeafTable) (e : Field) → ((x : ClassId) → e ≡ Class x → ⊥) → class_of (sense table e) ≡ None
no_class table (Val x) h = refl
no_class table (Leaf x) h = refl
no_class table (Part' p b s r) h = refl
no_class table (Class x) h = absurd (h x refl)
no_class table (Conv x) h = refl
no_class table (Ret x) h = refl
no_class table (Explicit x) h = refl
no_class table (ExplicitRet x) h = refl
no_class table (Comp x) h = refl
no_class table (Joined x) h = refl

pub no_conv : (table : LeafTable) (e : Field) → ((x : Rule) → e ≡ Conv x → ⊥) → ((x : Rule) → e ≡ Explicit x → ⊥) → conv_of (sense table e) ≡ None
no_conv table (Val x) h k = refl
no_conv table (Leaf x) h k = refl
no_conv table (Part' p b s r) h k = refl
no_conv table (Class x) h k = refl
no_conv table (Conv x) h k = absurd (h x refl)
no_conv table (Ret x) h k = refl
no_conv table (Explicit x) h k = absurd (k x refl)
no_conv table (ExplicitRet x) h k = refl
no_conv table (Comp x) h k = refl
no_conv table (Joined x) h k = refl

pub no_ret : (table : LeafTable) (e : Field) → ((x : RetConv) → e ≡ Ret x → ⊥) → ((x : RetConv) → e ≡ ExplicitRet x → ⊥) → ret_of (sense table e) ≡ None
no_ret table (Val x) h k = refl
no_ret table (Leaf x) h k = refl
no_ret table (Part' p b s r) h k = refl
no_ret table (Class x) h k = refl
no_ret table (Conv x) h k = refl
no_ret table (Ret x) h k = absurd (h x refl)
no_ret table (Explicit x) h k = refl
no_ret table (ExplicitRet x) h k = absurd (k x refl)
no_ret table (Comp x) h k = refl
no_ret table (Joined x) h k = refl

pub no_comp : (table : LeafTable) (e : Field) → ((x : Component) → e ≡ Comp x → ⊥) → comp_of (sense table e) ≡ None
no_comp table (Val x) h = refl
no_comp table (Leaf x) h = refl
no_comp table (Part' p b s r) h = refl
no_comp table (Class x) h = refl
no_comp table (Conv x) h = refl
no_comp table (Ret x) h = refl
no_comp table (Explicit x) h = refl
no_comp table (ExplicitRet x) h = refl
no_comp table (Comp x) h = absurd (h x refl)
no_comp table (Joined x) h = refl

pub no_joined : (table : LeafTable) (e : Field) → ((x : List Piece) → e ≡ Joined x → ⊥) → joined_of (sense table e) ≡ None
no_joined table (Val x) h = refl
no_joined table (Leaf x) h = refl
no_joined table (Part' p b s r) h = refl
no_joined table (Class x) h = refl
no_joined table (Conv x) h = refl
no_joined table (Ret x) h = refl
no_joined table (Explicit x) h = refl
no_joined table (ExplicitRet x) h = refl
no_joined table (Comp x) h = refl
no_joined table (Joined x) h = absurd (h x refl)
