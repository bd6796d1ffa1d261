-- The kit's words that proofs use, and the types that the code declares, passed on.
pub use Prim.Native.Nat.{◌%◌, ◌*◌, ◌+◌, ◌-◌, ◌/◌, ◌<◌, ◌^◌, ◌≤◌, max, min, suc, zero, ℕ}
pub use borrow.Author.Fill.{fill_more}
pub use borrow.Author.Rules.{rules}
pub use borrow.Author.Tests.{eq-eqb, eqb-false, eqb-true, le-leb, le-ltb, leb-false, leb-true, lt-leb, lt-ltb, ltb-false, ltb-true, ne_eqb, not-false, not-true}
pub use borrow.Fn.Kinds.{Dens, ended_of, res_t}
pub use borrow.Rule.Slice.PartMut.{Post-is, post_of}
pub use contract.Lifetimes.{Lfts}
pub use denote.Triple.Clauses.{Lasts, at_exit}
unfoldable pub use lib.Count.{count_trailing_zeros}
pub use lib.Dec.{T, eqb, leb, leb-suc-suc as leb-suc_suc, lit<, lit≤, ltb, ltb→lt}
pub use lib.Ieee.{Float, binary32, down, fin, inf, nan, to_bits}
unfoldable pub use lib.Ieee.{fits, is_nan, odd, of_bits, of_fields, up}
pub use lib.Ieee.Bits.{nan_bits_above, of_bits-fits, of_bits-to_bits}
pub use lib.Ieee.Exact.{HasValue, odd_sign}
pub use lib.Ieee.Nearest.{div_same}
pub use lib.IntN.{*ℤ_comm, *ℤ-zero, +ℤ_assoc, +ℤ_comm, +ℤ_idl, +ℤ_idr, +ℤ_invr, +ℤ-neg_ℤ_cancel, +ℤ_one, -ℤ-+ℤ_cancel, -ℤ_one, ◌*ℤ◌, ◌+ℤ◌, ◌-ℤ◌}
pub use lib.IntN.{nat_abs, negsuc}
pub use lib.IntN.{neg_ℤ, neg_ℤ-+ℤ, neg_ℤ-neg_ℤ, neg_ℤ-pred_ℤ, neg_ℤ-suc_ℤ, pos, pred_ℤ, pred_ℤ-*ℤ, pred_ℤ-+ℤ, sub_ℕ, suc_ℤ, suc_ℤ-*ℤ, suc_ℤ-+ℤ}
pub use lib.IntN.{zero-*ℤ, ℤ, ℤ_ind}
pub use lib.ListN.{get_or-append as list_get_or-append, get_or-eq_default as list_get_or-eq_default, drop, drop_of_length-le, get_or}
pub use lib.ListN.{get_or-replicate, length, length-append, length-drop, length-map}
pub use lib.ListN.{length-replicate, length-set, length-take, replicate, set, take, take-append-drop}
pub use lib.Pow.{pow-add, pow_mono, pow_pos, shr_le}
pub use lib.Seq.{append_snoc, drop-append-le, drop-append_seam, drop-cons, drop-drop, drop-length, drop-set-lt, ext_get_or, get_or-append-add}
pub use lib.Seq.{get_or-append_seam}
pub use lib.Seq.{get_or-drop, get_or-set_other, get_or-set_same, get_or-take, length-sets, length-take-le, set_at, set-get_or, set_out, sets, sets-eq, take_all}
pub use lib.Seq.{take-append-le, take-append_seam, take-length, take-suc}
pub use lib.Signed.{le_z, lt_z, mag, non_neg}
pub use mathlib.Core.Bool.{Bool, ◌&&◌, false, not, true, true≢false}
pub use mathlib.Core.List.{List, [], ◌++◌, ◌∷◌, append_assoc, append-nil, map}
pub use mathlib.Core.Logic.{◌↔◌, ◌≢◌, ◌⊎◌, inl, inr, ⊎_elim}
pub use mathlib.Core.Option.{Option, get_or as option_get_or, none, some}
pub use mathlib.Core.Path.{◌∙◌, ◌≡◌, ap, refl, subst, sym}
pub use mir.Facts.{sfits_lit, sfits_widen, to_z-of_z, to_z_pos}
pub use mir.Syntax.{w32, w64}
pub use mir.Val.{Fits, SFits, of_z, to_z}
pub use native.Mathlib.Nat.{add_assoc, add_comm, add-mod_right, add-mul, add-mul-div_right, add-suc, add-zero, div-add-mod', div-eq_of_lt, div-eq_of_lt-le}
pub use native.Mathlib.Nat.{div-lt_iff_lt-mul, div-mul-le_self, eq-or-lt_of_le, le-div_iff_mul-le, le-max_right, le_of_eq, le_of_lt, le_of_mul-le-mul_right}
pub use native.Mathlib.Nat.{le_of_suc-le-suc, le_refl, le_trans, lt_irrefl, lt_of_le_of_lt, lt_of_lt_of_le, max-le, mod-eq_of_lt, mod-lt, mul-add, mul_assoc}
pub use native.Mathlib.Nat.{mul_comm, mul-div-mul_left, mul-le-mul, mul-le-mul_left, mul-le-mul_right, mul_left_comm, mul-one, not-suc-le-zero, one-mul}
pub use native.Mathlib.Nat.{sub_self, sub-zero, suc-add, suc-mul, zero-add, zero-mul}
pub use native.Mathlib.Numerals.{add-one, one-add}
pub use native.Mathlib.Omega.{arith}
pub use Rattle.std.specs.Prelude.{Result, Ok, Err}
pub use Rattle.rules.specs.declared.Edit.{Edit}
pub use Rattle.rules.specs.declared.Edit.TheVariants.{Hold, Mend, Release}
pub use Rattle.rules.specs.declared.Refusal.{Refusal}
pub use Rattle.rules.specs.declared.Refusal.TheVariants.{BadFactor, BadGroup, BadHold, BadKind, BadPart, BadVersion, BytesAfter, EndMoving}
pub use Rattle.rules.specs.declared.Refusal.TheVariants.{HoldNotDriven, HoldOverRev, HoldStanding, JobEndsEarly, KindMissing, NoGear, NotFinite}
pub use Rattle.rules.specs.declared.Refusal.TheVariants.{OutOfBounds, OutsideTrace, RoomLength, RoomShort, SpeedOver, StepOver, TraceLength}
pub use Rattle.rules.specs.declared.Refusal.TheVariants.{VehicleField}
pub use Rattle.rules.specs.declared.Role.{Role}
pub use Rattle.rules.specs.declared.Role.TheVariants.{AfterLow, Closing, First, Inner}
pub use Rattle.rules.specs.declared.Summary.{Summary}
pub use Rattle.rules.specs.declared.Vehicle.{Vehicle}
pub use Rattle.rules.specs.Refusals.{Answer}
