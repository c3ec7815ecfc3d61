-- Counts within their limits.
use Rattle.std.proofs.Common.{◌≡◌, ℕ, ◌≤◌, List, [], ◌++◌, Bool, true, false, not, ◌+◌, ◌&&◌, ◌||◌, length, Option, Some, None, is_some, Result, Ok, if◌then◌else◌, refl, arith}
use Rattle.std.specs.Prelude.{nat_le, nat_lt}
use Rattle.tal_types.specs.declared.types.Ty.{Ty}
use Rattle.tal_syntax.specs.declared.form.RegType.{RegType}
use Rattle.tal_syntax.specs.declared.form.TypeText.{TypeText}
use Rattle.tal_names.specs.Declarations.{Names}
use Rattle.tal_rows.specs.Trials.{unless}
use Rattle.tal_rows.specs.Lines.{all_known, slots_given, slots_known, repeats, types_in, label_line}
use Rattle.tal_image.specs.Conditions.{most_code}
use Rattle.tal_operands.specs.declared.instructions.Instruction.{Instruction}
use Rattle.tal_operands.specs.Instructions.{is_misplaced, inst_fault}
use Rattle.tal_operands.specs.declared.operands.Sense.{Sense}
use Rattle.unit_files.specs.declared.parts.UnitMark.{UnitMark}
use Rattle.unit_files.specs.declared.parts.FixUp.{FixUp}
use Rattle.tal_code.specs.declared.holes.HoledCode.{HoledCode}
use Rattle.tal_code.specs.Holes.{open_bytes}
use Rattle.tal_code.specs.Functions.{UnitCodeView, instruction_marks, fixups_of, with_inst, has_room, most_blocks, most_marks, most_fixups}

-- A test of three is each of them.
pub three : (a b c : Bool) → (a && b && c) ≡ true → (a ≡ true) × (b ≡ true) × (c ≡ true)
three true true true e = (refl, refl, refl)
three true true false e = cc
three true false c e = cc
three false b c e = cc

-- What has room is within its limits.
pub within : (u : UnitCodeView) → has_room u ≡ true → (length u.code ≤ most_code) × (length u.marks ≤ most_marks) × (length u.fixups ≤ most_fixups)
unfolding has_room
within u e =
    let t = three (nat_le (length u.code) most_code) (nat_le (length u.marks) most_marks) (nat_le (length u.fixups) most_fixups) e in
    (grind arith, grind arith, grind arith)

-- the least code by what holds
abbrev pub fault : (u p a b c r n : Bool) → Option ℕ
fault u p a b c r n =
    if u then Some 11 else if p || not a then Some 13 else if not b then Some 15 else if not c then Some 16 else if r then Some 17 else if n then Some 18 else None

-- An instruction without a fault is spelled, knows its label and has room.
pub no_fault : (i : Instruction) (a b c : Bool) → inst_fault i a b c ≡ None → (a ≡ true) × (b ≡ true) × (c ≡ true)
unfolding inst_fault
no_fault i a b c e = choose i.faults.unknown (is_misplaced i) a b c i.faults.range i.faults.null_type e
  where
    choose : (u p a b c r n : Bool)
        → fault u p a b c r n ≡ None
        → (a ≡ true) × (b ≡ true) × (c ≡ true)
    choose true p a b c r n e = cc
    choose false true a b c r n e = cc
    choose false false false b c r n e = cc
    choose false false true false c r n e = cc
    choose false false true true false r n e = cc
    choose false false true true true r n e = (refl, refl, refl)

-- What an instruction adds keeps the limits where there is room for it.
pub grown : (u : UnitCodeView) (s : Option Sense) (c : HoledCode) (offset : ℕ) (code : List ℕ) (marks : List UnitMark) (some all : List FixUp)
    → offset ≡ length u.code → code ≡ u.code ++ open_bytes c → marks ≡ u.marks ++ instruction_marks offset s
    → some ≡ u.fixups ++ fixups_of offset c.near → all ≡ some ++ fixups_of offset c.far → has_room (with_inst u s (Some c)) ≡ true
    → (length code ≤ most_code) × (length marks ≤ most_marks) × (length all ≤ most_fixups)
unfolding with_inst
grown u s c offset code marks some all at is_code is_marks is_some is_all room = rw (is_code, is_marks, is_all, is_some, at) (within (with_inst u s (Some c)) room)

-- A trial that is passed.
pub passed : {B : Type 0} (b : Bool) (code : ℕ) (r : Result B ℕ) (x : B) → unless b code r ≡ Ok x → (b ≡ false) × (r ≡ Ok x)
passed true code r x e = cc
passed false code r x e = (refl, e)

-- A label that is no fault has room for its block.
pub block_fits : (m : Names) (rs : List RegType) (slots : Option (List TypeText)) (placed : Bool) (blocks : ℕ) (ts : List Ty)
    → label_line m rs slots placed blocks ≡ Ok ts → blocks + 1 ≤ most_blocks
unfolding label_line
block_fits m rs slots placed blocks ts e =
    let a = passed (not (all_known m rs)) 11 _ ts e in
    let b = passed (not (slots_known m (slots_given slots))) 11 _ ts a.1 in
    let c = passed (repeats [] rs) 12 _ ts b.1 in
    let d = passed (not placed) 15 _ ts c.1 in
    let f = passed (nat_lt 64 (length (slots_given slots)) || nat_le 65536 blocks) 16 (Ok (types_in m rs)) ts d.1 in
    below blocks (either (nat_lt 64 (length (slots_given slots))) (nat_le 65536 blocks) f.0)
  where
    either : (a b : Bool) → (a || b) ≡ false → b ≡ false
    either true b e = cc
    either false b e = e

    below : (n : ℕ) → nat_le 65536 n ≡ false → n + 1 ≤ 65536
    below n e = grind arith

-- What is not there is not there.
pub not_both : {A : Type 0} (o : Option A) → o ≡ None → is_some o ≡ true → ⊥
not_both None none some = cc
not_both (Some x) none some = cc
