-- No spelling precedes the canonical one of its instruction, row by row, but for short branches.
use Rattle.std.proofs.Common.{◌≡◌, ℕ, ◌<◌, ◌^◌, true, false, Some, refl, ap, arith, inl}
use Rattle.std.specs.Int.{w8, w32, cast_signed, cast_unsigned}
use Rattle.std.proofs.lemmas.Int.{of_z-to_z, ints}
use Rattle.std.proofs.lemmas.List.{length-append}
use Rattle.ia32_code.specs.declared.instruction.Reg.{Reg}
use Rattle.ia32_code.specs.declared.instruction.Cond.{Cond}
use Rattle.ia32_code.specs.declared.instruction.Inst.TheVariants as inst
use Rattle.ia32_code.specs.declared.row.Row.{Row}
use Rattle.ia32_code.specs.declared.row.Row.TheVariants as row
use Rattle.ia32_code.specs.declared.operand_form.OperandForm.{OperandForm}
use Rattle.ia32_code.specs.Table.{shift_number, among, priv_bare, priv_with_byte}
use Rattle.ia32_code.specs.Spells.{Filled}
use Rattle.ia32_code.specs.Canonical.{fill, without_modrm}
use Rattle.ia32_code.specs.Order.{IsFirst}
use Rattle.ia32_code.proofs.OpcodeRows.{at_one}
use Rattle.ia32_code.proofs.First.{at_digit, at_zero, at_bare, own}
use Rattle.ia32_code.proofs.FirstArithmetic.{alu_store, alu_load, alu_eax, alu_word, alu_byte, test_store, test_word, imul2, imul_byte, imul_word, shift_one, shift_by, shift_cl}
use Rattle.ia32_code.proofs.FirstMoves.{mov_load, mov_store, mov_word, lea, unary, inc, dec, push, push_byte, push_word}

-- ---- branches

-- a call by a distance has one spelling
call_rel : (n : ℕ) → n < 2 ^ 32 → IsFirst (without_modrm row.CallRel n)
call_rel n lt = own row.CallRel n (ap (λ (x : ℕ). Some (without_modrm row.CallRel x)) (of_z-to_z w32 n lt)) (record { row = refl; modrm = (refl, refl); trailing = lt })

-- the long jump is canonical
jmp_word : (n : ℕ) → n < 2 ^ 32 → IsFirst (without_modrm row.JmpWord n)
jmp_word n lt = own row.JmpWord n (ap (λ (x : ℕ). Some (without_modrm row.JmpWord x)) (of_z-to_z w32 n lt)) (record { row = refl; modrm = (refl, refl); trailing = lt })

-- and so is the long branch
jcc_word : (cc : Cond) (n : ℕ) → n < 2 ^ 32 → IsFirst (without_modrm (row.JccWord cc) n)
jcc_word cc n lt =
    own (row.JccWord cc) n (ap (λ (x : ℕ). Some (without_modrm (row.JccWord cc) x)) (of_z-to_z w32 n lt)) (record { row = refl; modrm = (refl, refl); trailing = lt })

-- a short branch has the long one of the same distance
jmp_byte : (n : ℕ) → n < 256 → IsFirst (without_modrm row.JmpByte n)
jmp_byte n lt = record {
  first = without_modrm row.JmpWord (cast_unsigned w32 (cast_signed w8 n));
  canonical = refl;
  filled = record { row = refl; modrm = (refl, refl); trailing = omega (arith, ints) };
  same = ap (λ z. inst.Jmp z) (omega (arith, ints));
  long = λ h. h;
  precedes = inl tt;
}

-- the same of a branch on a condition
jcc_byte : (cc : Cond) (n : ℕ) → n < 256 → IsFirst (without_modrm (row.JccByte cc) n)
jcc_byte cc n lt = record {
  first = without_modrm (row.JccWord cc) (cast_unsigned w32 (cast_signed w8 n));
  canonical = refl;
  filled = record { row = refl; modrm = (refl, refl); trailing = omega (arith, ints) };
  same = ap (λ z. inst.Jcc cc z) (omega (arith, ints));
  long = λ h. h;
  precedes = inl tt;
}

-- ---- instructions of the system

-- no opcode of the system stands both alone and with a byte
not_bare : (op : ℕ) → among priv_with_byte op ≡ true → among priv_bare op ≡ false
not_bare op h = at_one (λ n. among priv_bare n ≡ false) priv_with_byte op (refl, (refl, (refl, (refl, (refl, tt))))) h

-- ---- every row

-- every filled row is preceded by the canonical one of its instruction
pub is_first : (w : Row) (r : Reg) (f : OperandForm) (n : ℕ) → Filled (fill w r f n) → IsFirst (fill w r f n)
is_first (row.AluStore op) r f n h = at_zero (row.AluStore op) r f n h.trailing (alu_store op r f h.modrm)
is_first (row.AluLoad op) r f n h = at_zero (row.AluLoad op) r f n h.trailing (alu_load op r f h.modrm)
is_first (row.AluEax op) r f n h = at_bare (row.AluEax op) r f n n h.modrm refl (alu_eax op n h.trailing)
is_first (row.AluWord op) r f n h = alu_word op r f n h.modrm.0 h.modrm.1 h.trailing
is_first (row.AluByte op) r f n h = alu_byte op r f n h.modrm.0 h.modrm.1 h.trailing
is_first row.MovStore r f n h = at_zero row.MovStore r f n h.trailing (mov_store r f h.modrm)
is_first row.MovLoad r f n h = at_zero row.MovLoad r f n h.trailing (mov_load r f h.modrm)
is_first row.MovLoadEax r f n h = at_bare row.MovLoadEax r f n n h.modrm refl (own row.MovLoadEax n refl (record { row = refl; modrm = (refl, refl); trailing = h.trailing }))
is_first row.MovStoreEax r f n h = at_bare row.MovStoreEax r f n n h.modrm refl (own row.MovStoreEax n refl (record { row = refl; modrm = (refl, refl); trailing = h.trailing }))
is_first (row.MovReg d) r f n h = at_bare (row.MovReg d) r f n n h.modrm refl (own (row.MovReg d) n refl (record { row = refl; modrm = (refl, refl); trailing = h.trailing }))
is_first row.MovWord r f n h = at_digit row.MovWord 0 r f n n h.modrm.1 refl (mov_word f n h.modrm.0 h.trailing)
is_first row.Lea r f n h = at_zero row.Lea r f n h.trailing (lea r f h.modrm)
is_first row.TestStore r f n h = at_zero row.TestStore r f n h.trailing (test_store r f h.modrm)
is_first row.TestEax r f n h = at_bare row.TestEax r f n n h.modrm refl (own row.TestEax n refl (record { row = refl; modrm = (refl, refl); trailing = h.trailing }))
is_first row.TestWord r f n h = test_word r f n h.modrm.0 h.modrm.1 h.trailing
is_first (row.IncReg d) r f n h = at_bare (row.IncReg d) r f n 0 h.modrm h.trailing (own (row.IncReg d) 0 refl (record { row = refl; modrm = (refl, refl); trailing = refl }))
is_first row.Inc r f n h = inc r f n h.modrm h.trailing
is_first (row.DecReg d) r f n h = at_bare (row.DecReg d) r f n 0 h.modrm h.trailing (own (row.DecReg d) 0 refl (record { row = refl; modrm = (refl, refl); trailing = refl }))
is_first row.Dec r f n h = dec r f n h.modrm h.trailing
is_first row.Not r f n h = unary row.Not 2 (λ o. inst.Not o) (λ y. refl) (λ y fits. record { row = refl; modrm = (fits, refl); trailing = refl }) (λ y. simp length-append (omega arith)) r f n refl h.modrm h.trailing
is_first row.Neg r f n h = unary row.Neg 3 (λ o. inst.Neg o) (λ y. refl) (λ y fits. record { row = refl; modrm = (fits, refl); trailing = refl }) (λ y. simp length-append (omega arith)) r f n refl h.modrm h.trailing
is_first row.Mul r f n h = unary row.Mul 4 (λ o. inst.Mul o) (λ y. refl) (λ y fits. record { row = refl; modrm = (fits, refl); trailing = refl }) (λ y. simp length-append (omega arith)) r f n refl h.modrm h.trailing
is_first row.Imul1 r f n h = unary row.Imul1 5 (λ o. inst.Imul1 o) (λ y. refl) (λ y fits. record { row = refl; modrm = (fits, refl); trailing = refl }) (λ y. simp length-append (omega arith)) r f n refl h.modrm h.trailing
is_first row.Div r f n h = unary row.Div 6 (λ o. inst.Div o) (λ y. refl) (λ y fits. record { row = refl; modrm = (fits, refl); trailing = refl }) (λ y. simp length-append (omega arith)) r f n refl h.modrm h.trailing
is_first row.Idiv r f n h = unary row.Idiv 7 (λ o. inst.Idiv o) (λ y. refl) (λ y fits. record { row = refl; modrm = (fits, refl); trailing = refl }) (λ y. simp length-append (omega arith)) r f n refl h.modrm h.trailing
is_first row.Imul2 r f n h = at_zero row.Imul2 r f n h.trailing (imul2 r f h.modrm)
is_first row.Imul3Byte r f n h = imul_byte r f n h.modrm h.trailing
is_first row.Imul3Word r f n h = imul_word r f n h.modrm h.trailing
is_first (row.ShiftOne op) r f n h = at_digit (row.ShiftOne op) (shift_number op) r f n 0 h.modrm.1 h.trailing (shift_one op f h.modrm.0)
is_first (row.ShiftBy op) r f n h = at_digit (row.ShiftBy op) (shift_number op) r f n n h.modrm.1 refl (shift_by op f n h.modrm.0 h.trailing)
is_first (row.ShiftCl op) r f n h = at_digit (row.ShiftCl op) (shift_number op) r f n 0 h.modrm.1 h.trailing (shift_cl op f h.modrm.0)
is_first row.Cdq r f n h = at_bare row.Cdq r f n 0 h.modrm h.trailing (own row.Cdq 0 refl (record { row = refl; modrm = (refl, refl); trailing = refl }))
is_first row.Nop r f n h = at_bare row.Nop r f n 0 h.modrm h.trailing (own row.Nop 0 refl (record { row = refl; modrm = (refl, refl); trailing = refl }))
is_first (row.PushReg d) r f n h = at_bare (row.PushReg d) r f n 0 h.modrm h.trailing (own (row.PushReg d) 0 refl (record { row = refl; modrm = (refl, refl); trailing = refl }))
is_first row.PushByte r f n h = at_bare row.PushByte r f n n h.modrm refl (push_byte n h.trailing)
is_first row.PushWord r f n h = at_bare row.PushWord r f n n h.modrm refl (push_word n h.trailing)
is_first row.Push r f n h = push r f n h.modrm h.trailing
is_first (row.PopReg d) r f n h = at_bare (row.PopReg d) r f n 0 h.modrm h.trailing (own (row.PopReg d) 0 refl (record { row = refl; modrm = (refl, refl); trailing = refl }))
is_first row.CallRel r f n h = at_bare row.CallRel r f n n h.modrm refl (call_rel n h.trailing)
is_first row.CallAt r f n h = unary row.CallAt 2 (λ o. inst.CallAt o) (λ y. refl) (λ y fits. record { row = refl; modrm = (fits, refl); trailing = refl }) (λ y. simp length-append (omega arith)) r f n refl h.modrm h.trailing
is_first row.Ret r f n h = at_bare row.Ret r f n 0 h.modrm h.trailing (own row.Ret 0 refl (record { row = refl; modrm = (refl, refl); trailing = refl }))
is_first row.JmpWord r f n h = at_bare row.JmpWord r f n n h.modrm refl (jmp_word n h.trailing)
is_first row.JmpByte r f n h = at_bare row.JmpByte r f n n h.modrm refl (jmp_byte n h.trailing)
is_first (row.JccWord cc) r f n h = at_bare (row.JccWord cc) r f n n h.modrm refl (jcc_word cc n h.trailing)
is_first (row.JccByte cc) r f n h = at_bare (row.JccByte cc) r f n n h.modrm refl (jcc_byte cc n h.trailing)
is_first (row.PrivBare op) r f n h =
    at_bare (row.PrivBare op) r f n 0 h.modrm h.trailing (own (row.PrivBare op) 0 (rw h.row refl) (record { row = h.row; modrm = (refl, refl); trailing = refl }))
is_first (row.PrivByte op) r f n h =
    at_bare (row.PrivByte op) r f n n h.modrm refl
    (own (row.PrivByte op) n (rw (not_bare op h.row, h.row) refl) (record { row = h.row; modrm = (refl, refl); trailing = h.trailing }))
