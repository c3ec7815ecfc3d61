-- The saved registers that are listed are the words of those of reference types; ESP is none of them.
use Rattle.std.proofs.Common.{◌≡◌, ◌+◌, ℕ, nat_eq, Bool, true, false, ◌&&◌, if◌then◌else◌, List, [], ◌∷◌, map, refl, ◌∙◌}
use Rattle.std.specs.Int.{bit_at}
use Rattle.ia32_code.specs.declared.instruction.Reg.{Reg}
use Rattle.ia32_code.specs.declared.instruction.Reg.TheVariants.{Eax, Ecx, Edx, Ebx, Ebp, Esi, Edi}
use Rattle.tal_types.specs.declared.types.Ty.{Ty}
use Rattle.tal_types.specs.Contexts.{LiveContext, Live}
use Rattle.tal_checker.specs.Frames.{may_refer, reference_bits, register_types}
use Rattle.typed_machine.specs.Values.{Value, Word}
use Rattle.typed_machine.specs.States.{Thread}
use Rattle.typed_machine.specs.Words.{register_words}
use Rattle.typed_machine.specs.Reaching.{referring, register_references}
use Rattle.root_words.specs.Listing.{saved_references}
use Rattle.root_words.proofs.Bits.{BitsFrom, bits-first, bits-next, bits-test}

module _ (places : List ℕ) (bits : ℕ) (c : LiveContext) (t : Thread) where
  -- a register's word
  abbrev w : Reg → ℕ
  w q = Word places (t.regs q)

  -- the values of registers whose types may refer
  abbrev held : List Reg → List Value
  held regs = referring (map c.regs regs) (map t.regs regs)

  -- a register but ESP: it is listed where its type may refer
  step : (r : ℕ) (q : Reg) (others : List Reg) (words : List ℕ) (types : List Ty) → BitsFrom bits r (c.regs q ∷ types) → nat_eq r 4 ≡ false
      → saved_references bits (r + 1) words ≡ map (Word places) (held others) → saved_references bits r (w q ∷ words) ≡ map (Word places) (held (q ∷ others))
  step r q others words types b other more = rw (bits-test bits r (c.regs q) types b, other, more) (go (may_refer (c.regs q)))
    where
      go : (refers : Bool) → (if refers && true then w q ∷ map (Word places) (held others) else map (Word places) (held others))
          ≡ map (Word places) (if refers then t.regs q ∷ held others else held others)
      go true = refl
      go false = refl

  -- ESP is passed over
  esp_step : (esp : ℕ) (words : List ℕ) → saved_references bits 4 (esp ∷ words) ≡ saved_references bits 5 words
  esp_step esp words = go (nat_eq (bit_at bits 4) 1)
    where
      go : (b : Bool) → (if b && false then esp ∷ saved_references bits 5 words else saved_references bits 5 words) ≡ saved_references bits 5 words
      go true = refl
      go false = refl

  pub saved_lists : (esp : ℕ) → bits ≡ reference_bits (register_types c)
      → saved_references bits 0 (register_words places t.regs esp) ≡ map (Word places) (register_references (Live c) t)
  saved_lists esp e =
      let b0 = bits-first bits (register_types c) e in
      let b1 = bits-next bits 0 _ _ b0 in
      let b2 = bits-next bits 1 _ _ b1 in
      let b3 = bits-next bits 2 _ _ b2 in
      let b4 = bits-next bits 3 _ _ b3 in
      let b5 = bits-next bits 4 _ _ b4 in
      let b6 = bits-next bits 5 _ _ b5 in
      let b7 = bits-next bits 6 _ _ b6 in
      let edi = step 7 Edi [] [] [] b7 refl refl in
      let esi = step 6 Esi (Edi ∷ []) (w Edi ∷ []) _ b6 refl edi in
      let ebp = step 5 Ebp (Esi ∷ Edi ∷ []) (w Esi ∷ w Edi ∷ []) _ b5 refl esi in
      let behind = w Ebp ∷ w Esi ∷ w Edi ∷ [] in
      let ebx = step 3 Ebx (Ebp ∷ Esi ∷ Edi ∷ []) (esp ∷ behind) _ b3 refl (esp_step esp behind ∙ ebp) in
      let edx = step 2 Edx (Ebx ∷ Ebp ∷ Esi ∷ Edi ∷ []) (w Ebx ∷ esp ∷ behind) _ b2 refl ebx in
      let ecx = step 1 Ecx (Edx ∷ Ebx ∷ Ebp ∷ Esi ∷ Edi ∷ []) (w Edx ∷ w Ebx ∷ esp ∷ behind) _ b1 refl edx in
      step 0 Eax (Ecx ∷ Edx ∷ Ebx ∷ Ebp ∷ Esi ∷ Edi ∷ []) (w Ecx ∷ w Edx ∷ w Ebx ∷ esp ∷ behind) _ b0 refl ecx
