-- The rows of a unit can be written, and what was written part by part is its file.
use Rattle.std.specs.List.{flat_map}
use Rattle.std.proofs.Common.{◌≡◌, ℕ, zero, suc, ◌<◌, ◌≤◌, ◌^◌, true, List, [], ◌∷◌, ◌++◌, length, append_assoc, All, arith}
use Rattle.std.proofs.lemmas.Bool.Decides.{nat_tests}
use Rattle.object_layout.specs.declared.rows.ClassRow.{ClassRow}
use Rattle.file_fields.specs.Grammar.{between}
use Rattle.file_fields.specs.Parts.{EachAfter, Each}
use Rattle.tal_image.specs.Image.{numbers, block_bytes, mark_bytes}
use Rattle.tal_image.specs.Kept.{ClassHasWords}
use Rattle.tal_image.specs.Fields.{all_instructions}
use Rattle.tal_image.specs.Formed.{IsBlockPart}
use Rattle.unit_files.specs.Unit.{UnitParts, UnitClass, UnitBlock, function_parts, own_functions, block_part, mark_part, name_bytes, unit_sig_bytes, unit_function_bytes, entry_bytes, unit_class_bytes, unit_kind_bytes, unit_static_bytes, unit_array_bytes, fixup_bytes, unit_header, UnitFileOf}
use Rattle.unit_files.specs.Formed.{IsName, IsUnitClass, UnitFormed, unit_tables, with_unit_class, after_unit_block}

-- a number between two others
upto : (low high n : ℕ) → between low high n ≡ true → n ≤ high
upto low high n holds = grind (arith, nat_tests)

module _ (u : UnitParts) (f : UnitFormed u) where
  -- the length of each name has 32 bits
  pub short_names : All (λ (letters : List ℕ). length letters < 2 ^ 32) u.names
  short_names = fit u.names f.names
    where
      fit : (names : List (List ℕ)) → Each IsName names → All (λ (letters : List ℕ). length letters < 2 ^ 32) names
      fit [] each k d within = absurd (omega arith)
      fit (n ∷ names) each zero d within = let few = upto 1 63 (length n) each.0.long in omega arith
      fit (n ∷ names) each (suc k) d within = fit names each.1 k d (omega arith)

  -- the counts of each class have 32 bits
  pub classes_have_words : All (λ (c : UnitClass). ClassHasWords c.row) u.classes
  classes_have_words = fit u.classes [] f.classes
    where
      fit : (cs : List UnitClass) (before : List ClassRow)
          → EachAfter with_unit_class (λ later classes c. IsUnitClass (length u.names) (unit_tables u) (function_parts u.functions) classes c) before cs
          → All (λ (c : UnitClass). ClassHasWords c.row) cs
      fit [] before each k d within = absurd (omega arith)
      fit (c ∷ cs) before each zero d within = let row = each.0.row in record { parent = row.parent_word; fields = row.fields_word; methods = row.methods_word }
      fit (c ∷ cs) before each (suc k) d within = fit cs (with_unit_class before c) each.1 k d (omega arith)

  -- so has the number of slots of each block
  pub few_slots : All (λ (b : UnitBlock). length b.slots < 2 ^ 32) u.blocks
  few_slots = fit u.blocks 0 f.blocks
    where
      fit : (bs : List UnitBlock) (least : ℕ)
          → EachAfter after_unit_block (λ later low b. IsBlockPart (unit_tables u) (own_functions u.functions) (all_instructions f.bodies) low (block_part b)) least bs
          → All (λ (b : UnitBlock). length b.slots < 2 ^ 32) bs
      fit [] least each k d within = absurd (omega arith)
      fit (b ∷ bs) least each zero d within = let few = upto 0 64 (length b.slots) each.0.condition_25 in omega arith
      fit (b ∷ bs) least each (suc k) d within = fit bs (after_unit_block least b) each.1 k d (omega arith)

-- lists that were put behind one another, each at the end
in_turn : (f₁ f₂ f₃ f₄ f₅ f₆ f₇ f₈ f₉ f₁₀ f₁₁ f₁₂ f₁₃ a b c d e f g h i j k l m : List ℕ) → f₁ ≡ [] ++ a → f₂ ≡ f₁ ++ b → f₃ ≡ f₂ ++ c → f₄ ≡ f₃ ++ d → f₅ ≡ f₄ ++ e → f₆ ≡ f₅ ++ f → f₇ ≡ f₆ ++ g → f₈ ≡ f₇ ++ h → f₉ ≡ f₈ ++ i → f₁₀ ≡ f₉ ++ j → f₁₁ ≡ f₁₀ ++ k → f₁₂ ≡ f₁₁ ++ l → f₁₃ ≡ f₁₂ ++ m
    → f₁₃ ≡ a ++ (b ++ (c ++ (d ++ (e ++ (f ++ (g ++ (h ++ (i ++ (j ++ (k ++ (l ++ m)))))))))))
in_turn f₁ f₂ f₃ f₄ f₅ f₆ f₇ f₈ f₉ f₁₀ f₁₁ f₁₂ f₁₃ a b c d e f g h i j k l m e₁ e₂ e₃ e₄ e₅ e₆ e₇ e₈ e₉ e₁₀ e₁₁ e₁₂ e₁₃ =
    rw (e₁₃, e₁₂, e₁₁, e₁₀, e₉, e₈, e₇, e₆, e₅, e₄, e₃, e₂, e₁) (simp append_assoc)

-- what was written part by part is the file
pub written : (u : UnitParts) (f₁ f₂ f₃ f₄ f₅ f₆ f₇ f₈ f₉ f₁₀ f₁₁ f₁₂ f₁₃ : List ℕ) → f₁ ≡ [] ++ numbers (unit_header u) → f₂ ≡ f₁ ++ flat_map name_bytes u.names → f₃ ≡ f₂ ++ flat_map unit_sig_bytes u.sigs → f₄ ≡ f₃ ++ flat_map unit_function_bytes u.functions → f₅ ≡ f₄ ++ flat_map entry_bytes u.entries → f₆ ≡ f₅ ++ flat_map unit_class_bytes u.classes → f₇ ≡ f₆ ++ flat_map unit_kind_bytes u.kinds → f₈ ≡ f₇ ++ flat_map unit_static_bytes u.statics → f₉ ≡ f₈ ++ flat_map unit_array_bytes u.arrays → f₁₀ ≡ f₉ ++ u.code → f₁₁ ≡ f₁₀ ++ flat_map (λ b. block_bytes (block_part b)) u.blocks → f₁₂ ≡ f₁₁ ++ flat_map (λ m. mark_bytes (mark_part m)) u.marks → f₁₃ ≡ f₁₂ ++ flat_map fixup_bytes u.fixups
    → f₁₃ ≡ UnitFileOf u
unfolding UnitFileOf
written u f₁ f₂ f₃ f₄ f₅ f₆ f₇ f₈ f₉ f₁₀ f₁₁ f₁₂ f₁₃ e₁ e₂ e₃ e₄ e₅ e₆ e₇ e₈ e₉ e₁₀ e₁₁ e₁₂ e₁₃ =
    in_turn f₁ f₂ f₃ f₄ f₅ f₆ f₇ f₈ f₉ f₁₀ f₁₁ f₁₂ f₁₃ (numbers (unit_header u)) (flat_map name_bytes u.names) (flat_map unit_sig_bytes u.sigs) (flat_map unit_function_bytes u.functions) (flat_map entry_bytes u.entries) (flat_map unit_class_bytes u.classes) (flat_map unit_kind_bytes u.kinds) (flat_map unit_static_bytes u.statics) (flat_map unit_array_bytes u.arrays) u.code (flat_map (λ b. block_bytes (block_part b)) u.blocks) (flat_map (λ m. mark_bytes (mark_part m)) u.marks) (flat_map fixup_bytes u.fixups)
    e₁ e₂ e₃ e₄ e₅ e₆ e₇ e₈ e₉ e₁₀ e₁₁ e₁₂ e₁₃
