-- What is known of the rows of an image, and of what is kept beside them.
use Rattle.std.proofs.Common.{ℕ, zero, suc, ◌≡◌, ◌<◌, ◌≤◌, ◌+◌, List, [], ◌∷◌, length, get_or, refl, sym, ap, subst, ◌∙◌, All, arith}
use Rattle.std.specs.List.{sum_by}
use Rattle.std.proofs.lemmas.Bool.Decides.{nat_tests}
use Rattle.std.proofs.lemmas.List.{length-map}
use Rattle.std.specs.Prelude.{true}
use Rattle.object_layout.specs.declared.rows.ClassRow.{ClassRow}
use Rattle.tal_types.specs.declared.views.Span.{Span}
use Rattle.tal_image.specs.declared.image.Image.TheInside.{Inside}
use Rattle.tal_image.specs.declared.parts.FunctionPart.{FunctionPart}
use Rattle.tal_image.specs.declared.parts.MarkPart.{MarkPart}
use Rattle.tal_image.specs.Image.{ImageParts, BlockPart, parts_of}
use Rattle.object_layout.specs.Areas.{code_start}
use Rattle.tal_image.specs.Conditions.{between, array_room, block_fits, mark_fits}
use Rattle.tal_image.specs.Fields.{after_block, after_mark, with_class, all_instructions}
use Rattle.tal_image.specs.Formed.{Formed, EachAfter, IsBlockPart, IsClass, IsMark, tables}
use Rattle.tal_image.specs.Kept.{ClassHasWords, KeepsImage, RisesBy, array_offsets}
use Rattle.tal_image.specs.Shown.{spans}
use Rattle.tal_image.proofs.Finding.KeyedRows.{rises}
use Rattle.tal_image.proofs.Finding.Spans.{has_bytes, code_holds, length-spans}
use Rattle.tal_image.proofs.Finding.DataArrays.{arrays_fit, few_numbers, kinds_there, offsets_rise, offsets_within, length-array_offsets}

-- a number between two others
pub upto : (low high n : ℕ) → between low high n ≡ true → n ≤ high
upto low high n holds = grind (arith, nat_tests)

module _ (i : ImageParts) (f : Formed i) where
  -- the code has at most a mebibyte, and is the functions'
  pub functions_hold : sum_by (λ (f : FunctionPart). f.length) i.functions ≤ 1048576
  functions_hold =
      let whole = code_holds (tables i) (length i.code) i.functions f.functions in
      let short = upto 1 1048576 (length i.code) f.condition_9 in
      omega arith

  -- each function has a byte
  pub have_bytes : All (λ f. 0 < f.length) i.functions
  have_bytes = has_bytes (tables i) (length i.code) i.functions f.functions

  -- the data arrays take few words
  pub arrays_hold : length i.statics + sum_by array_room i.arrays ≤ 65536
  arrays_hold = arrays_fit (tables i) i.kinds (length i.statics) i.arrays (upto 0 65536 (length i.statics) f.condition_7) f.arrays

  -- no data array has more numbers than elements
  pub have_few_numbers : All (λ a. length a.numbers ≤ a.size) i.arrays
  have_few_numbers = few_numbers (tables i) i.kinds (length i.statics) i.arrays f.arrays

  -- the array kinds of data arrays are there
  pub have_kinds : All (λ a. a.kind < length i.kinds) i.arrays
  have_kinds = kinds_there (tables i) i.kinds (length i.statics) i.arrays f.arrays

  -- blocks and marks stand by rising offsets
  pub blocks_rise : RisesBy (λ (b : BlockPart). b.offset) i.blocks
  unfolding block_fits
  blocks_rise = rises (λ (b : BlockPart). b.offset) after_block (λ later least b. IsBlockPart (tables i) i.functions (all_instructions f.bodies) least b) (λ least b. refl) (λ later least b is. lowest least b is.condition_24) 0 i.blocks f.blocks
    where
      lowest : (least : ℕ) (b : BlockPart) → block_fits i.functions (all_instructions f.bodies) least b.offset ≡ true → least ≤ b.offset
      lowest least b holds = grind (arith, nat_tests)

  -- each block has few slots
  pub have_few_slots : All (λ b. length b.slots ≤ 64) i.blocks
  have_few_slots = few i.blocks 0 f.blocks
    where
      few : (bs : List BlockPart) (least : ℕ) → EachAfter after_block (λ later least b. IsBlockPart (tables i) i.functions (all_instructions f.bodies) least b) least bs → All (λ b. length b.slots ≤ 64) bs
      few [] least each k d within = absurd (omega arith)
      few (b ∷ bs) least each zero d within = upto 0 64 (length b.slots) each.0.condition_25
      few (b ∷ bs) least each (suc k) d within = few bs (after_block least b) each.1 k d (omega arith)

  -- the counts of each class have 32 bits
  pub classes_have_words : All ClassHasWords i.classes
  classes_have_words = fit i.classes [] f.classes
    where
      fit : (cs before : List ClassRow) → EachAfter with_class (λ later classes c. IsClass (tables i) i.functions classes c) before cs → All ClassHasWords cs
      fit [] before each k d within = absurd (omega arith)
      fit (c ∷ cs) before each zero d within = record { parent = each.0.parent_word; fields = each.0.fields_word; methods = each.0.methods_word }
      fit (c ∷ cs) before each (suc k) d within = fit cs (with_class before c) each.1 k d (omega arith)

  -- marks stand by rising offsets
  pub marks_rise : RisesBy (λ (m : MarkPart). m.offset) i.marks
  unfolding mark_fits
  marks_rise = rises (λ (m : MarkPart). m.offset) after_mark (λ later least m. IsMark (tables i) i.functions (length i.statics) i.arrays (all_instructions f.bodies) least m) (λ least m. refl) (λ later least m is. lowest least m is.condition_26) 0 i.marks f.marks
    where
      lowest : (least : ℕ) (m : MarkPart) → mark_fits (all_instructions f.bodies) least m.offset ≡ true → least ≤ m.offset
      lowest least m holds = grind (arith, nat_tests)

module _ (a : Inside) (k : KeepsImage a) where
  -- each function has its address
  pub length-starts : length a.starts.items ≡ length a.rows.functions.items
  length-starts = ap length k.starts ∙ length-map (spans code_start a.rows.functions.items) (λ (s : Span). s.start) ∙ length-spans code_start a.rows.functions.items

  -- data arrays begin at rising words
  pub offsets_in_order : RisesBy (λ (n : ℕ). n) a.offsets.items
  offsets_in_order = subst (λ l. RisesBy (λ (n : ℕ). n) l) (sym k.offsets) (offsets_rise 0 a.rows.arrays.items)

  -- each data array has its word
  pub length-offsets : length a.offsets.items ≡ length a.rows.arrays.items
  length-offsets = ap length k.offsets ∙ length-array_offsets 0 a.rows.arrays.items

  -- a data array begins among the first 65536 words with the statics
  pub place_within : (d offset : ℕ) → d < length a.rows.arrays.items → offset ≡ get_or a.offsets.items d offset → length a.rows.statics + offset ≤ 65536
  place_within d offset within is =
      let begins : offset ≡ get_or (array_offsets 0 a.rows.arrays.items) d offset = subst (λ l. offset ≡ get_or l d offset) k.offsets is in
      let last = offsets_within 0 a.rows.arrays.items d offset within in
      let few = arrays_hold (parts_of a.rows) k.formed in
      omega arith
