-- What no fault of linking says of the tables.
use Rattle.std.specs.Prelude.{find}
use Rattle.std.specs.List.{range_with_len}
use Rattle.std.specs.Option.{option_map}
use Rattle.std.proofs.Common.{◌≡◌, ℕ, Bool, true, false, List, [], ◌∷◌, length, Option, Some, None, refl, arith}
use Rattle.std.proofs.lemmas.Bool.{and_parts}
use Rattle.std.proofs.lemmas.Bool.Decides.{nat_tests}
use Rattle.tal_image.specs.Image.{sig_bytes, class_bytes, kind_bytes, field_bytes}
use Rattle.tal_image.specs.Conditions.{sigs_fit, functions_fit, classes_fit, kinds_fit, statics_fit, arrays_fit, code_fits, blocks_fit, marks_fit}
use Rattle.file_fields.specs.Parts.{Each}
use Rattle.unit_files.specs.Unit.{UnitParts}
use Rattle.image_linker.specs.RowMentions.{first_of}
use Rattle.image_linker.specs.LinkedRows.{linked_tables}
use Rattle.image_linker.specs.Linked.{heap_words_of, stacks_of, number_twice, number_missing, linked_image, twice_in, missing_in, different_in, array_held, body_held, no_entry, words_fit, fault_unless, too_many, link_fault}
use Rattle.image_linker.proofs.Formed.Names.{Faultless}

-- where the first is none, all are
each_none : {A : Type 0} (os : List (Option A)) → first_of os ≡ None → Each (λ (o : Option A). o ≡ None) os
unfolding first_of
each_none [] h = tt
each_none (None ∷ os) h = (refl, each_none os h)
each_none (Some x ∷ os) h = absurd cc

-- where the mapped option is none, it was none
map_none : {A B : Type 0} (f : A → B) (o : Option A) → option_map f o ≡ None → o ≡ None
map_none f None h = refl
map_none f (Some x) h = absurd cc

-- where no fault is told, the test holds
unless_none : (fits : Bool) (name : List ℕ) → fault_unless fits name ≡ None → fits ≡ true
unless_none true name h = refl
unless_none false name h = absurd cc

-- a number that is not given twice and does not lack is given once
one_given : (name : List ℕ) (numbers : List ℕ) → number_twice name numbers ≡ None → number_missing name numbers ≡ None → length numbers ≡ 1
one_given name numbers twice missing = grind (arith, nat_tests)

-- nothing is wrong with units
pub record Clean (units : List UnitParts) : Type 0 where
  pub heap_words : length (heap_words_of units) ≡ 1
  pub stacks : length (stacks_of units) ≡ 1
  pub sigs : Faultless sig_bytes (linked_tables units).sigs
  pub classes : Faultless class_bytes (linked_tables units).classes
  pub kinds : Faultless kind_bytes (linked_tables units).kinds
  pub statics : Faultless field_bytes (linked_tables units).statics
  pub arrays : Faultless array_held (linked_tables units).arrays
  pub functions : Faultless body_held (linked_tables units).functions
  pub entries : find (no_entry units (linked_image units)) (range_with_len 0 64) ≡ None
  pub few_sigs : sigs_fit (length (linked_image units).sigs) ≡ true
  pub few_classes : classes_fit (length (linked_image units).classes) ≡ true
  pub few_kinds : kinds_fit (length (linked_image units).kinds) ≡ true
  pub few_statics : statics_fit (length (linked_image units).statics) ≡ true
  pub few_arrays : arrays_fit (length (linked_image units).arrays) ≡ true
  pub few_words : words_fit (linked_image units) ≡ true
  pub few_functions : functions_fit (length (linked_image units).functions) ≡ true
  pub short_code : code_fits (length (linked_image units).code) ≡ true
  pub few_blocks : blocks_fit (length (linked_image units).blocks) ≡ true
  pub few_marks : marks_fit (length (linked_image units).marks) ≡ true

-- no fault means that nothing is wrong
pub nothing_wrong : (units : List UnitParts) → link_fault units ≡ None → Clean units
unfolding link_fault twice_in missing_in different_in too_many
nothing_wrong units h =
    let faults = each_none _ h in
    let twice = each_none _ (map_none _ _ faults.0) in
    let missing = each_none _ (map_none _ _ faults.1.0) in
    let differs = each_none _ (map_none _ _ faults.1.1.0) in
    let many = each_none _ (map_none _ _ faults.1.1.1.1.0) in
    let arrays = and_parts _ _ (unless_none _ _ many.1.1.1.1.0) in
    record {
      heap_words = one_given _ (heap_words_of units) twice.0 missing.0;
      stacks = one_given _ (stacks_of units) twice.1.0 missing.1.0;
      sigs = record { twice = twice.1.1.0; missing = missing.1.1.0; differs = differs.0 };
      classes = record { twice = twice.1.1.1.0; missing = missing.1.1.1.0; differs = differs.1.0 };
      kinds = record { twice = twice.1.1.1.1.0; missing = missing.1.1.1.1.0; differs = differs.1.1.0 };
      statics = record { twice = twice.1.1.1.1.1.0; missing = missing.1.1.1.1.1.0; differs = differs.1.1.1.0 };
      arrays = record { twice = twice.1.1.1.1.1.1.0; missing = missing.1.1.1.1.1.1.0; differs = differs.1.1.1.1.0 };
      functions = record { twice = twice.1.1.1.1.1.1.1.0; missing = missing.1.1.1.1.1.1.1.0; differs = differs.1.1.1.1.1.0 };
      entries = map_none _ _ (map_none _ _ faults.1.1.1.0);
      few_sigs = unless_none _ _ many.0;
      few_classes = unless_none _ _ many.1.0;
      few_kinds = unless_none _ _ many.1.1.0;
      few_statics = unless_none _ _ many.1.1.1.0;
      few_arrays = arrays.0;
      few_words = arrays.1;
      few_functions = unless_none _ _ many.1.1.1.1.1.0;
      short_code = unless_none _ _ many.1.1.1.1.1.1.0;
      few_blocks = unless_none _ _ many.1.1.1.1.1.1.1.0;
      few_marks = unless_none _ _ many.1.1.1.1.1.1.1.1.0;
    }
