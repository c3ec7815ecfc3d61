-- What is linked is an image.
use Rattle.std.specs.Option.{option_map_or}
use Rattle.std.proofs.Common.{◌≡◌, List, [], ◌∷◌, Option, Some, None, Ok, Err, inl, inr, refl, subst, All}
use Rattle.std.proofs.lemmas.List.Elements.{All-head, All-tail}
use Rattle.object_layout.specs.Classes.{ShapesView}
use Rattle.object_layout.specs.Laws.{LineageLaws}
use Rattle.tal_image.specs.Formed.{Formed}
use Rattle.unit_files.specs.Unit.{UnitParts}
use Rattle.unit_files.specs.Formed.{UnitFormed}
use Rattle.image_linker.specs.Linked.{LinkFaultView, linked_image, link_fault, Linked}
use Rattle.image_linker.specs.Laws.{LinkedIsImage}
use Rattle.image_linker.proofs.Formed.Members.{In}
use Rattle.image_linker.proofs.Formed.Clean.{nothing_wrong}
use Rattle.image_linker.proofs.Formed.Types.{sigs_formed, kinds_formed, statics_formed, arrays_formed}
use Rattle.image_linker.proofs.Formed.Entries.{heap_formed, stacks_formed, entries_formed}
use Rattle.image_linker.proofs.Formed.Classes.{classes_formed}
use Rattle.image_linker.proofs.Formed.Fills.{CodeLaws}
use Rattle.image_linker.proofs.Formed.ImageCode.{code_formed}

-- what holds at all places holds of each element
all_at : {A : Type 0} (Is : A → Type 0) (xs : List A) → All Is xs → (x : A) → In x xs → Is x
all_at Is [] h x i = absurd i
all_at Is (y ∷ xs) h x (inl e) = subst Is e (All-head Is y xs h)
all_at Is (y ∷ xs) h x (inr i) = all_at Is xs (All-tail Is y xs h) x i

module _ (laws : CodeLaws) (lineages : (s : ShapesView) → LineageLaws s) where
  -- the image of units in which nothing is wrong keeps all conditions
  image_formed : (units : List UnitParts) → All UnitFormed units → link_fault units ≡ None → Formed (linked_image units)
  image_formed units all none =
      let formed : (u : UnitParts) → In u units → UnitFormed u = all_at UnitFormed units all in
      let c = nothing_wrong units none in
      let entries = entries_formed units formed c in
      let code = code_formed laws units formed c in
      record {
        condition_1 = heap_formed units formed c;
        condition_2 = stacks_formed units formed c;
        condition_3 = c.few_sigs;
        condition_4 = c.few_functions;
        condition_5 = c.few_classes;
        condition_6 = c.few_kinds;
        condition_7 = c.few_statics;
        condition_8 = c.few_arrays;
        condition_9 = c.short_code;
        condition_10 = c.few_blocks;
        condition_11 = c.few_marks;
        sigs = sigs_formed units formed c;
        functions = code.functions;
        stacks = entries.0;
        entries = entries.1;
        classes = classes_formed units formed c lineages;
        kinds = kinds_formed units formed c;
        statics = statics_formed units formed c;
        arrays = arrays_formed units formed c;
        bodies = code.bodies;
        condition_23 = code.condition_23;
        code = code.code;
        blocks = code.blocks;
        marks = code.marks;
      }

  -- what units link to is the image of units in which nothing is wrong
  pub linked_is_image : LinkedIsImage
  unfolding Linked
  linked_is_image units image all h = by (link_fault units) refl h
    where
      by : (o : Option LinkFaultView) → link_fault units ≡ o → option_map_or Err o (Ok (linked_image units)) ≡ Ok image → Formed image
      by None e is = let same : linked_image units ≡ image = cc in subst Formed same (image_formed units all e)
      by (Some f) e is = absurd cc
