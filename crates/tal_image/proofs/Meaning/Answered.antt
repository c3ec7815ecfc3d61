-- What a reader of a file answers is pinned by what the file is, and what was written part by part is the file.
use Rattle.std.proofs.Common.{◌≡◌, ℕ, ◌⊎◌, inl, inr, List, [], ◌++◌, Result, Ok, Err, append_assoc}
use Rattle.std.specs.Prelude.{IfOk, IfErr, MatchResult}
use Rattle.std.specs.List.{flat_map}
use Rattle.file_fields.specs.declared.fault.ImageFault.{ImageFault}
use Rattle.file_fields.specs.declared.fault.ImageFault.TheVariants.{NoMemory}
use Rattle.tal_image.specs.Image.{ImageParts, FileOf, numbers, header, sig_bytes, function_bytes, class_bytes, kind_bytes, field_bytes, array_bytes, block_bytes, mark_bytes}
use Rattle.tal_image.specs.Formed.{ImageOf}
use Rattle.tal_image.specs.Laws.{OneImageMeaning, FirstFault}

module _ (law : OneImageMeaning) (bytes : List ℕ) where
  -- where bytes stand for an image, the answer is that image or want of memory
  pub whole : (r : Result ImageParts ImageFault) → IfOk r (λ i. ImageOf bytes i) → IfErr r (λ e. (e ≡ NoMemory) ⊎ FirstFault bytes e) → (i : ImageParts) → ImageOf bytes i → MatchResult r (λ j. j ≡ i) (λ e. e ≡ NoMemory)
  whole (Ok j) ok fault i is = law.one_image bytes j i ok is
  whole (Err e) ok fault i is = elim fault [ inl none ↦ none | inr first ↦ absurd (law.not_both bytes i e is first) ]

  -- where they have a first fault, it is that fault or want of memory
  pub first : (r : Result ImageParts ImageFault) → IfOk r (λ i. ImageOf bytes i) → IfErr r (λ e. (e ≡ NoMemory) ⊎ FirstFault bytes e) → (f : ImageFault) → FirstFault bytes f → MatchResult r (λ _. ⊥) (λ e. (e ≡ f) ⊎ (e ≡ NoMemory))
  first (Ok j) ok fault f is = law.not_both bytes j f ok is
  first (Err e) ok fault f is = elim fault [ inl none ↦ inr none | inr other ↦ inl (law.one_fault bytes e f other is) ]

-- lists that were put behind one another, each at the end
in_turn : (f₁ f₂ f₃ f₄ f₅ f₆ f₇ f₈ f₉ f₁₀ f₁₁ a b c d e f g h i j k : List ℕ) → f₁ ≡ [] ++ a → f₂ ≡ f₁ ++ b → f₃ ≡ f₂ ++ c → f₄ ≡ f₃ ++ d → f₅ ≡ f₄ ++ e → f₆ ≡ f₅ ++ f → f₇ ≡ f₆ ++ g → f₈ ≡ f₇ ++ h → f₉ ≡ f₈ ++ i → f₁₀ ≡ f₉ ++ j → f₁₁ ≡ f₁₀ ++ k → f₁₁ ≡ a ++ (b ++ (c ++ (d ++ (e ++ (f ++ (g ++ (h ++ (i ++ (j ++ k)))))))))
in_turn f₁ f₂ f₃ f₄ f₅ f₆ f₇ f₈ f₉ f₁₀ f₁₁ a b c d e f g h i j k e₁ e₂ e₃ e₄ e₅ e₆ e₇ e₈ e₉ e₁₀ e₁₁ =
    rw (e₁₁, e₁₀, e₉, e₈, e₇, e₆, e₅, e₄, e₃, e₂, e₁) (simp append_assoc)

-- what was written part by part is the file
pub written : (i : ImageParts) (f₁ f₂ f₃ f₄ f₅ f₆ f₇ f₈ f₉ f₁₀ f₁₁ : List ℕ) → f₁ ≡ [] ++ numbers (header i) → f₂ ≡ f₁ ++ flat_map sig_bytes i.sigs → f₃ ≡ f₂ ++ flat_map function_bytes i.functions → f₄ ≡ f₃ ++ numbers i.entries → f₅ ≡ f₄ ++ flat_map class_bytes i.classes → f₆ ≡ f₅ ++ flat_map kind_bytes i.kinds → f₇ ≡ f₆ ++ flat_map field_bytes i.statics → f₈ ≡ f₇ ++ flat_map array_bytes i.arrays → f₉ ≡ f₈ ++ i.code → f₁₀ ≡ f₉ ++ flat_map block_bytes i.blocks → f₁₁ ≡ f₁₀ ++ flat_map mark_bytes i.marks → f₁₁ ≡ FileOf i
unfolding FileOf
written i f₁ f₂ f₃ f₄ f₅ f₆ f₇ f₈ f₉ f₁₀ f₁₁ e₁ e₂ e₃ e₄ e₅ e₆ e₇ e₈ e₉ e₁₀ e₁₁ =
    in_turn f₁ f₂ f₃ f₄ f₅ f₆ f₇ f₈ f₉ f₁₀ f₁₁ (numbers (header i)) (flat_map sig_bytes i.sigs) (flat_map function_bytes i.functions) (numbers i.entries) (flat_map class_bytes i.classes) (flat_map kind_bytes i.kinds) (flat_map field_bytes i.statics) (flat_map array_bytes i.arrays) i.code (flat_map block_bytes i.blocks) (flat_map mark_bytes i.marks) e₁ e₂ e₃ e₄ e₅ e₆ e₇ e₈ e₉ e₁₀ e₁₁
