-- What a reader of a unit file answers is pinned by what the file is.
use Rattle.std.proofs.Common.{◌≡◌, ℕ, ◌⊎◌, inl, inr, List, Result, Ok, Err}
use Rattle.std.specs.Prelude.{IfOk, IfErr, MatchResult}
use Rattle.file_fields.specs.declared.fault.ImageFault.{ImageFault}
use Rattle.file_fields.specs.declared.fault.ImageFault.TheVariants.{NoMemory}
use Rattle.unit_files.specs.Unit.{UnitParts}
use Rattle.unit_files.specs.Formed.{UnitOf}
use Rattle.unit_files.specs.Fields.{FirstUnitFault}
use Rattle.unit_files.specs.Laws.{OneUnitMeaning}

module _ (law : OneUnitMeaning) (bytes : List ℕ) where
  -- where bytes stand for a unit, the answer is that unit or want of memory
  pub whole : (r : Result UnitParts ImageFault) → IfOk r (λ u. UnitOf bytes u) → IfErr r (λ e. (e ≡ NoMemory) ⊎ FirstUnitFault bytes e) → (u : UnitParts) → UnitOf bytes u → MatchResult r (λ v. v ≡ u) (λ e. e ≡ NoMemory)
  whole (Ok v) ok fault u is = law.one_unit bytes v u ok is
  whole (Err e) ok fault u is = elim fault [ inl none ↦ none | inr first ↦ absurd (law.not_both bytes u e is first) ]

  -- where they have a first fault, it is that fault or want of memory
  pub first : (r : Result UnitParts ImageFault) → IfOk r (λ u. UnitOf bytes u) → IfErr r (λ e. (e ≡ NoMemory) ⊎ FirstUnitFault bytes e) → (f : ImageFault) → FirstUnitFault bytes f → MatchResult r (λ _. ⊥) (λ e. (e ≡ f) ⊎ (e ≡ NoMemory))
  first (Ok v) ok fault f is = law.not_both bytes v f ok is
  first (Err e) ok fault f is = elim fault [ inl none ↦ inr none | inr other ↦ inl (law.one_fault bytes e f other is) ]
