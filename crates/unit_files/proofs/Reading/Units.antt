-- What is read of a whole unit, one part after another.
use Rattle.std.proofs.Common.{◌≡◌, ℕ, List, Result, Ok, ap, ◌∙◌}
use Rattle.file_fields.specs.declared.fault.ImageFault.{ImageFault}
use Rattle.file_fields.specs.Reading.{Fails, run}
use Rattle.unit_files.specs.Unit.{UnitParts}
use Rattle.unit_files.specs.Fields.{UnitFront, UnitTables, front_fields, table_fields, code_fields, unit_fields}
use Rattle.unit_files.specs.CodeWords.{UnitCodeParts, unit_code_of}
use Rattle.unit_files.specs.UnitReading.{unit_by}
use Rattle.unit_files.proofs.Reading.Codes.{kept}
use Rattle.unit_files.proofs.Reading.Steps.{bind_inverse, ok_pair, stops, next_is, stops_later, fails_whole}

module _ (file : List ℕ) (at : ℕ) (f : UnitFront) (a : ℕ) (ef : run front_fields file at ≡ Ok (f, a)) where
  pub no_tables : (e : ImageFault) → Fails e (run (table_fields f) file a) → Fails e (run unit_fields file at)
  unfolding unit_fields
  no_tables e q = stops_later _ _ _ _ e ef (stops _ _ _ _ e q)

  module _ (t : UnitTables) (b : ℕ) (et : run (table_fields f) file a ≡ Ok (t, b)) where
    pub no_code : (e : ImageFault) → Fails e (kept (run (code_fields f) file b)) → Fails e (run unit_fields file at)
    unfolding unit_fields
    no_code e q = stops_later _ _ _ _ e ef (stops_later _ _ _ _ e et (stops _ _ _ _ e (fails_whole e (run (code_fields f) file b) (λ c. (unit_code_of c.0, c.1)) q)))

    pub unit_read : (c : UnitCodeParts) (end : ℕ) → kept (run (code_fields f) file b) ≡ Ok (c, end) → run unit_fields file at ≡ Ok (unit_by f t c, end)
    unfolding unit_fields
    unit_read c end q =
        let one = bind_inverse (run (code_fields f) file b) (λ c. Ok (unit_code_of c.0, c.1)) (c, end) q in
        let same = ok_pair (unit_code_of one.0.0) c one.0.1 end one.2 in
        next_is _ _ _ _ ef ∙ next_is _ _ _ _ et ∙ next_is _ _ _ _ one.1
        ∙ ap (λ (x : UnitCodeParts). let r : Result (UnitParts × ℕ) ImageFault = Ok (unit_by f t x, one.0.1) in r) same.0
        ∙ ap (λ (n : ℕ). let r : Result (UnitParts × ℕ) ImageFault = Ok (unit_by f t c, n) in r) same.1

-- what stands before the classes is refused
pub no_front : (file : List ℕ) (at : ℕ) (e : ImageFault) → Fails e (run front_fields file at) → Fails e (run unit_fields file at)
unfolding unit_fields
no_front file at e q = stops _ _ _ _ e q
