-- What is read of the code of a unit, and of what is said of it, is what its fields say.
use Rattle.std.proofs.Common.{◌≡◌, ℕ, zero, suc, ◌+◌, ◌-◌, ◌<◌, ◌≤◌, Bool, true, false, ◌++◌, ◌&&◌, List, [], ◌∷◌, length, take, drop, Result, Ok, Err, refl, sym, ap, subst, ◌∙◌, arith}
use Rattle.std.specs.Prelude.{nat_lt, nat_le, ◌==◌}
use Rattle.std.proofs.lemmas.Bool.{true≢false, eqb-true}
use Rattle.std.proofs.lemmas.Bool.Decides.{nat_tests}
use Rattle.ia32_code.specs.declared.instruction.Inst.{Inst}
use Rattle.ia32_code.specs.declared.decoding.Decoded.{Decoded}
use Rattle.ia32_code.specs.declared.decoding.Decoded.TheVariants as answer
use Rattle.ia32_code.specs.Decoding.{DecodedLaw, Answers, decoded}
use Rattle.file_fields.specs.declared.fault.ImageFault.{ImageFault}
use Rattle.file_fields.specs.declared.fault.ImageFault.TheVariants.{Magic, Version, Short, Rest, Bad, NoMemory}
use Rattle.file_fields.specs.Grammar.{AreBytes, many}
use Rattle.file_fields.specs.Reading.{◌▸◌, Fails, after_decoding, run}
use Rattle.tal_image.specs.declared.parts.FunctionPart.{FunctionPart}
use Rattle.tal_image.specs.declared.start.Start.{Start}
use Rattle.tal_image.specs.Conditions.{Spelled, block_fits, mark_fits, marked_number_at}
use Rattle.tal_image.specs.Fields.{bodies, all_instructions, code_bytes}
use Rattle.tal_image.specs.CodeReading.{AllPositive, StandAt, ReadCodeLaws, instruction_starts, function_starts, starts_behind, place_fits, offset_fits, start_at, start_number, code_at}
use Rattle.unit_files.specs.declared.code_places.CodeByte.{CodeByte}
use Rattle.unit_files.specs.Unit.{UnitFun, UnitBlock, UnitMark, FixUp, function_part, own_functions}
use Rattle.unit_files.specs.Conditions.{unit_mark_fits, fixup_fits, wide_at, hole_at}
use Rattle.unit_files.specs.Formed.{after_unit_block, after_unit_mark, after_fixup}
use Rattle.unit_files.specs.Fields.{UnitHeader, UnitFront, UnitCode, tables_behind, unit_bodies, unit_block_where, unit_mark_where, fixup_where, unit_blocks, unit_marks, unit_fixups, code_fields}
use Rattle.unit_files.specs.CodeWords.{code_table, code_byte_at, AreSpelled, unit_starts_at, lacks_function, unit_mark_says, hole_fits, unit_blocks_by, unit_marks_by, fixups_by, UnitCodeParts, unit_code_of}
use Rattle.unit_files.proofs.Meaning.Code.{both}
use Rattle.unit_files.proofs.Reading.Steps.{refused, bind_inverse, ok_pair, passed, stops, next_is, stops_later, fails_whole}
use Rattle.unit_files.proofs.Reading.Words.{hole_same, wide_same, spelled}

-- one function more
pub own_more : (functions : List UnitFun) (f : UnitFun) → own_functions (functions ++ f ∷ []) ≡ own_functions functions ++ own_functions (f ∷ [])
unfolding own_functions
own_more [] f = refl
own_more (g ∷ functions) f = go g.ext (own_more functions f)
  where
    go : (b : Bool) → own_functions (functions ++ f ∷ []) ≡ own_functions functions ++ own_functions (f ∷ [])
        → elim b [ true ↦ own_functions (functions ++ f ∷ []) | false ↦ function_part g ∷ own_functions (functions ++ f ∷ []) ]
        ≡ elim b [ true ↦ own_functions functions | false ↦ function_part g ∷ own_functions functions ] ++ own_functions (f ∷ [])
    go true e = e
    go false e = ap (λ (xs : List FunctionPart). function_part g ∷ xs) e

-- ---- the instructions

-- no instruction has no bytes
no_instruction : (bytes : List ℕ) (at all : ℕ) (d : Decoded) (next : ℕ → ℕ) (xs : List (List Spelled)) (end : ℕ) → Answers bytes d
    → after_decoding d (λ len i. (let r : Result (List (List Spelled) × ℕ) ImageFault = Ok ([], next len) in r)) 0 at all ≡ Ok (xs, end) → ⊥
no_instruction bytes at all answer.Short next xs end a e = absurd cc
no_instruction bytes at all answer.Unknown next xs end a e = absurd cc
no_instruction bytes at all (answer.One i len) next xs end a e =
    let t = (passed (nat_le len 0) _ (Bad at 23) (xs, end) e).0 in
    let some = a.0 in
    let none : len ≤ 0 = grind (arith, nat_tests) in
    omega (arith, some, none)

module _ (law : DecodedLaw) (file : List ℕ) (fits : AreBytes file) where
  -- the bytes behind some are bytes
  bytes_after : (n : ℕ) (bytes : List ℕ) → AreBytes bytes → AreBytes (drop n bytes)
  bytes_after zero bytes h = h
  bytes_after (suc n) [] h = h
  bytes_after (suc n) (b ∷ bytes) h = bytes_after n bytes (λ i. h (suc i))

  -- what is read is the instructions of the functions that are in the unit
  own_bodies : (functions : List UnitFun) (n at : ℕ) (xs : List (List Spelled)) (end : ℕ) → run (unit_bodies functions n) file at ≡ Ok (xs, end)
      → run (bodies (own_functions functions)) file at ≡ Ok (xs, end)
  unfolding unit_bodies own_functions bodies
  own_bodies [] zero at xs end e = e
  own_bodies [] (suc n) at xs end e =
      absurd (no_instruction (drop at file) at (length file) (decoded (drop at file)) (λ len. at + len) xs end (law (drop at file) (bytes_after at file fits)) e)
  own_bodies (f ∷ functions) n at xs end e = e

-- code without a function is refused at its first byte: as cut off where its bytes are, and else by condition 23
module _ (file : List ℕ) (at : ℕ) where
  -- what is read of such code, by the answer to its bytes
  abbrev owned_by : Decoded → Result (List Start × ℕ) ImageFault
  owned_by d = starts_behind [] ((after_decoding d (λ len i. (let r : Result (List (List Spelled) × ℕ) ImageFault = Ok ([], at + len) in r)) 0 at (length file)) ▸ λ x. Ok (all_instructions x.0, x.1))

  by_answer : (d : Decoded) (n : ℕ) → 0 < n → decoded (drop at file) ≡ d → unit_starts_at [] n file at ≡ owned_by d
  unfolding unit_bodies
  by_answer d zero some e = absurd (omega (arith, some))
  by_answer d (suc n) some e = ap owned_by e

  pub cut_code : (n : ℕ) → 0 < n → decoded (drop at file) ≡ answer.Short → unit_starts_at [] n file at ≡ Err (Short (length file))
  cut_code n some e = by_answer answer.Short n some e

  pub unknown_code : (n : ℕ) → 0 < n → decoded (drop at file) ≡ answer.Unknown → unit_starts_at [] n file at ≡ Err (Bad at 23)
  unknown_code n some e = by_answer answer.Unknown n some e

  pub whole_code : (n : ℕ) → 0 < n → (i : Inst) (len : ℕ) → 0 < len → decoded (drop at file) ≡ answer.One i len → unit_starts_at [] n file at ≡ Err (Bad at 23)
  whole_code n some i len long e =
      by_answer (answer.One i len) n some e
      ∙ (let t : nat_le len 0 ≡ false = grind (arith, nat_tests, long) in rw t refl)

-- a reading that is refused fails so
pub fails_so : {A : Type 0} (e : ImageFault) (r : Result A ImageFault) → r ≡ Err e → Fails e r
fails_so NoMemory r h = tt
fails_so Magic r h = h
fails_so Version r h = h
fails_so (Short n) r h = h
fails_so (Rest n) r h = h
fails_so (Bad n condition) r h = h

-- code without a function is refused so
pub refused_so : (functions : List UnitFun) (n : ℕ) (file : List ℕ) (at : ℕ) (e : ImageFault) → lacks_function functions n ≡ true
    → ((k : ℕ) → 0 < k → unit_starts_at [] k file at ≡ Err e) → Fails e (unit_starts_at functions n file at)
refused_so [] zero file at e t h = absurd cc
refused_so [] (suc n) file at e t h = fails_so e (unit_starts_at [] (suc n) file at) (h (suc n) (omega arith))
refused_so (f ∷ functions) n file at e t h =
    let none = eqb-true (length (f ∷ functions)) 0 (both (length (f ∷ functions) == 0) (nat_lt 0 n) t).0 in absurd (omega (arith, none))

-- where there is a function, or no code, the instructions are read of the functions that are in the unit
pub code_same : (functions : List UnitFun) (n : ℕ) (file : List ℕ) (at : ℕ) → lacks_function functions n ≡ false
    → code_at (own_functions functions) file at ≡ unit_starts_at functions n file at
unfolding unit_bodies own_functions bodies
code_same [] zero file at h = refl
code_same [] (suc n) file at h = absurd (let k : nat_lt 0 (suc n) ≡ true = grind (arith, nat_tests) in true≢false (sym k ∙ h))
code_same (f ∷ functions) n file at h = refl

-- the instructions of which it was read where they begin
pub starts_inverse : (functions : List UnitFun) (n : ℕ) (file : List ℕ) (at : ℕ) (starts : List Start) (end : ℕ) → unit_starts_at functions n file at ≡ Ok (starts, end)
    → (xs : List (List Spelled)) × (run (unit_bodies functions n) file at ≡ Ok (xs, end)) × (instruction_starts (all_instructions xs) ≡ starts)
starts_inverse functions n file at starts end e =
    let one = bind_inverse (run (unit_bodies functions n) file at ▸ λ x. Ok (all_instructions x.0, x.1)) (λ x. Ok (instruction_starts x.0, x.1)) (starts, end) e in
    let two = bind_inverse (run (unit_bodies functions n) file at) (λ x. Ok (all_instructions x.0, x.1)) one.0 one.1 in
    let xs = two.0.0 in
    let same = ok_pair (all_instructions xs) one.0.0 two.0.1 one.0.1 two.2 in
    let last = ok_pair (instruction_starts one.0.0) starts one.0.1 end one.2 in (
      xs,
      two.1 ∙ ap (λ (z : ℕ). let r : Result (List (List Spelled) × ℕ) ImageFault = Ok (xs, z) in r) (same.1 ∙ last.1),
      ap instruction_starts same.0 ∙ last.0,
    )

-- ---- what is said of the code

-- a mark's tag and index are tried by what is kept
said_same : (h : UnitHeader) (code : List Spelled) (starts : List Start) (table : List CodeByte) (offset tag index : ℕ)
    → marked_number_at offset code ≡ start_number (start_at starts offset) → wide_at offset code ≡ (code_byte_at table offset).wide
    → unit_mark_fits (tables_behind h) h.image.functions h.image.arrays code offset tag index ≡ unit_mark_says h starts table offset tag index
unfolding unit_mark_fits unit_mark_says
said_same h code starts table offset tag index e f = rw (e, f) refl

-- a fix-up's offset too
hole_fits_same : (code : List Spelled) (table : List CodeByte) (least offset : ℕ) → hole_at offset code ≡ (code_byte_at table offset).hole
    → fixup_fits code least offset ≡ hole_fits table least offset
unfolding fixup_fits hole_fits
hole_fits_same code table least offset e = ap (λ b. nat_le least offset && b) e

module _ (h : UnitHeader) (code : List Spelled) (starts : List Start) (table : List CodeByte) (file : List ℕ) (at : ℕ) where
  blocks_run : (functions : List FunctionPart) → ((least n : ℕ) → block_fits functions code least n ≡ place_fits starts (function_starts functions) least n)
      → run (unit_blocks h functions code) file at ≡ run (unit_blocks_by h functions starts) file at
  blocks_run functions same = λ j.
      let place = λ (least n : ℕ). same least n j in
      run (many h.image.blocks (λ later least. unit_block_where (tables_behind h) (place least)) after_unit_block 0) file at

  marks_run : ((least n : ℕ) → mark_fits code least n ≡ offset_fits starts least n)
      → ((offset tag index : ℕ) → unit_mark_fits (tables_behind h) h.image.functions h.image.arrays code offset tag index ≡ unit_mark_says h starts table offset tag index)
      → run (unit_marks h code) file at ≡ run (unit_marks_by h starts table) file at
  marks_run fits same = λ j.
      let place = λ (least n : ℕ). fits least n j in
      let word = λ (offset tag index : ℕ). same offset tag index j in
      run (many h.image.marks (λ later least. unit_mark_where (place least) word) after_unit_mark 0) file at

  fixups_run : ((least n : ℕ) → fixup_fits code least n ≡ hole_fits table least n)
      → run (unit_fixups h code) file at ≡ run (fixups_by h table) file at
  fixups_run same = λ j.
      let place = λ (least n : ℕ). same least n j in
      run (many h.fixups (λ later least. fixup_where (tables_behind h) h.image.functions h.image.arrays h.image.statics (place least)) after_fixup 0) file at

-- ---- the code, and what is said of it, one part after another

-- what is kept of it
abbrev pub kept : Result (UnitCode × ℕ) ImageFault → Result (UnitCodeParts × ℕ) ImageFault
kept r = r ▸ λ c. Ok (unit_code_of c.0, c.1)

-- code that is refused
pub no_code : (f : UnitFront) (file : List ℕ) (at : ℕ) (e : ImageFault) → Fails e (unit_starts_at f.functions f.header.image.code file at) → Fails e (kept (run (code_fields f) file at))
unfolding code_fields
no_code f file at e q =
    let bodies = run (unit_bodies f.functions f.header.image.code) file at in
    refused e (run (code_fields f) file at) _ (stops _ _ _ _ e
    (fails_whole e bodies (λ x. (all_instructions x.0, x.1)) (fails_whole e (bodies ▸ λ x. Ok (all_instructions x.0, x.1)) (λ x. (instruction_starts x.0, x.1)) q)))

module _ (law : DecodedLaw) (laws : ReadCodeLaws) (f : UnitFront) (file : List ℕ) (fits : AreBytes file) (positive : AllPositive (own_functions f.functions))
    (at : ℕ) (starts : List Start) (a : ℕ) (es : unit_starts_at f.functions f.header.image.code file at ≡ Ok (starts, a)) where
  -- the instructions that were read
  abbrev begun : (xs : List (List Spelled)) × (run (unit_bodies f.functions f.header.image.code) file at ≡ Ok (xs, a)) × (instruction_starts (all_instructions xs) ≡ starts)
  begun = starts_inverse f.functions f.header.image.code file at starts a es

  abbrev all : List Spelled
  all = all_instructions begun.0

  stand : StandAt file at all × (a ≡ at + length (code_bytes all))
  stand = laws.stand file fits (own_functions f.functions) at begun.0 a (own_bodies law file fits f.functions f.header.image.code at begun.0 a begun.1)

  -- the code's bytes
  pub bytes_are : code_bytes all ≡ take (a - at) (drop at file)
  bytes_are =
      let count : length (code_bytes all) ≡ a - at = let q = stand.1 in omega (arith, q) in
      laws.bytes file at all stand.0 ∙ ap (λ (n : ℕ). take n (drop at file)) count

  -- they are instructions one after another
  pub are_spelled : AreSpelled all
  are_spelled = spelled file at all stand.0

  same_blocks : (b : ℕ) → run (unit_blocks f.header (own_functions f.functions) all) file b ≡ run (unit_blocks_by f.header (own_functions f.functions) starts) file b
  same_blocks b = blocks_run f.header all starts (code_table all) file b (own_functions f.functions) (λ least n.
      laws.block file at all stand.0 (own_functions f.functions) positive least n ∙ ap (λ (z : List Start). place_fits z (function_starts (own_functions f.functions)) least n) begun.2)

  pub no_blocks : (e : ImageFault) → Fails e (run (unit_blocks_by f.header (own_functions f.functions) starts) file a) → Fails e (kept (run (code_fields f) file at))
  unfolding code_fields
  no_blocks e q =
      refused e (run (code_fields f) file at) _ (stops_later _ _ _ _ e begun.1 (stops _ _ _ _ e (subst (λ (r : Result (List UnitBlock × ℕ) ImageFault). Fails e r) (sym (same_blocks a)) q)))

  module _ (blocks : List UnitBlock) (b : ℕ) (eb : run (unit_blocks_by f.header (own_functions f.functions) starts) file a ≡ Ok (blocks, b))
      (table : List CodeByte) (et : table ≡ code_table all) where
    same_marks : (m : ℕ) → run (unit_marks f.header all) file m ≡ run (unit_marks_by f.header starts table) file m
    same_marks m = marks_run f.header all starts table file m
        (λ least n. laws.mark file at all stand.0 least n ∙ ap (λ (z : List Start). offset_fits z least n) begun.2)
        (λ offset tag index. said_same f.header all starts table offset tag index
        (laws.number file at all stand.0 offset ∙ ap (λ (z : List Start). start_number (start_at z offset)) begun.2)
        (wide_same file at all stand.0 offset ∙ ap (λ (z : List CodeByte). (code_byte_at z offset).wide) (sym et)))

    same_fixups : (m : ℕ) → run (unit_fixups f.header all) file m ≡ run (fixups_by f.header table) file m
    same_fixups m = fixups_run f.header all starts table file m (λ least n.
        hole_fits_same all table least n (hole_same all n ∙ ap (λ (z : List CodeByte). (code_byte_at z n).hole) (sym et)))

    pub no_marks : (e : ImageFault) → Fails e (run (unit_marks_by f.header starts table) file b) → Fails e (kept (run (code_fields f) file at))
    unfolding code_fields
    no_marks e q =
        refused e (run (code_fields f) file at) _ (stops_later _ _ _ _ e begun.1 (stops_later _ _ _ _ e (same_blocks a ∙ eb) (stops _ _ _ _ e
        (subst (λ (r : Result (List UnitMark × ℕ) ImageFault). Fails e r) (sym (same_marks b)) q))))

    module _ (marks : List UnitMark) (m : ℕ) (em : run (unit_marks_by f.header starts table) file b ≡ Ok (marks, m)) where
      pub no_fixups : (e : ImageFault) → Fails e (run (fixups_by f.header table) file m) → Fails e (kept (run (code_fields f) file at))
      unfolding code_fields
      no_fixups e q =
          refused e (run (code_fields f) file at) _ (stops_later _ _ _ _ e begun.1 (stops_later _ _ _ _ e (same_blocks a ∙ eb) (stops_later _ _ _ _ e (same_marks b ∙ em) (stops _ _ _ _ e
          (subst (λ (r : Result (List FixUp × ℕ) ImageFault). Fails e r) (sym (same_fixups m)) q)))))

      pub code_read : (fixups : List FixUp) (end : ℕ) (code : List ℕ) → run (fixups_by f.header table) file m ≡ Ok (fixups, end) → code ≡ take (a - at) (drop at file)
          → kept (run (code_fields f) file at) ≡ Ok (record { code = code; blocks = blocks; marks = marks; fixups = fixups }, end)
      unfolding code_fields
      code_read fixups end code ef ec =
          ap kept (next_is _ _ _ _ begun.1 ∙ next_is _ _ _ _ (same_blocks a ∙ eb) ∙ next_is _ _ _ _ (same_marks b ∙ em) ∙ next_is _ _ _ _ (same_fixups m ∙ ef))
          ∙ ap (λ (z : List ℕ). let r : Result (UnitCodeParts × ℕ) ImageFault = Ok (record { code = z; blocks = blocks; marks = marks; fixups = fixups }, end) in r) (bytes_are ∙ sym ec)
