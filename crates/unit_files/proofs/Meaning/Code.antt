-- What the header, the names, and what is said of the code in a unit file stand for.
use Rattle.std.proofs.Common.{◌≡◌, ℕ, zero, suc, ◌<◌, ◌^◌, Bool, true, false, ◌&&◌, List, [], ◌∷◌, ◌++◌, length, refl, sym, ap, subst, ◌∙◌, arith, lit<}
use Rattle.std.specs.List.{list_all}
use Rattle.std.proofs.lemmas.Bool.Decides.{nat_tests}
use Rattle.std.proofs.lemmas.List.{append-nil}
use Rattle.ia32_code.specs.declared.instruction.Inst.{Inst}
use Rattle.ia32_code.specs.Spells.{Spells}
use Rattle.text_tokens.specs.Bytes.{is_name_byte}
use Rattle.file_fields.specs.declared.fault.ImageFault.TheVariants.{Bad}
use Rattle.file_fields.specs.Grammar.{Grammar, done, chunk, number_bytes, Field, Chunk, Instruction, fields_text, Sound, AreBytes}
use Rattle.file_fields.specs.Laws.{NumberMeanings}
use Rattle.file_fields.specs.Parts.{FieldsOf, Means, Checked}
use Rattle.file_fields.specs.Composed.{means_as, at_end, put_part, put_last, take_part, take_last, supposing}
use Rattle.tal_image.specs.declared.parts.FunctionPart.{FunctionPart}
use Rattle.tal_image.specs.declared.parts.MarkPart.{MarkPart}
use Rattle.tal_image.specs.declared.parts.BlockPart.{BlockPart}
use Rattle.tal_image.specs.Image.{numbers, block_bytes, mark_bytes}
use Rattle.tal_image.specs.declared.parts.Tables.{Tables}
use Rattle.tal_image.specs.Conditions.{between, Spelled, mark_fits}
use Rattle.tal_image.specs.Fields.{all_instructions, code_bytes}
use Rattle.tal_image.specs.Formed.{IsHeader, AreBodies, IsBlockPart}
use Rattle.tal_image.specs.Rows.{RowMeanings, header_numbers}
use Rattle.unit_files.specs.Unit.{UnitFun, UnitBlock, UnitMark, FixUp, block_part, mark_part, own_functions, unit_magic, name_bytes, fixup_bytes}
use Rattle.unit_files.specs.Conditions.{names_fit, entries_fit, fixups_fit, name_length_fits, is_name, unit_mark_fits, fixup_fits, fixup_kind_fits, fixup_index_fits}
use Rattle.unit_files.specs.Fields.{UnitHeader, unit_header_fields, name_fields, unit_bodies, unit_block_where, unit_block_fields, unit_mark_where, unit_mark_fields, fixup_where, fixup_fields}
use Rattle.unit_files.specs.Formed.{IsName, IsUnitMark, IsFixUp}

-- two tests that are met
pub both : (a b : Bool) → (a && b) ≡ true → (a ≡ true) × (b ≡ true)
both true true h = (refl, refl)
both true false h = absurd cc
both false b h = absurd cc

-- the bytes of a name are bytes
name_byte_is : (b : ℕ) → is_name_byte b ≡ true → b < 256
name_byte_is b h = grind (arith, nat_tests)

are_bytes : (letters : List ℕ) → list_all is_name_byte letters ≡ true → AreBytes letters
are_bytes [] h i = lit< tt
are_bytes (b ∷ letters) h zero = name_byte_is b (both (is_name_byte b) (list_all is_name_byte letters) h).0
are_bytes (b ∷ letters) h (suc i) = are_bytes letters (both (is_name_byte b) (list_all is_name_byte letters) h).1 i

name_is_bytes : (letters : List ℕ) → is_name letters ≡ true → AreBytes letters
unfolding is_name
name_is_bytes letters h = are_bytes letters (both _ (list_all is_name_byte letters) (both _ _ h).0).1

-- the limits of the counts behind an image's header
pub record IsUnitHeader (h : UnitHeader) : Type 0 where
  pub header : IsHeader true h.image
  pub names_28 : names_fit h.names ≡ true
  pub entries_15 : entries_fit h.entries ≡ true
  pub fixups_30 : fixups_fit h.fixups ≡ true

-- a number within small limits has 32 bits
limited : (low high n : ℕ) → high < 2 ^ 32 → between low high n ≡ true → Checked (between low high) n
limited low high n small h = (grind (arith, nat_tests), h)

-- the bytes of a header
abbrev pub header_text : UnitHeader → List ℕ
header_text h = numbers (header_numbers unit_magic h.image) ++ (number_bytes h.names ++ (number_bytes h.entries ++ number_bytes h.fixups))

-- code has a function that it belongs to
abbrev pub HasOwner : List UnitFun → ℕ → Type 0
HasOwner [] n = n ≡ 0
HasOwner (f ∷ functions) n = Unit {0}

-- no spelling is empty
abbrev pub SomeText : Type 0
SomeText = (text : List ℕ) (i : Inst) → Spells text i → 0 < length text

module _ (rows : RowMeanings) (meanings : NumberMeanings) where
  -- the header
  pub unit_header_means : Means unit_header_fields IsUnitHeader header_text
  unfolding unit_header_fields
  unit_header_means = record {
    whole = λ h is.
        put_part (rows.header unit_magic true (lit< tt)) _ h.image h _ is.header
        (put_part (meanings.one names_fit (λ at. Bad at 28)) _ h.names h _ (limited 0 65536 h.names (lit< tt) is.names_28)
        (put_part (meanings.one entries_fit (λ at. Bad at 15)) _ h.entries h _ (limited 0 64 h.entries (lit< tt) is.entries_15)
        (put_last (meanings.one fixups_fit (λ at. Bad at 30)) _ h.fixups (limited 0 262144 h.fixups (lit< tt) is.fixups_30))));
    back = λ fs h p.
        supposing (take_part (rows.header unit_magic true (lit< tt)) _ fs h p) (λ image.
        supposing (take_part (meanings.one names_fit (λ at. Bad at 28)) _ image.rest h image.more) (λ names.
        supposing (take_part (meanings.one entries_fit (λ at. Bad at 15)) _ names.rest h names.more) (λ entries.
        supposing (take_last (meanings.one fixups_fit (λ at. Bad at 30)) _ entries.rest h entries.more) (λ fixups.
        subst (λ (z : UnitHeader). IsUnitHeader z × (fields_text fs ≡ header_text z)) fixups.same
        (record { header = image.is; names_28 = names.is.1; entries_15 = entries.is.1; fixups_30 = fixups.is.1 }, image.bytes _ (names.bytes _ (entries.bytes _ fixups.bytes)))))));
  }

  -- the bytes of a name, as one field
  abbrev letters_of : ℕ → Grammar (List ℕ)
  letters_of n = chunk n is_name (λ t at. Bad at 28) (λ t. done t)

  name_back : (n : ℕ) (fs : List Field) (letters : List ℕ) → Sound (letters_of n) fs (done letters) → (length letters ≡ n) × (is_name letters ≡ true) × (fields_text fs ≡ letters)
  name_back n [] letters s = absurd cc
  name_back n (Instruction text i ∷ fs) letters s = absurd s.1
  name_back n (Chunk t ∷ fs) letters s =
      let k = at_end t letters fs (subst (λ (z : Grammar (List ℕ)). Sound z fs (done letters)) s.1.3 s.2) in
      rw (← k.1, k.0) (s.1.0, s.1.2, append-nil t)

  -- a name
  pub name_means : Means name_fields IsName name_bytes
  unfolding name_fields
  name_means = record {
    whole = λ letters h.
        put_part (meanings.one name_length_fits (λ at. Bad at 28)) letters_of (length letters) letters letters (limited 1 63 (length letters) (lit< tt) h.long)
        (Chunk letters ∷ [], (done letters, (refl, name_is_bytes letters h.condition_28, h.condition_28, refl), refl), append-nil letters);
    back = λ fs letters p.
        supposing (take_part (meanings.one name_length_fits (λ at. Bad at 28)) letters_of fs letters p) (λ n.
        supposing (name_back n.value n.rest letters n.more) (λ k. (
          record { long = subst (λ (m : ℕ). name_length_fits m ≡ true) (sym k.0) n.is.1; condition_28 = k.1 },
          n.bytes letters k.2 ∙ ap (λ (m : ℕ). number_bytes m ++ letters) (sym k.0),
        )));
  }

  module _ (some : SomeText) where
    -- code without a function
    no_owner : (n : ℕ) (fs : List Field) (xs : List (List Spelled)) → Sound (unit_bodies [] (suc n)) fs (done xs) → ⊥
    unfolding unit_bodies
    no_owner n [] xs s = cc
    no_owner n (Chunk t ∷ fs) xs s = s.1
    no_owner n (Instruction text i ∷ fs) xs s = let pos = some text i s.1.0 in let none = s.1.1 in omega arith

    -- the instructions of the functions that are in the unit
    pub unit_bodies_means : (functions : List UnitFun) (n : ℕ)
        → Means (unit_bodies functions n) (λ xs. AreBodies (own_functions functions) xs × HasOwner functions n) (λ xs. code_bytes (all_instructions xs))
    unfolding unit_bodies own_functions
    unit_bodies_means [] zero = record { whole = empty; back = empty_back }
      where
        empty : (xs : List (List Spelled)) → AreBodies [] xs × HasOwner [] 0 → FieldsOf (unit_bodies [] 0) xs (code_bytes (all_instructions xs))
        empty [] h = ([], refl, refl)
        empty (x ∷ xs) h = absurd h.0

        empty_back : (fs : List Field) (xs : List (List Spelled)) → Sound (unit_bodies [] 0) fs (done xs) → (AreBodies [] xs × HasOwner [] 0) × (fields_text fs ≡ code_bytes (all_instructions xs))
        empty_back fs xs s = let k = at_end [] xs fs s in rw (← k.1, k.0) ((tt, refl), refl)
    unit_bodies_means [] (suc n) = record { whole = λ xs h. absurd cc; back = λ fs xs s. absurd (no_owner n fs xs s) }
    unit_bodies_means (f ∷ functions) n = means_as (λ xs h. (h, tt)) (λ xs h. h.0) (rows.bodies (own_functions (f ∷ functions)))

  -- a block
  pub unit_block_means : (t : Tables) (functions : List FunctionPart) (code : List Spelled) (least : ℕ)
      → Means (unit_block_fields t functions code least) (λ b. IsBlockPart t functions code least (block_part b)) (λ b. block_bytes (block_part b))
  unfolding unit_block_where
  unit_block_means t functions code least =
      let make = λ (b : BlockPart). (let r : UnitBlock = record { offset = b.offset; regs = b.types; slots = b.slots } in r) in
      record {
        whole = λ b h. put_last (rows.block t functions code least) make (block_part b) h;
        back = λ fs b p.
            supposing (take_last (rows.block t functions code least) make fs b p) (λ k.
            subst (λ (z : UnitBlock). IsBlockPart t functions code least (block_part z) × (fields_text fs ≡ block_bytes (block_part z))) k.same (k.is, k.bytes));
      }

  -- a mark
  pub unit_mark_means : (t : Tables) (functions arrays : ℕ) (code : List Spelled) (least : ℕ)
      → Means (unit_mark_fields t functions arrays code least) (IsUnitMark t functions arrays code least) (λ m. mark_bytes (mark_part m))
  unfolding unit_mark_where
  unit_mark_means t functions arrays code least =
      let make = λ (m : MarkPart). (let r : UnitMark = record { offset = m.offset; tag = m.tag; index = m.index } in r) in
      let one = rows.mark (mark_fits code least) (unit_mark_fits t functions arrays code) in
      record {
        whole = λ m h. put_last one make (mark_part m) ((h.offset_word, h.condition_26), (h.tag_word, h.index_word, h.condition_27));
        back = λ fs m p.
            supposing (take_last one make fs m p) (λ k.
            subst (λ (z : UnitMark). IsUnitMark t functions arrays code least z × (fields_text fs ≡ mark_bytes (mark_part z))) k.same
            (record { offset_word = k.is.0.0; condition_26 = k.is.0.1; tag_word = k.is.1.0; index_word = k.is.1.1; condition_27 = k.is.1.2 }, k.bytes));
      }

  -- a fix-up
  pub fixup_means : (t : Tables) (functions arrays statics : ℕ) (code : List Spelled) (least : ℕ)
      → Means (fixup_fields t functions arrays statics code least) (IsFixUp t functions arrays statics code least) fixup_bytes
  unfolding fixup_where
  fixup_means t functions arrays statics code least =
      let index_ok = λ (kind : ℕ). fixup_index_fits t functions arrays statics kind in
      record {
        whole = λ f h.
            put_part (meanings.one (fixup_fits code least) (λ at. Bad at 30)) _ f.offset f _ (h.offset_word, h.offset_30)
            (put_part (meanings.one fixup_kind_fits (λ at. Bad at 30)) _ f.kind f _ (h.kind_word, h.kind_30)
            (put_last (meanings.one (index_ok f.kind) (λ at. Bad at 30)) _ f.index (h.index_word, h.index_30)));
        back = λ fs f p.
            supposing (take_part (meanings.one (fixup_fits code least) (λ at. Bad at 30)) _ fs f p) (λ offset.
            supposing (take_part (meanings.one fixup_kind_fits (λ at. Bad at 30)) _ offset.rest f offset.more) (λ kind.
            supposing (take_last (meanings.one (index_ok kind.value) (λ at. Bad at 30)) _ kind.rest f kind.more) (λ index.
            subst (λ (z : FixUp). IsFixUp t functions arrays statics code least z × (fields_text fs ≡ fixup_bytes z)) index.same (
              record {
                offset_word = offset.is.0;
                offset_30 = offset.is.1;
                kind_word = kind.is.0;
                kind_30 = kind.is.1;
                index_word = index.is.0;
                index_30 = index.is.1;
              },
              offset.bytes _ (kind.bytes _ index.bytes),
            ))));
      }
