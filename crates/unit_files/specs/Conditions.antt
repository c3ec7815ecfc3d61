-- What the fields of a unit file must meet where they differ from an image's, each condition by its number.
use Rattle.std.specs.Prelude.{ℕ, ◌-◌, Bool, false, not, ◌&&◌, ◌||◌, nat_lt, nat_le, ◌==◌, List, [], ◌∷◌, length, take, drop, Option, Some, None, is_some, Result, Ok, Err, slice_index_or, if◌then◌else◌}
use Rattle.std.specs.List.{list_all}
use Rattle.ia32_code.specs.declared.spelling.Spelling.{Spelling}
use Rattle.ia32_code.specs.declared.word_offsets.WholeWords.{WholeWords}
use Rattle.ia32_code.specs.declared.reading.Stop.{Stop}
use Rattle.ia32_code.specs.Reading.{spelling_at}
use Rattle.ia32_code.specs.WholeWords.{word_offsets}
use Rattle.text_tokens.specs.Bytes.{is_letter, is_name_byte}
use Rattle.text_tokens.specs.Words.{word_written}
use Rattle.file_fields.specs.Grammar.{between, bytes_number}
use Rattle.tal_image.specs.declared.parts.Tables.{Tables}
use Rattle.tal_image.specs.Conditions.{Spelled, marked_number_at, same_number}

-- 28, 15 and 30: the limits of the counts of names, entries and fix-ups
abbrev pub names_fit : ℕ → Bool
names_fit n = between 0 65536 n

abbrev pub entries_fit : ℕ → Bool
entries_fit n = between 0 64 n

abbrev pub fixups_fit : ℕ → Bool
fixups_fit n = between 0 262144 n

-- 28: a name has 1 to 63 bytes
abbrev pub name_length_fits : ℕ → Bool
name_length_fits n = between 1 63 n

-- 28: they are a letter or `_`, then letters, digits and `_`, and no word of assembly text
unfoldable pub is_name : List ℕ → Bool
is_name letters = is_letter (slice_index_or letters 0 0) && list_all is_name_byte letters && not (is_some (word_written letters))

-- 29: the name is there
abbrev pub mention_fits : ℕ → ℕ → Bool
mention_fits names n = nat_lt n names

-- 29: a row is extern or not
abbrev pub ext_fits : ℕ → Bool
ext_fits n = between 0 1 n

-- 15: a stack's number is at most 63, and the function is there
abbrev pub stack_fits : ℕ → Bool
stack_fits n = between 0 63 n

abbrev pub entry_function_fits : ℕ → ℕ → Bool
entry_function_fits functions n = nat_lt n functions

-- ---- the code

-- the whole words of the instruction that bytes spell
abbrev pub words_read : Result (Spelling × List ℕ) Stop → WholeWords
words_read (Ok x) = word_offsets x.0
words_read (Err stop) = record { within = None; at_end = None }

abbrev pub words_in_text : List ℕ → WholeWords
words_in_text text = words_read (spelling_at text)

-- whether a place is this one
abbrev pub is_that_place : Option ℕ → ℕ → Bool
is_that_place None k = false
is_that_place (Some n) k = n == k

-- whether a hole of an instruction lies at a place in its bytes: a whole word, which is 0
unfoldable pub hole_in : List ℕ → ℕ → Bool
hole_in text k = (is_that_place (words_in_text text).within k || is_that_place (words_in_text text).at_end k) && bytes_number (take 4 (drop k text)) == 0

-- whether a hole lies at an offset of instructions one after another
unfoldable pub hole_at : ℕ → List Spelled → Bool
hole_at offset [] = false
hole_at offset (s ∷ more) = if nat_lt offset (length s.text) then hole_in s.text offset else hole_at (offset - length s.text) more

-- whether the instruction that begins at an offset ends with a whole word
unfoldable pub wide_at : ℕ → List Spelled → Bool
wide_at offset [] = false
wide_at offset (s ∷ more) = if offset == 0 then is_some (words_in_text s.text).at_end else if nat_lt offset (length s.text) then false else wide_at (offset - length s.text) more

-- how many rows a mark's tag may name: null of a class, an array kind or a signature; a function; a class's table; an array
-- kind's descriptor; a data array
unfoldable pub marked_rows : Tables → ℕ → ℕ → ℕ → ℕ
marked_rows t functions arrays tag =
    if tag == 1 then t.classes
    else if tag == 3 then t.kinds
    else if tag == 5 then t.sigs
    else if tag == 6 then functions
    else if tag == 7 then t.classes
    else if tag == 8 then t.kinds
    else if tag == 10 then arrays
    else 0

-- whether a tag is one of null
abbrev pub is_null_tag : ℕ → Bool
is_null_tag tag = tag == 1 || tag == 3 || tag == 5

-- 27: the tag is one of these and its index is there; the immediate number is 0, and has four bytes but for null
unfoldable pub unit_mark_fits : Tables → ℕ → ℕ → List Spelled → ℕ → ℕ → ℕ → Bool
unit_mark_fits t functions arrays code offset tag index =
    nat_lt index (marked_rows t functions arrays tag) && same_number (Some 0) (marked_number_at offset code) && (is_null_tag tag || wide_at offset code)

-- 30: the offsets of fix-ups rise, and at each is a hole; the least is the offset of the fix-up before plus 1
unfoldable pub fixup_fits : List Spelled → ℕ → ℕ → Bool
fixup_fits code least offset = nat_le least offset && hole_at offset code

-- 30: a fix-up's kind
abbrev pub fixup_kind_fits : ℕ → Bool
fixup_kind_fits kind = between 1 7 kind

-- the number of the entries of the Nucleus
abbrev pub nucleus_entries : ℕ
nucleus_entries = 11

-- how many things a fix-up's kind may name: a class's table, an array kind's descriptor, a function, a data array, a static, a
-- function, an entry of the Nucleus
unfoldable pub fixed_rows : Tables → ℕ → ℕ → ℕ → ℕ → ℕ
fixed_rows t functions arrays statics kind =
    if kind == 1 then t.classes
    else if kind == 2 then t.kinds
    else if kind == 3 then functions
    else if kind == 4 then arrays
    else if kind == 5 then statics
    else if kind == 6 then functions
    else if kind == 7 then nucleus_entries
    else 0

-- 30: what a fix-up names is there
abbrev pub fixup_index_fits : Tables → ℕ → ℕ → ℕ → ℕ → ℕ → Bool
fixup_index_fits t functions arrays statics kind index = nat_lt index (fixed_rows t functions arrays statics kind)
