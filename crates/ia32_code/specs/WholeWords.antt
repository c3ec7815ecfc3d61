-- The whole words of a spelling: the displacement or address within it, and the number, address or distance at its end.
use Rattle.std.specs.Prelude.{◌≡◌, ℕ, ◌+◌, ◌*◌, ◌<◌, ◌^◌, List, [], ◌∷◌, ◌++◌, length, Option, Some, None, option_map}
use Rattle.std.specs.Int.{w32, to_le_bytes}
use Rattle.ia32_code.specs.declared.spelling.Spelling.{Spelling}
use Rattle.ia32_code.specs.declared.word_offsets.WholeWords.{WholeWords}
use Rattle.ia32_code.specs.declared.row.ModRm.{ModRm}
use Rattle.ia32_code.specs.declared.row.ModRm.TheVariants.{Absent}
use Rattle.ia32_code.specs.declared.row.Trailing.{Trailing}
use Rattle.ia32_code.specs.declared.row.Trailing.TheVariants.{Nothing, Byte, Word}
use Rattle.ia32_code.specs.declared.operand_form.Displacement.TheVariants.{Disp32}
use Rattle.ia32_code.specs.declared.operand_form.OperandForm.{OperandForm}
use Rattle.ia32_code.specs.declared.operand_form.OperandForm.TheVariants.{Based, Absolute, Indexed, Unbased}
use Rattle.ia32_code.specs.OperandForms.{number, modrm_byte}
use Rattle.ia32_code.specs.Table.{line}
use Rattle.ia32_code.specs.Spells.{modrm_bytes, trailing_bytes, Filled, text}

-- where a whole word stands
pub data WordPlace : Type 0 where
  Within : WordPlace
  AtEnd : WordPlace

-- the whole word of an operand form: what its bytes before it are, the word, and the form with another word
pub record WordedForm : Type 0 where
  pub before : List ℕ
  pub word : ℕ
  pub with : ℕ → OperandForm

-- that of a form, if it has one
abbrev pub worded : OperandForm → Option WordedForm
worded (Based b (Disp32 d)) = Some (record { before = []; word = d; with = λ w. Based b (Disp32 w) })
worded (Absolute n) = Some (record { before = []; word = n; with = λ w. Absolute w })
worded (Indexed s i b (Disp32 d)) = Some (record { before = (64 * s + 8 * number i + number b) ∷ []; word = d; with = λ w. Indexed s i b (Disp32 w) })
worded (Unbased s i n) = Some (record { before = (64 * s + 8 * number i + 5) ∷ []; word = n; with = λ w. Unbased s i w })
worded _ = None

-- a whole word of a spelling: the bytes before and behind it, the word, and the spelling with another word
pub record Filling : Type 0 where
  pub before : List ℕ
  pub word : ℕ
  pub behind : List ℕ
  pub with : ℕ → Spelling

-- the spelling with another form
abbrev pub other_form : Spelling → OperandForm → Spelling
other_form s f = record { row = s.row; reg = s.reg; form = f; number = s.number }

-- and with another number
abbrev pub other_number : Spelling → ℕ → Spelling
other_number s n = record { row = s.row; reg = s.reg; form = s.form; number = n }

-- the word within, by the use of the ModRM byte and the word of the form
abbrev pub inner_word : Spelling → ModRm → Option WordedForm → Option Filling
inner_word s Absent o = None
inner_word s m None = None
inner_word s m (Some w) = Some (record {
  before = (line s.row).code ++ modrm_byte (number s.reg) s.form ∷ w.before;
  word = w.word;
  behind = trailing_bytes (line s.row).trailing s.number;
  with = λ v. other_form s (w.with v);
})

-- the word at the end, by the number there
abbrev pub end_word : Spelling → Trailing → Option Filling
end_word s Nothing = None
end_word s Byte = None
end_word s Word = Some (record {
  before = (line s.row).code ++ modrm_bytes (line s.row).modrm s.reg s.form;
  word = s.number;
  behind = [];
  with = λ v. other_number s v;
})

-- the whole word at a place, if there is one
unfoldable pub whole_word : WordPlace → Spelling → Option Filling
whole_word Within s = inner_word s (line s.row).modrm (worded s.form)
whole_word AtEnd s = end_word s (line s.row).trailing

-- a spelling whose bytes have the word there
abbrev pub HasWord : Filling → Spelling → ℕ → Type 0
HasWord f s w = text s ≡ f.before ++ to_le_bytes w32 w ++ f.behind

-- any word may stand there: the bytes with it are a spelling again, the same but for this word
pub record Fillable (s : Spelling) (f : Filling) : Type 0 where
  pub has : HasWord f s f.word
  pub filled : (w : ℕ) → w < 2 ^ 32 → Filled (f.with w)
  pub text_is : (w : ℕ) → HasWord f (f.with w) w

-- after another word was put within, the word at the end is where it was, and is what it was
pub record EndStays (s : Spelling) (f g : Filling) (v : ℕ) : Type 0 where
  pub at_end : Filling
  pub there : whole_word AtEnd (f.with v) ≡ Some at_end
  pub place : length at_end.before ≡ length g.before
  pub word : at_end.word ≡ g.word

-- how far into the bytes of a spelling the whole word at a place begins
abbrev pub word_offset : WordPlace → Spelling → Option ℕ
word_offset place s = option_map (λ f. length f.before) (whole_word place s)

-- the same of both places
abbrev pub word_offsets : Spelling → WholeWords
word_offsets s = record { within = word_offset Within s; at_end = word_offset AtEnd s }
