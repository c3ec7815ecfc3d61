-- The words of an instruction are in range, and the offsets of labels are not far.
use Rattle.std.proofs.Common.{◌≡◌, ℕ, zero, suc, ℤ, pos, ◌+◌, ◌<◌, ◌≤◌, Bool, true, false, List, [], ◌∷◌, ◌++◌, length, Option, Some, None, if◌then◌else◌, refl, subst, arith}
use Rattle.std.specs.Prelude.{nat_lt, IfSome, FitsSigned, ◌-ℤ◌, slice_get, option_map}
use Rattle.std.specs.Option.{option_and_then, option_map_or, unwrap_or}
use Rattle.std.specs.Int.{w32}
use Rattle.ia32_code.specs.declared.instruction.Inst.{Inst}
use Rattle.ia32_code.specs.Spells.{Spells}
use Rattle.ia32_code.specs.Canonical.{Canonical, canonical_length, text_length}
use Rattle.ia32_code.specs.Ranges.{InstInRange}
use Rattle.code_words.specs.declared.words.OperandWord.{OperandWord}
use Rattle.code_words.specs.declared.words.OperandWords.{OperandWords}
use Rattle.code_words.specs.declared.words.OperandWords.TheVariants.{Zero, One, Two, Three}
use Rattle.code_words.specs.declared.words.Mnemonic.{Mnemonic}
use Rattle.code_words.specs.declared.words.Words.{Words}
use Rattle.code_words.specs.Meaning.{meant_by}
use Rattle.file_fields.specs.Parts.{Each}
use Rattle.tal_image.specs.Conditions.{most_code}
use Rattle.tal_syntax.specs.declared.form.Arg.{Arg}
use Rattle.tal_syntax.specs.declared.form.Form.{Form}
use Rattle.tal_syntax.specs.declared.form.Form.TheVariants as form
use Rattle.tal_syntax.specs.declared.module.TextLine.{TextLine}
use Rattle.tal_names.specs.Declarations.{Names}
use Rattle.tal_names.specs.NameSets.{is_named, number_of_name}
use Rattle.tal_operands.specs.declared.instructions.Instruction.{Instruction}
use Rattle.tal_operands.specs.Operands.{arg_operand}
use Rattle.tal_operands.specs.Instructions.{is_call, with_word, with_operand, without_operands, with_args, line_instruction}
use Rattle.tal_code.specs.Labels.{LabelsView, farthest, offset_behind, words_length, inst_length, with_label, with_labels, label_offset, label_of, distance_to, distance_at}
use Rattle.tal_code.proofs.Spellings.{some_is_one}
use Rattle.tal_code.proofs.Ranges.{WordInRange, WordsInRange, meant_in_range, distance_fits}
use Rattle.tal_code.proofs.Shapes.{operand_fits}

-- ---- the words of an instruction

one_more_word : (os : OperandWords) (w : OperandWord) → WordsInRange os → WordInRange w → WordsInRange (with_word os w)
unfolding with_word
one_more_word Zero w is new = new
one_more_word (One a) w is new = (is, new)
one_more_word (Two a b) w is new = (is.0, is.1, new)
one_more_word (Three a b c) w is new = is

args_in_range : (m : Names) (call : Bool) (z : ℤ) (i : Instruction) (args : List Arg) → FitsSigned w32 z → WordsInRange i.words.operands → WordsInRange (with_args m call z i args).words.operands
unfolding with_args with_operand
args_in_range m call z i [] fits is = is
args_in_range m call z i (a ∷ args) fits is =
    args_in_range m call z (with_operand i (arg_operand m call z a)) args fits (one_more_word i.words.operands (arg_operand m call z a).word is (operand_fits m call z a fits))

-- The words of an instruction are in range where its label's distance is.
pub words_in_range : (m : Names) (mnemonic : Mnemonic) (args : List Arg) (z : ℤ) → FitsSigned w32 z → WordsInRange (line_instruction m mnemonic args z).words.operands
words_in_range m mnemonic args z fits = args_in_range m (is_call mnemonic) z (without_operands mnemonic) args fits tt

-- what one knows of canonical spellings: they spell, and are short
abbrev pub CanonicalSpells : Type 0
CanonicalSpells = (i : Inst) → InstInRange i → IfSome (Canonical i) (λ t. Spells t i)

abbrev pub SpellingsShort : Type 0
SpellingsShort = (t : List ℕ) (i : Inst) → Spells t i → (0 < length t) × (length t ≤ 11)

-- Words that are in range have short spellings.
short_words : (w : Words) → WordsInRange w.operands → CanonicalSpells → SpellingsShort → words_length w ≤ 11
unfolding words_length
short_words w range spells short = by_meaning (meant_by w) refl
  where
    by_text : (i : Inst) (o : Option (List ℕ)) → IfSome o (λ t. Spells t i) → text_length o ≤ 11
    by_text i None is = omega arith
    by_text i (Some t) is = (short t i is).1

    by_meaning : (o : Option Inst) → meant_by w ≡ o → option_map_or canonical_length o 0 ≤ 11
    by_meaning None is = omega arith
    by_meaning (Some i) is = by_text i (Canonical i) (spells i (meant_in_range w i range is))

-- ---- the offsets of labels

-- no label is far
abbrev pub InReach : LabelsView → Type 0
InReach ls = Each (λ offset. offset ≤ farthest) ls.offsets

each_more : (xs : List ℕ) (x : ℕ) → Each (λ offset. offset ≤ farthest) xs → x ≤ farthest → Each (λ offset. offset ≤ farthest) (xs ++ x ∷ [])
each_more [] x all is = (is, tt)
each_more (y ∷ xs) x (first, all) is = (first, each_more xs x all is)

each_at : (xs : List ℕ) (k x : ℕ) → Each (λ offset. offset ≤ farthest) xs → slice_get xs k ≡ Some x → x ≤ farthest
each_at [] k x all e = cc
each_at (y ∷ xs) zero x (first, all) e = subst (λ n. n ≤ farthest) (some_is_one y x e) first
each_at (y ∷ xs) (suc k) x (first, all) e = each_at xs k x all e

behind_in_reach : (offset n : ℕ) → offset ≤ farthest → n ≤ 11 → offset_behind offset n ≤ farthest
unfolding offset_behind
behind_in_reach offset n le few = by_size (nat_lt most_code offset) refl
  where
    by_size : (b : Bool) → nat_lt most_code offset ≡ b → (if b then offset else offset + n) ≤ farthest
    by_size true is = le
    by_size false is = (let l : offset ≤ most_code = grind arith in omega (arith, l, few))

label_in_reach : (ls : LabelsView) (n : List ℕ) (offset : ℕ) → InReach ls → offset ≤ farthest → InReach (with_label ls n offset)
unfolding with_label
label_in_reach ls n offset all le = by_name (is_named ls.names n)
  where
    by_name : (b : Bool) → InReach (if b then ls else record { names = ls.names ++ n ∷ []; offsets = ls.offsets ++ offset ∷ [] })
    by_name true = all
    by_name false = each_more ls.offsets offset all le

-- how long an instruction is
inst_short : (m : Names) (mnemonic : Mnemonic) (args : List Arg) → CanonicalSpells → SpellingsShort → inst_length m mnemonic args ≤ 11
unfolding inst_length
inst_short m mnemonic args spells short = short_words (line_instruction m mnemonic args (pos 0)).words (words_in_range m mnemonic args (pos 0) (record { sfits = omega arith })) spells short

-- The labels of lines are in reach where the first line is.
pub lines_in_reach : (m : Names) (ls : LabelsView) (offset : ℕ) (lines : List TextLine) → CanonicalSpells → SpellingsShort → InReach ls → offset ≤ farthest → InReach (with_labels m ls offset lines)
unfolding with_labels
lines_in_reach m ls offset [] spells short all le = all
lines_in_reach m ls offset (l ∷ more) spells short all le =
    by_form l.form (λ n. lines_in_reach m (with_label ls n offset) offset more spells short (label_in_reach ls n offset all le) le)
    (λ mnemonic args. lines_in_reach m ls (offset_behind offset (inst_length m mnemonic args)) more spells short all (behind_in_reach offset _ le (inst_short m mnemonic args spells short)))
  where
    by_form : (f : Form) → ((n : List ℕ) → InReach (with_labels m (with_label ls n offset) offset more))
        → ((mnemonic : Mnemonic) (args : List Arg) → InReach (with_labels m ls (offset_behind offset (inst_length m mnemonic args)) more))
        → InReach (elim f [
          | form.Label n rs slots ↦ with_labels m (with_label ls n offset) offset more
          | form.Inst mnemonic args ↦ with_labels m ls (offset_behind offset (inst_length m mnemonic args)) more
          | _ ↦ ls
        ])
    by_form (form.Label n rs slots) label inst = label n
    by_form (form.Inst mnemonic args) label inst = inst mnemonic args
    by_form _ label inst = all

-- The distance to a label fits, where it is known.
pub distance_in_range : (m : Names) (ls : LabelsView) (offset : ℕ) (mnemonic : Mnemonic) (args : List Arg) → CanonicalSpells → SpellingsShort → InReach ls → offset ≤ farthest
    → FitsSigned w32 (unwrap_or (distance_at m ls offset mnemonic args) (pos 0))
unfolding distance_to label_offset
distance_in_range m ls offset mnemonic args spells short all le = by_label (label_of mnemonic args)
  where
    next : ℕ
    next = offset_behind offset (inst_length m mnemonic args)

    near : next ≤ farthest
    near = behind_in_reach offset _ le (inst_short m mnemonic args spells short)

    by_number : (n : List ℕ) (o : Option ℕ) (x : ℕ) → option_and_then (slice_get ls.offsets) o ≡ Some x → x ≤ farthest
    by_number n None x is = cc
    by_number n (Some k) x is = each_at ls.offsets k x all is

    by_offset : (n : List ℕ) (o : Option ℕ) → option_and_then (slice_get ls.offsets) (number_of_name ls.names n) ≡ o → FitsSigned w32 (unwrap_or (option_map (λ offset. pos offset -ℤ pos next) o) (pos 0))
    by_offset n None is = record { sfits = omega arith }
    by_offset n (Some x) is = distance_fits x next (let k = by_number n (number_of_name ls.names n) x is in omega (arith, k)) (let k = near in omega (arith, k))

    by_label : (o : Option (List ℕ)) → FitsSigned w32 (unwrap_or (distance_to o ls next) (pos 0))
    by_label None = record { sfits = omega arith }
    by_label (Some n) = by_offset n (label_offset ls n) refl
