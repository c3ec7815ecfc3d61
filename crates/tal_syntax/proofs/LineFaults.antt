-- The first fault of a line.
use Rattle.std.proofs.Common.{◌≡◌, ℕ, Bool, true, false, cond, List, Option, None, Result, Ok, Err}
use Rattle.text_tokens.specs.Token.{PlacedLexeme, lexemes_of}
use Rattle.tal_syntax.specs.Grammar.{code_says, member_says, outside_says}
use Rattle.tal_syntax.specs.Faults.{FirstTokenFault}
use Rattle.tal_syntax.specs.Forms.{any_line_at, function_line_at, member_at, outside_at}
use Rattle.tal_syntax.specs.Text.{LineFault, At, line_at, whole, no_token}
use Rattle.tal_syntax.specs.declared.form.Form.{Form}
use Rattle.tal_syntax.specs.declared.form.Scope.TheVariants.{InClass, InFunc, Outside}
use Rattle.tal_syntax.proofs.FaultLaws.{first_fault}
use Rattle.tal_syntax.proofs.MemberLaws.{Lawful-member}
use Rattle.tal_syntax.proofs.DeclarationLaws.{Lawful-outside}
use Rattle.tal_syntax.proofs.CodeLaws.{Lawful-code}

-- a line with a fault has a token
not_empty : (r : Bool) (read : Result (Option Form) LineFault) (column code : ℕ) → cond r (Ok None) read ≡ Err (At column code) → read ≡ Err (At column code)
not_empty true read column code e = absurd cc
not_empty false read column code e = e

-- the fault of a line of a class
pub class_fault : (items : List PlacedLexeme) (column code : ℕ) → line_at InClass items ≡ Err (At column code) → FirstTokenFault member_says items column code
unfolding line_at any_line_at
class_fault items column code e = first_fault member_at member_says Lawful-member items column code (not_empty (no_token (lexemes_of items)) (whole items (member_at (lexemes_of items))) column code e)

-- the fault of a line outside classes and functions
pub outside_fault : (items : List PlacedLexeme) (column code : ℕ) → line_at Outside items ≡ Err (At column code) → FirstTokenFault outside_says items column code
unfolding line_at any_line_at
outside_fault items column code e = first_fault outside_at outside_says Lawful-outside items column code (not_empty (no_token (lexemes_of items)) (whole items (outside_at (lexemes_of items))) column code e)

-- the fault of a line of a function
pub code_fault : (items : List PlacedLexeme) (column code : ℕ) → line_at InFunc items ≡ Err (At column code) → FirstTokenFault code_says items column code
unfolding line_at any_line_at
code_fault items column code e = first_fault function_line_at code_says Lawful-code items column code (not_empty (no_token (lexemes_of items)) (whole items (function_line_at (lexemes_of items))) column code e)
