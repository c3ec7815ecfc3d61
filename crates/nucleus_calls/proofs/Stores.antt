-- The word of the memory that a store put.
use Rattle.std.proofs.Common.{◌≡◌, ◌==◌, ℕ, true, Some, refl, ◌∙◌, arith}
use Rattle.std.proofs.lemmas.Bool.Decides.{nat_tests}
use Rattle.word_machine.specs.Memory.{MemoryView, word_of}
use Rattle.word_machine.specs.Laws.{WordChanges}

-- the word at the address
pub written-there : (before after : MemoryView) (a w b : ℕ) → WordChanges before after a w → b ≡ a → word_of after b ≡ Some w
written-there before after a w b written is = let e : (b == a) ≡ true = grind (arith, nat_tests) in written b ∙ rw e refl
