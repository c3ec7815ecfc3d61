use Rattle.std.proofs.Common.{◌≡◌, ◌+◌, drop}
use Rattle.text_tokens.specs.Lexing.{tokens_from}
use Rattle.text_tokens.proofs.lexing.next_token.Given as goal

abbrev pub invariant-loop-at : goal.invariant-loop-at
invariant-loop-at l = tokens_from 0 l.mode (l.at + 1) (drop l.at l.line) ≡ tokens_from 0 l.fn.mode (l.fn.from + 1) (drop l.fn.from l.fn.line)
