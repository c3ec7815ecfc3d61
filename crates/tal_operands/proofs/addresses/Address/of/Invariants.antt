use Rattle.std.proofs.Common.{◌≡◌, drop}
use Rattle.tal_names.specs.Declarations.{names_shown}
use Rattle.tal_operands.specs.Addresses.{with_terms, terms_address}
use Rattle.tal_operands.proofs.addresses.Address.of.Given as goal

-- the terms so far with those that are left make the whole
abbrev pub invariant-loop-term : goal.invariant-loop-term
invariant-loop-term l = with_terms (names_shown l.names) l.address (drop l.term-index l.terms) ≡ terms_address (names_shown l.names) l.fn.terms
