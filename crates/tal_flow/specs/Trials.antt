-- The rules of typing by their names, and lists of rules that are tried.
use Rattle.std.specs.Prelude.{ℕ, ◌==◌, Bool, true, false, not, ◌&&◌, ◌||◌, List, [], ◌∷◌, Option, Some, None}
use Rattle.tal_flow.specs.declared.trials.RuleName.{RuleName}
use Rattle.tal_flow.specs.declared.trials.RuleName.TheVariants.{Instruction, EspRole, Place, Access, Number, Stored, SlotRoom, SlotsThere, Comparison, Callee, Arguments, SlotsLeft, Returned, Target, Condition, Annotation, FunctionEnd}
use Rattle.tal_flow.specs.declared.trials.Trial.{Trial}

-- the number that the program prints
unfoldable pub rule_number : RuleName → ℕ
rule_number Instruction = 1
rule_number EspRole = 2
rule_number Place = 3
rule_number Access = 4
rule_number Number = 5
rule_number Stored = 6
rule_number SlotRoom = 7
rule_number SlotsThere = 8
rule_number Comparison = 9
rule_number Callee = 10
rule_number Arguments = 11
rule_number SlotsLeft = 12
rule_number Returned = 13
rule_number Target = 14
rule_number Condition = 15
rule_number Annotation = 16
rule_number FunctionEnd = 17

-- a rule asks this
abbrev pub ask : RuleName → Bool → Trial
ask r holds = record { rule = r; holds = holds }

-- rule n fails where it is tried and does not hold
unfoldable pub fails_in : List Trial → ℕ → Bool
fails_in [] n = false
fails_in (t ∷ ts) n = (rule_number t.rule == n) && not t.holds || fails_in ts n

-- a rule, where its test fails, and else what follows
abbrev pub demand : RuleName → Bool → Option RuleName → Option RuleName
demand r true rest = rest
demand r false rest = Some r

-- the first that fails of the rules that are tried
abbrev pub first_failing : List Trial → Option RuleName
first_failing [] = None
first_failing (t ∷ ts) = demand t.rule t.holds (first_failing ts)
