-- What a read answered.
use Rattle.std.specs.Prelude.{Bool, true, false, Result, Ok, Err}
use Rattle.outside.specs.declared.traits.ReadAnswer.{ReadAnswer}
use Rattle.outside.specs.declared.traits.ReadAnswer.TheVariants.{Failed, NoMemory}

-- The read failed, which is counted; want of memory is not.
abbrev pub is_read_failure : {T : Type 0} → Result T ReadAnswer → Bool
is_read_failure (Ok _) = false
is_read_failure (Err Failed) = true
is_read_failure (Err NoMemory) = false
