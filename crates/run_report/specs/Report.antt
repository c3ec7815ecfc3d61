-- The text of a report.
use Rattle.std.specs.Prelude.{ℕ, ◌+◌, ◌/◌, ◌%◌, zero, suc, Bool, List, [], ◌∷◌, ◌++◌, drop, take, map, codes, decimal, if◌then◌else◌, nat_le, ◌&&◌}
use Rattle.std.specs.List.{flat_map}
use Rattle.hex.specs.Hex.{encode_upper}
use Rattle.hex_text.specs.Words.{word_text}
use Rattle.run_report.specs.Shown.{ShownWords, ShownStack}
use Rattle.stack_states.specs.declared.stack_state.StackState.{StackState}
use Rattle.stack_states.specs.declared.stack_state.StackState.TheVariants.{Empty, Running, Yielded, Interrupted}
use Rattle.stack_states.specs.declared.flag_bits.FlagBits.{FlagBits}
use Rattle.run_report.specs.declared.run_end.RunEnd.{RunEnd}
use Rattle.run_report.specs.declared.run_end.RunEnd.TheVariants.{Turns, Halted, KernelFault, NoMemory}

-- a word as eight hexadecimal digits, after a space
abbrev pub spaced : ℕ → List ℕ
spaced w = 32 ∷ word_text w

-- how the run ended, or that it has not
abbrev pub end_line : RunEnd → List ℕ
end_line Turns = codes "end turns\n"
end_line (Halted n) = codes "end halted " ++ decimal n ++ 10 ∷ []
end_line (KernelFault v) = codes "end fault " ++ decimal v ++ 10 ∷ []
end_line NoMemory = []

-- a flag's letter, or `-` where it is clear
abbrev pub flag_mark : Bool → ℕ → ℕ
flag_mark set letter = if set then letter else 45

-- the marks of the four flags
abbrev pub flags_text : FlagBits → List ℕ
flags_text f = flag_mark f.carry 67 ∷ flag_mark f.zero 90 ∷ flag_mark f.sign 83 ∷ flag_mark f.overflow 79 ∷ []

-- the words of a stack from its top
abbrev pub words_line : List ℕ → List ℕ
words_line words = codes "words" ++ flat_map spaced words ++ 10 ∷ []

-- EAX, ECX, EDX, EBX, EBP, ESI, EDI and the flags: register 4, ESP, is left out
abbrev pub regs_line : List ℕ → FlagBits → List ℕ
regs_line regs flags = codes "regs" ++ flat_map spaced (take 4 regs) ++ flat_map spaced (drop 5 regs) ++ 32 ∷ flags_text flags ++ 10 ∷ []

-- a stack's state with its place; registers and flags of the running stack and of an interrupted one, which has its own
abbrev pub state_text : ShownWords → List ℕ → StackState → List ℕ
state_text shown words Empty = codes " empty\n"
state_text shown words Running = codes " running" ++ spaced shown.place ++ 10 ∷ regs_line shown.regs shown.flags ++ words_line words
state_text shown words (Yielded sp pc) = codes " yielded" ++ spaced pc ++ 10 ∷ words_line words
state_text shown words (Interrupted regs flags pc) = codes " interrupted" ++ spaced pc ++ 10 ∷ regs_line regs flags ++ words_line words

-- the lines of the stacks from number k on
abbrev pub stacks_text : ShownWords → ℕ → List ShownStack → List ℕ
stacks_text shown k [] = []
stacks_text shown k (t ∷ ts) = codes "stack " ++ decimal k ++ state_text shown t.words t.state ++ stacks_text shown (k + 1) ts

-- the lines of the statics from number j on
abbrev pub statics_text : ℕ → List ℕ → List ℕ
statics_text j [] = []
statics_text j (w ∷ ws) = codes "static " ++ decimal j ++ spaced w ++ 10 ∷ statics_text (j + 1) ws

-- the character of a cell, or `.` where it is outside 32 to 126
abbrev pub cell_mark : ℕ → ℕ
cell_mark cell = if nat_le 32 (cell % 256) && nat_le (cell % 256) 126 then cell % 256 else 46

-- the attribute of a cell as two hexadecimal digits
abbrev pub cell_attribute : ℕ → List ℕ
cell_attribute cell = encode_upper (cell / 256 ∷ [])

-- so many lines, each with the text of 80 cells
unfoldable pub cell_rows : (List ℕ → List ℕ) → ℕ → List ℕ → List ℕ
cell_rows text zero cells = []
cell_rows text (suc n) cells = text (take 80 cells) ++ 10 ∷ cell_rows text n (drop 80 cells)

-- the lines of the screen: its characters, and then its attributes
unfoldable pub screen_text : List ℕ → List ℕ
screen_text cells = codes "screen\n" ++ cell_rows (map cell_mark) 25 cells ++ codes "attributes\n" ++ cell_rows (flat_map cell_attribute) 25 cells

-- the lines of the end and of the turns taken
unfoldable pub head_text : RunEnd → ℕ → List ℕ
head_text end turns = end_line end ++ codes "turns " ++ decimal turns ++ 10 ∷ []

-- the whole report: the end, the turns taken, the stacks, the statics, the screen and its attributes
unfoldable pub ReportText : ShownWords → RunEnd → ℕ → List ℕ
ReportText shown end turns =
    head_text end turns ++ stacks_text shown 0 shown.stacks ++ statics_text 0 shown.statics ++ screen_text shown.cells
