-- What a run of an accepted image rests on: its instructions, and where runs go from them.
use Rattle.std.specs.Prelude.{◌≡◌, ℕ, ◌+◌, ◌-◌, ◌<◌, ◌≤◌, ◌^◌, true, length, drop, Option, Some, None, IsSome, slice_get}
use Rattle.std.specs.Option.{option_and_then}
use Rattle.ia32_code.specs.declared.decoding.Decoded.TheVariants.{One}
use Rattle.ia32_code.specs.Decoding.{decoded}
use Rattle.tal_types.specs.declared.signatures.Sig.{Sig}
use Rattle.tal_types.specs.declared.views.Span.{Span}
use Rattle.tal_types.specs.Contexts.{LiveContext, ContextView, Live, ContextBelow, entry}
use Rattle.tal_flow.specs.Rules.{next_address, Branches, Target}
use Rattle.tal_flow.specs.Strongest.{PlacedInst, rule_at, falls_from, placed_at}
use Rattle.tal_image.specs.Image.{ImageParts}
use Rattle.object_layout.specs.Areas.{code_start}
use Rattle.tal_image.specs.Conditions.{starts_stack}
use Rattle.tal_image.specs.Shown.{shown, function_in}
use Rattle.tal_checker.specs.Instructions.{instructions}
use Rattle.tal_checker.specs.WellTyped.{WellTyped, strongest_at}

-- the instruction at an address
abbrev pub instruction_in : ImageParts → ℕ → Option PlacedInst
instruction_in image pc = placed_at (instructions image.code) pc

-- the signature of the function that has the byte at an address
unfoldable pub signature_at : ImageParts → ℕ → Option Sig
signature_at image pc = option_and_then (λ (span : Span). (shown image).sig span.sig) ((shown image).function_of pc)

-- an instruction at an address is what the code spells there, and lies within the code and within a function
pub record IsSpelledAt (image : ImageParts) (pc : ℕ) (x : PlacedInst) : Type 0 where
  pub address : x.pc ≡ pc
  pub front : decoded (drop (pc - code_start) image.code) ≡ One x.inst x.len
  pub some_bytes : 0 < x.len
  pub after_start : code_start ≤ pc
  pub before_end : pc + x.len ≤ code_start + length image.code
  pub in_function : IsSome (signature_at image pc)

-- a run that comes from one address to another with this known finds an instruction of the same function there, whose
-- strongest context is above what it knows
pub record Arrives (image : ImageParts) (from to : ℕ) (c : ContextView) : Type 0 where
  pub placed : PlacedInst
  pub here : instruction_in image to ≡ Some placed
  pub known : ContextBelow (shown image).shapes c (strongest_at image to)
  pub stays : (shown image).function_of to ≡ (shown image).function_of from

-- a function of the signature begins at an address, and its instructions there know what the signature says
pub record BeginsFunction (image : ImageParts) (address : ℕ) (sig : Sig) : Type 0 where
  pub placed : PlacedInst
  pub here : instruction_in image address ≡ Some placed
  pub known : strongest_at image address ≡ entry sig
  pub signature : signature_at image address ≡ Some sig

-- what a run of an accepted image rests on
pub record RunsOn (image : ImageParts) : Type 0 where
  -- each instruction is spelled by the code, and no rule fails at it
  pub spelled : (pc : ℕ) (x : PlacedInst) → instruction_in image pc ≡ Some x → IsSpelledAt image pc x
  pub none_fails : (pc : ℕ) (x : PlacedInst) → instruction_in image pc ≡ Some x → rule_at (shown image) (strongest_at image pc) x ≡ None
  -- where a run falls through, and where it branches, it arrives
  pub falls : (pc : ℕ) (x : PlacedInst) (c d : LiveContext) → instruction_in image pc ≡ Some x → strongest_at image pc ≡ Live c
      → falls_from (shown image) (Live c) x ≡ Live d → Arrives image pc (next_address x.pc x.len) (Live d)
  pub branches : (pc : ℕ) (x : PlacedInst) (c d : LiveContext) (to : ℕ) → instruction_in image pc ≡ Some x → strongest_at image pc ≡ Live c
      → Branches (shown image) (Live c) x.pc x.inst x.len ≡ Live d → Target x.pc x.inst x.len ≡ Some to → Arrives image pc to (Live d)
  -- a call comes to a function's beginning, and each stack begins at one
  pub calls : (address g : ℕ) (sig : Sig) → (shown image).function_at address ≡ Some g → (shown image).sig g ≡ Some sig → BeginsFunction image address sig
  pub signatures : (address g : ℕ) → (shown image).function_at address ≡ Some g → IsSome ((shown image).sig g)
  pub stacks : (s f : ℕ) → slice_get image.entries s ≡ Some f
      → (span : Span) × (sig : Sig) × (function_in image f ≡ Some span) × BeginsFunction image span.start sig × (starts_stack sig ≡ true)
  pub entries : length image.entries ≡ image.stacks
  -- addresses of code do not wrap
  pub room : code_start + length image.code < 2 ^ 32

-- each accepted image has this
abbrev pub AcceptedRuns : Type 0
AcceptedRuns = (image : ImageParts) → WellTyped image → RunsOn image
