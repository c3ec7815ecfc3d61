-- The function that has the byte at an address.
use Rattle.std.specs.Prelude.{ℕ, ◌&&◌, Bool, false, nat_le, nat_lt, is_some}
use Rattle.std.specs.Option.{option_and_then, option_map_or}
use Rattle.tal_types.specs.declared.types.Ty.{Ty}
use Rattle.tal_types.specs.declared.signatures.Sig.{Sig}
use Rattle.tal_types.specs.declared.views.Span.{Span}
use Rattle.tal_types.specs.Types.{sub}
use Rattle.tal_types.specs.Shown.{ShownImage}

-- the address lies in the function that has the byte at pc
unfoldable pub in_function : ShownImage → ℕ → ℕ → Bool
in_function v pc address = option_map_or (λ (span : Span). nat_le span.start address && nat_lt address span.end) (v.function_of pc) false

-- the type is below the result of the function that has the byte at pc
unfoldable pub fits_result : ShownImage → ℕ → Ty → Bool
fits_result v pc t = option_map_or (λ (sig : Sig). sub v.shapes t sig.result) (option_and_then (λ (span : Span). v.sig span.sig) (v.function_of pc)) false

-- a block of the function that has the byte at pc begins at the address
unfoldable pub has_block : ShownImage → ℕ → ℕ → Bool
has_block v pc address = is_some (v.block_at address) && in_function v pc address
