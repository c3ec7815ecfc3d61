-- What kernels and applications come to, computed.
use Rattle.std.proofs.Common.{refl}
use Rattle.ia32_code.specs.Decoding.{decoded}
use Rattle.ia32_code.specs.Reading.{word_at, disp_at, sib_at, form_at, trailing_at, end_at, modrm_at, digit_at, by_modrm_at, opened_at, spelling_at}
use Rattle.ia32_code.specs.Opcodes.{row_with, row_with_digit}
use Rattle.object_layout.specs.Areas.{word_index}
use Rattle.tal_types.specs.Contexts.{same}
use Rattle.tal_flow.specs.Forms.{form_of, address_at}
use Rattle.tal_flow.specs.Calls.{entry_number, nucleus_arguments}
use Rattle.tal_flow.specs.Rules.{next_address}
use Rattle.tal_flow.specs.Strongest.{placed_at}
use Rattle.tal_image.specs.Shown.{shown, shapes_of, spans, function_in, mark_in, begun_by, span_of}
use Rattle.tal_checker.specs.Instructions.{placed_from, instructions}
use Rattle.typed_machine.specs.Values.{Word}
use Rattle.typed_machine.specs.Stores.{first_store}
use Rattle.typed_machine.specs.States.{entry_place, first_state}
use Rattle.typed_machine.specs.Code.{inst_at}
use Rattle.typed_machine.specs.Turns.{TurnOf, RunOf}
use Rattle.typed_machine.specs.Operands.{number_in, immediate_value, operand_value, write_operand}
use Rattle.typed_machine.specs.Effects.{has_arguments, calls_to, moves, form_effect, Effect}
use Rattle.typed_machine.specs.Switches.{switched}
use Rattle.typed_machine.specs.Replies.{Reply}
use Rattle.device_model.specs.LineBits.{is_set}
use Rattle.device_model.specs.History.{awaited, accepted_codes, found_reads, waiting}
use Rattle.device_model.specs.ItemByItem.{is_count_set, is_requested, is_served, is_open, lowest_below, grantable}
use Rattle.typed_machine.specs.Examples.{RefusalsAreTold, TickInterrupts, EachCallReplies}

-- each of the three runs is told so
pub runs-told : RefusalsAreTold × TickInterrupts × EachCallReplies
unfolding decoded word_at disp_at sib_at form_at trailing_at end_at modrm_at digit_at by_modrm_at opened_at spelling_at row_with row_with_digit word_index same form_of address_at entry_number nucleus_arguments next_address placed_at shown shapes_of spans function_in mark_in begun_by span_of placed_from instructions Word first_store entry_place first_state inst_at TurnOf RunOf number_in immediate_value operand_value write_operand has_arguments calls_to moves form_effect Effect switched Reply is_set awaited accepted_codes found_reads waiting is_count_set is_requested is_served is_open lowest_below grantable
runs-told = (refl, refl, refl)
