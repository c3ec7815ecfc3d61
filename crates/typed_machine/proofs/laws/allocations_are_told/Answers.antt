use Rattle.std.proofs.Common.{refl}
use Rattle.ia32_code.specs.Decoding.{decoded}
use Rattle.ia32_code.specs.Reading.{word_at, disp_at, sib_at, form_at, trailing_at, end_at, modrm_at, digit_at, by_modrm_at, opened_at, spelling_at}
use Rattle.ia32_code.specs.Opcodes.{row_with, row_with_digit}
use Rattle.object_layout.specs.Areas.{word_index, table_address}
use Rattle.tal_types.specs.Contexts.{same, register_type}
use Rattle.tal_flow.specs.Forms.{form_of, address_at}
use Rattle.tal_flow.specs.Calls.{entry_number, nucleus_arguments}
use Rattle.tal_flow.specs.Rules.{next_address}
use Rattle.tal_flow.specs.Strongest.{placed_at}
use Rattle.tal_image.specs.Shown.{shown, shapes_of, spans, function_in, mark_in, begun_by, span_of}
use Rattle.tal_checker.specs.Instructions.{placed_from, instructions}
use Rattle.typed_machine.specs.Values.{Word, fits_among}
use Rattle.typed_machine.specs.Stores.{first_store, zero_of, value_at, value_type}
use Rattle.typed_machine.specs.States.{entry_place, first_state}
use Rattle.typed_machine.specs.Code.{inst_at, may_go}
use Rattle.typed_machine.specs.Turns.{TurnOf, RunOf}
use Rattle.typed_machine.specs.Operands.{marked_value, number_in, immediate_value, operand_value, write_operand, static_spot, spot_of, write_spot}
use Rattle.typed_machine.specs.Effects.{has_arguments, calls_to, moves, form_effect, Effect}
use Rattle.typed_machine.specs.Switches.{switched}
use Rattle.typed_machine.specs.Replies.{Reply}
use Rattle.device_model.specs.LineBits.{is_set}
use Rattle.device_model.specs.History.{awaited, accepted_codes, found_reads, waiting}
use Rattle.device_model.specs.ItemByItem.{is_count_set, is_requested, is_served, is_open, lowest_below, grantable}
use Rattle.tal_types.specs.Types.{of_field}
use Rattle.tal_flow.specs.Functions.{in_function}
use Rattle.tal_image.specs.Conditions.{fun_rows, array_places}
use Rattle.typed_machine.specs.Words.{words_of}
use Rattle.object_layout.specs.Classes.{parent, own_fields, lineage_within, Need, rounded_up, Fields, Below, lineage, is_reference}
use Rattle.typed_machine.specs.Reaching.{Reach, Roots}
use Rattle.typed_machine.specs.Placing.{Gaps, Legal, free_words}
use Rattle.typed_machine.proofs.laws.allocations_are_told.Goals as goal

pub returns : goal.returns
unfolding marked_value decoded word_at disp_at sib_at form_at trailing_at end_at modrm_at digit_at by_modrm_at opened_at spelling_at row_with row_with_digit word_index same form_of address_at entry_number nucleus_arguments next_address placed_at shown shapes_of spans function_in mark_in begun_by span_of placed_from instructions Word first_store entry_place first_state inst_at TurnOf RunOf number_in immediate_value operand_value write_operand has_arguments calls_to moves form_effect Effect switched Reply is_set awaited accepted_codes found_reads waiting is_count_set is_requested is_served is_open lowest_below grantable table_address register_type of_field in_function fun_rows array_places fits_among zero_of value_at may_go words_of static_spot spot_of write_spot Need rounded_up Fields Below lineage parent lineage_within own_fields is_reference value_type Reach Roots Gaps Legal free_words
returns c = ((refl, refl, refl, refl), refl, refl)
