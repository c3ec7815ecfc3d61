use Rattle.std.proofs.Common.{refl}
use Rattle.ia32_code.specs.Decoding.{decoded}
use Rattle.ia32_code.specs.Reading.{word_at, disp_at, sib_at, form_at, trailing_at, end_at, modrm_at, digit_at, by_modrm_at, opened_at, spelling_at}
use Rattle.ia32_code.specs.Opcodes.{row_with, row_with_digit}
use Rattle.object_layout.specs.Areas.{word_index, table_address}
use Rattle.tal_types.specs.Contexts.{same, register_type}
use Rattle.tal_types.specs.Types.{of_field}
use Rattle.tal_flow.specs.Forms.{form_of, address_at}
use Rattle.tal_flow.specs.Calls.{entry_number, nucleus_arguments}
use Rattle.tal_flow.specs.Functions.{in_function}
use Rattle.tal_flow.specs.Rules.{next_address}
use Rattle.tal_flow.specs.Strongest.{placed_at}
use Rattle.tal_image.specs.Shown.{shown, shapes_of, spans, function_in, mark_in, begun_by, span_of}
use Rattle.tal_image.specs.Conditions.{fun_rows, array_places}
use Rattle.tal_checker.specs.Instructions.{placed_from, instructions}
use Rattle.typed_machine.specs.Values.{fits_among, Word}
use Rattle.typed_machine.specs.Stores.{zero_of, first_store, value_at}
use Rattle.typed_machine.specs.States.{entry_place, first_state}
use Rattle.typed_machine.specs.Code.{inst_at, may_go}
use Rattle.typed_machine.specs.Words.{words_of}
use Rattle.typed_machine.specs.Turns.{TurnOf, RunOf}
use Rattle.object_layout.specs.Classes.{Methods, fun_row}
use Rattle.typed_machine.specs.Operands.{spot_of, table_spot, read_spot, marked_value, immediate_value, operand_value, write_operand}
use Rattle.typed_machine.specs.Effects.{moves, values_fit, is_full, pushes, form_effect, Effect}
use Rattle.typed_machine.proofs.laws.a_method_is_called.Goals as goal

pub returns : goal.returns
unfolding decoded word_at disp_at sib_at form_at trailing_at end_at modrm_at digit_at by_modrm_at opened_at spelling_at row_with row_with_digit word_index table_address same register_type of_field form_of address_at entry_number nucleus_arguments in_function next_address placed_at shown shapes_of spans function_in mark_in begun_by span_of fun_rows array_places placed_from instructions fits_among Word zero_of first_store value_at entry_place first_state inst_at may_go words_of TurnOf RunOf Methods fun_row spot_of table_spot read_spot marked_value immediate_value operand_value write_operand moves values_fit is_full pushes form_effect Effect
returns c = refl
