use Rattle.std.proofs.Common.{refl}
use Rattle.image_linker.specs.RowMentions.{first_mentions, names_in, number_among, meant_rows, is_given_twice, is_missing, is_different, first_of}
use Rattle.image_linker.specs.LinkedRows.{linked_type, linked_field, linked_tables}
use Rattle.image_linker.specs.LinkedCode.{fixed_word, marked_index, marked_word, each_body}
use Rattle.image_linker.specs.Linked.{entries_of, linked_image, twice_in, missing_in, different_in, too_many, link_fault, Linked}
use Rattle.image_linker.proofs.laws.heap_is_missing.Goals as goal

pub returns : goal.returns
unfolding first_mentions names_in number_among meant_rows is_given_twice is_missing is_different first_of linked_type linked_field linked_tables fixed_word marked_index marked_word each_body entries_of linked_image twice_in missing_in different_in too_many link_fault Linked
returns c = refl
