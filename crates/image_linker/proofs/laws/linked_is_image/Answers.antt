use Rattle.image_linker.proofs.Formed.Image as image
use Rattle.image_linker.proofs.laws.linked_is_image.Goals as goal

pub returns : goal.returns
returns c = image.linked_is_image (record { fillable = c.any_word_fits.ensures; read = c.spellings_are_read.ensures; long = c.spelling_length.ensures }) c.lineage_laws.ensures
