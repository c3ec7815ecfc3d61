use Rattle.typed_safety.proofs.FormedImages.{image_laws}
use Rattle.typed_safety.proofs.laws.formed_images_tell.Goals as goal

pub returns : goal.returns
returns c = image_laws c.type_laws.ensures c.code_laws.ensures c.formed_shapes.ensures
