-- What holds of image files.
use Rattle.std.specs.Prelude.{◌≡◌, ℕ, ◌<◌, ◌⊎◌, List, slice_index}
use Rattle.object_layout.specs.Laws.{ClassLaws}
use Rattle.file_fields.specs.declared.fault.ImageFault.{ImageFault}
use Rattle.tal_image.specs.Image.{ImageParts}
use Rattle.tal_image.specs.Formed.{Formed, ImageOf}
use Rattle.file_fields.specs.Grammar.{SoundFile}
use Rattle.tal_image.specs.Fields.{image_fields}
pub use Rattle.tal_image.specs.Fields.{FirstFault}
use Rattle.tal_image.specs.Shown.{shapes_of}

-- no bytes stand for two images, none have two first faults, and none that stand for an image have a fault
pub record OneImageMeaning : Type 0 where
  pub one_image : (bytes : List ℕ) (i j : ImageParts) → ImageOf bytes i → ImageOf bytes j → i ≡ j
  pub one_fault : (bytes : List ℕ) (f g : ImageFault) → FirstFault bytes f → FirstFault bytes g → f ≡ g
  pub not_both : (bytes : List ℕ) (i : ImageParts) (f : ImageFault) → ImageOf bytes i → FirstFault bytes f → ⊥

-- bytes stand for an image exactly where they are sound fields that stand for it
abbrev pub ReadAsFields : Type 0
ReadAsFields = (bytes : List ℕ) (i : ImageParts) → (SoundFile image_fields bytes i → ImageOf bytes i) × (ImageOf bytes i → SoundFile image_fields bytes i)

-- each file of bytes stands for an image, or has a first fault
abbrev pub EachIsImage : Type 0
EachIsImage = (bytes : List ℕ) → ((k : ℕ) → slice_index bytes k < 256) → ((i : ImageParts) × ImageOf bytes i) ⊎ ((f : ImageFault) × FirstFault bytes f)

-- the classes and array kinds of each image keep the laws of classes
abbrev pub FormedShapes : Type 0
FormedShapes = (i : ImageParts) → Formed i → ClassLaws (shapes_of i)
