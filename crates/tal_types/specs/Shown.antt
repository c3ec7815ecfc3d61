use Rattle.std.specs.Prelude.{ℕ, List, Option}
use Rattle.object_layout.specs.declared.rows.FieldTy.{FieldTy}
use Rattle.object_layout.specs.Classes.{ShapesView}
use Rattle.tal_types.specs.declared.signatures.Sig.{Sig}
use Rattle.tal_types.specs.declared.views.Span.{Span}
use Rattle.tal_types.specs.declared.views.Mark.{Mark}
use Rattle.tal_types.specs.Contexts.{ContextView}

-- what typing sees of an image: its classes and kinds, the types of its statics, and what stands at a
-- number or an address, if anything does: a signature; the signature of the function that begins there;
-- the function that has the address; the block's annotation; the mark; the kind of a data array
pub record ShownImage : Type 0 where
  pub shapes : ShapesView
  pub statics : List FieldTy
  pub sig : ℕ → Option Sig
  pub function_at : ℕ → Option ℕ
  pub function_of : ℕ → Option Span
  pub block_at : ℕ → Option ContextView
  pub mark_at : ℕ → Option Mark
  pub data_kind : ℕ → Option ℕ
