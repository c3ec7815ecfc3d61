use Rattle.tal_asm.proofs.Joined.{unit_formed}
use Rattle.tal_asm.proofs.laws.lines_make_units.Goals as goal

pub returns : goal.returns
returns c = λ lines u. unit_formed lines u (record {
  begins = c.lines_declare_behind.ensures;
  empty = c.empty_tables_keep.ensures;
  rows = c.rows_keep.ensures;
  function = c.function_keeps.ensures;
  no_code = c.no_code_leads.ensures;
  leads = c.functions_lead_on.ensures;
  grows = c.functions_grow.ensures;
})
