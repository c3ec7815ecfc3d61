use Rattle.std.proofs.Common.{sym, ap, ◌∙◌}
use Rattle.std.specs.Option.{unwrap_or}
use Rattle.image_linker.specs.NameRows.{no_owner, owner_in}
use Rattle.image_linker.proofs.Mentions.Entries.{owner_entries}
use Rattle.image_linker.proofs.name_table.NameTable.owner.Goals as goal

pub returns-in-Some : goal.returns-in-Some
returns-in-Some c = ap (λ o. unwrap_or o no_owner) c.in-Some.ensures.value ∙ sym (owner_entries c.args.name.now c.self.inside.rows.entries) ∙ ap (λ rows. owner_in rows c.args.name.now) c.self.view_is

pub returns-in-None : goal.returns-in-None
returns-in-None c = ap (λ o. unwrap_or o no_owner) c.in-None.ensures.value ∙ sym (owner_entries c.args.name.now c.self.inside.rows.entries) ∙ ap (λ rows. owner_in rows c.args.name.now) c.self.view_is
