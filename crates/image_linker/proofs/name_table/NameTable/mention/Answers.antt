use Rattle.std.proofs.Common.{◌≡◌, map, sym, ap, ◌∙◌, List, ◌++◌, ◌∷◌, ℕ}
use Rattle.std.proofs.lemmas.List.{map-append}
use Rattle.std.specs.List.{position_or_len}
use Rattle.std.specs.Str.{bytes_eq}
use Rattle.image_linker.specs.RowMentions.{RowMention, first_mentions, names_in, number_among}
use Rattle.image_linker.specs.NameRows.{NameRow, name_row, name_rows, owner_with, owner_in, owner_put}
use Rattle.image_linker.proofs.Mentions.Entries.{put_entries, number_entries}
use Rattle.image_linker.proofs.Mentions.Rows.{rows_append, kept_names}
use Rattle.image_linker.proofs.Mentions.Numbers.{final_number}
use Rattle.image_linker.proofs.name_table.NameTable.mention.Goals as goal

-- a name's number at its mention, over rows
final_at : (rows : List (RowMention ℕ)) (r : RowMention ℕ) (more : List (RowMention ℕ)) → position_or_len (bytes_eq r.name) (names_in rows) ≡ number_among (names_in (rows ++ r ∷ more)) r.name
unfolding names_in
final_at rows r more =
    final_number (map (λ (x : RowMention ℕ). x.name) rows) r.name (map (λ (x : RowMention ℕ). x.name) more)
    ∙ ap (λ l. number_among (first_mentions l) r.name) (sym (map-append (λ (x : RowMention ℕ). x.name) rows (r ∷ more)))

pub returns-clause-number : goal.returns-clause-number
returns-clause-number c rows more was =
    c.in_ok-number.ensures.index
    ∙ number_entries c.in_ok-owned.field-0.items c.self.inside.rows.entries
    ∙ ap (λ (n : List ℕ). position_or_len (bytes_eq n) (map (λ (r : NameRow). r.name) (map name_row c.self.inside.rows.entries))) c.in_ok-owned.ensures
    ∙ ap (λ (kept : List NameRow). position_or_len (bytes_eq c.args.name.now) (map (λ (r : NameRow). r.name) kept)) (c.self.view_is ∙ was)
    ∙ ap (position_or_len (bytes_eq c.args.name.now)) (kept_names rows)
    ∙ final_at rows (record { name = c.args.name.now; ext = c.args.ext; row = c.args.place }) more

pub returns-clause-kept : goal.returns-clause-kept
returns-clause-kept c rows was =
    ap (map name_row) c.in_ok-number.ensures.entries
    ∙ put_entries c.in_ok-owned.field-0 c.owner_with-next.result c.self.inside.rows.entries
    ∙ ap (λ (n : List ℕ). owner_put (map name_row c.self.inside.rows.entries) n c.owner_with-next.result) c.in_ok-owned.ensures
    ∙ ap (λ (kept : List NameRow). owner_put kept c.args.name.now c.owner_with-next.result) (c.self.view_is ∙ was)
    ∙ ap (owner_put (name_rows rows) c.args.name.now) c.owner_with-next.ensures
    ∙ ap (λ o. owner_put (name_rows rows) c.args.name.now (owner_with o c.args.ext c.args.place)) (c.owner.ensures ∙ ap (λ (kept : List NameRow). owner_in kept c.args.name.now) was)
    ∙ rows_append rows (record { name = c.args.name.now; ext = c.args.ext; row = c.args.place })
